-- What is known of every set: its members are below 128, they determine it, and `packed` makes the set of given members.
-- With `Booleans`, `Tests`, `Counting` and `Members` this is all that a crate above cites. Assumes nothing.
use mathlib.Core.Path.{◌≡◌, refl, sym, ap, ◌∙◌, fun_ext}
use mathlib.Core.Bool.{Bool, true, false, not, cond, ◌&&◌, ◌||◌, and-true}
use Prim.Native.Nat.{ℕ, suc, ◌≤◌, ◌<◌}
use native.Mathlib.Omega.{arith}
use lib.Dec.{eqb, ltb}
use borrow.Author.Tests.{ltb-true, ltb-false, lt-ltb, eqb-true}
use Rattle.sets.specs.Sets.{Places, only, union, with, without, difference, nothing, any, subset, count, lowest}
use Rattle.sets.specs.PlaceSets.{has, kept, Words, packed, found}
use Rattle.sets.specs.declared.PlaceSet.{PlaceSet}
use Rattle.sets.specs.declared.Place.{Place}
use Rattle.std.specs.Prelude.{Option, Some, None, Result, Ok, Err}
use Rattle.sets.proofs.Booleans.{clash, is_false, is_true, minus_elim, minus_intro}
use Rattle.sets.proofs.Tests.{any_elim, any_none, subset_elim, subset_intro, lowest_member, lowest_least}
use Rattle.sets.proofs.Counting.{count_same, count_nothing, count_without}
use Rattle.sets.proofs.Words as words

-- no set has a place of 128 or more
pub has_past : (s : PlaceSet) (k : ℕ) → 128 ≤ k → has s k ≡ false
has_past = words.has_past

pub has_below : (s : PlaceSet) (k : ℕ) → has s k ≡ true → k < 128
has_below s k e = go (ltb k 128) refl
  where
    go : (b : Bool) → ltb k 128 ≡ b → k < 128
    go true t = ltb-true k 128 t
    go false t = clash e (has_past s k (ltb-false k 128 t))

-- extensionality: sets with the same members are equal
pub has_ext : (a b : PlaceSet) → Words a → Words b → has a ≡ has b → a ≡ b
has_ext a b wa wb e =
    words.words_equal a b (words.low_equal a b wa wb (λ k l. ap (λ (S : Places). S k) e)) (words.high_equal a b wa wb (λ k l. ap (λ (S : Places). S k) e))

-- what two words can hold of a set whose members are below 128 is that set
pub kept_all : (S : Places) → ((k : ℕ) → S k ≡ true → k < 128) → kept S ≡ S
kept_all S h = fun_ext (λ k. go k (S k) refl)
  where
    go : (k : ℕ) (b : Bool) → S k ≡ b → S k && ltb k 128 ≡ S k
    go k true e = ap (λ (x : Bool). S k && x) (lt-ltb k 128 (h k e)) ∙ and-true (S k)
    go k false e = ap (λ (x : Bool). x && ltb k 128) e ∙ sym e

pub kept_has : (s : PlaceSet) → kept (has s) ≡ has s
kept_has s = kept_all (has s) (has_below s)

-- a place on the roster is added as it is
pub kept_with : (s : PlaceSet) (p : ℕ) → p < 128 → kept (with p (has s)) ≡ with p (has s)
kept_with s p l = kept_all (with p (has s)) (λ k e. go k (has s k) refl e)
  where
    go : (k : ℕ) (b : Bool) → has s k ≡ b → b || eqb k p ≡ true → k < 128
    go k true h e = has_below s k h
    go k false h e = rw (eqb-true k p e) l

-- a place added by a union, and taken away by a difference
pub union_only : (s : PlaceSet) (p : ℕ) (o r : PlaceSet) → has o ≡ kept (only p) → has r ≡ union (has s) (has o) → has r ≡ kept (with p (has s))
union_only s p o r e u = u ∙ ap (union (has s)) e ∙ fun_ext (λ k. go k (has s k) refl)
  where
    go : (k : ℕ) (b : Bool) → has s k ≡ b → has s k || (eqb k p && ltb k 128) ≡ (has s k || eqb k p) && ltb k 128
    go k true h = rw h (sym (lt-ltb k 128 (has_below s k h)))
    go k false h = rw h

pub difference_only : (s : PlaceSet) (p : ℕ) (o r : PlaceSet) → has o ≡ kept (only p) → has r ≡ difference (has s) (has o) → has r ≡ without p (has s)
difference_only s p o r e d = d ∙ ap (difference (has s)) e ∙ fun_ext (λ k. go k (has s k) refl)
  where
    go : (k : ℕ) (b : Bool) → has s k ≡ b → has s k && not (eqb k p && ltb k 128) ≡ has s k && not (eqb k p)
    go k true h = rw (h, lt-ltb k 128 (has_below s k h), and-true (eqb k p))
    go k false h = rw h

-- a set is a subset where nothing is left of it
pub subset_difference : (a b d : PlaceSet) → has d ≡ difference (has a) (has b) → not (any 128 (has d)) ≡ subset 128 (has a) (has b)
subset_difference a b d e = go (any 128 (has d)) refl
  where
    at : (k : ℕ) → has d k ≡ has a k && not (has b k)
    at k = ap (λ (S : Places). S k) e

    go : (t : Bool) → any 128 (has d) ≡ t → not t ≡ subset 128 (has a) (has b)
    go true h =
        let r = any_elim 128 (has d) h in
        let m = minus_elim (has a r.0) (has b r.0) (sym (at r.0) ∙ r.2) in
        sym (is_false (subset 128 (has a) (has b)) (λ s. clash (subset_elim 128 (has a) (has b) s r.0 r.1 m.0) m.1))
    go false h =
        sym (subset_intro 128 (has a) (has b) (λ k l x.
        is_true (has b k) (λ y. clash (minus_intro x y) (sym (at k) ∙ any_none 128 (has d) h k l))))

-- the set of given members
pub packed_words : (S : Places) → Words (packed S)
packed_words = words.packed_words

pub has_packed : (S : Places) → has (packed S) ≡ kept S
has_packed = words.has_packed

pub packed_is : (s : PlaceSet) (S : Places) → Words s → has s ≡ kept S → s ≡ packed S
packed_is s S w e = has_ext s (packed S) w (packed_words S) (e ∙ sym (has_packed S))

place_of : Option Place → ℕ
place_of (Some p) = p.0
place_of None = 0

-- what `found` says of a place
pub found_at : (n p : ℕ) (q : Place) → found n p ≡ Some q → (p ≡ q.0) × (q.0 < n)
unfolding found place_of
found_at n p q e = go (ltb p n) refl e
  where
    go : (b : Bool) → ltb p n ≡ b → cond {A = Option Place} b (Some (record { 0 = p })) None ≡ Some q → (p ≡ q.0) × (q.0 < n)
    go true t h =
        let s : p ≡ q.0 = ap place_of h in
        (s, rw (← s) (ltb-true p n t))
    go false t h = let z : ◌≡◌ {A = ℕ} 0 1 = cc in absurd (omega arith)

pub found_none : (n p : ℕ) → found n p ≡ None → n ≤ p
unfolding found
found_none n p e = go (ltb p n) refl e
  where
    go : (b : Bool) → ltb p n ≡ b → cond {A = Option Place} b (Some (record { 0 = p })) None ≡ None → n ≤ p
    go true t h = let z : ◌≡◌ {A = ℕ} 0 1 = cc in absurd (omega arith)
    go false t h = ltb-false p n t

-- the lowest member, by what was found: a member with none below it; or there is none
pub lowest_found : (n : ℕ) (S : Places) (p : Place) → found n (lowest n S) ≡ Some p → (S p.0 ≡ true) × (p.0 < n) × ((j : ℕ) → j < p.0 → S j ≡ false)
lowest_found n S p e =
    let h = found_at n (lowest n S) p e in
    let l : lowest n S < n = rw h.0 h.1 in
    (rw h.0 at (lowest_member n S l), h.1, λ j less. lowest_least n S j (rw h.0 less))

pub lowest_nothing : (n : ℕ) (S : Places) → found n (lowest n S) ≡ None → (k : ℕ) → k < n → S k ≡ false
lowest_nothing n S e k l =
    let h : n ≤ lowest n S = found_none n (lowest n S) e in
    lowest_least n S k (omega arith)

pub nothing_found : (s : PlaceSet) → found 128 (lowest 128 (has s)) ≡ None → (k : ℕ) → has s k ≡ false
nothing_found s e k = is_false (has s k) (λ h. clash h (lowest_nothing 128 (has s) e k (has_below s k h)))

-- one member less, by the set that `without` gives
pub without_count : (s r : PlaceSet) (p : ℕ) → has s p ≡ true → has r ≡ without p (has s) → count 128 (has s) ≡ suc (count 128 (has r))
without_count s r p m e = rw e (count_without 128 (has s) p (has_below s p m) m)

pub nothing_count : (s : PlaceSet) → ((k : ℕ) → k < 128 → has s k ≡ false) → count 128 (has s) ≡ 0
nothing_count s h = count_same 128 (has s) nothing h ∙ count_nothing 128
