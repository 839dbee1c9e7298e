-- What is known of a serial's place, of the first repeat, and of the refusal that a list meets. A crate above cites this file
-- and no other. Assumes nothing.
use mathlib.Core.Path.{◌≡◌, refl, sym, ap, ◌∙◌}
use mathlib.Core.Bool.{Bool, true, false, cond, ◌||◌}
use mathlib.Core.List.{List, [], ◌∷◌, ◌++◌, append_assoc, append-nil}
use mathlib.Core.Logic.{◌⊎◌, inl, inr, ◌↔◌}
use Prim.Native.Nat.{ℕ, zero, suc, ◌+◌, ◌-◌, ◌≤◌, ◌<◌}
use native.Mathlib.Nat.{add-zero, le_of_suc-le-suc}
use native.Mathlib.Numerals.{add-one}
use native.Mathlib.Omega.{arith}
use lib.Dec.{eqb, leb, ltb}
use lib.ListN.{length, get_or, take, drop, length-take, length-drop, length-append, drop_of_length-le}
use lib.Seq.{take-suc, drop-cons, get_or-take, get_or-drop}
use borrow.Author.Tests.{ltb-true, ltb-false, leb-true, leb-false, lt-ltb, le-ltb, le-leb, lt-leb, eqb-true, eqb-false, eq-eqb, ne_eqb}
use Rattle.sets.proofs.Booleans.{is_true, is_false}
use Rattle.sets.proofs.Laws.{found_at, found_none}
use Rattle.sets.specs.PlaceSets.{found}
use Rattle.sets.specs.declared.Place.{Place}
use Rattle.std.specs.Prelude.{Option, Some, None, is_some, Result, Ok, Err}
use Rattle.refusals.specs.declared.Refusal.{Refusal}
use Rattle.refusals.specs.declared.Refusal.TheVariants as R
use Rattle.refusals.specs.Numbers.{number}
use Rattle.serials.specs.Rosters.{place_of, holds, place_from, first_repeat, first_fault, IsRoster, listed}

-- ---- a serial's place

pub place_hit : (x y : ℕ) (s : List ℕ) → y ≡ x → place_of x (y ∷ s) ≡ 0
unfolding place_of
place_hit x y s e = rw (eq-eqb y x e)

pub place_miss : (x y : ℕ) (s : List ℕ) → (y ≡ x → ⊥) → place_of x (y ∷ s) ≡ suc (place_of x s)
unfolding place_of
place_miss x y s e = rw (ne_eqb y x e)

pub place_at_most : (x : ℕ) (s : List ℕ) → place_of x s ≤ length s
unfolding place_of
place_at_most x [] = omega arith
place_at_most x (y ∷ s) = go (eqb y x) (place_at_most x s)
  where
    go : (b : Bool) → place_of x s ≤ length s → cond b 0 (suc (place_of x s)) ≤ suc (length s)
    go true h = omega arith
    go false h = omega arith

-- at its place the serial stands
pub place_stands : (x : ℕ) (s : List ℕ) → place_of x s < length s → get_or s (place_of x s) 0 ≡ x
unfolding place_of
place_stands x [] h = absurd (omega arith)
place_stands x (y ∷ s) h = go (eqb y x) refl (place_stands x s) h
  where
    go : (b : Bool) → eqb y x ≡ b → (place_of x s < length s → get_or s (place_of x s) 0 ≡ x)
        → cond b 0 (suc (place_of x s)) < suc (length s) → get_or (y ∷ s) (cond b 0 (suc (place_of x s))) 0 ≡ x
    go true e rest l = eqb-true y x e
    go false e rest l = rest (omega arith)

-- and at none before it
pub place_first : (x : ℕ) (s : List ℕ) (j : ℕ) → j < place_of x s → get_or s j 0 ≡ x → ⊥
unfolding place_of
place_first x [] j h = absurd (omega arith)
place_first x (y ∷ s) j h = go (eqb y x) refl (place_first x s) j h
  where
    go : (b : Bool) → eqb y x ≡ b → ((j : ℕ) → j < place_of x s → get_or s j 0 ≡ x → ⊥)
        → (j : ℕ) → j < cond b 0 (suc (place_of x s)) → get_or (y ∷ s) j 0 ≡ x → ⊥
    go true e rest j l = absurd (omega arith)
    go false e rest zero l = eqb-false y x e
    go false e rest (suc j) l = rest j (le_of_suc-le-suc l)

-- a position where the serial stands, and none before it, is its place
pub place_is : (x : ℕ) (s : List ℕ) (p : ℕ) → p < length s → get_or s p 0 ≡ x → ((j : ℕ) → j < p → get_or s j 0 ≡ x → ⊥) → place_of x s ≡ p
place_is x s p l e h = go (ltb (place_of x s) p) (ltb p (place_of x s)) refl refl
  where
    go : (a b : Bool) → ltb (place_of x s) p ≡ a → ltb p (place_of x s) ≡ b → place_of x s ≡ p
    go true b t u =
        let m : place_of x s < p = ltb-true _ _ t in
        absurd (h (place_of x s) m (place_stands x s (omega arith)))
    go false true t u = absurd (place_first x s p (ltb-true _ _ u) e)
    go false false t u =
        let m : p ≤ place_of x s = ltb-false _ _ t in
        let n : place_of x s ≤ p = ltb-false _ _ u in
        omega arith

-- in a list that goes on
pub place_in : (x : ℕ) (s t : List ℕ) → place_of x s < length s → place_of x (s ++ t) ≡ place_of x s
place_in x [] t h = absurd (omega arith)
place_in x (y ∷ s) t h = go (place_in x s t) (eqb y x) refl
  where
    go : (place_of x s < length s → place_of x (s ++ t) ≡ place_of x s) → (b : Bool) → eqb y x ≡ b → place_of x (y ∷ (s ++ t)) ≡ place_of x (y ∷ s)
    go rest true e = place_hit x y (s ++ t) (eqb-true y x e) ∙ sym (place_hit x y s (eqb-true y x e))
    go rest false e =
        let m : place_of x (y ∷ s) ≡ suc (place_of x s) = place_miss x y s (eqb-false y x e) in
        place_miss x y (s ++ t) (eqb-false y x e) ∙ ap suc (rest (omega arith)) ∙ sym m

pub place_past : (x : ℕ) (s t : List ℕ) → place_of x s ≡ length s → place_of x (s ++ t) ≡ length s + place_of x t
place_past x [] t h = omega arith
place_past x (y ∷ s) t h = go (place_past x s t) (eqb y x) refl
  where
    go : (place_of x s ≡ length s → place_of x (s ++ t) ≡ length s + place_of x t) → (b : Bool) → eqb y x ≡ b → place_of x (y ∷ (s ++ t)) ≡ suc (length s) + place_of x t
    go rest true e =
        let m : place_of x (y ∷ s) ≡ 0 = place_hit x y s (eqb-true y x e) in
        absurd (omega arith)
    go rest false e =
        let m : place_of x (y ∷ s) ≡ suc (place_of x s) = place_miss x y s (eqb-false y x e) in
        let i : place_of x (s ++ t) ≡ length s + place_of x t = rest (omega arith) in
        place_miss x y (s ++ t) (eqb-false y x e) ∙ omega arith

-- ---- whether a serial stands in a list

pub holds_below : (x : ℕ) (s : List ℕ) → holds x s ≡ true → place_of x s < length s
unfolding holds
holds_below x s e = ltb-true _ _ e

pub holds_past : (x : ℕ) (s : List ℕ) → holds x s ≡ false → place_of x s ≡ length s
unfolding holds
holds_past x s e = omega (arith, place_at_most x s, ltb-false (place_of x s) (length s) e)

pub below_holds : (x : ℕ) (s : List ℕ) → place_of x s < length s → holds x s ≡ true
unfolding holds
below_holds x s h = lt-ltb _ _ h

pub past_holds : (x : ℕ) (s : List ℕ) → length s ≤ place_of x s → holds x s ≡ false
unfolding holds
past_holds x s h = le-ltb _ _ h

-- true: a position where it stands. False: none
pub holds_where : (x : ℕ) (s : List ℕ) → holds x s ≡ true → (p : ℕ) × (p < length s) × (get_or s p 0 ≡ x)
holds_where x s e = (place_of x s, holds_below x s e, place_stands x s (holds_below x s e))

pub holds_nowhere : (x : ℕ) (s : List ℕ) → holds x s ≡ false → (p : ℕ) → p < length s → get_or s p 0 ≡ x → ⊥
holds_nowhere x s e p l = place_first x s p (omega (arith, holds_past x s e))

pub where_holds : (x : ℕ) (s : List ℕ) (p : ℕ) → p < length s → get_or s p 0 ≡ x → holds x s ≡ true
where_holds x s p l e = is_true (holds x s) (λ n. holds_nowhere x s n p l e)

pub nowhere_holds : (x : ℕ) (s : List ℕ) → ((p : ℕ) → p < length s → get_or s p 0 ≡ x → ⊥) → holds x s ≡ false
nowhere_holds x s h = is_false (holds x s) (λ e. let w = holds_where x s e in h w.0 w.1 w.2)

pub holds_nil : (x : ℕ) → holds x [] ≡ false
holds_nil x = past_holds x [] (omega arith)

pub holds_first : (x y : ℕ) (s : List ℕ) → holds x (y ∷ s) ≡ eqb y x || holds x s
holds_first x y s = go (eqb y x) (holds x s) refl refl
  where
    go : (a b : Bool) → eqb y x ≡ a → holds x s ≡ b → holds x (y ∷ s) ≡ a || b
    go true b e f = where_holds x (y ∷ s) 0 (omega arith) (eqb-true y x e)
    go false true e f = below_holds x (y ∷ s) (omega (arith, place_miss x y s (eqb-false y x e), holds_below x s f))
    go false false e f = past_holds x (y ∷ s) (omega (arith, place_miss x y s (eqb-false y x e), holds_past x s f))

pub holds_last : (x : ℕ) (s : List ℕ) (y : ℕ) → holds x (s ++ (y ∷ [])) ≡ holds x s || eqb y x
unfolding place_of
holds_last x s y = go (holds x s) (eqb y x) refl refl
  where
    long : length (s ++ (y ∷ [])) ≡ length s + 1
    long = length-append s (y ∷ [])

    go : (a b : Bool) → holds x s ≡ a → eqb y x ≡ b → holds x (s ++ (y ∷ [])) ≡ a || b
    go true b e f =
        let l : place_of x s < length s = holds_below x s e in
        below_holds x (s ++ (y ∷ [])) (omega (arith, long, place_in x s (y ∷ []) l))
    go false true e f =
        below_holds x (s ++ (y ∷ [])) (omega (arith, long, place_past x s (y ∷ []) (holds_past x s e), place_hit x y [] (eqb-true y x f)))
    go false false e f =
        past_holds x (s ++ (y ∷ [])) (omega (arith, long, place_past x s (y ∷ []) (holds_past x s e), place_miss x y [] (eqb-false y x f)))

-- ---- a part of w serials, from position b on, of the first n

module _ (x : ℕ) (s : List ℕ) (b w n : ℕ) where
  -- what stands in the part stands there
  pub part_holds : b + w ≤ n → n ≤ length s → holds x (take w (drop b s)) ≡ true → holds x (take n s) ≡ true
  part_holds l m e =
      let h = holds_where x (take w (drop b s)) e in
      let k : h.0 < w = omega (arith, h.1, length-take w (drop b s)) in
      let i : b + h.0 < length (take n s) = omega (arith, length-take n s) in
      where_holds x (take n s) (b + h.0) i (get_or-take n s (b + h.0) 0 (omega arith) ∙ sym (get_or-drop b s h.0 0) ∙ sym (get_or-take w (drop b s) h.0 0 k) ∙ h.2)

  -- what stands neither before some position of the part nor in the part does not, where the part is the last
  pub part_lacks : (a : ℕ) → b ≤ a → n ≤ b + w → holds x (take a s) ≡ false → holds x (take w (drop b s)) ≡ false → holds x (take n s) ≡ false
  part_lacks a l m e f = nowhere_holds x (take n s) (λ p h. go p h (ltb p a) refl)
    where
      go : (p : ℕ) → p < length (take n s) → (t : Bool) → ltb p a ≡ t → get_or (take n s) p 0 ≡ x → ⊥
      go p h true t q =
          let i : p < a = ltb-true p a t in
          let j : p < n = omega (arith, h, length-take n s) in
          holds_nowhere x (take a s) e p (omega (arith, h, length-take n s, length-take a s)) (get_or-take a s p 0 i ∙ sym (get_or-take n s p 0 j) ∙ q)
      go p h false t q =
          let i : a ≤ p = ltb-false p a t in
          let j : p < n = omega (arith, h, length-take n s) in
          let k : b + (p - b) ≡ p = omega arith in
          let d : get_or (drop b s) (p - b) 0 ≡ get_or s p 0 = get_or-drop b s (p - b) 0 ∙ ap (λ (y : ℕ). get_or s y 0) k in
          holds_nowhere x (take w (drop b s)) f (p - b) (omega (arith, h, length-take n s, length-take w (drop b s), length-drop b s))
          (get_or-take w (drop b s) (p - b) 0 (omega arith) ∙ d ∙ sym (get_or-take n s p 0 j) ∙ q)

  -- so the last part decides
  pub part_last : (a : ℕ) → b ≤ a → b + w ≡ n → n ≤ length s → holds x (take a s) ≡ false → holds x (take w (drop b s)) ≡ holds x (take n s)
  part_last a l m k e = go (holds x (take w (drop b s))) refl
    where
      go : (t : Bool) → holds x (take w (drop b s)) ≡ t → holds x (take w (drop b s)) ≡ holds x (take n s)
      go true t = t ∙ sym (part_holds (omega arith) k t)
      go false t = t ∙ sym (part_lacks a l (omega arith) e t)

-- ---- the first fault, by the first serial

module _ (seen : List ℕ) (x : ℕ) (t : List ℕ) where
  pub fault_zero : x ≡ 0 → first_fault seen (x ∷ t) ≡ Err R.ZeroSerial
  unfolding first_fault
  fault_zero z = rw (eq-eqb x 0 z)

  module _ (z : x ≡ 0 → ⊥) where
    pub fault_twice : holds x seen ≡ true → first_fault seen (x ∷ t) ≡ Err R.Twice
    unfolding first_fault
    fault_twice e = rw (ne_eqb x 0 z, e)

    pub fault_new : holds x seen ≡ false → first_fault seen (x ∷ t) ≡ first_fault (seen ++ (x ∷ [])) t
    unfolding first_fault
    fault_new e = rw (ne_eqb x 0 z, e)

pub fault_nil : (seen : List ℕ) → first_fault seen [] ≡ Ok tt
unfolding first_fault
fault_nil seen = refl

-- ---- a walk along a list: at position i, the serials from there on

module _ (s : List ℕ) (i : ℕ) (l : i < length s) where
  ahead : drop i s ≡ get_or s i 0 ∷ drop (i + 1) s
  ahead = drop-cons s i 0 l ∙ ap (λ (n : ℕ). get_or s i 0 ∷ drop n s) (sym (add-one i))

  pub passed : take (i + 1) s ≡ take i s ++ (get_or s i 0 ∷ [])
  passed = ap (λ (n : ℕ). take n s) (add-one i) ∙ take-suc s i 0 l

  pub holds_next : (x : ℕ) (b : Bool) → b ≡ holds x (take i s) → b || eqb (get_or s i 0) x ≡ holds x (take (i + 1) s)
  holds_next x b e = rw (e, passed) (sym (holds_last x (take i s) (get_or s i 0)))

  module _ (x : ℕ) where
    pub walk_hit : get_or s i 0 ≡ x → place_of x (drop i s) ≡ 0
    walk_hit e = rw ahead (place_hit x (get_or s i 0) (drop (i + 1) s) e)

    pub walk_miss : (get_or s i 0 ≡ x → ⊥) → place_of x (drop i s) ≡ suc (place_of x (drop (i + 1) s))
    walk_miss e = rw ahead (place_miss x (get_or s i 0) (drop (i + 1) s) e)

    walk_holds : holds x (drop i s) ≡ eqb (get_or s i 0) x || holds x (drop (i + 1) s)
    walk_holds = rw ahead (holds_first x (get_or s i 0) (drop (i + 1) s))

    -- the place from i on
    pub from_hit : get_or s i 0 ≡ x → place_from i x s ≡ i
    unfolding place_from
    from_hit e = rw (walk_holds, eq-eqb (get_or s i 0) x e, walk_hit e) (add-zero i)

    pub from_miss : (get_or s i 0 ≡ x → ⊥) → place_from i x s ≡ place_from (i + 1) x s
    unfolding place_from
    from_miss e =
        let n : i + suc (place_of x (drop (i + 1) s)) ≡ i + 1 + place_of x (drop (i + 1) s) = omega arith in
        rw (walk_holds, ne_eqb (get_or s i 0) x e, walk_miss e, n)

  -- the first fault from i on
  pub walk_zero : get_or s i 0 ≡ 0 → first_fault (take i s) (drop i s) ≡ Err R.ZeroSerial
  walk_zero z = rw ahead (fault_zero (take i s) (get_or s i 0) (drop (i + 1) s) z)

  module _ (z : get_or s i 0 ≡ 0 → ⊥) where
    pub walk_twice : holds (get_or s i 0) (take i s) ≡ true → first_fault (take i s) (drop i s) ≡ Err R.Twice
    walk_twice e = rw ahead (fault_twice (take i s) (get_or s i 0) (drop (i + 1) s) z e)

    pub walk_new : holds (get_or s i 0) (take i s) ≡ false → first_fault (take i s) (drop i s) ≡ first_fault (take (i + 1) s) (drop (i + 1) s)
    walk_new e = rw (ahead, passed) (fault_new (take i s) (get_or s i 0) (drop (i + 1) s) z e)

-- and past the end
pub from_past : (s : List ℕ) (i x : ℕ) → length s ≤ i → place_from i x s ≡ place_of x s
unfolding place_from
from_past s i x l = rw (drop_of_length-le s l, holds_nil x)

pub fault_done : (s : List ℕ) (i : ℕ) → length s ≤ i → first_fault (take i s) (drop i s) ≡ Ok tt
fault_done s i l = rw (drop_of_length-le s l) (fault_nil (take i s))

-- ---- the first repeat

pub repeat_at_most : (seen s : List ℕ) → first_repeat seen s ≤ length s
unfolding first_repeat
repeat_at_most seen [] = omega arith
repeat_at_most seen (x ∷ s) = go (holds x seen) (repeat_at_most (seen ++ (x ∷ [])) s)
  where
    go : (b : Bool) → first_repeat (seen ++ (x ∷ [])) s ≤ length s → cond b 0 (suc (first_repeat (seen ++ (x ∷ [])) s)) ≤ suc (length s)
    go true h = omega arith
    go false h = omega arith

-- a serial before it stands nowhere before itself
pub repeat_before : (seen s : List ℕ) (j : ℕ) → j < first_repeat seen s → holds (get_or s j 0) (seen ++ take j s) ≡ false
unfolding first_repeat
repeat_before seen [] j h = absurd (omega arith)
repeat_before seen (x ∷ s) j h = go (holds x seen) refl (repeat_before (seen ++ (x ∷ [])) s) j h
  where
    go : (b : Bool) → holds x seen ≡ b → ((j : ℕ) → j < first_repeat (seen ++ (x ∷ [])) s → holds (get_or s j 0) ((seen ++ (x ∷ [])) ++ take j s) ≡ false)
        → (j : ℕ) → j < cond b 0 (suc (first_repeat (seen ++ (x ∷ [])) s)) → holds (get_or (x ∷ s) j 0) (seen ++ take j (x ∷ s)) ≡ false
    go true e rest j l = absurd (omega arith)
    go false e rest zero l = rw (append-nil seen) e
    go false e rest (suc j) l = rw append_assoc at (rest j (le_of_suc-le-suc l))

-- and the one there does
pub repeat_there : (seen s : List ℕ) → first_repeat seen s < length s → holds (get_or s (first_repeat seen s) 0) (seen ++ take (first_repeat seen s) s) ≡ true
unfolding first_repeat
repeat_there seen [] h = absurd (omega arith)
repeat_there seen (x ∷ s) h = go (holds x seen) refl (repeat_there (seen ++ (x ∷ [])) s) h
  where
    go : (b : Bool) → holds x seen ≡ b → (first_repeat (seen ++ (x ∷ [])) s < length s → holds (get_or s (first_repeat (seen ++ (x ∷ [])) s) 0) ((seen ++ (x ∷ [])) ++ take (first_repeat (seen ++ (x ∷ [])) s) s) ≡ true)
        → cond b 0 (suc (first_repeat (seen ++ (x ∷ [])) s)) < suc (length s)
        → holds (get_or (x ∷ s) (cond b 0 (suc (first_repeat (seen ++ (x ∷ [])) s))) 0) (seen ++ take (cond b 0 (suc (first_repeat (seen ++ (x ∷ [])) s))) (x ∷ s)) ≡ true
    go true e rest l = rw (append-nil seen) e
    go false e rest l = rw append_assoc at (rest (omega arith))

-- every serial is one of the three
data Judged (seen : List ℕ) (x : ℕ) : Type 0 where
  zeroth : x ≡ 0 → Judged seen x
  again : (x ≡ 0 → ⊥) → holds x seen ≡ true → Judged seen x
  new : (x ≡ 0 → ⊥) → holds x seen ≡ false → Judged seen x

judged : (seen : List ℕ) (x : ℕ) → Judged seen x
judged seen x = go (eqb x 0) (holds x seen) refl refl
  where
    go : (a b : Bool) → eqb x 0 ≡ a → holds x seen ≡ b → Judged seen x
    go true b e f = zeroth (eqb-true x 0 e)
    go false true e f = again (eqb-false x 0 e) f
    go false false e f = new (eqb-false x 0 e) f

-- the number of a refusal, 0 for none
abbrev fault : Result (Unit {0}) Refusal → ℕ
fault (Ok u) = 0
fault (Err j) = number j

-- answers with different numbers are not the same
differ : {A : Type 0} (a b : Result (Unit {0}) Refusal) → a ≡ b → (fault a ≡ fault b → ⊥) → A
differ a b e n = absurd (n (ap fault e))

-- no fault: no zero, and no repeat
pub fault_none : (seen s : List ℕ) → first_fault seen s ≡ Ok tt → (holds 0 s ≡ false) × (first_repeat seen s ≡ length s)
unfolding first_repeat
fault_none seen [] h = (holds_nil 0, refl)
fault_none seen (x ∷ s) h = go (fault_none (seen ++ (x ∷ [])) s) (judged seen x)
  where
    go : (first_fault (seen ++ (x ∷ [])) s ≡ Ok tt → (holds 0 s ≡ false) × (first_repeat (seen ++ (x ∷ [])) s ≡ length s)) → Judged seen x
        → (holds 0 (x ∷ s) ≡ false) × (first_repeat seen (x ∷ s) ≡ length (x ∷ s))
    go rest (zeroth z) = differ (Err R.ZeroSerial) (Ok tt) (sym (fault_zero seen x s z) ∙ h) (omega arith)
    go rest (again z e) = differ (Err R.Twice) (Ok tt) (sym (fault_twice seen x s z e) ∙ h) (omega arith)
    go rest (new z e) = let w = rest (sym (fault_new seen x s z e) ∙ h) in (holds_first 0 x s ∙ rw (ne_eqb x 0 z) w.0, rw e (ap suc w.1))

-- a fault where there is no zero is a repeat
pub fault_some : (seen s : List ℕ) → (first_fault seen s ≡ Ok tt → ⊥) → holds 0 s ≡ false → first_repeat seen s < length s
unfolding first_repeat
fault_some seen [] h n = absurd (h (fault_nil seen))
fault_some seen (x ∷ s) h n = go (fault_some (seen ++ (x ∷ [])) s) (judged seen x)
  where
    go : ((first_fault (seen ++ (x ∷ [])) s ≡ Ok tt → ⊥) → holds 0 s ≡ false → first_repeat (seen ++ (x ∷ [])) s < length s) → Judged seen x → first_repeat seen (x ∷ s) < suc (length s)
    go rest (zeroth z) = absurd (holds_nowhere 0 (x ∷ s) n 0 (omega arith) z)
    go rest (again z e) = rw e (omega arith)
    go rest (new z e) =
        let m : holds 0 s ≡ false = rw (ne_eqb x 0 z) at (sym (holds_first 0 x s) ∙ n) in
        let l : first_repeat (seen ++ (x ∷ [])) s < length s = rest (λ q. h (fault_new seen x s z e ∙ q)) m in
        rw e (omega arith)

-- where none is found, the serials at any two positions differ
module _ (s : List ℕ) (e : first_repeat [] s ≡ length s) where
  pub different : (p q : ℕ) → p < q → q < length s → get_or s p 0 ≡ get_or s q 0 → ⊥
  different p q l m d =
      let n : length (take q s) ≡ q = length-take q s ∙ omega arith in
      holds_nowhere (get_or s q 0) (take q s) (repeat_before [] s q (omega arith)) p (omega arith) (get_or-take q s p 0 l ∙ d)

  -- so each stands at its own place, and it is the same from where one looks
  pub place_own : (p : ℕ) → p < length s → place_of (get_or s p 0) s ≡ p
  place_own p l = place_is (get_or s p 0) s p l refl (λ j m. different j p m l)

  pub place_from_lem : (from x : ℕ) → place_from from x s ≡ place_of x s
  unfolding place_from
  place_from_lem from x = go (holds x (drop from s)) refl
    where
      go : (b : Bool) → holds x (drop from s) ≡ b → cond b (from + place_of x (drop from s)) (place_of x s) ≡ place_of x s
      go true t =
          let l : place_of x (drop from s) < length (drop from s) = holds_below x (drop from s) t in
          let w : get_or s (from + place_of x (drop from s)) 0 ≡ x = sym (get_or-drop from s (place_of x (drop from s)) 0) ∙ place_stands x (drop from s) l in
          sym (rw w at (place_own (from + place_of x (drop from s)) (omega (arith, length-drop from s))))
      go false t = refl

pub repeat_none : (s : List ℕ) → ((p q : ℕ) → p < q → q < length s → get_or s p 0 ≡ get_or s q 0 → ⊥) → first_repeat [] s ≡ length s
repeat_none s h = go (ltb (first_repeat [] s) (length s)) refl
  where
    go : (b : Bool) → ltb (first_repeat [] s) (length s) ≡ b → first_repeat [] s ≡ length s
    go true t =
        let q = first_repeat [] s in
        let l : q < length s = ltb-true _ _ t in
        let w = holds_where (get_or s q 0) (take q s) (repeat_there [] s l) in
        let m : w.0 < q = omega (arith, w.1, length-take q s) in
        absurd (h w.0 q m l (sym (get_or-take q s w.0 0 m) ∙ w.2))
    go false t = omega (arith, repeat_at_most [] s, ltb-false (first_repeat [] s) (length s) t)

-- ---- a place found, and none

pub found_here : (n p q : ℕ) → p ≡ q → q < n → Some (record { 0 = q }) ≡ found n p
unfolding found
found_here n p q e l = rw (e, lt-ltb q n l)

pub found_nowhere : (n p : ℕ) → n ≤ p → None ≡ found n p
unfolding found
found_nowhere n p l = rw (le-ltb p n l)

-- whether `find` found it says whether the serial stands there
module _ (x : ℕ) (s : List ℕ) (f : Option Place) (e : f ≡ found (length s) (place_of x s)) where
  pub found_holds : (q : Place) → f ≡ Some q → holds x s ≡ true
  found_holds q a =
      let w = found_at (length s) (place_of x s) q (sym e ∙ a) in
      below_holds x s (omega (arith, w))

  pub found_lacks : f ≡ None → holds x s ≡ false
  found_lacks a = past_holds x s (found_none (length s) (place_of x s) (sym e ∙ a))

  pub is_some_holds : is_some f ≡ true → holds x s ≡ true
  is_some_holds t = go f refl t
    where
      go : (g : Option Place) → f ≡ g → is_some g ≡ true → holds x s ≡ true
      go (Some q) a t = found_holds q a
      go None a t = cc

  pub not_some_lacks : is_some f ≡ false → holds x s ≡ false
  not_some_lacks t = go f refl t
    where
      go : (g : Option Place) → f ≡ g → is_some g ≡ false → holds x s ≡ false
      go (Some q) a t = cc
      go None a t = found_lacks a

-- ---- the refusal that a list meets

abbrev pub Sized : List ℕ → Type 0
Sized s = (1 ≤ length s) × (length s ≤ 128)

-- some serial is 0; two are alike
abbrev pub HasZero : List ℕ → Type 0
HasZero s = (p : ℕ) × (p < length s) × (get_or s p 0 ≡ 0)

abbrev pub HasTwice : List ℕ → Type 0
HasTwice s = (p : ℕ) × (q : ℕ) × (p < q) × (q < length s) × (get_or s p 0 ≡ get_or s q 0)

repeat_twice : (s : List ℕ) → first_repeat [] s < length s → HasTwice s
repeat_twice s l =
    let q = first_repeat [] s in
    let w = holds_where (get_or s q 0) (take q s) (repeat_there [] s l) in
    let m : w.0 < q = omega (arith, w.1, length-take q s) in
    (w.0, q, m, l, sym (get_or-take q s w.0 0 m) ∙ w.2)

twice_repeat : (s : List ℕ) → HasTwice s → first_repeat [] s < length s
twice_repeat s w = go (ltb (first_repeat [] s) (length s)) refl
  where
    go : (b : Bool) → ltb (first_repeat [] s) (length s) ≡ b → first_repeat [] s < length s
    go true t = ltb-true _ _ t
    go false t =
        let e : first_repeat [] s ≡ length s = omega (arith, repeat_at_most [] s, ltb-false (first_repeat [] s) (length s) t) in
        absurd (different s e w.0 w.1 w.2 w.3 w.4)

-- one law for each case, as the code meets it
pub listed_few : (s : List ℕ) → length s < 1 → listed s ≡ Err R.BadCount
unfolding listed
listed_few s l = rw (lt-leb 1 (length s) l)

pub listed_many : (s : List ℕ) → 128 < length s → listed s ≡ Err R.BadCount
unfolding listed
listed_many s l =
    let f : 1 ≤ length s = omega arith in
    rw (le-leb 1 (length s) f, lt-leb (length s) 128 l)

module _ (s : List ℕ) (l : Sized s) where
  pub listed_zero : holds 0 s ≡ true → listed s ≡ Err R.ZeroSerial
  unfolding listed
  listed_zero e = rw (le-leb 1 (length s) l.0, le-leb (length s) 128 l.1, e)

  module _ (z : holds 0 s ≡ false) where
    pub listed_twice : first_repeat [] s < length s → listed s ≡ Err R.Twice
    unfolding listed
    listed_twice e = rw (le-leb 1 (length s) l.0, le-leb (length s) 128 l.1, z, lt-ltb (first_repeat [] s) (length s) e)

    pub listed_roster : length s ≤ first_repeat [] s → listed s ≡ Ok tt
    unfolding listed
    listed_roster e = rw (le-leb 1 (length s) l.0, le-leb (length s) 128 l.1, z, le-ltb (first_repeat [] s) (length s) e)

-- every list is one of the four
data Case (s : List ℕ) : Type 0 where
  wrong_size : listed s ≡ Err R.BadCount → (length s ≡ 0) ⊎ (128 < length s) → Case s
  zeroed : listed s ≡ Err R.ZeroSerial → Sized s → HasZero s → Case s
  twice : listed s ≡ Err R.Twice → Sized s → (HasZero s → ⊥) → HasTwice s → Case s
  roster : listed s ≡ Ok tt → IsRoster s → Case s

no_zero : (s : List ℕ) → holds 0 s ≡ false → HasZero s → ⊥
no_zero s z w = holds_nowhere 0 s z w.0 w.1 w.2

case : (s : List ℕ) → Case s
case s = size (leb 1 (length s)) (leb (length s) 128) refl refl
  where
    repeat : (l : Sized s) (z : holds 0 s ≡ false) (b : Bool) → ltb (first_repeat [] s) (length s) ≡ b → Case s
    repeat l z true t = twice (listed_twice s l z (ltb-true _ _ t)) l (no_zero s z) (repeat_twice s (ltb-true _ _ t))
    repeat l z false t =
        let m : length s ≤ first_repeat [] s = ltb-false _ _ t in
        let e : first_repeat [] s ≡ length s = omega (arith, repeat_at_most [] s) in
        roster (listed_roster s l z m) (record { some = l.0; few = l.1; no_zero = λ p h. holds_nowhere 0 s z p h; no_repeat = different s e })

    zero_there : (l : Sized s) (b : Bool) → holds 0 s ≡ b → Case s
    zero_there l true z = zeroed (listed_zero s l z) l (holds_where 0 s z)
    zero_there l false z = repeat l z (ltb (first_repeat [] s) (length s)) refl

    size : (a b : Bool) → leb 1 (length s) ≡ a → leb (length s) 128 ≡ b → Case s
    size false b t u =
        let l : length s < 1 = leb-false _ _ t in
        wrong_size (listed_few s l) (inl (omega arith))
    size true false t u = wrong_size (listed_many s (leb-false _ _ u)) (inr (leb-false _ _ u))
    size true true t u = zero_there (leb-true _ _ t, leb-true _ _ u) (holds 0 s) refl

-- two answers that differ are not both met
never : {A : Type 0} (s : List ℕ) (a b : Result (Unit {0}) Refusal) → listed s ≡ a → listed s ≡ b → (fault a ≡ fault b → ⊥) → A
never s a b p q n = differ a b (sym p ∙ q) n

module _ (s : List ℕ) where
  sound_to : Case s → listed s ≡ Ok tt → IsRoster s
  sound_to (wrong_size e w) h = never s (Err R.BadCount) (Ok tt) e h (omega arith)
  sound_to (zeroed e l w) h = never s (Err R.ZeroSerial) (Ok tt) e h (omega arith)
  sound_to (twice e l z w) h = never s (Err R.Twice) (Ok tt) e h (omega arith)
  sound_to (roster e r) h = r

  sound_of : IsRoster s → listed s ≡ Ok tt
  sound_of r =
      listed_roster s (r.some, r.few) (nowhere_holds 0 s r.no_zero) (omega (arith, repeat_none s r.no_repeat))

  -- a list is taken exactly where it is a roster
  pub listed_sound : (listed s ≡ Ok tt) ↔ IsRoster s
  listed_sound = (sound_to (case s), sound_of)

  three_to : Case s → listed s ≡ Err R.BadCount → (length s ≡ 0) ⊎ (128 < length s)
  three_to (wrong_size e w) h = w
  three_to (zeroed e l w) h = never s (Err R.ZeroSerial) (Err R.BadCount) e h (omega arith)
  three_to (twice e l z w) h = never s (Err R.Twice) (Err R.BadCount) e h (omega arith)
  three_to (roster e r) h = never s (Ok tt) (Err R.BadCount) e h (omega arith)

  three_of : (length s ≡ 0) ⊎ (128 < length s) → listed s ≡ Err R.BadCount
  three_of (inl e) = listed_few s (omega arith)
  three_of (inr l) = listed_many s l

  -- 3: no serial, or more than 128
  pub listed_3 : (listed s ≡ Err R.BadCount) ↔ ((length s ≡ 0) ⊎ (128 < length s))
  listed_3 = (three_to (case s), three_of)

  four_to : Case s → listed s ≡ Err R.ZeroSerial → Sized s × HasZero s
  four_to (wrong_size e w) h = never s (Err R.BadCount) (Err R.ZeroSerial) e h (omega arith)
  four_to (zeroed e l w) h = (l, w)
  four_to (twice e l z w) h = never s (Err R.Twice) (Err R.ZeroSerial) e h (omega arith)
  four_to (roster e r) h = never s (Ok tt) (Err R.ZeroSerial) e h (omega arith)

  -- 4: the size is right, and some serial is 0
  pub listed_4 : (listed s ≡ Err R.ZeroSerial) ↔ (Sized s × HasZero s)
  listed_4 = (four_to (case s), λ w. listed_zero s w.0 (where_holds 0 s w.1.0 w.1.1 w.1.2))

  five_to : Case s → listed s ≡ Err R.Twice → Sized s × (HasZero s → ⊥) × HasTwice s
  five_to (wrong_size e w) h = never s (Err R.BadCount) (Err R.Twice) e h (omega arith)
  five_to (zeroed e l w) h = never s (Err R.ZeroSerial) (Err R.Twice) e h (omega arith)
  five_to (twice e l z w) h = (l, z, w)
  five_to (roster e r) h = never s (Ok tt) (Err R.Twice) e h (omega arith)

  -- 5: the size is right, no serial is 0, and two are alike
  pub listed_5 : (listed s ≡ Err R.Twice) ↔ (Sized s × (HasZero s → ⊥) × HasTwice s)
  listed_5 =
      (five_to (case s), λ w. listed_twice s w.0 (nowhere_holds 0 s (λ p l e. w.1 (p, l, e))) (twice_repeat s w.2))

-- ---- on a roster

module _ (s : List ℕ) (r : IsRoster s) where
  pub roster_repeat : first_repeat [] s ≡ length s
  roster_repeat = repeat_none s r.no_repeat

  -- every member is found at its own place
  pub roster_place : (p : ℕ) → p < length s → place_of (get_or s p 0) s ≡ p
  roster_place = place_own s roster_repeat

  -- and looking from a place on finds what looking from the front finds
  pub roster_from : (from x : ℕ) → place_from from x s ≡ place_of x s
  roster_from = place_from_lem s roster_repeat
