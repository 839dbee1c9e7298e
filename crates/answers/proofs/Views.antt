-- The accepted records of a table, by their members: what is cut, and what is recorded. Assumes nothing.
use mathlib.Core.Path.{◌≡◌, refl, sym, ap, ◌∙◌, fun_ext}
use mathlib.Core.Bool.{Bool, true, false, cond, ◌&&◌, and-true, and-false}
use mathlib.Core.List.{List}
use Prim.Native.Nat.{ℕ, ◌<◌, ◌≤◌}
use native.Mathlib.Omega.{arith}
use lib.Dec.{ltb, leb}
use borrow.Author.Tests.{ltb-true, lt-ltb, leb-true, leb-false, le-leb, lt-leb}
use Rattle.sets.specs.Sets.{Places, nothing, below, intersection}
use Rattle.sets.specs.PlaceSets.{has, kept}
use Rattle.sets.specs.declared.PlaceSet.{PlaceSet}
use Rattle.sets.proofs.Booleans.{and_intro, and_left, and_right}
use Rattle.rows.specs.Rows.{rows_of}
use Rattle.histories.specs.declared.Kind.TheVariants.{Full, Short}
use Rattle.histories.specs.Histories.{Accepted}
use Rattle.histories.specs.Rule.{recorded, is_full}
use Rattle.answers.specs.Views.{size, kind_in, accepted_in, recorded_in}

-- ---- the roster

pub size_small : (count : ℕ) → count ≤ 128 → count ≡ size count
unfolding size
size_small count h = rw (le-leb count 128 h)

pub size_large : (count : ℕ) → 128 < count → 128 ≡ size count
unfolding size
size_large count h = rw (lt-leb count 128 h)

pub size_at_most : (count : ℕ) → size count ≤ 128
unfolding size
size_at_most count = go (leb count 128) refl
  where
    go : (b : Bool) → leb count 128 ≡ b → cond b count 128 ≤ 128
    go true e = leb-true count 128 e
    go false e = omega arith

-- the places below the count that a set can hold are those of the roster
pub roster_is_lem : (count : ℕ) → kept (below count) ≡ below (size count)
unfolding size
roster_is_lem count = fun_ext (λ k. go k (leb count 128) refl)
  where
    low : (k : ℕ) → count ≤ 128 → (b : Bool) → ltb k count ≡ b → ltb k count && ltb k 128 ≡ ltb k count
    low k l true e =
        let h : k < 128 = omega (arith, ltb-true k count e) in
        ap (λ (x : Bool). ltb k count && x) (lt-ltb k 128 h) ∙ and-true (ltb k count)
    low k l false e = rw e

    high : (k : ℕ) → 128 < count → (b : Bool) → ltb k 128 ≡ b → ltb k count && b ≡ b
    high k l true e =
        let h : k < count = omega (arith, ltb-true k 128 e) in
        rw (lt-ltb k count h)
    high k l false e = and-false (ltb k count)

    go : (k : ℕ) (b : Bool) → leb count 128 ≡ b → ltb k count && ltb k 128 ≡ ltb k (cond b count 128)
    go k true e = low k (leb-true count 128 e) (ltb k count) refl
    go k false e = high k (leb-false count 128 e) (ltb k 128) refl

-- ---- what is accepted

-- the records that a loop sees: who is back, and the rows as far as `all` goes. The kinds do not matter to it
abbrev pub cut : PlaceSet → PlaceSet → List ℕ → Accepted
cut all back w = record { returned = has back; kind = λ p. Short; row = λ p. intersection (has all) (rows_of w p) }

pub cut_is : (count : ℕ) (w : List ℕ) (all s back : PlaceSet) → has all ≡ below (size count) → has back ≡ intersection (has all) (has s)
    → recorded (cut all back w) ≡ recorded_in count (has s) w
unfolding recorded recorded_in
cut_is count w all s back a e =
    λ i p q. (e ∙ ap (λ (S : Places). intersection S (has s)) a) i p && intersection (a i) (rows_of w p) q

-- accepted records are of a roster of length n: no place off it is back, none stands in a row
pub record On (n : ℕ) (A : Accepted) : Type 0 where
  pub back_on : (p : ℕ) → A.returned p ≡ true → p < n
  pub row_on : (p q : ℕ) → A.row p q ≡ true → q < n

pub accepted_on : (count : ℕ) (R F : Places) (w : List ℕ) → On (size count) (accepted_in count R F w)
unfolding accepted_in
accepted_on count R F w = record {
  back_on = λ p e. ltb-true p (size count) (and_left (ltb p (size count)) (R p) e);
  row_on = λ p q e. ltb-true q (size count) (and_left (ltb q (size count)) (rows_of w p q) e);
}

pub accepted_recorded : (count : ℕ) (R F : Places) (w : List ℕ) → recorded (accepted_in count R F w) ≡ recorded_in count R w
unfolding recorded recorded_in accepted_in
accepted_recorded count R F w = refl

pub cut_on : (count : ℕ) (w : List ℕ) (all s back : PlaceSet) → has all ≡ below (size count) → has back ≡ intersection (has all) (has s) → On (size count) (cut all back w)
cut_on count w all s back a e = record {
  back_on = λ p h. on p (and_left (has all p) (has s p) (sym (ap (λ (S : Places). S p) e) ∙ h));
  row_on = λ p q h. on q (and_left (has all q) (rows_of w p q) h);
}
  where
    on : (p : ℕ) → has all p ≡ true → p < size count
    on p h = ltb-true p (size count) (sym (ap (λ (S : Places). S p) a) ∙ h)

-- a set as far as the roster goes: nothing else is in it, and on the roster it is that set
pub cut_below : (n : ℕ) (all s N : PlaceSet) → has all ≡ below n → has N ≡ intersection (has all) (has s) → (k : ℕ) → has N k ≡ true → k < n
cut_below n all s N a e k h = ltb-true k n (sym (ap (λ (S : Places). S k) a) ∙ and_left (has all k) (has s k) (sym (ap (λ (S : Places). S k) e) ∙ h))

pub cut_same : (n : ℕ) (all s N : PlaceSet) → has all ≡ below n → has N ≡ intersection (has all) (has s) → (k : ℕ) → k < n → has N k ≡ has s k
cut_same n all s N a e k l = ap (λ (S : Places). S k) e ∙ ap (λ (x : Bool). x && has s k) (ap (λ (S : Places). S k) a ∙ lt-ltb k n l)

-- ---- kinds

-- a place is of the full kind where it is among the full ones
pub full_in : (F : Places) (p : ℕ) → is_full (kind_in F p) ≡ F p
unfolding kind_in is_full
full_in F p = go (F p)
  where
    go : (b : Bool) → is_full (cond b Full Short) ≡ b
    go true = refl
    go false = refl

-- ---- what is recorded

pub recorded_back : (A : Accepted) (p : ℕ) → A.returned p ≡ true → A.row p ≡ recorded A p
unfolding recorded
recorded_back A p e = fun_ext (λ q. sym (ap (λ (b : Bool). b && A.row p q) e))

pub recorded_absent : (A : Accepted) (p : ℕ) → A.returned p ≡ false → nothing ≡ recorded A p
unfolding recorded
recorded_absent A p e = fun_ext (λ q. sym (ap (λ (b : Bool). b && A.row p q) e))

pub recorded_parts : (A : Accepted) (p q : ℕ) → recorded A p q ≡ true → (A.returned p ≡ true) × (A.row p q ≡ true)
unfolding recorded
recorded_parts A p q e = (and_left (A.returned p) (A.row p q) e, and_right (A.returned p) (A.row p q) e)

pub recorded_intro : (A : Accepted) (p q : ℕ) → A.returned p ≡ true → A.row p q ≡ true → recorded A p q ≡ true
unfolding recorded
recorded_intro A p q e f = and_intro e f
