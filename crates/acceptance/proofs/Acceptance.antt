-- The test for 11. Assumes nothing.
use mathlib.Core.Path.{◌≡◌, refl, sym, ap, ap₂, ◌∙◌, fun_ext}
use mathlib.Core.Bool.{Bool, true, false, not, cond, ◌&&◌, ◌||◌, or-false, and-true}
use mathlib.Core.List.{List}
use mathlib.Core.Logic.{◌⊎◌, inl, inr}
use Prim.Native.Nat.{ℕ, ◌<◌, ◌≤◌}
use native.Mathlib.Omega.{arith}
use lib.Dec.{ltb, eqb}
use borrow.Author.Tests.{eqb-true, eqb-false, ne_eqb, ltb-true}
use Rattle.sets.specs.Sets.{Places, below, intersection, without, any, all, subset}
use Rattle.sets.specs.PlaceSets.{has}
use Rattle.sets.specs.declared.PlaceSet.{PlaceSet}
use Rattle.sets.proofs.Booleans.{clash, is_false, both_ways, and_left, and_right, or_cases, or_right, minus_elim, eqb_self}
use Rattle.sets.proofs.Tests.{any_elim, all_elim, all_intro, subset_elim, subset_intro}
use Rattle.sets.proofs.Members.{pass, pass_elim, pass_intro}
use Rattle.rows.specs.Rows.{rows_of}
use Rattle.histories.specs.declared.Kind.{Kind}
use Rattle.histories.specs.declared.Kind.TheVariants.{Full, Short}
use Rattle.histories.specs.Histories.{Row, History, Before, heard, through, Accepted, lay}
use Rattle.histories.specs.Rule.{recorded, reach, before, is_full, full_back, agrees, accepts}
use Rattle.histories.proofs.Closure.{reach_heard, reach_mono, reach_trans, reach_sound}
use Rattle.answers.specs.Views.{size, accepted_in, recorded_in, reach_from}
use Rattle.answers.proofs.Views.{size_at_most, full_in, On, cut_below, cut_same, accepted_on, recorded_parts}
use Rattle.answers.proofs.Walks.{reach_here, reach_next}

-- ---- the rows of returned full places

-- looking below 128 and below n is the same for what is on the roster
subset_cut : (n : ℕ) (N : PlaceSet) (S T : Row) → n ≤ 128 → ((k : ℕ) → has N k ≡ true → k < n) → ((k : ℕ) → k < n → has N k ≡ S k) → subset 128 (has N) T ≡ subset n S T
subset_cut n N S T l on a =
    both_ways (subset 128 (has N) T) (subset n S T)
    (λ e. subset_intro n S T (λ k h m. subset_elim 128 (has N) T e k (omega arith) (a k h ∙ m)))
    (λ e. subset_intro 128 (has N) T (λ k h m. let o = on k m in subset_elim n S T e k o (sym (a k o) ∙ m)))

-- the test of one row, as the code computes it
abbrev pub agreeing : Row → ℕ → PlaceSet → Bool
agreeing S p N = not (S p) || subset 128 (has N) S

-- as the code goes: `roster` is the roster, N what of E is on it, `back` who of s is on it, `first` the full ones of these
module _ (count : ℕ) (w : List ℕ) (roster s u back first E N : PlaceSet) (p : ℕ) (ea : has roster ≡ below (size count)) (en : has N ≡ intersection (has roster) (has E))
    (eb : has back ≡ intersection (has roster) (has s)) (ef : has first ≡ intersection (has back) (has u)) where
  abbrev A : Accepted
  A = accepted_in count (has s) (has u) w

  abbrev n : ℕ
  n = size count

  full_is : (m : ℕ) → full_back A m ≡ has first m
  unfolding full_back accepted_in
  full_is m = ap₂ (λ (x y : Bool). x && y) (sym (ap (λ (S : Places). S m) (eb ∙ ap (λ (S : Places). intersection S (has s)) ea))) (full_in (has u) m) ∙ sym (ap (λ (S : Places). S m) ef)

  agrees_full : (m : ℕ) → has first m ≡ true → agrees n A p (has E) m ≡ agreeing (intersection (has roster) (rows_of w m)) p N
  unfolding agrees recorded full_back accepted_in
  agrees_full m h = go (full_back A m) (full_is m ∙ h) (A.returned m) (and_left (A.returned m) (is_full (A.kind m)) (full_is m ∙ h))
    where
      S : Row
      S = intersection (below n) (rows_of w m)

      cut : agreeing (intersection (has roster) (rows_of w m)) p N ≡ not (S p) || subset n (has E) S
      cut =
          ap (λ (T : Row). agreeing (intersection T (rows_of w m)) p N) ea
          ∙ ap (λ (x : Bool). not (S p) || x) (subset_cut n N (has E) S (size_at_most count) (cut_below n roster E N ea en) (cut_same n roster E N ea en))

      go : (f : Bool) → f ≡ true → (b : Bool) → b ≡ true → not (f && (b && S p)) || subset n (has E) (λ q. b && S q) ≡ agreeing (intersection (has roster) (rows_of w m)) p N
      go true _ true _ = sym cut
      go true _ false x = clash x refl
      go false x b _ = clash x refl

  -- one that is not back, or short, says nothing
  agrees_other : (m : ℕ) → has first m ≡ false → agrees n A p (has E) m ≡ true
  unfolding agrees
  agrees_other m h = ap (λ (f : Bool). not (f && recorded A m p) || subset n (has E) (recorded A m)) (full_is m ∙ h)

  on_roster : (m : ℕ) → has first m ≡ true → m < n
  on_roster m h = ltb-true m n (and_left (below n m) (has s m) (sym (ap (λ (S : Places). S m) (eb ∙ ap (λ (S : Places). intersection S (has s)) ea)) ∙ and_left (has back m) (has u m) (sym (ap (λ (S : Places). S m) ef) ∙ h)))

  -- each of `first` agrees, as the code tests it, where every place does
  pub each_agrees : pass (λ m. agreeing (intersection (has roster) (rows_of w m)) p N) first ≡ all n (agrees n A p (has E))
  each_agrees =
      both_ways _ _
      (λ e. all_intro n (agrees n A p (has E)) (λ m _. one e m (has first m) refl))
      (λ e. pass_intro _ first (λ m h. sym (agrees_full m h) ∙ all_elim n (agrees n A p (has E)) e m (on_roster m h)))
    where
      one : pass (λ m. agreeing (intersection (has roster) (rows_of w m)) p N) first ≡ true → (m : ℕ) (b : Bool) → has first m ≡ b → agrees n A p (has E) m ≡ true
      one e m true h = agrees_full m h ∙ pass_elim _ first e m h
      one e m false h = agrees_other m h

-- ---- the new record itself

pub names_all : (count : ℕ) (roster E N M : PlaceSet) (k : Kind) → has roster ≡ below (size count) → has N ≡ intersection (has roster) (has E) → k ≡ Full → (r : Bool)
    → r ≡ subset 128 (has N) (has M) → r ≡ not (is_full k) || subset (size count) (has E) (has M)
unfolding is_full
names_all count roster E N M k ea en f r e =
    e ∙ subset_cut (size count) N (has E) (has M) (size_at_most count) (cut_below (size count) roster E N ea en) (cut_same (size count) roster E N ea en)
    ∙ ap (λ (j : Kind). not (is_full j) || subset (size count) (has E) (has M)) (sym f)

pub short_free : (k : Kind) (b : Bool) → k ≡ Short → true ≡ not (is_full k) || b
unfolding is_full
short_free k b e = sym (ap (λ (j : Kind). not (is_full j) || b) e)

-- B has the records of A but for that of p: a chain from p needs the row of p only at its start
module _ (n : ℕ) (A B : Accepted) (on : On n B) (p : ℕ) (k : Kind) (M : Row) (own : (q : ℕ) → recorded B p q ≡ false) (other : (r q : ℕ) → (r ≡ p → ⊥) → recorded B r q ≡ recorded A r q) where
  G : History
  G = recorded (lay A p k M)

  laid_own : (q : ℕ) → recorded (lay A p k M) p q ≡ M q
  unfolding recorded
  laid_own q =
      ap₂ (λ (x y : Bool). (A.returned p || x) && cond y M (A.row p) q) (eqb_self p) (eqb_self p) ∙ ap (λ (x : Bool). x && M q) (or_right (A.returned p) refl)

  laid_other : (r q : ℕ) → (r ≡ p → ⊥) → recorded (lay A p k M) r q ≡ recorded B r q
  unfolding recorded
  laid_other r q d =
      ap₂ (λ (x y : Bool). (A.returned r || x) && cond y M (A.row r) q) (ne_eqb r p d) (ne_eqb r p d) ∙ ap (λ (x : Bool). x && A.row r q) (or-false (A.returned r)) ∙ sym (other r q d)

  laid_row : (r q : ℕ) → recorded B r q ≡ true → G r q ≡ true
  unfolding G
  laid_row r q x = go (eqb r p) refl
    where
      go : (b : Bool) → eqb r p ≡ b → recorded (lay A p k M) r q ≡ true
      go true e = clash x (ap (λ (y : ℕ). recorded B y q) (eqb-true r p e) ∙ own q)
      go false e = laid_other r q (eqb-false r p e) ∙ x

  -- from p every chain of G goes by M and the rows of B
  laid_sound : {q : ℕ} → Before G q p → reach_from n (recorded B) M q ≡ true
  unfolding G
  laid_sound (heard {q = q} e) = reach_here n B on M q (sym (laid_own q) ∙ e)
  laid_sound (through {q = q} {m = m} e b) = go (eqb m p) refl (laid_sound b)
    where
      go : (x : Bool) → eqb m p ≡ x → reach_from n (recorded B) M m ≡ true → reach_from n (recorded B) M q ≡ true
      go true f h = reach_here n B on M q (sym (laid_own q) ∙ ap (λ (x : ℕ). recorded (lay A p k M) x q) (sym (eqb-true m p f)) ∙ e)
      go false f h = reach_next n B on M m q h (sym (laid_other m q (eqb-false m p f)) ∙ e)

  preceding : reach_from n (recorded B) M ≡ before n (lay A p k M) p
  unfolding before G reach_from
  preceding = fun_ext (λ q. both_ways (reach_from n (recorded B) M q) (reach n G p q) (λ e. to q (or_cases (M q) (any n (λ m. M m && reach n (recorded B) m q)) e)) (λ e. laid_sound (reach_sound n G p q e)))
    where
      to : (q : ℕ) → (M q ≡ true) ⊎ (any n (λ m. M m && reach n (recorded B) m q) ≡ true) → reach n G p q ≡ true
      to q (inl h) = reach_heard n G p q (laid_own q ∙ h)
      to q (inr h) =
          let x = any_elim n (λ m. M m && reach n (recorded B) m q) h in
          let m = x.0 in
          reach_trans n G p m q x.1 (reach_heard n G p m (laid_own m ∙ and_left (M m) (reach n (recorded B) m q) x.2))
          (reach_mono n (recorded B) G laid_row m q (and_right (M m) (reach n (recorded B) m q) x.2))

pub preceding_is : (count : ℕ) (R F : Places) (w : List ℕ) (p : ℕ) (k : Kind) (M : Row) (others E : PlaceSet) → has others ≡ without p R
    → has E ≡ reach_from (size count) (recorded_in count (has others) w) M → has E ≡ before (size count) (lay (accepted_in count R F w) p k M) p
unfolding recorded recorded_in accepted_in
preceding_is count R F w p k M others E e f = f ∙ preceding (size count) (accepted_in count R F w) (accepted_in count (has others) F w) (accepted_on count (has others) F w) p k M own other
  where
    at : (r : ℕ) → has others r ≡ R r && not (eqb r p)
    at r = ap (λ (S : Places). S r) e

    own : (q : ℕ) → recorded (accepted_in count (has others) F w) p q ≡ false
    own q =
        is_false (recorded (accepted_in count (has others) F w) p q) (λ r.
        let b = and_right (ltb p (size count)) (has others p) (recorded_parts (accepted_in count (has others) F w) p q r).0 in
        clash (eqb_self p) (minus_elim (R p) (eqb p p) (sym (at p) ∙ b)).1)

    other : (r q : ℕ) → (r ≡ p → ⊥) → recorded (accepted_in count (has others) F w) r q ≡ recorded (accepted_in count R F w) r q
    other r q d =
        ap (λ (x : Bool). ltb r (size count) && x && (ltb q (size count) && rows_of w r q)) (at r ∙ ap (λ (x : Bool). R r && not x) (ne_eqb r p d) ∙ and-true (R r))

-- ---- the three ends

module _ (n : ℕ) (A : Accepted) (p : ℕ) (k : Kind) (M : Row) (E : PlaceSet) (e : has E ≡ before n (lay A p k M) p) where
  parts : not (has E p) && (not (is_full k) || subset n (has E) M) && all n (agrees n A p (has E)) ≡ accepts n A p k M
  unfolding accepts
  parts = ap (λ (S : Row). not (S p) && (not (is_full k) || subset n S M) && all n (agrees n A p S)) e

  pub accepts_circle : has E p ≡ true → false ≡ accepts n A p k M
  accepts_circle h = sym (ap (λ (x : Bool). not x && (not (is_full k) || subset n (has E) M) && all n (agrees n A p (has E))) h) ∙ parts

  module _ (h : has E p ≡ false) (r : Bool) (f : r ≡ not (is_full k) || subset n (has E) M) where
    whole : r && all n (agrees n A p (has E)) ≡ accepts n A p k M
    whole = ap (λ (x : Bool). x && all n (agrees n A p (has E))) f ∙ sym (ap (λ (x : Bool). not x && (not (is_full k) || subset n (has E) M) && all n (agrees n A p (has E))) h) ∙ parts

    pub accepts_lacks : r ≡ false → false ≡ accepts n A p k M
    accepts_lacks x = sym (ap (λ (y : Bool). y && all n (agrees n A p (has E))) x) ∙ whole

    pub accepts_rest : r ≡ true → (t : Bool) → t ≡ all n (agrees n A p (has E)) → t ≡ accepts n A p k M
    accepts_rest x t g = g ∙ sym (ap (λ (y : Bool). y && all n (agrees n A p (has E))) x) ∙ whole
