-- The duty of full records: rows that hold the rows of their members, and so everyone before them. Assumes nothing.
use mathlib.Core.Path.{◌≡◌, refl, sym, ap, ◌∙◌}
use mathlib.Core.Bool.{Bool, true, false, not, ◌&&◌, ◌||◌, and-false}
use mathlib.Core.Logic.{◌⊎◌, inl, inr}
use Prim.Native.Nat.{ℕ, zero, suc, ◌<◌, ◌≤◌}
use native.Mathlib.Omega.{arith}
use lib.Dec.{eqb}
use Rattle.sets.specs.Sets.{Places, below, intersection, difference, without, all, subset, count}
use Rattle.sets.specs.PlaceSets.{has, kept}
use Rattle.sets.specs.declared.PlaceSet.{PlaceSet}
use Rattle.sets.proofs.Booleans.{clash, is_false, and_left, and_right, not_true, implies_intro, eqb_self}
use Rattle.sets.proofs.Tests.{all_elim, all_intro, subset_elim, subset_intro, subset_fails}
use Rattle.sets.proofs.Counting.{count_less}
use Rattle.sets.proofs.Laws.{has_below}
use Rattle.histories.specs.Histories.{Row, History, Before, heard, through}
use Rattle.histories.specs.Rule.{reach}
use Rattle.histories.proofs.Closure.{reach_heard, reach_trans, reach_sound}
use Rattle.answers.specs.Checks.{Covered}
use Rattle.checks.proofs.Checks.{Turns, turns_fewer, turns_next, turns_end, cut_at, all_not}

-- the members of the row of p are covered
abbrev pub AllCovered : ℕ → History → Row → ℕ → Type 0
AllCovered n H S p = (m : ℕ) → m < n → H p m ≡ true → Covered n H S p m

-- ---- one row: those of its members that are not left are covered

module _ (n : ℕ) (H : History) (S : Row) (p : ℕ) (left : PlaceSet) (t : Turns n (H p) (λ m. Covered n H S p m) left) (m : ℕ) (l : has left m ≡ true) where
  -- the row of m is not inside that of p: what it holds is before p
  pub row_open : subset n (H m) (H p) ≡ false → subset n (reach n H p) (H p) ≡ false
  row_open e =
      let r = subset_fails n (H m) (H p) e in
      let q = r.0 in
      let far : reach n H p q ≡ true = reach_trans n H p m q (t.on m l).0 (reach_heard n H p m (t.on m l).1) (reach_heard n H m q r.2) in
      is_false (subset n (reach n H p) (H p)) (λ s. clash (subset_elim n (reach n H p) (H p) s q r.1 far) r.3)

  -- m is not left any more, nor are the members of `spared`
  module _ (spared fewer rest : PlaceSet) (ef : has fewer ≡ difference (has left) (has spared)) (er : has rest ≡ without m (has fewer)) where
    pub row_less : count 128 (has rest) < count 128 (has left)
    row_less =
        let gone : has rest m ≡ false = in_rest m ∙ ap (λ (x : Bool). has fewer m && not x) (eqb_self m) ∙ and-false (has fewer m) in
        count_less 128 (has rest) (has left) m (has_below left m l) (λ q _. was_left q) gone l
      where
        in_rest : (q : ℕ) → has rest q ≡ has fewer q && not (eqb q m)
        in_rest q = ap (λ (S : Places). S q) er

        was_left : (q : ℕ) → has rest q ≡ true → has left q ≡ true
        was_left q h = and_left (has left q) (not (has spared q)) (sym (ap (λ (S : Places). S q) ef) ∙ and_left (has fewer q) (not (eqb q m)) (sym (in_rest q) ∙ h))

    -- the row of m is inside that of p, and where m is in S, `spared` is that row
    pub row_goes : (other inner roster : PlaceSet) → n ≤ 128 → has other ≡ H m → has roster ≡ kept (below n) → has inner ≡ intersection (has other) (has roster)
        → has spared ≡ (λ q. S m && has inner q) → subset n (H m) (H p) ≡ true → Turns n (H p) (λ m. Covered n H S p m) rest
    row_goes other inner roster small eo eb ei es e =
        turns_next n (H p) (λ m. Covered n H S p m) fewer (turns_fewer n (H p) (λ m. Covered n H S p m) left t (has spared) fewer spares ef) m rest (by m (inl refl)) er
      where
        by : (q : ℕ) → (m ≡ q) ⊎ ((S m ≡ true) × (H m q ≡ true)) → Covered n H S p q
        by q c = (m, (t.on m l).0, (t.on m l).1, e, c)

        spares : (q : ℕ) → q < n → H p q ≡ true → has spared q ≡ true → Covered n H S p q
        spares q k _ h =
            let s : S m && has inner q ≡ true = sym (ap (λ (S : Places). S q) es) ∙ h in
            let in_row : has inner q ≡ H m q = cut_at n other inner roster small eb ei q k ∙ ap (λ (S : Places). S q) eo in
            by q (inr (and_left (S m) (has inner q) s, sym in_row ∙ and_right (S m) (has inner q) s))

-- ---- the rows of S: where nobody is before itself, a row has more members than one that it holds the row of

module _ (n : ℕ) (H : History) (S : Row) where
  module _ (rows_on : (p q : ℕ) → H p q ≡ true → p < n) (free : all n (λ p. not (reach n H p p)) ≡ true)
      (covered : (p : ℕ) → p < n → S p ≡ true → AllCovered n H S p) where
    -- each holds the rows of its members
    held : (c p m q : ℕ) → count n (H p) < c → p < n → S p ≡ true → m < n → q < n → H p m ≡ true → H m q ≡ true → H p q ≡ true
    held zero p m q l lp s lm lq a b = absurd (omega arith)
    held (suc c) p m q l lp s lm lq a b =
        let r = covered p lp s m lm a in
        let k = r.0 in
        let within = subset_elim n (H k) (H p) r.3 in
        let not_own : H k k ≡ false = is_false (H k k) (λ h. clash (reach_heard n H k k h) (not_true (reach n H k k) (all_elim n (λ p. not (reach n H p p)) free k r.1))) in
        let fewer : count n (H k) < count n (H p) = count_less n (H k) (H p) k r.1 within not_own r.2 in
        within q lq (go k r.4 (λ f e. held c k m q (omega arith) r.1 f lm lq e b))
      where
        go : (k : ℕ) → (k ≡ m) ⊎ ((S k ≡ true) × (H k m ≡ true)) → (S k ≡ true → H k m ≡ true → H k q ≡ true) → H k q ≡ true
        go k (inl e) less = rw e b
        go k (inr e) less = less e.0 e.1

    -- and so everyone before its place
    all_held : {q p : ℕ} → Before H q p → p < n → S p ≡ true → q < n → H p q ≡ true
    all_held (heard e) lp s lq = e
    all_held (through {q = q} {m = m} {p = p} e b) lp s lq =
        let lm : m < n = rows_on m q e in
        held (suc (count n (H p))) p m q (omega arith) lp s lm lq (all_held b lp s lm) e

  -- the two ends of the loop: a row fails, or none is left
  module _ (left : PlaceSet) (t : Turns n S (λ p. AllCovered n H S p) left) where
    pub duty_open : (p : ℕ) → has left p ≡ true → subset n (reach n H p) (H p) ≡ false → false ≡ all n (λ p. not (S p) || subset n (reach n H p) (H p))
    duty_open p l e = let k = t.on p l in sym (all_not n (λ p. not (S p) || subset n (reach n H p) (H p)) p k.0 (rw (k.1, e)))

    pub duty_met_lem : n ≤ 128 → ((p q : ℕ) → H p q ≡ true → p < n) → all n (λ p. not (reach n H p p)) ≡ true → ((k : ℕ) → k < 128 → has left k ≡ false)
        → true ≡ all n (λ p. not (S p) || subset n (reach n H p) (H p))
    duty_met_lem small rows_on free none =
        let covered = turns_end n S (λ p. AllCovered n H S p) left t small none in
        sym (all_intro n (λ p. not (S p) || subset n (reach n H p) (H p)) (λ p l. implies_intro (S p) (subset n (reach n H p) (H p)) (λ s.
        subset_intro n (reach n H p) (H p) (λ q lq e. all_held rows_on free covered (reach_sound n H p q e) l s lq))))
