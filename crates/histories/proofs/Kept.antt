-- With the two sets kept, the rule of `Kept` is the rule; and how they grow with a record. Assumes nothing.
use mathlib.Core.Path.{◌≡◌, refl, sym, ap, ◌∙◌, fun_ext}
use mathlib.Core.Bool.{Bool, true, false, not, cond, ◌&&◌, ◌||◌, or-false}
use mathlib.Core.Logic.{◌⊎◌, inl, inr}
use Prim.Native.Nat.{ℕ}
use lib.Dec.{eqb}
use borrow.Author.Tests.{eqb-true}
use Rattle.sets.specs.Sets.{below, only, union, intersection, with, difference, any}
use Rattle.sets.proofs.Booleans.{clash, is_false, both_ways, and_intro, or_cases, or_left, or_right}
use Rattle.histories.specs.declared.Kind.{Kind}
use Rattle.histories.specs.declared.Kind.TheVariants.{Full}
use Rattle.histories.specs.Histories.{Row, History, Before, heard, through, Accepted, lay, Fits}
use Rattle.histories.specs.Rule.{recorded, mourned, before, is_full, full_back, before_full, blockers, answer_with, answer, none_open, settled}
use Rattle.histories.specs.Kept.{ruled_out_by, blockers_by, answer_by, settled_by}
use Rattle.histories.proofs.Exact.{recorded_returned, recorded_fits, mourned_intro, full_kind, full_back_elim, full_back_intro, before_out, before_full_in, before_full_out}
use Rattle.histories.proofs.Accepts.{Laid, laid_cases, laid_new, laid_old, laid_kind, laid_back, laid_full_cases, laid_full_old}
use Rattle.histories.proofs.Fewer.{within_lay, fits_fewer}

module _ {n : ℕ} {A : Accepted} {H : History} (f : Fits n A H) where
  -- what is before a place stands in a recorded row
  before_mourned : (i q : ℕ) → before n A i q ≡ true → mourned n A q ≡ true
  before_mourned i q e = named (before_out n A i q e)
    where
      named : {q p : ℕ} → Before (recorded A) q p → mourned n A q ≡ true
      named (heard {q = q} {p = p} e) = mourned_intro f p q e
      named (through {q = q} {m = m} e b) = mourned_intro f m q e

  pub blockers_kept : (i : ℕ) → blockers_by n A (mourned n A) (before_full n A) i ≡ blockers n A i
  unfolding blockers_by blockers ruled_out_by
  blockers_kept i = fun_ext (λ q. go q (full_back A i) refl)
    where
      D : Row
      D = difference (difference (below n) (only i)) A.returned

      -- what is before a returned full place is among those before all of them
      within : full_back A i ≡ true → (q : ℕ) → before_full n A q ≡ false → before n A i q ≡ false
      within b q z = is_false (before n A i q) (λ e. clash (before_full_in f i q b (before_out n A i q e)) z)

      one : (d x y : Bool) → (y ≡ false → x ≡ false) → d && not y ≡ d && not x && not y
      one false x y h = refl
      one true x true h = sym (both x)
        where
          both : (x : Bool) → not x && false ≡ false
          both true = refl
          both false = refl
      one true x false h = sym (ap (λ (b : Bool). not b && true) (h refl))

      two : (d x y m : Bool) → (x ≡ true → m ≡ true) → d && not (y || m && x) ≡ d && not x && not y
      two false x y m h = refl
      two true true true m h = refl
      two true true false m h = ap (λ (b : Bool). not (b && true)) (h refl)
      two true false true m h = refl
      two true false false true h = refl
      two true false false false h = refl

      go : (q : ℕ) (t : Bool) → full_back A i ≡ t
          → D q && not (cond t (before_full n A) (union (before_full n A) (intersection (mourned n A) (before n A i))) q) ≡ D q && not (before n A i q) && not (before_full n A q)
      go q true b = one (D q) (before n A i q) (before_full n A q) (within b q)
      go q false b = two (D q) (before n A i q) (before_full n A q) (mourned n A q) (before_mourned i q)

  pub answer_kept : (i : ℕ) → answer_by n A (mourned n A) (before_full n A) i ≡ answer n A i
  unfolding answer_by answer
  answer_kept i = ap (λ (S : Row). answer_with (mourned n A i) (any n S)) (blockers_kept i)

  pub settled_kept : settled_by n A (mourned n A) (before_full n A) ≡ settled n A
  unfolding settled_by settled
  settled_kept = ap (none_open n) (fun_ext answer_kept)

  -- where some history fits, those before a returned full place stand in its row
  before_full_row : (q : ℕ) → before_full n A q ≡ true → (p : ℕ) × (full_back A p ≡ true) × (recorded A p q ≡ true)
  before_full_row q e =
      let r = before_full_out n A q e in
      let p = r.0 in
      let b = full_back_elim A p r.1 in
      (p, r.1, (recorded_fits f).duty p b.0 b.1 q r.2)

-- a full record adds its place to those that are back and full; a short one adds nothing
pub full_lay : (A : Accepted) (p : ℕ) (k : Kind) (M : Row) → A.returned p ≡ false → full_back (lay A p k M) ≡ cond (is_full k) (with p (full_back A)) (full_back A)
unfolding full_back
full_lay A p k M absent = fun_ext (λ x. go x (eqb x p) refl (is_full k) refl)
  where
    go : (x : ℕ) (t : Bool) → eqb x p ≡ t → (u : Bool) → is_full k ≡ u
        → (A.returned x || t) && is_full (cond t k (A.kind x)) ≡ cond {A = Row} u (λ y. (A.returned y && is_full (A.kind y)) || eqb y p) (λ y. A.returned y && is_full (A.kind y)) x
    go x true e true f = rw (f, e) (and_intro (or_right (A.returned x) refl) refl ∙ sym (or_right (A.returned x && is_full (A.kind x)) refl))
    go x true e false f = rw f (off (A.returned x || true) ∙ sym (ap (λ (b : Bool). b && is_full (A.kind x)) (ap (λ (y : ℕ). A.returned y) (eqb-true x p e) ∙ absent)))
      where
        off : (b : Bool) → b && false ≡ false
        off true = refl
        off false = refl
    go x false e true f = rw (e, or-false (A.returned x), or-false (A.returned x && is_full (A.kind x)))
    go x false e false f = rw (or-false (A.returned x))

-- a full record that is taken adds its mourned set to the places before returned full ones; a short one adds nothing
pub before_full_lay : {n : ℕ} {G : History} (A : Accepted) (p : ℕ) (k : Kind) (M : Row) → A.returned p ≡ false → Fits n (lay A p k M) G
    → before_full n (lay A p k M) ≡ cond (is_full k) (union (before_full n A) M) (before_full n A)
unfolding is_full
before_full_lay {n} {G} A p k M absent g = fun_ext (λ q. at q (is_full k) refl)
  where
    L : Accepted
    L = lay A p k M

    f : Fits n A G
    f = fits_fewer (within_lay A p k M absent) g

    old : (q : ℕ) → before_full n A q ≡ true → before_full n L q ≡ true
    old q e =
        let r = before_full_row f q e in
        let b = laid_full_old A p k M absent r.0 r.1 in
        before_full_in g r.0 q (full_back_intro L r.0 b.0 b.1) (heard (laid_old A p k M absent r.0 q r.2))

    new : (q : ℕ) → k ≡ Full → M q ≡ true → before_full n L q ≡ true
    new q e m = before_full_in g p q (full_back_intro L p (laid_back A p k M) (laid_kind A p k M ∙ e)) (heard (laid_new A p k M q m))

    cases : (q : ℕ) → before_full n L q ≡ true → (before_full n A q ≡ true) ⊎ ((k ≡ Full) × (M q ≡ true))
    cases q e = go (laid_full_cases A p k M r b.0 b.1) (laid_cases A p k M r q x.2)
      where
        x : (p : ℕ) × (full_back L p ≡ true) × (recorded L p q ≡ true)
        x = before_full_row g q e

        r : ℕ
        r = x.0

        b : (L.returned r ≡ true) × (L.kind r ≡ Full)
        b = full_back_elim L r x.1

        go : ((r ≡ p) × (k ≡ Full)) ⊎ (full_back A r ≡ true) → Laid A p M r q → (before_full n A q ≡ true) ⊎ ((k ≡ Full) × (M q ≡ true))
        go (inl (rp, kf)) (inl (_, m)) = inr (kf, m)
        go (inl (rp, kf)) (inr y) = clash (recorded_returned A r q y) (rw rp absent)
        go (inr y) (inl (rp, m)) = clash (full_back_elim A r y).0 (rw rp absent)
        go (inr y) (inr z) = inl (before_full_in f r q y (heard z))

    at : (q : ℕ) (t : Bool) → is_full k ≡ t → before_full n L q ≡ cond t (union (before_full n A) M) (before_full n A) q
    at q true e = both_ways (before_full n L q) (before_full n A q || M q) (λ x. to (cases q x)) (λ x. from (or_cases (before_full n A q) (M q) x))
      where
        to : (before_full n A q ≡ true) ⊎ ((k ≡ Full) × (M q ≡ true)) → before_full n A q || M q ≡ true
        to (inl y) = or_left (M q) y
        to (inr (_, m)) = or_right (before_full n A q) m

        from : (before_full n A q ≡ true) ⊎ (M q ≡ true) → before_full n L q ≡ true
        from (inl y) = old q y
        from (inr m) = new q (full_kind k e) m
    at q false e = both_ways (before_full n L q) (before_full n A q) (λ x. to (cases q x)) (old q)
      where
        to : (before_full n A q ≡ true) ⊎ ((k ≡ Full) × (M q ≡ true)) → before_full n A q ≡ true
        to (inl y) = y
        to (inr (kf, _)) = clash (ap is_full kf) e
