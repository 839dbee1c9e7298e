-- A new record passes the test for 11 just where a history fits it and the records accepted before; and it fails it just where they make
-- a circle, or some returned full row lacks someone before it. Assumes nothing.
use mathlib.Core.Path.{◌≡◌, refl, sym, ap, ◌∙◌, fun_ext}
use mathlib.Core.Bool.{Bool, true, false, not, cond, ◌&&◌, ◌||◌, or-false}
use mathlib.Core.Logic.{◌⊎◌, inl, inr, ◌↔◌}
use Prim.Native.Nat.{ℕ, ◌<◌}
use lib.Dec.{eqb}
use borrow.Author.Tests.{eqb-true, ne_eqb}
use Rattle.sets.specs.Sets.{union, any, all, subset}
use Rattle.sets.proofs.Booleans.{clash, is_false, both_ways, or_cases, and_intro, and_left, and_right, or_left, or_right, not_true, not_intro, implies_elim, implies_intro, eqb_self}
use Rattle.sets.proofs.Tests.{any_elim, any_intro, all_elim, all_intro, all_fails, subset_elim, subset_intro, subset_fails}
use Rattle.histories.specs.declared.Kind.{Kind}
use Rattle.histories.specs.declared.Kind.TheVariants.{Full}
use Rattle.histories.specs.Histories.{Row, History, Before, heard, through, Accepted, lay, Fits}
use Rattle.histories.specs.Refusals.{Contradicts}
use Rattle.histories.specs.Rule.{recorded, mourned, before, is_full, full_back, agrees, accepts}
use Rattle.histories.proofs.Closure.{before_trans, before_mono, reach_complete}
use Rattle.histories.proofs.Exact.{recorded_returned, recorded_fits_if, recorded_fits, full_kind, full_back_elim, full_back_intro, before_out}

-- ---- the recorded rows with the new record

-- a row with q in it: the new one, or one that was there
abbrev pub Laid : Accepted → ℕ → Row → ℕ → ℕ → Type 0
Laid A p M r q = ((r ≡ p) × (M q ≡ true)) ⊎ (recorded A r q ≡ true)

pub laid_cases : (A : Accepted) (p : ℕ) (k : Kind) (M : Row) (r q : ℕ) → recorded (lay A p k M) r q ≡ true → Laid A p M r q
unfolding recorded
laid_cases A p k M r q e = go (eqb r p) refl e
  where
    go : (t : Bool) → eqb r p ≡ t → (A.returned r || t) && cond t M (A.row r) q ≡ true → Laid A p M r q
    go true h x = inl (eqb-true r p h, and_right (A.returned r || true) (M q) x)
    go false h x = inr (rw (or-false (A.returned r)) at x)

pub laid_new : (A : Accepted) (p : ℕ) (k : Kind) (M : Row) (q : ℕ) → M q ≡ true → recorded (lay A p k M) p q ≡ true
unfolding recorded
laid_new A p k M q e = rw (eqb_self p) (and_intro (or_right (A.returned p) refl) e)

pub laid_old : (A : Accepted) (p : ℕ) (k : Kind) (M : Row) → A.returned p ≡ false → (r q : ℕ) → recorded A r q ≡ true → recorded (lay A p k M) r q ≡ true
unfolding recorded
laid_old A p k M a r q e =
    let b = and_left (A.returned r) (A.row r q) e in
    rw (ne_eqb r p (λ h. clash b (rw h a))) (and_intro (or_left false b) (and_right (A.returned r) (A.row r q) e))

-- row by row: the new one is M, and every other is as it was
pub laid_recorded : (A : Accepted) (p : ℕ) (k : Kind) (M : Row) (r : ℕ) → recorded (lay A p k M) r ≡ cond (eqb r p) M (recorded A r)
unfolding recorded
laid_recorded A p k M r = fun_ext (λ q. go q (eqb r p))
  where
    go : (q : ℕ) (t : Bool) → (A.returned r || t) && cond t M (A.row r) q ≡ cond t M (λ q. A.returned r && A.row r q) q
    go q true = ap (λ (b : Bool). b && M q) (or_right (A.returned r) refl)
    go q false = ap (λ (b : Bool). b && A.row r q) (or-false (A.returned r))

-- the mourned places, with those that the new record names
pub laid_mourned : (n : ℕ) (A : Accepted) (p : ℕ) (k : Kind) (M : Row) → A.returned p ≡ false → p < n → mourned n (lay A p k M) ≡ union (mourned n A) M
unfolding mourned
laid_mourned n A p k M absent on = fun_ext (λ q. both_ways (any n (λ r. recorded (lay A p k M) r q)) (any n (λ r. recorded A r q) || M q) (to q) (λ e. from q (or_cases (any n (λ r. recorded A r q)) (M q) e)))
  where
    to : (q : ℕ) → any n (λ r. recorded (lay A p k M) r q) ≡ true → any n (λ r. recorded A r q) || M q ≡ true
    to q e = go (laid_cases A p k M x.0 q x.2)
      where
        x : (r : ℕ) × (r < n) × (recorded (lay A p k M) r q ≡ true)
        x = any_elim n (λ r. recorded (lay A p k M) r q) e

        go : Laid A p M x.0 q → any n (λ r. recorded A r q) || M q ≡ true
        go (inl y) = or_right (any n (λ r. recorded A r q)) y.1
        go (inr y) = or_left (M q) (any_intro n (λ r. recorded A r q) x.0 x.1 y)

    from : (q : ℕ) → (any n (λ r. recorded A r q) ≡ true) ⊎ (M q ≡ true) → any n (λ r. recorded (lay A p k M) r q) ≡ true
    from q (inl e) =
        let x = any_elim n (λ r. recorded A r q) e in
        any_intro n (λ r. recorded (lay A p k M) r q) x.0 x.1 (laid_old A p k M absent x.0 q x.2)
    from q (inr e) = any_intro n (λ r. recorded (lay A p k M) r q) p on (laid_new A p k M q e)

implies_fails : (a b : Bool) → not a || b ≡ false → (a ≡ true) × (b ≡ false)
implies_fails true b e = (refl, e)
implies_fails false b e = clash refl e

-- ---- the kinds with the new record

pub laid_kind : (A : Accepted) (p : ℕ) (k : Kind) (M : Row) → (lay A p k M).kind p ≡ k
laid_kind A p k M = ap (λ (t : Bool). cond t k (A.kind p)) (eqb_self p)

pub laid_back : (A : Accepted) (p : ℕ) (k : Kind) (M : Row) → (lay A p k M).returned p ≡ true
laid_back A p k M = or_right (A.returned p) (eqb_self p)

-- a returned full place: the new one, or one that was there
pub laid_full_cases : (A : Accepted) (p : ℕ) (k : Kind) (M : Row) (f : ℕ) → (lay A p k M).returned f ≡ true → (lay A p k M).kind f ≡ Full
    → ((f ≡ p) × (k ≡ Full)) ⊎ (full_back A f ≡ true)
laid_full_cases A p k M f b e = go (eqb f p) refl b e
  where
    go : (t : Bool) → eqb f p ≡ t → A.returned f || t ≡ true → cond t k (A.kind f) ≡ Full → ((f ≡ p) × (k ≡ Full)) ⊎ (full_back A f ≡ true)
    go true h x y = inl (eqb-true f p h, y)
    go false h x y = inr (full_back_intro A f (sym (or-false (A.returned f)) ∙ x) y)

pub laid_full_old : (A : Accepted) (p : ℕ) (k : Kind) (M : Row) → A.returned p ≡ false → (f : ℕ) → full_back A f ≡ true
    → ((lay A p k M).returned f ≡ true) × ((lay A p k M).kind f ≡ Full)
laid_full_old A p k M absent f e =
    let x = full_back_elim A f e in
    (or_left (eqb f p) x.0, ap (λ (t : Bool). cond t k (A.kind f)) (ne_eqb f p (λ h. clash x.0 (rw h absent))) ∙ x.1)

-- ---- the chains with the new record

module _ {n : ℕ} {A : Accepted} {H : History} (f : Fits n A H) (p : ℕ) (k : Kind) (M : Row) (absent : A.returned p ≡ false) (on : p < n)
    (m_on : (q : ℕ) → M q ≡ true → q < n) where
  abbrev R : History
  R = recorded (lay A p k M)

  laid_inside : (r q : ℕ) → R r q ≡ true → (r < n) × (q < n)
  laid_inside r q e = go (laid_cases A p k M r q e)
    where
      go : Laid A p M r q → (r < n) × (q < n)
      go (inl (rp, x)) = (rw rp on, m_on q x)
      go (inr x) = (recorded_fits f).history.inside r q x

  -- q is before x by rows that were there, or by way of p
  abbrev Chain : ℕ → ℕ → Type 0
  Chain q x = Before (recorded A) q x ⊎ (Before R q p × ((x ≡ p) ⊎ Before (recorded A) p x))

  laid_chain : {q x : ℕ} → Before R q x → Chain q x
  laid_chain (heard {q = q} {p = x} e) = go (laid_cases A p k M x q e)
    where
      go : Laid A p M x q → Chain q x
      go (inl (xp, y)) = inr (heard (laid_new A p k M q y), inl xp)
      go (inr y) = inl (heard y)
  laid_chain (through {q = q} {m = m} {p = x} e b) = go (laid_cases A p k M m q e) (laid_chain b)
    where
      from_p : m ≡ p → Chain m x → (x ≡ p) ⊎ Before (recorded A) p x
      from_p mp (inl w) = inr (rw mp at w)
      from_p mp (inr w) = w.1

      go : Laid A p M m q → Chain m x → Chain q x
      go (inl (mp, y)) w = inr (heard (laid_new A p k M q y), from_p mp w)
      go (inr y) (inl w) = inl (through y w)
      go (inr y) (inr (w, z)) = inr (through e w, z)

  -- those before p, once its record is there
  abbrev E : Row
  E = before n (lay A p k M) p

  pub laid_in_lem : {q x : ℕ} → Before R q x → before n (lay A p k M) x q ≡ true
  unfolding before
  laid_in_lem w = reach_complete n R (λ r q e. (laid_inside r q e).0) w

  old_before : {q x : ℕ} → Before (recorded A) q x → Before R q x
  old_before = before_mono (laid_old A p k M absent)

  -- ---- the test, in its parts

  record Passes : Type 0 where
    self : E p ≡ false
    own : k ≡ Full → (q : ℕ) → E q ≡ true → M q ≡ true
    others : (m : ℕ) → full_back A m ≡ true → recorded A m p ≡ true → (q : ℕ) → E q ≡ true → recorded A m q ≡ true

  e_on : (q : ℕ) → E q ≡ true → q < n
  e_on q e = go (before_out n (lay A p k M) p q e)
    where
      go : {q x : ℕ} → Before R q x → q < n
      go (heard {q = q} {p = x} y) = (laid_inside x q y).1
      go (through {q = q} {m = m} y w) = (laid_inside m q y).1

  passes_elim : accepts n A p k M ≡ true → Passes
  unfolding accepts agrees is_full
  passes_elim e = record {
    self = not_true (E p) (and_left (not (E p)) second two);
    own = λ h q x. subset_elim n E M (implies_elim (is_full k) (subset n E M) (and_right (not (E p)) second two) (ap is_full h)) q (e_on q x) x;
    others = λ m b r q x.
        let each = all_elim n (agrees n A p E) (and_right (not (E p) && second) (all n (agrees n A p E)) e) m ((recorded_fits f).history.inside m p r).0 in
        subset_elim n E (recorded A m) (implies_elim (full_back A m && recorded A m p) (subset n E (recorded A m)) each (and_intro b r)) q (e_on q x) x;
  }
    where
      second : Bool
      second = not (is_full k) || subset n E M

      two : not (E p) && second ≡ true
      two = and_left (not (E p) && second) (all n (agrees n A p E)) e

  passes_intro : Passes → accepts n A p k M ≡ true
  unfolding accepts agrees
  passes_intro s =
      and_intro (and_intro (not_intro s.self) (implies_intro (is_full k) (subset n E M) (λ h. subset_intro n E M (λ q _. s.own (full_kind k h) q))))
      (all_intro n (agrees n A p E) (λ m _. implies_intro (full_back A m && recorded A m p) (subset n E (recorded A m)) (λ h.
      subset_intro n E (recorded A m) (λ q _. s.others m (and_left (full_back A m) (recorded A m p) h) (and_right (full_back A m) (recorded A m p) h) q))))

  passes_fits : Passes → Fits n (lay A p k M) R
  passes_fits s = recorded_fits_if (record { inside = laid_inside; acyclic = λ x w. around x (laid_chain w) }) duty
    where
      free : Before R p p → ⊥
      free w = clash (laid_in_lem w) s.self

      around : (x : ℕ) → Chain x x → ⊥
      around x (inl w) = (recorded_fits f).history.acyclic x w
      around x (inr (w, inl z)) = free (rw z at w)
      around x (inr (w, inr z)) = free (before_trans (old_before z) w)

      duty : (r : ℕ) → (lay A p k M).returned r ≡ true → (lay A p k M).kind r ≡ Full → (q : ℕ) → Before R q r → R r q ≡ true
      duty r b e q w = go (laid_full_cases A p k M r b e)
        where
          old : full_back A r ≡ true → Chain q r → R r q ≡ true
          old x (inl y) = let z = full_back_elim A r x in laid_old A p k M absent r q ((recorded_fits f).duty r z.0 z.1 q y)
          old x (inr (y, inl rp)) = clash (full_back_elim A r x).0 (rw rp absent)
          old x (inr (y, inr z)) =
              let t = full_back_elim A r x in
              laid_old A p k M absent r q (s.others r x ((recorded_fits f).duty r t.0 t.1 p z) q (laid_in_lem y))

          go : ((r ≡ p) × (k ≡ Full)) ⊎ (full_back A r ≡ true) → R r q ≡ true
          go (inl (rp, kf)) = rw rp (laid_new A p k M q (s.own kf q (laid_in_lem (rw rp at w))))
          go (inr x) = old x (laid_chain w)

  at_p : (q : ℕ) → R p q ≡ true → M q ≡ true
  at_p q e = go (laid_cases A p k M p q e)
    where
      go : Laid A p M p q → M q ≡ true
      go (inl (_, x)) = x
      go (inr x) = clash (recorded_returned A p q x) absent

  at_other : (r q : ℕ) → A.returned r ≡ true → R r q ≡ true → recorded A r q ≡ true
  at_other r q b e = go (laid_cases A p k M r q e)
    where
      go : Laid A p M r q → recorded A r q ≡ true
      go (inl (rp, _)) = clash b (rw rp absent)
      go (inr x) = x

  fits_passes : (G : History) → Fits n (lay A p k M) G → Passes
  fits_passes G g = record {
    self = is_false (E p) (λ e. s.history.acyclic p (before_out n (lay A p k M) p p e));
    own = λ h q e. at_p q (s.duty p (laid_back A p k M) (laid_kind A p k M ∙ h) q (before_out n (lay A p k M) p q e));
    others = λ m b r q e.
        let x = laid_full_old A p k M absent m b in
        at_other m q (full_back_elim A m b).0 (s.duty m x.0 x.1 q (before_trans (before_out n (lay A p k M) p q e) (heard (laid_old A p k M absent m p r))));
  }
    where
      s : Fits n (lay A p k M) R
      s = recorded_fits g

  -- ---- the theorems

  -- the record is sound, its place has not returned, and some history fits without it
  pub accepts_iff : (accepts n A p k M ≡ true) ↔ ((G : History) × Fits n (lay A p k M) G)
  accepts_iff = (λ e. (R, passes_fits (passes_elim e)), λ g. passes_intro (fits_passes g.0 g.1))

  lacking : (r q : ℕ) → (lay A p k M).returned r ≡ true → (lay A p k M).kind r ≡ Full → Before R q r → (R r q ≡ true → ⊥) → Contradicts (lay A p k M)
  unfolding recorded
  lacking r q b e w lack = inr (record { place = r; missing = q; back = b; full = e; earlier = w; lacks = is_false ((lay A p k M).row r q) (λ x. lack (and_intro b x)) })

  fails : accepts n A p k M ≡ false → Contradicts (lay A p k M)
  unfolding accepts agrees
  fails e = first (E p) refl
    where
      -- some returned full row that names p lacks one before p
      third : all n (agrees n A p E) ≡ false → Contradicts (lay A p k M)
      third h =
          let x = all_fails n (agrees n A p E) h in
          let m = x.0 in
          let y = implies_fails (full_back A m && recorded A m p) (subset n E (recorded A m)) x.2 in
          let z = subset_fails n E (recorded A m) y.1 in
          let b = and_left (full_back A m) (recorded A m p) y.0 in
          let l = laid_full_old A p k M absent m b in
          lacking m z.0 l.0 l.1
          (before_trans (before_out n (lay A p k M) p z.0 z.2) (heard (laid_old A p k M absent m p (and_right (full_back A m) (recorded A m p) y.0))))
          (λ t. clash (at_other m z.0 (full_back_elim A m b).0 t) z.3)

      -- the new record is full and lacks one before p
      second : E p ≡ false → (t : Bool) → not (is_full k) || subset n E M ≡ t → Contradicts (lay A p k M)
      second x true y = third (sym (rw (x, y)) ∙ e)
      second x false y =
          let h = implies_fails (is_full k) (subset n E M) y in
          let z = subset_fails n E M h.1 in
          lacking p z.0 (laid_back A p k M) (laid_kind A p k M ∙ full_kind k h.0) (before_out n (lay A p k M) p z.0 z.2)
          (λ t. clash (at_p z.0 t) z.3)

      first : (t : Bool) → E p ≡ t → Contradicts (lay A p k M)
      first true x = inl (p, before_out n (lay A p k M) p p x)
      first false x = second x (not (is_full k) || subset n E M) refl

  contradicted : Fits n (lay A p k M) R → Contradicts (lay A p k M) → ⊥
  contradicted s (inl c) = s.history.acyclic c.0 c.1
  contradicted s (inr c) = clash (sym (s.recorded c.place c.back c.missing) ∙ s.duty c.place c.back c.full c.missing c.earlier) c.lacks

  -- 11: a circle, or a returned full row that lacks someone before it
  pub refused_iff : (accepts n A p k M ≡ false) ↔ Contradicts (lay A p k M)
  refused_iff = (fails, λ c. is_false (accepts n A p k M) (λ e. contradicted (passes_fits (passes_elim e)) c))
