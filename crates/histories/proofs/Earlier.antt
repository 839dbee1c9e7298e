-- In groups of one kind the answers, and taken or 11, are those of the earlier rule, and the earlier meaning says the same. Assumes nothing.
use mathlib.Core.Path.{◌≡◌, refl, sym, ap, ◌∙◌, fun_ext}
use mathlib.Core.Bool.{Bool, true, false, not, cond, ◌&&◌, ◌||◌, and-true}
use mathlib.Core.Logic.{◌⊎◌, inl, inr, ◌↔◌}
use Prim.Native.Nat.{ℕ, ◌<◌}
use native.Mathlib.Omega.{arith}
use Rattle.sets.specs.Sets.{below, only, difference, any, all, subset, lowest}
use lib.Dec.{eqb}
use Rattle.sets.proofs.Booleans.{clash, is_false, both_ways, or_cases, and_intro, and_left, and_right, not_true, not_intro, implies_elim, implies_intro}
use Rattle.sets.proofs.Tests.{all_elim, all_intro, subset_elim, subset_intro}
use Rattle.histories.specs.declared.Kind.{Kind}
use Rattle.histories.specs.declared.Kind.TheVariants.{Full, Short}
use Rattle.histories.specs.Histories.{Row, History, Before, heard, through, Accepted, lay, Fits, LastInAll, LastInNone, Disagree}
use Rattle.histories.specs.Earlier as earlier
use Rattle.histories.specs.Earlier.{OneKind}
use Rattle.histories.specs.Rule.{recorded, mourned, before, is_full, full_back, before_full, blockers, Answer, answer_with, answer, is_last, not_last, is_open, grown, second, agrees, accepts}
use Rattle.histories.proofs.Closure.{before_closed}
use Rattle.histories.proofs.Exact.{recorded_returned, recorded_fits_if, recorded_fits, mourned_elim, mourned_intro, full_back_elim, full_back_intro, before_out, before_full_in, before_full_out, Blocks, FromI, not_from_i, grown_cases, grown_old, grown_new, open_blocks, exact}
use Rattle.histories.proofs.Accepts.{Laid, laid_cases, laid_new, laid_old, accepts_iff}

-- ---- the meaning

never : {X : Type 0} → Short ≡ Full → X
never z = let w : ◌≡◌ {A = ℕ} 0 1 = cc in absurd (omega arith)

-- a history that fitted fits
pub still_fits : (k : Kind) {n : ℕ} {A : Accepted} {H : History} → OneKind k A → earlier.Fits k n A H → Fits n A H
still_fits k {H = H} one f = record {
  history = f.history.history;
  recorded = f.recorded;
  duty = λ p b full q w. before_closed (f.history.closed (sym (one p b) ∙ full)) w;
}

-- the recorded rows fitted, where any history fits
pub recorded_fitted : (k : Kind) {n : ℕ} {A : Accepted} {H : History} → OneKind k A → Fits n A H → earlier.Fits k n A (recorded A)
recorded_fitted k {n} {A} one f = record { history = record { history = s.history; closed = closed }; recorded = s.recorded }
  where
    s : Fits n A (recorded A)
    s = recorded_fits f

    closed : k ≡ Full → (p m q : ℕ) → recorded A p m ≡ true → recorded A m q ≡ true → recorded A p q ≡ true
    closed e p m q x y = let b = recorded_returned A p m x in s.duty p b (one p b ∙ e) q (through y (heard x))

-- records that some history fits are records that some history fitted
pub same_fits : (k : Kind) (n : ℕ) (A : Accepted) → OneKind k A → ((H : History) × Fits n A H) ↔ ((H : History) × earlier.Fits k n A H)
same_fits k n A one = (λ f. (recorded A, recorded_fitted k one f.1), λ f. (f.0, still_fits k one f.1))

-- where i is open the second shown history fitted too: nobody who is back and full has heard of b
second_fitted : (k : Kind) {n : ℕ} {A : Accepted} {H : History} → OneKind k A → Fits n A H → (i : ℕ) → i < n → answer n A i ≡ is_open → earlier.Fits k n A (second n A i)
unfolding answer answer_with second
second_fitted k {n} {A} one f i l e = record { history = record { history = g.history; closed = closed }; recorded = g.recorded }
  where
    g : Fits n A (second n A i)
    g = ((exact f i l).shown e).second_fits

    blocked : (m a : Bool) → answer_with m a ≡ is_open → a ≡ true
    blocked true a x = let w : ◌≡◌ {A = ℕ} 0 1 = cc in absurd (omega arith)
    blocked false true x = refl
    blocked false false x = let w : ◌≡◌ {A = ℕ} 0 1 = cc in absurd (omega arith)

    b : ℕ
    b = lowest n (blockers n A i)

    s : Blocks n A i b
    s = open_blocks n A i (blocked (mourned n A i) (any n (blockers n A i)) e)

    from_i : (m q : ℕ) → FromI A i m → recorded A m q ≡ true → FromI A i q
    from_i m q (inl h) x = inr (heard (rw h at x))
    from_i m q (inr w) x = inr (through x w)

    closed : k ≡ Full → (p m q : ℕ) → grown n A i b p m ≡ true → grown n A i b m q ≡ true → grown n A i b p q ≡ true
    closed h p m q x y = go (grown_cases n A i b p m x) (grown_cases n A i b m q y)
      where
        go : ((p ≡ b) × FromI A i m) ⊎ (recorded A p m ≡ true) → ((m ≡ b) × FromI A i q) ⊎ (recorded A m q ≡ true) → grown n A i b p q ≡ true
        go (inl (pb, u)) (inl (mb, v)) = absurd (not_from_i f i b s (rw mb at u))
        go (inl (pb, u)) (inr v) = rw pb (grown_new f i b q (from_i m q u v))
        go (inr u) (inl (mb, v)) =
            let r = recorded_returned A p m u in
            clash (before_full_in f p b (full_back_intro A p r (one p r ∙ h)) (heard (rw mb at u))) s.unknown
        go (inr u) (inr v) =
            let r = recorded_returned A p m u in
            grown_old n A i b s.absent p q ((recorded_fits f).duty p r (one p r ∙ h) q (through v (heard u)))

module _ (k : Kind) {n : ℕ} {A : Accepted} {H : History} (one : OneKind k A) (f : Fits n A H) (i : ℕ) (l : i < n) where
  pub same_last : LastInAll n A i ↔ earlier.LastInAll k n A i
  same_last = (λ a G g. a G (still_fits k one g), λ a. go a (answer n A i) refl)
    where
      go : earlier.LastInAll k n A i → (x : Answer) → answer n A i ≡ x → LastInAll n A i
      go a is_last e = (exact f i l).last_iff.0 e
      go a not_last e = absurd ((exact f i l).not_iff.0 e (recorded A) (recorded_fits f) (a (recorded A) (recorded_fitted k one f)))
      go a is_open e = absurd (((exact f i l).shown e).second_not (a (second n A i) (second_fitted k one f i l e)))

  pub same_not_last : LastInNone n A i ↔ earlier.LastInNone k n A i
  same_not_last = (λ a G g. a G (still_fits k one g), λ a. go a (answer n A i) refl)
    where
      go : earlier.LastInNone k n A i → (x : Answer) → answer n A i ≡ x → LastInNone n A i
      go a is_last e = absurd (a (recorded A) (recorded_fitted k one f) ((exact f i l).last_iff.0 e (recorded A) (recorded_fits f)))
      go a not_last e = (exact f i l).not_iff.0 e
      go a is_open e = absurd (a (recorded A) (recorded_fitted k one f) ((exact f i l).shown e).first_last)

  pub same_open : ((F : History) × (G : History) × Disagree n A i F G) ↔ ((F : History) × (G : History) × earlier.Disagree k n A i F G)
  same_open = (λ d. to ((exact f i l).open_iff.1 d), λ d. (d.0, d.1, again d.2))
    where
      to : answer n A i ≡ is_open → (F : History) × (G : History) × earlier.Disagree k n A i F G
      to e =
          let d = (exact f i l).shown e in (
            recorded A,
            second n A i,
            record {
              first_fits = recorded_fitted k one f;
              first_last = d.first_last;
              second_fits = second_fitted k one f i l e;
              second_not = d.second_not;
            },
          )

      again : {F G : History} → earlier.Disagree k n A i F G → Disagree n A i F G
      again d = record {
        first_fits = still_fits k one d.first_fits;
        first_last = d.first_last;
        second_fits = still_fits k one d.second_fits;
        second_not = d.second_not;
      }

-- ---- the rule

same_blockers : (k : Kind) {n : ℕ} {A : Accepted} {H : History} → OneKind k A → Fits n A H → (i : ℕ) → blockers n A i ≡ earlier.blockers k n A i
unfolding blockers earlier.blockers earlier.ruled_out
same_blockers Full {n} {A} one f i = fun_ext (λ q. drop (difference (difference (below n) (only i)) A.returned q) (before n A i q) (before_full n A q) (mourned n A q) (told q) (into q))
  where
    drop : (d x y z : Bool) → y ≡ z → (x ≡ true → y ≡ true) → d && not x && not y ≡ d && not z
    drop false x y z e h = refl
    drop true true y z e h = sym (ap not (sym e ∙ h refl))
    drop true false y z e h = ap not e

    full : (p : ℕ) → A.returned p ≡ true → full_back A p ≡ true
    full p b = full_back_intro A p b (one p b)

    back : {q p : ℕ} → Before (recorded A) q p → A.returned p ≡ true
    back (heard {q = q} {p = p} e) = recorded_returned A p q e
    back (through e w) = back w

    into : (q : ℕ) → before n A i q ≡ true → before_full n A q ≡ true
    into q e = let w = before_out n A i q e in before_full_in f i q (full i (back w)) w

    told : (q : ℕ) → before_full n A q ≡ mourned n A q
    told q = both_ways (before_full n A q) (mourned n A q) to from
      where
        to : before_full n A q ≡ true → mourned n A q ≡ true
        to e =
            let r = before_full_out n A q e in
            let b = full_back_elim A r.0 r.1 in
            mourned_intro f r.0 q ((recorded_fits f).duty r.0 b.0 b.1 q r.2)

        from : mourned n A q ≡ true → before_full n A q ≡ true
        from e = let r = mourned_elim n A q e in before_full_in f r.0 q (full r.0 (recorded_returned A r.0 q r.1)) (heard r.1)
same_blockers Short {n} {A} one f i = fun_ext (λ q. drop (difference (difference (below n) (only i)) A.returned q) (before n A i q) (before_full n A q) (is_false (before_full n A q) (nobody q)))
  where
    drop : (d x y : Bool) → y ≡ false → d && not x && not y ≡ d && not x
    drop d x true e = clash refl e
    drop d x false e = and-true (d && not x)

    nobody : (q : ℕ) → before_full n A q ≡ true → ⊥
    nobody q e =
        let r = before_full_out n A q e in
        let b = full_back_elim A r.0 r.1 in
        never (sym (one r.0 b.0) ∙ b.1)

pub same_answer : (k : Kind) {n : ℕ} {A : Accepted} {H : History} → OneKind k A → Fits n A H → (i : ℕ) → answer n A i ≡ earlier.answer k n A i
unfolding answer earlier.answer
same_answer k {n} {A} one f i = ap (λ (S : Row). answer_with (mourned n A i) (any n S)) (same_blockers k one f i)

-- ---- taken or 11

module _ {n : ℕ} {A : Accepted} {H : History} (f : Fits n A H) (p : ℕ) (M : Row) (absent : A.returned p ≡ false) (on : p < n) (m_on : (q : ℕ) → M q ≡ true → q < n) where
  -- the earlier test of a full record, in its parts: p is not in M, M holds the rows of its members, and a row that names p holds M
  record Passed : Type 0 where
    self : M p ≡ false
    low : (m q : ℕ) → M m ≡ true → recorded A m q ≡ true → M q ≡ true
    high : (r q : ℕ) → recorded A r p ≡ true → M q ≡ true → recorded A r q ≡ true

  passed_intro : Passed → earlier.accepts Full n A p M ≡ true
  unfolding earlier.accepts earlier.agrees
  passed_intro s = and_intro (not_intro s.self) (all_intro n (earlier.agrees n A p M) (λ m _. and_intro (low m) (high m)))
    where
      low : (m : ℕ) → not (M m) || subset n (recorded A m) M ≡ true
      low m = implies_intro (M m) (subset n (recorded A m) M) (λ x. subset_intro n (recorded A m) M (λ q _. s.low m q x))

      high : (m : ℕ) → not (recorded A m p) || subset n M (recorded A m) ≡ true
      high m = implies_intro (recorded A m p) (subset n M (recorded A m)) (λ x. subset_intro n M (recorded A m) (λ q _. s.high m q x))

  passed_elim : earlier.accepts Full n A p M ≡ true → Passed
  unfolding earlier.accepts earlier.agrees
  passed_elim e =
      record {
        self = not_true (M p) (and_left (not (M p)) (all n (earlier.agrees n A p M)) e);
        low = λ m q x y. subset_elim n (recorded A m) M (implies_elim (M m) (subset n (recorded A m) M) (and_left (low m) (high m) (both m (m_on m x))) x) q (inside m q y).1 y;
        high = λ r q x y. subset_elim n M (recorded A r) (implies_elim (recorded A r p) (subset n M (recorded A r)) (and_right (low r) (high r) (both r (inside r p x).0)) x) q (m_on q y) y;
      }
    where
      low : Row
      low m = not (M m) || subset n (recorded A m) M

      high : Row
      high m = not (recorded A m p) || subset n M (recorded A m)

      both : (m : ℕ) → m < n → low m && high m ≡ true
      both = all_elim n (earlier.agrees n A p M) (and_right (not (M p)) (all n (earlier.agrees n A p M)) e)

      inside : (r q : ℕ) → recorded A r q ≡ true → (r < n) × (q < n)
      inside = (recorded_fits f).history.inside

  module _ (one : OneKind Full A) where
    abbrev L : Accepted
    L = lay A p Full M

    -- the rows with the new one are closed, so nobody is before itself
    passed_fits : Passed → Fits n L (recorded L)
    passed_fits s = recorded_fits_if (record { inside = inside; acyclic = λ x w. irreflexive x (laid_cases A p Full M x x (before_closed closed w)) }) (λ r b e q w. before_closed closed w)
      where
        inside : (r q : ℕ) → recorded L r q ≡ true → (r < n) × (q < n)
        inside r q e = go (laid_cases A p Full M r q e)
          where
            go : Laid A p M r q → (r < n) × (q < n)
            go (inl (rp, x)) = (rw rp on, m_on q x)
            go (inr x) = (recorded_fits f).history.inside r q x

        old_closed : (x m q : ℕ) → recorded A x m ≡ true → recorded A m q ≡ true → recorded A x q ≡ true
        old_closed = (recorded_fitted Full one f).history.closed refl

        joined : (x m q : ℕ) → Laid A p M x m → Laid A p M m q → recorded L x q ≡ true
        joined x m q (inl (xp, xm)) (inl (mp, mq)) = clash (rw mp at xm) s.self
        joined x m q (inl (xp, xm)) (inr mq) = rw xp (laid_new A p Full M q (s.low m q xm mq))
        joined x m q (inr xm) (inl (mp, mq)) = laid_old A p Full M absent x q (s.high x q (rw mp at xm) mq)
        joined x m q (inr xm) (inr mq) = laid_old A p Full M absent x q (old_closed x m q xm mq)

        closed : (x m q : ℕ) → recorded L x m ≡ true → recorded L m q ≡ true → recorded L x q ≡ true
        closed x m q a b = joined x m q (laid_cases A p Full M x m a) (laid_cases A p Full M m q b)

        irreflexive : (x : ℕ) → Laid A p M x x → ⊥
        irreflexive x (inl (xp, xx)) = clash (rw xp at xx) s.self
        irreflexive x (inr xx) = (recorded_fits f).history.acyclic x (heard xx)

    laid_one : OneKind Full L
    laid_one r b = go (eqb r p) refl (or_cases (A.returned r) (eqb r p) b)
      where
        go : (t : Bool) → eqb r p ≡ t → (A.returned r ≡ true) ⊎ (eqb r p ≡ true) → cond t Full (A.kind r) ≡ Full
        go true h x = refl
        go false h (inl x) = one r x
        go false h (inr x) = clash x h

    fits_passed : {G : History} → Fits n L G → Passed
    fits_passed g = record {
      self = is_false (M p) (λ e. s.history.history.acyclic p (heard (new p e)));
      low = λ m q x y. at_p q (s.history.closed refl p m q (new m x) (old m q y));
      high = λ r q x y. at_other r q (recorded_returned A r p x) (s.history.closed refl r p q (old r p x) (new q y));
    }
      where
        s : earlier.Fits Full n L (recorded L)
        s = recorded_fitted Full laid_one g

        new : (q : ℕ) → M q ≡ true → recorded L p q ≡ true
        new = laid_new A p Full M

        old : (r q : ℕ) → recorded A r q ≡ true → recorded L r q ≡ true
        old = laid_old A p Full M absent

        at_p : (q : ℕ) → recorded L p q ≡ true → M q ≡ true
        at_p q e = go (laid_cases A p Full M p q e)
          where
            go : Laid A p M p q → M q ≡ true
            go (inl (_, x)) = x
            go (inr x) = clash (recorded_returned A p q x) absent

        at_other : (r q : ℕ) → A.returned r ≡ true → recorded L r q ≡ true → recorded A r q ≡ true
        at_other r q b e = go (laid_cases A p Full M r q e)
          where
            go : Laid A p M r q → recorded A r q ≡ true
            go (inl (rp, _)) = clash b (rw rp absent)
            go (inr x) = x

    same_accepts_full : accepts n A p Full M ≡ earlier.accepts Full n A p M
    same_accepts_full =
        both_ways (accepts n A p Full M) (earlier.accepts Full n A p M)
        (λ e. passed_intro (fits_passed ((accepts_iff f p Full M absent on m_on).0 e).1))
        (λ e. (accepts_iff f p Full M absent on m_on).1 (recorded L, passed_fits (passed_elim e)))

  same_accepts_short : OneKind Short A → accepts n A p Short M ≡ earlier.accepts Short n A p M
  unfolding accepts earlier.accepts agrees is_full
  same_accepts_short one = ap (λ (x : Bool). not (E p) && true && x) every ∙ and-true (not (E p) && true) ∙ and-true (not (E p))
    where
      E : Row
      E = before n (lay A p Short M) p

      nobody : (m : ℕ) → full_back A m ≡ true → ⊥
      nobody m e = let b = full_back_elim A m e in never (sym (one m b.0) ∙ b.1)

      every : all n (agrees n A p E) ≡ true
      every = all_intro n (agrees n A p E) (λ m _. implies_intro (full_back A m && recorded A m p) (subset n E (recorded A m)) (λ h. absurd (nobody m (and_left (full_back A m) (recorded A m p) h))))

-- the record is sound, its place has not returned, and some history fits without it
pub same_accepts : (k : Kind) {n : ℕ} {A : Accepted} {H : History} → OneKind k A → Fits n A H → (p : ℕ) (M : Row) → A.returned p ≡ false → p < n → ((q : ℕ) → M q ≡ true → q < n)
    → accepts n A p k M ≡ earlier.accepts k n A p M
same_accepts Full one f p M absent on m_on = same_accepts_full f p M absent on m_on one
same_accepts Short one f p M absent on m_on = same_accepts_short f p M absent on m_on one
