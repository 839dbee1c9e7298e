-- What more records change: those who block then blocked before, and whoever is back does not; an empty record, which is never refused,
-- takes just its place off them. Assumes nothing.
use mathlib.Core.Path.{◌≡◌, refl, sym, ap, ap₂, ◌∙◌, fun_ext}
use mathlib.Core.Bool.{Bool, true, false, not, cond, ◌&&◌, ◌||◌, or-false}
use Prim.Native.Nat.{ℕ, ◌<◌}
use lib.Dec.{eqb}
use borrow.Author.Tests.{eqb-true, ne_eqb}
use Rattle.sets.specs.Sets.{nothing, below, only, union, difference, with, without}
use Rattle.sets.proofs.Booleans.{clash, is_false, both_ways, minus_elim, minus_intro}
use Rattle.histories.specs.declared.Kind.{Kind}
use Rattle.histories.specs.Histories.{Row, History, Before, heard, through, Accepted, lay, Fits}
use Rattle.histories.specs.Rule.{recorded, mourned, reach, before, is_full, before_full, blockers}
use Rattle.histories.proofs.Exact.{recorded_returned, recorded_fits}
use Rattle.histories.proofs.Accepts.{laid_recorded, laid_mourned, laid_back}
use Rattle.histories.proofs.Fewer.{Within, within_lay, fits_fewer, fits_lay}
use Rattle.histories.proofs.Kept.{before_full_lay}
use Rattle.answers.specs.Fetches.{MayHaveHeard, blocking}
use Rattle.answers.proofs.Fetches.{blocking_elim, blocking_intro, blocking_iff}

-- ---- more records

-- whoever may have heard an unmourned place when more is known might have before
heard_before : {n : ℕ} {A B : Accepted} {b : ℕ} → Within A B → MayHaveHeard n B b → MayHaveHeard n A b
heard_before w m = record {
  history = m.history;
  fits = fits_fewer w m.fits;
  place = m.place;
  unnamed = λ r e. ap (λ (R : Row). R m.place) (sym (w.row r e)) ∙ m.unnamed r (w.returned r e);
  heard = m.heard;
}

pub fewer_block : {n : ℕ} {A B : Accepted} {G : History} → Within A B → Fits n B G → (b : ℕ) → blocking n B b ≡ true → blocking n A b ≡ true
fewer_block w g b e = (blocking_iff (fits_fewer w g) b).1 (heard_before w ((blocking_iff g b).0 e))

-- whoever is back blocks nobody: its row is known, and names no unmourned place
pub back_blocks_none : {n : ℕ} {A : Accepted} {H : History} → Fits n A H → (b : ℕ) → A.returned b ≡ true → blocking n A b ≡ false
back_blocks_none {n} {A} f b r =
    is_false (blocking n A b) (λ e. let m = (blocking_iff f b).0 e in clash (sym (m.fits.recorded b r m.place) ∙ m.heard) (m.unnamed b r))

-- ---- an empty record of a place that is not back

module _ (A : Accepted) (p : ℕ) (k : Kind) (absent : A.returned p ≡ false) where
  same_rows : recorded (lay A p k nothing) ≡ recorded A
  same_rows = fun_ext (λ r. laid_recorded A p k nothing r ∙ go r (eqb r p) refl)
    where
      none : (q : ℕ) → false ≡ recorded A p q
      none q = sym (is_false (recorded A p q) (λ e. clash (recorded_returned A p q e) absent))

      go : (r : ℕ) (t : Bool) → eqb r p ≡ t → cond t nothing (recorded A r) ≡ recorded A r
      go r true e = fun_ext none ∙ ap (recorded A) (sym (eqb-true r p e))
      go r false e = refl

  -- nobody is before one whose row is empty
  none_before : {q : ℕ} → Before (recorded A) q p → ⊥
  none_before (heard {q = q} e) = clash (recorded_returned A p q e) absent
  none_before (through e b) = none_before b

  -- it fits with the others
  pub empty_fits : {n : ℕ} {H : History} → Fits n A H → Fits n (lay A p k nothing) (recorded A)
  empty_fits f =
      fits_lay p k nothing (recorded_fits f) (fun_ext (λ q. is_false (recorded A p q) (λ e. clash (recorded_returned A p q e) absent))) (λ _ q b. absurd (none_before b))

  module _ {n : ℕ} {H : History} (f : Fits n A H) (on : p < n) where
    same_mourned : mourned n (lay A p k nothing) ≡ mourned n A
    same_mourned = laid_mourned n A p k nothing absent on ∙ fun_ext (λ q. or-false (mourned n A q))

    same_before : (i : ℕ) → before n (lay A p k nothing) i ≡ before n A i
    unfolding before
    same_before i = ap (λ (R : History). reach n R i) same_rows

    same_full : before_full n (lay A p k nothing) ≡ before_full n A
    same_full = before_full_lay A p k nothing absent (empty_fits f) ∙ go (is_full k)
      where
        go : (t : Bool) → cond t (union (before_full n A) nothing) (before_full n A) ≡ before_full n A
        go true = fun_ext (λ q. or-false (before_full n A q))
        go false = refl

    one_less : (i : ℕ) → blockers n (lay A p k nothing) i ≡ without p (blockers n A i)
    unfolding blockers
    one_less i =
        ap₂ (λ (S T : Row). difference (difference (difference (difference (below n) (only i)) (with p A.returned)) S) T) (same_before i) same_full
        ∙ fun_ext (λ b. go (difference (below n) (only i) b) (A.returned b) (eqb b p) (before n A i b) (before_full n A b))
      where
        go : (a r e x y : Bool) → ((a && not (r || e)) && not x) && not y ≡ (((a && not r) && not x) && not y) && not e
        go false r e x y = refl
        go true true e x y = refl
        go true false true x y = sym (off ((true && not x) && not y))
          where
            off : (b : Bool) → b && false ≡ false
            off true = refl
            off false = refl
        go true false false x y = sym (on-true ((true && not x) && not y))
          where
            on-true : (b : Bool) → b && true ≡ b
            on-true true = refl
            on-true false = refl

    pub empty_takes_off : blocking n (lay A p k nothing) ≡ without p (blocking n A)
    empty_takes_off = fun_ext (λ b. both_ways (blocking n (lay A p k nothing) b) (without p (blocking n A) b) (into b) (back b))
      where
        -- the place itself is back
        other : (b : ℕ) → blocking n (lay A p k nothing) b ≡ true → b ≡ p → ⊥
        other b e h = clash e (back_blocks_none (empty_fits f) b (rw h (laid_back A p k nothing)))

        into : (b : ℕ) → blocking n (lay A p k nothing) b ≡ true → without p (blocking n A) b ≡ true
        into b e = minus_intro (fewer_block (within_lay A p k nothing absent) (empty_fits f) b e) (ne_eqb b p (other b e))

        back : (b : ℕ) → without p (blocking n A) b ≡ true → blocking n (lay A p k nothing) b ≡ true
        back b e =
            let x = minus_elim (blocking n A b) (eqb b p) e in
            let w = blocking_elim n A b x.0 in
            let i = w.0 in
            blocking_intro n (lay A p k nothing) b i w.1 (ap (λ (S : Row). S i) same_mourned ∙ w.2) (ap (λ (S : Row). S b) (one_less i) ∙ minus_intro w.3 x.1)
