-- The test of a lent history is true just where the history fits. Assumes nothing.
use mathlib.Core.Path.{◌≡◌, sym, ◌∙◌}
use mathlib.Core.Bool.{true, false, not, ◌&&◌, ◌||◌}
use mathlib.Core.Logic.{◌↔◌}
use Prim.Native.Nat.{ℕ, ◌<◌}
use native.Mathlib.Decide.{dec_lt}
use Rattle.sets.specs.Sets.{all, subset, same}
use Rattle.sets.proofs.Booleans.{clash, is_false, and_intro, and_left, and_right, not_true, not_intro, implies_elim, implies_intro}
use Rattle.sets.proofs.Tests.{all_elim, all_intro, subset_elim, subset_intro, same_elim, same_intro}
use Rattle.histories.specs.declared.Kind.TheVariants.{Full}
use Rattle.histories.specs.Histories.{Row, History, Before, heard, through, Accepted, Fits}
use Rattle.histories.specs.Rule.{reach, full_back, duty_met, fits_test}
use Rattle.histories.proofs.Closure.{reach_sound, reach_complete}
use Rattle.histories.proofs.Exact.{full_back_elim, full_back_intro}

-- no place off the roster stands in it
abbrev Inside : ℕ → History → Type 0
Inside n H = (p q : ℕ) → H p q ≡ true → (p < n) × (q < n)

-- so what is before a place is on the roster
before_on : {n : ℕ} {H : History} → Inside n H → {q p : ℕ} → Before H q p → q < n
before_on s (heard {q = q} {p = p} x) = (s p q x).1
before_on s (through {q = q} {m = m} x b) = (s m q x).1

off_false : {n : ℕ} {H : History} → Inside n H → (p q : ℕ) → ¬ ((p < n) × (q < n)) → H p q ≡ false
off_false {H = H} s p q z = is_false (H p q) (λ e. z (s p q e))

-- the row of each returned full place holds everyone before it
abbrev Duty : Accepted → History → Type 0
Duty A H = (p : ℕ) → A.returned p ≡ true → A.kind p ≡ Full → (q : ℕ) → Before H q p → H p q ≡ true

duty_elim : (n : ℕ) (A : Accepted) (H : History) → Inside n H → all n (duty_met n A H) ≡ true → Duty A H
unfolding duty_met
duty_elim n A H s e p b k q w =
    let each = implies_elim (full_back A p) (subset n (reach n H p) (H p)) (all_elim n (duty_met n A H) e p (row_on w)) (full_back_intro A p b k) in
    subset_elim n (reach n H p) (H p) each q (before_on s w) (reach_complete n H (λ p q x. (s p q x).0) w)
  where
    row_on : {q p : ℕ} → Before H q p → p < n
    row_on (heard {q = q} {p = p} x) = (s p q x).0
    row_on (through x w) = row_on w

duty_intro : (n : ℕ) (A : Accepted) (H : History) → Duty A H → all n (duty_met n A H) ≡ true
unfolding duty_met
duty_intro n A H d = all_intro n (duty_met n A H) (λ p _. implies_intro (full_back A p) (subset n (reach n H p) (H p)) (λ b.
    let x = full_back_elim A p b in
    subset_intro n (reach n H p) (H p) (λ q _ r. d p x.0 x.1 q (reach_sound n H p q r))))

-- some history fits, and the lent one has no place off the roster
pub fits_iff : (n : ℕ) (A : Accepted) (H₀ : History) → Fits n A H₀ → (H : History) → ((p q : ℕ) → H p q ≡ true → (p < n) × (q < n))
    → (fits_test n A H ≡ true) ↔ Fits n A H
unfolding fits_test
fits_iff n A H₀ f H s = (to, from)
  where
    free : Row
    free p = not (reach n H p p)

    agrees : Row
    agrees p = not (A.returned p) || same n (H p) (A.row p)

    to : all n free && all n (duty_met n A H) && all n agrees ≡ true → Fits n A H
    to e =
        record {
          history = record {
            inside = s;
            acyclic = λ p b. clash (reach_complete n H (λ p q x. (s p q x).0) b) (not_true (reach n H p p) (all_elim n free (and_left (all n free) (all n (duty_met n A H)) two) p (before_on s b)));
          };
          recorded = λ p b q. row p b q (dec_lt p n) (dec_lt q n);
          duty = duty_elim n A H s (and_right (all n free) (all n (duty_met n A H)) two);
        }
      where
        two : all n free && all n (duty_met n A H) ≡ true
        two = and_left (all n free && all n (duty_met n A H)) (all n agrees) e

        -- where no place can stand the two rows are equal
        away : (p q : ℕ) → A.returned p ≡ true → ¬ ((p < n) × (q < n)) → H p q ≡ A.row p q
        away p q b z = off_false s p q z ∙ sym (off_false f.history.inside p q z) ∙ f.recorded p b q

        row : (p : ℕ) → A.returned p ≡ true → (q : ℕ) → Dec (p < n) → Dec (q < n) → H p q ≡ A.row p q
        row p b q (yes x) (yes y) =
            same_elim n (H p) (A.row p) (implies_elim (A.returned p) (same n (H p) (A.row p)) (all_elim n agrees (and_right (all n free && all n (duty_met n A H)) (all n agrees) e) p x) b) q y
        row p b q (yes x) (no y) = away p q b (λ w. y w.1)
        row p b q (no x) d = away p q b (λ w. x w.0)

    from : Fits n A H → all n free && all n (duty_met n A H) && all n agrees ≡ true
    from g =
        and_intro (and_intro (all_intro n free (λ p _. not_intro (is_false (reach n H p p) (λ x. g.history.acyclic p (reach_sound n H p p x))))) (duty_intro n A H g.duty))
        (all_intro n agrees (λ p _. implies_intro (A.returned p) (same n (H p) (A.row p)) (λ b. same_intro n (H p) (A.row p) (λ q _. g.recorded p b q))))
