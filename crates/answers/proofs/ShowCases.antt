-- What showing gives, case by case. Assumes nothing.
use Rattle.refusals.specs.declared.Refusal.{Refusal}
use Rattle.refusals.specs.declared.Refusal.TheVariants as R
use Rattle.std.specs.Prelude.{Result, Ok, Err}
use mathlib.Core.Path.{◌≡◌, ap, ap₂, ◌∙◌}
use mathlib.Core.Bool.{Bool, true, false, cond, ◌&&◌}
use mathlib.Core.Logic.{◌⊎◌, inl, inr}
use mathlib.Core.List.{List}
use Prim.Native.Nat.{ℕ, ◌*◌, ◌<◌, ◌≤◌}
use lib.ListN.{length}
use lib.Dec.{leb}
use borrow.Author.Tests.{lt-ltb, le-ltb, le-leb, lt-leb}
use Rattle.sets.specs.Sets.{with, lowest}
use Rattle.sets.proofs.Booleans.{clash, is_false, and_intro, and_right}
use Rattle.histories.specs.Histories.{Row, History, Accepted}
use Rattle.histories.specs.Rule.{Answer, is_last, not_last, is_open, before}
use Rattle.histories.specs.Kept.{blockers_by, answer_by}
use Rattle.rows.specs.Rows.{laid}
use Rattle.answers.specs.declared.Showing.TheVariants as S
use Rattle.answers.specs.Shows.{unshown, replaced, shown_open, shown_as, shown_in}

module _ (n : ℕ) (A : Accepted) (M F : Row) (H : History) (i : ℕ) (a b : List ℕ) where
  pub shown_off : n ≤ i → shown_in n A M F H i a b ≡ unshown (Err R.OffRoster) a b
  unfolding shown_in
  shown_off l = ap (λ (t : Bool). cond t (shown_as (answer_by n A M F i) n A M F H i a b) (unshown (Err R.OffRoster) a b)) (le-ltb i n l)

  shown_at_lem : (w : Answer) → i < n → answer_by n A M F i ≡ w → shown_in n A M F H i a b ≡ shown_as w n A M F H i a b
  unfolding shown_in
  shown_at_lem w l e = ap₂ (λ (t : Bool) (w : Answer). cond t (shown_as w n A M F H i a b) (unshown (Err R.OffRoster) a b)) (lt-ltb i n l) e

  pub shown_last : i < n → answer_by n A M F i ≡ is_last → shown_in n A M F H i a b ≡ unshown (Ok S.Decided) a b
  unfolding shown_as
  shown_last l e = shown_at_lem is_last l e

  pub shown_not : i < n → answer_by n A M F i ≡ not_last → shown_in n A M F H i a b ≡ unshown (Ok S.Decided) a b
  unfolding shown_as
  shown_not l e = shown_at_lem not_last l e

  module _ (l : i < n) (e : answer_by n A M F i ≡ is_open) where
    shown_open_lem : (t : Bool) → leb (16 * n) (length a) && leb (16 * n) (length b) ≡ t
        → shown_in n A M F H i a b ≡ cond t (record { answer = Ok S.Shown; first = laid n H a; second = laid n (replaced H (lowest n (blockers_by n A M F i)) (with i (before n A i))) b }) (unshown (Err R.TooShort) a b)
    unfolding shown_as shown_open
    shown_open_lem t h =
        shown_at_lem is_open l e
        ∙ ap (λ (t : Bool). cond t (record { answer = Ok S.Shown; first = laid n H a; second = laid n (replaced H (lowest n (blockers_by n A M F i)) (with i (before n A i))) b }) (unshown (Err R.TooShort) a b)) h

    pub shown_short : (length a < 16 * n) ⊎ (length b < 16 * n) → shown_in n A M F H i a b ≡ unshown (Err R.TooShort) a b
    shown_short s = shown_open_lem false (short s)
      where
        short : (length a < 16 * n) ⊎ (length b < 16 * n) → leb (16 * n) (length a) && leb (16 * n) (length b) ≡ false
        short (inl s) = ap (λ (t : Bool). t && leb (16 * n) (length b)) (lt-leb (16 * n) (length a) s)
        short (inr s) = is_false _ (λ t. clash (and_right (leb (16 * n) (length a)) (leb (16 * n) (length b)) t) (lt-leb (16 * n) (length b) s))

    pub shown_both : 16 * n ≤ length a → 16 * n ≤ length b
        → shown_in n A M F H i a b ≡ record { answer = Ok S.Shown; first = laid n H a; second = laid n (replaced H (lowest n (blockers_by n A M F i)) (with i (before n A i))) b }
    shown_both u v = shown_open_lem true (and_intro (le-leb (16 * n) (length a) u) (le-leb (16 * n) (length b) v))
