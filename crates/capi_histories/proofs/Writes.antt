-- Writing a record from the caller's memory: one law for each way in which the code returns. Assumes nothing.
use Rattle.refusals.specs.declared.Refusal.{Refusal}
use Rattle.refusals.specs.declared.Refusal.TheVariants as R
use Rattle.std.specs.Prelude.{Option, Some, None, Result, Ok, Err}
use mathlib.Core.Path.{◌≡◌, subst}
use mathlib.Core.Bool.{true, false}
use mathlib.Core.List.{List}
use Prim.Native.Nat.{ℕ, ◌≤◌, ◌<◌}
use lib.ListN.{length, take}
use Rattle.sets.specs.PlaceSets.{has}
use Rattle.sets.specs.declared.PlaceSet.{PlaceSet}
use Rattle.histories.specs.declared.Kind.{Kind}
use Rattle.answers.specs.Views.{size, kind_in, recorded_in}
use Rattle.layouts.specs.Records.{written}
use Rattle.calls.specs.declared.Recovery.{Recovery}
use Rattle.calls.specs.Promises.{size_of, written_of}
use Rattle.calls.proofs.Writes.{Leaves, write_12, write_14, write_back}
use Rattle.boundary.specs.declared.Head.{Head}
use Rattle.boundary.specs.Recoveries.{recovery_in}
use Rattle.boundary.proofs.Calls.{Says, parts_of, held}

-- ---- the record of a returned place

module _ (head : List ℕ) (h : Head) (says : Says head h) (serials rows : List ℕ) (p : ℕ) (out : List ℕ) (at : ℕ) where
  -- the answer and the buffer, whatever the second serials are
  abbrev pub Backs : Result ℕ Refusal → List ℕ → Type 0
  Backs a after =
      ((seconds : List ℕ) → a ≡ (written_of (recovery_in head serials seconds rows) p out at).answer)
      × ((seconds : List ℕ) → after ≡ (written_of (recovery_in head serials seconds rows) p out at).buffer)

  backs : (a : Result ℕ Refusal) (after : List ℕ) → ((seconds : List ℕ) → Leaves (parts_of h serials seconds rows) p out at a after) → Backs a after
  backs a after l = (λ s. (in_memory s).0, λ s. (in_memory s).1)
    where
      in_memory : (seconds : List ℕ) → Leaves (recovery_in head serials seconds rows) p out at a after
      in_memory seconds = subst (λ (r : Recovery). Leaves r p out at a after) (held head h says serials seconds rows) (l seconds)

  pub back_12 : size h.count ≤ p → Backs (Err R.OffRoster) out
  unfolding size_of
  back_12 l = backs (Err R.OffRoster) out (λ s. write_12 (parts_of h serials s rows) p out at l)

  module _ (l : p < size h.count) where
    pub back_14 : has h.returned p ≡ false → Backs (Err R.NotAllowed) out
    unfolding size_of
    back_14 e = backs (Err R.NotAllowed) out (λ s. write_14 (parts_of h serials s rows) p out at l e)

    pub back_written : has h.returned p ≡ true → (n : ℕ) → n ≡ size h.count → n ≡ length (take n serials)
        → (row : PlaceSet) → has row ≡ recorded_in h.count (has h.returned) rows p
        → (k : Kind) → k ≡ kind_in (has h.full) p → (a : Result ℕ Refusal) (after : List ℕ)
        → (a ≡ (written k p (take n serials) (has row) out at).answer) × (after ≡ (written k p (take n serials) (has row) out at).buffer)
        → Backs a after
    unfolding size_of
    back_written b n is all row e k f a after w = backs a after (λ s. write_back (parts_of h serials s rows) p out at l b n is all row e k f a after w)
