-- What writing a record of a day gives, one law for each way in which the code returns. Assumes nothing.
use Rattle.refusals.specs.declared.Refusal.{Refusal}
use Rattle.refusals.specs.declared.Refusal.TheVariants as R
use Rattle.std.specs.Prelude.{Result, Err}
use mathlib.Core.Path.{◌≡◌, refl, ap, ◌∙◌}
use mathlib.Core.Bool.{true, false}
use mathlib.Core.List.{List}
use Prim.Native.Nat.{ℕ, ◌<◌, ◌≤◌}
use lib.ListN.{length, take}
use borrow.Author.Tests.{lt-ltb, le-ltb, le-leb}
use Rattle.sets.specs.Sets.{Places, below, intersection}
use Rattle.sets.specs.PlaceSets.{has, kept}
use Rattle.sets.specs.declared.PlaceSet.{PlaceSet}
use Rattle.rows.specs.Rows.{row_at, rows_of}
use Rattle.rows.proofs.Laws.{has_row}
use Rattle.layouts.specs.Records.{Written, unwritten, written}
use Rattle.answers.specs.Views.{size}
use Rattle.answers.proofs.Views.{roster_is_lem}
use Rattle.executions.specs.declared.Day.{Day}
use Rattle.executions.specs.Promises.{size_of, roster_of, execution_of, record_of, written_of}

-- a row as far as the roster goes
pub heard_is : (w : List ℕ) (count p : ℕ) (all row s : PlaceSet) → has all ≡ kept (below count) → row ≡ row_at w p → has s ≡ intersection (has all) (has row)
    → has s ≡ intersection (below (size count)) (rows_of w p)
heard_is w count p all row s a r e =
    e ∙ ap (λ (S : Places). intersection S (has row)) (a ∙ roster_is_lem count) ∙ ap (intersection (below (size count))) (ap has r ∙ has_row w p)

-- an answer and a buffer that are those of a call
abbrev Writes : Day → ℕ → List ℕ → ℕ → Result ℕ Refusal → List ℕ → Type 0
Writes d p out at a b = (a ≡ (written_of d p out at).answer) × (b ≡ (written_of d p out at).buffer)

module _ (d : Day) (p : ℕ) (out : List ℕ) (at n : ℕ) (is : n ≡ size d.count) where
  pub write_off : n ≤ p → Writes d p out at (Err R.OffRoster) out
  unfolding written_of unwritten size_of
  write_off h = rw (← is, le-ltb p n h) (refl, refl)

  pub write_runs : p < n → has d.stopped p ≡ false → Writes d p out at (Err R.NotAllowed) out
  unfolding written_of unwritten size_of execution_of
  write_runs h r = rw (← is, lt-ltb p n h, r) (refl, refl)

  -- the record of one that has stopped is that of its kind, place, roster and row
  module _ (h : p < n) (s : has d.stopped p ≡ true) (few : n ≤ 128) (long : length (take n d.serials) ≡ n) where
    as_written : (M : Places) → M ≡ (execution_of d).row p → written d.kind p (take n d.serials) M out at ≡ written_of d p out at
    unfolding written written_of record_of roster_of size_of execution_of
    as_written M m = rw (m, long, lt-ltb p n h, le-leb n 128 few, ← is, lt-ltb p n h, s)

    pub write_done : (M : Places) (a : Result ℕ Refusal) (b : List ℕ) → M ≡ intersection (below (size d.count)) (rows_of d.rows p)
        → (a ≡ (written d.kind p (take n d.serials) M out at).answer) × (b ≡ (written d.kind p (take n d.serials) M out at).buffer) → Writes d p out at a b
    unfolding execution_of size_of
    write_done M a b m (e, f) = (e ∙ ap (λ (r : Written). r.answer) (as_written M m), f ∙ ap (λ (r : Written). r.buffer) (as_written M m))
