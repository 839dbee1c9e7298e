-- A recovery in the caller's memory, by what its nine words say: that it is what its parts say, and what is told of it. Assumes nothing.
use Rattle.std.specs.Prelude.{Option, Some, None, Result, Ok, Err}
use mathlib.Core.Path.{◌≡◌, ap, ◌∙◌}
use mathlib.Core.List.{List}
use Prim.Native.Nat.{ℕ}
use lib.ListN.{get_or}
use Rattle.sets.specs.PlaceSets.{has}
use Rattle.sets.specs.declared.PlaceSet.{PlaceSet}
use Rattle.answers.specs.Views.{size, accepted_in}
use Rattle.answers.specs.declared.Fetching.{Fetching}
use Rattle.answers.specs.Fetches.{fetching_by}
use Rattle.refusals.specs.declared.Refusal.{Refusal}
use Rattle.games.specs.Games.{played}
use Rattle.calls.specs.declared.Recovery.{Recovery}
use Rattle.calls.specs.Promises.{size_of, accepted_of, blocking_of, fetching_of}
use Rattle.boundary.specs.Words.{set_at}
use Rattle.boundary.specs.Recoveries.{recovery_in}
use Rattle.boundary.specs.declared.FetchNow.{FetchNow}
use Rattle.boundary.specs.declared.GameNow.{GameNow}
use Rattle.boundary.specs.Fetches.{fetch_of, game_of}

-- the recovery of some parts
abbrev pub parts_of : ℕ → PlaceSet → PlaceSet → PlaceSet → PlaceSet → List ℕ → List ℕ → List ℕ → Recovery
parts_of n b f m e serials seconds rows =
    record { count = n; serials = serials; seconds = seconds; returned = b; full = f; mourned = m; earlier = e; rows = rows }

module _ (head : List ℕ) (b f m e : PlaceSet) (back : b ≡ set_at head 1) (full : f ≡ set_at head 3) (mourned : m ≡ set_at head 5) (earlier : e ≡ set_at head 7) where
  -- of those that the nine words say it is the one in memory
  pub in_memory : (serials seconds rows : List ℕ) → parts_of (get_or head 0 0) b f m e serials seconds rows ≡ recovery_in head serials seconds rows
  unfolding recovery_in
  in_memory serials seconds rows = λ i. record {
    count = get_or head 0 0;
    serials = serials;
    seconds = seconds;
    returned = back i;
    full = full i;
    mourned = mourned i;
    earlier = earlier i;
    rows = rows;
  }

  -- what is told by these parts is told of it
  pub told_is : (rows : List ℕ) (t : Option Fetching) (x : FetchNow) → x ≡ fetch_of t
      → t ≡ fetching_by (size (get_or head 0 0)) (accepted_in (get_or head 0 0) (has b) (has f) rows) (has m) (has e)
      → (serials seconds : List ℕ) → x ≡ fetch_of (fetching_of (recovery_in head serials seconds rows))
  unfolding fetching_of blocking_of size_of accepted_of fetching_by
  told_is rows t x now is serials seconds = now ∙ ap fetch_of is ∙ ap (λ (r : Recovery). fetch_of (fetching_of r)) (in_memory serials seconds rows)

-- the game that is played out
pub game_is : (r s : Recovery) (g : Result ℕ Refusal) (x : GameNow) → r ≡ s → x ≡ game_of g → g ≡ played r → x ≡ game_of (played s)
game_is r s g x e now is = now ∙ ap game_of is ∙ ap (λ (r : Recovery). game_of (played r)) e
