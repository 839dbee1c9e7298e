-- What is told in each case of the table of document 01's P1 to P12 and of both kinds, computed. Assumes nothing.
use Rattle.std.specs.Prelude.{Option, Some, None, Result, Ok, Err}
use mathlib.Core.Path.{◌≡◌, refl}
use mathlib.Core.List.{List, [], ◌∷◌, map}
use Prim.Native.Nat.{ℕ}
use Rattle.sets.specs.Sets.{any, all, subset, same, count, lowest}
use Rattle.histories.specs.Histories.{none}
use Rattle.histories.specs.Rule.{recorded, mourned, reach, before, is_full, full_back, before_full, blockers, unmourned, agrees, accepts}
use Rattle.histories.specs.Cases.{Case, case, members, then, accepted_after, cases}
use Rattle.answers.specs.declared.Fetching.{Fetching}
use Rattle.answers.specs.Fetches.{blocking, told}

-- what is told once the records of a case were offered
unfoldable pub told_in : Case → Option Fetching
told_in (case n os answers s) = told n (blocking n (accepted_after n none os))

-- so many fetches, and this member next
unfoldable pub fetches : ℕ → ℕ → Option Fetching
fetches k p = Some (record { number = k; next = record { 0 = p } })

unfoldable pub expected : List (Option Fetching)
expected =
    -- P1 to P6
    None ∷ fetches 2 0 ∷ fetches 2 1 ∷ None ∷ None ∷ None
    -- P7 in both kinds, P8 and P9
    ∷ fetches 1 2 ∷ fetches 1 2 ∷ None ∷ fetches 4 2
    -- P10, P11 twice, P12 in both kinds
    ∷ None ∷ fetches 1 2 ∷ None ∷ fetches 2 0 ∷ fetches 2 0
    -- both kinds
    ∷ fetches 1 2 ∷ fetches 2 0 ∷ None ∷ None ∷ fetches 2 1 ∷ None ∷ []

pub told_cases : map told_in cases ≡ expected
unfolding told_in fetches expected told blocking cases members accepted_after then accepts agrees blockers unmourned before_full full_back is_full before reach mourned recorded any all subset same count lowest
told_cases = refl
