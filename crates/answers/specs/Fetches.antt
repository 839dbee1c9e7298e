-- How many places a crew has to fetch at most, and which next: document 02, [6], of a roster of length n with the accepted records A.
-- Assumes nothing.
use Rattle.std.specs.Prelude.{◌≡◌, true, false, cond, Option, Some, None, ◌&&◌, ℕ}
use Rattle.sets.specs.Sets.{below, difference, any, count, lowest}
use Rattle.histories.specs.Histories.{Row, History, Accepted, Fits}
use Rattle.histories.specs.Rule.{unmourned, blockers}
use Rattle.histories.specs.Kept.{blockers_by}
use Rattle.answers.specs.declared.Fetching.{Fetching}

-- ---- what it means

-- in some history that fits, b heard a place that no accepted record names
pub record MayHaveHeard (n : ℕ) (A : Accepted) (b : ℕ) : Type 0 where
  pub history : History
  pub fits : Fits n A history
  pub place : ℕ
  pub unnamed : (p : ℕ) → A.returned p ≡ true → A.row p place ≡ false
  pub heard : history b place ≡ true

-- ---- what is computed

-- the places that block some unmourned place
unfoldable pub blocking : ℕ → Accepted → Row
blocking n A b = any n (λ i. unmourned n A i && blockers n A i b)

-- the same for one who keeps the mourned places M, and the places F before some returned full one
unfoldable pub blocking_by : ℕ → Accepted → Row → Row → Row
blocking_by n A M F b = any n (λ i. difference (below n) M i && blockers_by n A M F i b)

-- what is told where S are the places that block: how many they are, and the lowest of them; where there is none, nothing: it is settled
unfoldable pub told : ℕ → Row → Option Fetching
told n S = cond (any n S) (Some (record { number = count n S; next = record { 0 = lowest n S } })) None

unfoldable pub fetching_by : ℕ → Accepted → Row → Row → Option Fetching
fetching_by n A M F = told n (blocking_by n A M F)
