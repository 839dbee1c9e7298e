-- What the inner functions of a day are held to, by the parts that each looks at. Assumes nothing.
use Rattle.std.specs.Prelude.{ℕ}
use Rattle.sets.specs.Sets.{Places, nothing, below, intersection}
use Rattle.executions.specs.Executions.{Execution}

-- an execution on the places below n by who has stopped, for tests that look at nothing else
unfoldable pub stops_of : ℕ → Places → Execution
stops_of n S = record { stopped = intersection (below n) S; row = λ p. nothing }
