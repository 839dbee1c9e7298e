-- The rule for one who keeps two sets beside the records as they come in and need not collect them: the mourned places M, and the
-- places F that are before some returned full one. With just these sets it is the rule. Assumes nothing.
use Rattle.std.specs.Prelude.{Bool, cond, ◌&&◌, ℕ, ltb}
use Rattle.sets.specs.Sets.{below, only, union, intersection, difference, any}
use Rattle.histories.specs.Histories.{Row, Accepted}
use Rattle.histories.specs.Rule.{before, full_back, Answer, answer_with, open_answer, none_open}

-- the absent places that cannot have heard i: those of F, and those before i, which F has already where i is back and full.
-- Those before i are mourned, so only places of M are looked for among them
unfoldable pub ruled_out_by : ℕ → Accepted → Row → Row → ℕ → Row
ruled_out_by n A M F i = cond (full_back A i) F (union F (intersection M (before n A i)))

unfoldable pub blockers_by : ℕ → Accepted → Row → Row → ℕ → Row
blockers_by n A M F i = difference (difference (difference (below n) (only i)) A.returned) (ruled_out_by n A M F i)

unfoldable pub answer_by : ℕ → Accepted → Row → Row → ℕ → Answer
answer_by n A M F i = answer_with (M i) (any n (blockers_by n A M F i))

unfoldable pub settled_by : ℕ → Accepted → Row → Row → Bool
settled_by n A M F = none_open n (answer_by n A M F)

-- the open places of the roster
unfoldable pub open_by : ℕ → Accepted → Row → Row → Row
open_by n A M F i = ltb i n && open_answer (answer_by n A M F i)
