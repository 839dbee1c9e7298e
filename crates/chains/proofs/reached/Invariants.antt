-- `answers::reached` meets its contract. Assumes nothing.
use Rattle.answers.proofs.Walks.{reached_starts, reached_left, reached_goes, reached_ends, Reaching}
use mathlib.Core.Path.{sym, ◌∙◌}
use native.Mathlib.Omega.{arith}
use Rattle.sets.specs.PlaceSets.{has}
use Rattle.sets.proofs.Laws.{lowest_found, lowest_nothing, without_count}
use Rattle.answers.specs.Views.{size}
use Rattle.answers.proofs.Views.{cut}
use borrow.Author.Rules.{rules}
use Rattle.chains.proofs.reached.Given as goal

abbrev pub invariant-loop-p : goal.invariant-loop-p
invariant-loop-p l = Reaching (size l.count) (cut l.all l.initial.waiting l.rows) l.initial.seen l.seen l.waiting

abbrev pub decreases-loop-p : goal.decreases-loop-p
decreases-loop-p l = Rattle.sets.specs.Sets.count 128 (has l.waiting)
