-- `answers::reached_until` meets its contract. Assumes nothing.
use Rattle.answers.proofs.Walks.{Seeking, reached_left, reached_goes, reached_ends, sought_starts, sought_holds, sought_lacks, lacks_less}
use mathlib.Core.Path.{sym, ◌∙◌}
use native.Mathlib.Omega.{arith}
use Rattle.sets.specs.PlaceSets.{has}
use Rattle.sets.proofs.Laws.{lowest_found, lowest_nothing, without_count}
use Rattle.answers.specs.Views.{size}
use Rattle.answers.proofs.Views.{cut}
use borrow.Author.Rules.{rules}
use Rattle.chains.proofs.reached_until.Given as goal

abbrev pub invariant-loop-all : goal.invariant-loop-all
invariant-loop-all l = Seeking (size l.count) (cut l.all l.initial.untaken l.rows) l.initial.held l.initial.lacking l.held l.untaken l.lacking

abbrev pub decreases-loop-all : goal.decreases-loop-all
decreases-loop-all l = Rattle.sets.specs.Sets.count 128 (has l.untaken)
