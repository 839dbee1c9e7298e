-- `answers::reached` meets its contract. Assumes nothing.
use Rattle.answers.proofs.Walks.{reached_starts, reached_left, reached_goes, reached_ends, Reaching}
use mathlib.Core.Path.{sym, ◌∙◌}
use native.Mathlib.Omega.{arith}
use Rattle.sets.specs.PlaceSets.{has}
use Rattle.sets.proofs.Laws.{lowest_found, lowest_nothing, without_count}
use Rattle.answers.specs.Views.{size}
use Rattle.answers.proofs.Views.{cut}
use borrow.Author.Rules.{rules}
use Rattle.chains.proofs.reached.Goals as goal

pub loop-p-init : goal.loop-p-init
loop-p-init c = reached_starts _ _ _ _ _ c.roster-all.ensures c.intersection-waiting.ensures _

pub returns-in_default : goal.returns-in_default
returns-in_default c =
    reached_ends _ _ _ _ _ c.roster-all.ensures c.intersection-waiting.ensures _ _ _ c.loop-p.invariant _ c.intersection-next.ensures (lowest_nothing 128 _ (sym c.lowest-found.ensures ∙ c.in_default.is))

pub loop-p-smaller : goal.loop-p-smaller
loop-p-smaller c =
    let low = lowest_found 128 _ _ (sym c.lowest-found.ensures ∙ c.in-Some.is) in
    let m = reached_left _ _ _ _ _ c.roster-all.ensures c.intersection-waiting.ensures _ _ _ c.loop-p.invariant _ c.intersection-next.ensures _ low.0 in
    omega (arith, without_count _ _ _ m c.without-waiting.ensures)

pub loop-p-preserved : goal.loop-p-preserved
loop-p-preserved c =
    let low = lowest_found 128 _ _ (sym c.lowest-found.ensures ∙ c.in-Some.is) in
    reached_goes _ _ _ _ _ c.roster-all.ensures c.intersection-waiting.ensures _ _ _ c.loop-p.invariant _ c.intersection-next.ensures _ low.0 _ _ _ c.row_in-row.ensures c.union-seen.ensures c.without-waiting.ensures
