-- `answers::reached_until` meets its contract. Assumes nothing.
use Rattle.answers.proofs.Walks.{Seeking, reached_left, reached_goes, reached_ends, sought_starts, sought_holds, sought_lacks, lacks_less}
use mathlib.Core.Path.{sym, ◌∙◌}
use native.Mathlib.Omega.{arith}
use Rattle.sets.specs.PlaceSets.{has}
use Rattle.sets.proofs.Laws.{lowest_found, lowest_nothing, without_count}
use Rattle.answers.specs.Views.{size}
use Rattle.answers.proofs.Views.{cut}
use borrow.Author.Rules.{rules}
use Rattle.chains.proofs.reached_until.Goals as goal

pub loop-all-init : goal.loop-all-init
loop-all-init c = sought_starts _ _ _ _ _ c.roster-all.ensures c.intersection-untaken.ensures _ _ _ c.difference-lacking.ensures

pub returns-then-is_empty : goal.returns-then-is_empty
returns-then-is_empty c =
    sought_holds _ _ _ _ _ c.roster-all.ensures c.intersection-untaken.ensures _ _ _ c.difference-lacking.ensures _ _ _ c.loop-all.invariant _ c.is_empty.ensures c.if-is_empty.true

pub returns-in_default : goal.returns-in_default
returns-in_default c =
    let ea = c.roster-all.ensures in
    let eb = c.intersection-untaken.ensures in
    sought_lacks _ _ _ _ _ ea eb _ _ _ c.difference-lacking.ensures _ _ _ c.loop-all.invariant _ c.is_empty.ensures c.if-is_empty.false
    (reached_ends _ _ _ _ _ ea eb _ _ _ c.loop-all.invariant.reaching _ c.intersection-next.ensures (lowest_nothing 128 _ (sym c.lowest-found.ensures ∙ c.in_default.is)))

pub loop-all-smaller : goal.loop-all-smaller
loop-all-smaller c =
    let low = lowest_found 128 _ _ (sym c.lowest-found.ensures ∙ c.in-Some.is) in
    let m = reached_left _ _ _ _ _ c.roster-all.ensures c.intersection-untaken.ensures _ _ _ c.loop-all.invariant.reaching _ c.intersection-next.ensures _ low.0 in
    omega (arith, without_count _ _ _ m c.without-untaken.ensures)

pub loop-all-preserved : goal.loop-all-preserved
loop-all-preserved c =
    let low = lowest_found 128 _ _ (sym c.lowest-found.ensures ∙ c.in-Some.is) in
    record {
      reaching = reached_goes _ _ _ _ _ c.roster-all.ensures c.intersection-untaken.ensures _ _ _ c.loop-all.invariant.reaching _ c.intersection-next.ensures _ low.0 _ _ _ c.row_in-row.ensures c.union-held.ensures c.without-untaken.ensures;
      lacks = lacks_less _ _ _ _ _ _ c.loop-all.invariant.lacks c.union-held.ensures c.difference-lacking-in-loop-all.ensures;
    }
