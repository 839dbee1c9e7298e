-- `undecided::free_among` meets its contract. Assumes nothing.
use mathlib.Core.Path.{◌≡◌}
use Rattle.undecided.proofs.OpenPlaces.{sorting_starts, sorting_goes, sorting_ends}
use Rattle.undecided.proofs.free_among.Goals as goal

pub loop-p-init : goal.loop-p-init
loop-p-init c =
    let all : c.args.asked ≡ c.into_iter-p-iterator.result.left = cc in
    rw (← all) (sorting_starts _ _ _ _ _ c.empty-known.ensures)

pub returns : goal.returns
returns c = sorting_ends _ _ _ _ _ _ _ c.loop-p.invariant (λ k _. c.in-None.ensures.steps.0 k)

pub loop-p-preserved : goal.loop-p-preserved
loop-p-preserved c =
    sorting_goes _ _ _ _ _ _ _ _ c.loop-p.invariant _ c.in-Some.ensures.steps.0 _ c.recorded-row.ensures _ c.known_with-walked.ensures.holds_value _ c.is_empty-alone.ensures _ c.all_before-is_free.ensures
    _ _ _ c.unless-free.ensures c.known_with-walked.ensures.seen_value c.in-Some.ensures.steps.2
