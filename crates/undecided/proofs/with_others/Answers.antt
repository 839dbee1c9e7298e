-- `answers::with_others` meets its contract. Assumes nothing.
use mathlib.Core.Path.{sym, ◌∙◌}
use Rattle.sets.proofs.Laws.{lowest_found, lowest_nothing}
use Rattle.undecided.proofs.OpenPlaces.{others_nobody, others_lone, others_more}
use Rattle.undecided.proofs.with_others.Goals as goal

pub returns-in_default : goal.returns-in_default
returns-in_default c = others_nobody _ _ (lowest_nothing 128 _ (sym c.lowest-found.ensures ∙ c.in_default.is)) _ c.empty.ensures

pub returns-then-is_empty : goal.returns-then-is_empty
returns-then-is_empty c =
    let low = lowest_found 128 _ _ (sym c.lowest-found.ensures ∙ c.in-Some.is) in
    others_lone _ _ _ low.0 _ c.without-others.ensures _ c.is_empty.ensures c.if-is_empty.true _ c.without.ensures

pub returns : goal.returns
returns c =
    let low = lowest_found 128 _ _ (sym c.lowest-found.ensures ∙ c.in-Some.is) in
    others_more _ _ _ low.0 _ c.without-others.ensures _ c.is_empty.ensures c.if-is_empty.false
