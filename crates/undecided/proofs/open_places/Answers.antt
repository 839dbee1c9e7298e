-- `undecided::open_places` meets its contract. Assumes nothing.
use Rattle.undecided.proofs.OpenPlaces.{open_sure, open_walked}
use Rattle.undecided.proofs.open_places.Goals as goal

pub returns-then-not-is_empty : goal.returns-then-not-is_empty
returns-then-not-is_empty c =
    open_sure _ _ _ _ _ _ _ _ _ _ _ c.unmourned-asked.ensures c.unheard-missing.ensures c.with_others-open.ensures c.difference-sure.ensures c.is_empty.ensures (c.if-not-is_empty.true)

pub returns : goal.returns
returns c =
    open_walked _ _ _ _ _ _ _ _ _ _ _ c.unmourned-asked.ensures c.unheard-missing.ensures c.with_others-open.ensures c.difference-sure.ensures c.is_empty.ensures (c.if-not-is_empty.false) _ _ _ _
    c.intersection-back.ensures c.difference-short.ensures c.free_among-free.ensures c.difference.ensures
