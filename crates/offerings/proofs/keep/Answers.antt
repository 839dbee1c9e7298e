-- `offerings::keep` meets its contract. Assumes nothing.
use Rattle.calls.proofs.Gives.{keep_full, keep_short}
use Rattle.offerings.proofs.keep.Goals as goal

pub returns-in-Full : goal.returns-in-Full
returns-in-Full c = keep_full _ _ _ _ _ _ c.in-Full.is c.keep_full.ensures c.keep_row.ensures

pub returns-in-Short : goal.returns-in-Short
returns-in-Short c = keep_short _ _ _ _ _ c.in-Short.is c.keep_row-in-Short.ensures
