-- `capi::mark` meets its contract. Assumes nothing.
use borrow.Author.Rules.{rules}
use Rattle.capi.proofs.Offers.{keeps_full, keeps_short}
use Rattle.capi.proofs.mark.Goals as goal

pub returns-in-Full : goal.returns-in-Full
returns-in-Full c =
    keeps_full _ _ _ _ c.in-Full.is _ _ c.mark_full.ensures c.mark_back.ensures

pub returns-in-Short : goal.returns-in-Short
returns-in-Short c = keeps_short _ _ _ _ c.in-Short.is _ c.mark_back-in-Short.ensures
