-- `capi::gm_find` meets its contract. Assumes nothing.
use borrow.Author.Rules.{rules}
use Rattle.boundary.proofs.Calls.{found_is}
use Rattle.capi.proofs.gm_find.Goals as goal

pub returns : goal.returns
returns c = λ rows.
    found_is _ _ (c.read_head-h.ensures.count_value, (c.read_head-h.ensures.returned_value, (c.read_head-h.ensures.full_value, (c.read_head-h.ensures.mourned_value, c.read_head-h.ensures.earlier_value)))) _ _ rows _ _ _ c.found_now.ensures c.find-found.ensures
