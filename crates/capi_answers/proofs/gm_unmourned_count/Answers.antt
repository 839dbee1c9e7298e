-- `capi_answers::gm_unmourned_count` meets its contract. Assumes nothing.
use borrow.Author.Rules.{rules}
use Rattle.boundary.proofs.Calls.{count_is}
use Rattle.capi_answers.proofs.gm_unmourned_count.Goals as goal

pub returns : goal.returns
returns c = λ serials seconds rows.
    count_is _ _ (c.read_head-h.ensures.count_value, (c.read_head-h.ensures.returned_value, (c.read_head-h.ensures.full_value, (c.read_head-h.ensures.mourned_value, c.read_head-h.ensures.earlier_value)))) _ _ _ _ c.unmourned-all.ensures _ c.count.ensures
