-- `capi_answers::gm_list` meets its contract. Assumes nothing.
use borrow.Author.Rules.{rules}
use Rattle.boundary.proofs.Calls.{lists_are}
use Rattle.capi_answers.proofs.gm_list.Goals as goal

pub returns : goal.returns
returns c = record { by_index = (lists_are _ _ (c.read_head-h.ensures.count_value, (c.read_head-h.ensures.returned_value, (c.read_head-h.ensures.full_value, (c.read_head-h.ensures.mourned_value, c.read_head-h.ensures.earlier_value)))) _ _ _ _ _ c.listing_code.ensures (c.list-answer.ensures.value, c.list-answer.ensures.out_after)).0; by_index_2 = (lists_are _ _ (c.read_head-h.ensures.count_value, (c.read_head-h.ensures.returned_value, (c.read_head-h.ensures.full_value, (c.read_head-h.ensures.mourned_value, c.read_head-h.ensures.earlier_value)))) _ _ _ _ _ c.listing_code.ensures (c.list-answer.ensures.value, c.list-answer.ensures.out_after)).1 }
