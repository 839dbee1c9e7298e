-- `capi_histories::gm_show` meets its contract. Assumes nothing.
use borrow.Author.Rules.{rules}
use Rattle.boundary.proofs.Calls.{shows_are}
use Rattle.capi_histories.proofs.gm_show.Goals as goal

pub returns : goal.returns
returns c = record { by_index = (shows_are _ _ (c.read_head-h.ensures.count_value, (c.read_head-h.ensures.returned_value, (c.read_head-h.ensures.full_value, (c.read_head-h.ensures.mourned_value, c.read_head-h.ensures.earlier_value)))) _ _ _ _ _ _ _ _ c.showing_code.ensures (c.show-answer.ensures.value, (c.show-answer.ensures.first_after, c.show-answer.ensures.second_after))).0; by_index_2 = (shows_are _ _ (c.read_head-h.ensures.count_value, (c.read_head-h.ensures.returned_value, (c.read_head-h.ensures.full_value, (c.read_head-h.ensures.mourned_value, c.read_head-h.ensures.earlier_value)))) _ _ _ _ _ _ _ _ c.showing_code.ensures (c.show-answer.ensures.value, (c.show-answer.ensures.first_after, c.show-answer.ensures.second_after))).1.0; by_index_3 = (shows_are _ _ (c.read_head-h.ensures.count_value, (c.read_head-h.ensures.returned_value, (c.read_head-h.ensures.full_value, (c.read_head-h.ensures.mourned_value, c.read_head-h.ensures.earlier_value)))) _ _ _ _ _ _ _ _ c.showing_code.ensures (c.show-answer.ensures.value, (c.show-answer.ensures.first_after, c.show-answer.ensures.second_after))).1.1 }
