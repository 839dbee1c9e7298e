-- `capi::gm_offer` meets its contract. Assumes nothing.
use Rattle.refusals.proofs.Numbers.{as_numbered}
use Rattle.std.specs.Prelude.{Option, Some, None, Result, Ok, Err}
use mathlib.Core.Path.{◌≡◌, sym, ◌∙◌}
use lib.ListN.{length}
use borrow.Author.Rules.{rules}
use Rattle.capi.proofs.Offers.{offers_read, offers_unread}
use Rattle.capi.proofs.gm_offer.Goals as goal

pub returns-in-Ok : goal.returns-in-Ok
returns-in-Ok c = record { value = (offers_read _ _ _ _ _ _ (c.read_head-h.ensures.count_value, (c.read_head-h.ensures.returned_value, (c.read_head-h.ensures.full_value, (c.read_head-h.ensures.mourned_value, c.read_head-h.ensures.earlier_value)))) _ (sym c.read_lone-got.ensures ∙ c.in-Ok.is) _ c.judge-reply.ensures _ _ _ (c.answer_with.ensures.value, (c.answer_with.ensures.by_index, c.answer_with.ensures.by_index_2))).0; head_after = (offers_read _ _ _ _ _ _ (c.read_head-h.ensures.count_value, (c.read_head-h.ensures.returned_value, (c.read_head-h.ensures.full_value, (c.read_head-h.ensures.mourned_value, c.read_head-h.ensures.earlier_value)))) _ (sym c.read_lone-got.ensures ∙ c.in-Ok.is) _ c.judge-reply.ensures _ _ _ (c.answer_with.ensures.value, (c.answer_with.ensures.by_index, c.answer_with.ensures.by_index_2))).1.0; rows_after = (offers_read _ _ _ _ _ _ (c.read_head-h.ensures.count_value, (c.read_head-h.ensures.returned_value, (c.read_head-h.ensures.full_value, (c.read_head-h.ensures.mourned_value, c.read_head-h.ensures.earlier_value)))) _ (sym c.read_lone-got.ensures ∙ c.in-Ok.is) _ c.judge-reply.ensures _ _ _ (c.answer_with.ensures.value, (c.answer_with.ensures.by_index, c.answer_with.ensures.by_index_2))).1.1 }

pub returns-in-Err : goal.returns-in-Err
returns-in-Err c =
    let l : length c.args.head.now ≡ 9 = search rules in
    record { value = (offers_unread _ _ _ _ _ _ (c.read_head-h.ensures.count_value, (c.read_head-h.ensures.returned_value, (c.read_head-h.ensures.full_value, (c.read_head-h.ensures.mourned_value, c.read_head-h.ensures.earlier_value)))) _ _ (as_numbered _) (sym c.read_lone-got.ensures ∙ c.in-Err.is) l).0; head_after = (offers_unread _ _ _ _ _ _ (c.read_head-h.ensures.count_value, (c.read_head-h.ensures.returned_value, (c.read_head-h.ensures.full_value, (c.read_head-h.ensures.mourned_value, c.read_head-h.ensures.earlier_value)))) _ _ (as_numbered _) (sym c.read_lone-got.ensures ∙ c.in-Err.is) l).1.0; rows_after = (offers_unread _ _ _ _ _ _ (c.read_head-h.ensures.count_value, (c.read_head-h.ensures.returned_value, (c.read_head-h.ensures.full_value, (c.read_head-h.ensures.mourned_value, c.read_head-h.ensures.earlier_value)))) _ _ (as_numbered _) (sym c.read_lone-got.ensures ∙ c.in-Err.is) l).1.1 }
