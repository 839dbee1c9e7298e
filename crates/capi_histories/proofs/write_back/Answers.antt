-- `capi_histories::write_back` meets its contract. Assumes nothing.
use mathlib.Core.Path.{sym, ◌∙◌}
use native.Mathlib.Omega.{arith}
use lib.Seq.{length-take-le}
use borrow.Author.Tests.{not-true, not-false}
use borrow.Author.Rules.{rules}
use Rattle.capi_histories.proofs.Writes.{back_12, back_14, back_written}
use Rattle.capi_histories.proofs.write_back.Goals as goal

pub returns-then-n-place : goal.returns-then-n-place
returns-then-n-place c = record { by_index = (back_12 _ _ (c.read_head-h.ensures.count_value, (c.read_head-h.ensures.returned_value, (c.read_head-h.ensures.full_value, (c.read_head-h.ensures.mourned_value, c.read_head-h.ensures.earlier_value)))) _ _ _ _ _ (omega (arith, c.size-n.ensures.value))).0; by_index_2 = (back_12 _ _ (c.read_head-h.ensures.count_value, (c.read_head-h.ensures.returned_value, (c.read_head-h.ensures.full_value, (c.read_head-h.ensures.mourned_value, c.read_head-h.ensures.earlier_value)))) _ _ _ _ _ (omega (arith, c.size-n.ensures.value))).1 }

pub returns-then-not-contains : goal.returns-then-not-contains
returns-then-not-contains c = record { by_index = (back_14 _ _ (c.read_head-h.ensures.count_value, (c.read_head-h.ensures.returned_value, (c.read_head-h.ensures.full_value, (c.read_head-h.ensures.mourned_value, c.read_head-h.ensures.earlier_value)))) _ _ _ _ _ (omega (arith, c.size-n.ensures.value)) (sym c.contains.ensures ∙ c.if-not-contains.true)).0; by_index_2 = (back_14 _ _ (c.read_head-h.ensures.count_value, (c.read_head-h.ensures.returned_value, (c.read_head-h.ensures.full_value, (c.read_head-h.ensures.mourned_value, c.read_head-h.ensures.earlier_value)))) _ _ _ _ _ (omega (arith, c.size-n.ensures.value)) (sym c.contains.ensures ∙ c.if-not-contains.true)).1 }

pub slice_bounds-write-end : goal.slice_bounds-write-end
slice_bounds-write-end c =
    sym (length-take-le _ _ (omega (arith, c.size-n.ensures.upper_bound, c.requires)))

pub returns : goal.returns
returns c =
    let long = sym (length-take-le _ _ (omega (arith, c.size-n.ensures.upper_bound, c.requires))) in
    let w = back_written _ _ (c.read_head-h.ensures.count_value, (c.read_head-h.ensures.returned_value, (c.read_head-h.ensures.full_value, (c.read_head-h.ensures.mourned_value, c.read_head-h.ensures.earlier_value)))) _ _ _ _ _ (omega (arith, c.size-n.ensures.value)) (sym c.contains.ensures ∙ c.if-not-contains.false) _ c.size-n.ensures.value long _ c.recorded-row.ensures _ c.kind_of-kind.ensures _ _ (c.write.ensures.value, c.write.ensures.out_after) in
    record { by_index = w.0; by_index_2 = w.1 }
