-- `capi::gm_give` meets its contract. Assumes nothing.
use Rattle.refusals.proofs.Numbers.{as_numbered}
use Rattle.std.proofs.Common.{◌∙◌}
use Rattle.std.specs.Prelude.{Option, Some, None, Result, Ok, Err}
use mathlib.Core.Path.{◌≡◌, refl}
use native.Mathlib.Omega.{arith}
use lib.ListN.{length}
use borrow.Author.Rules.{rules}
use Rattle.calls.proofs.Gives.{gave_on}
use Rattle.boundary.proofs.Calls.{gives_given, gives_refused}
use Rattle.capi.proofs.gm_give.Goals as goal

pub offset_bounds-seconds-place : goal.offset_bounds-seconds-place
offset_bounds-seconds-place c =
    let l = gave_on _ _ _ _ _ _ c.may_give-answer.ensures c.in-Ok.is in
    omega (arith, l)

pub bounds-seconds-place : goal.bounds-seconds-place
bounds-seconds-place c =
    let l = gave_on _ _ _ _ _ _ c.may_give-answer.ensures c.in-Ok.is in
    let n : length c.args.seconds.now ≡ 128 = search rules in
    omega (arith, l, n)

pub returns-in-Ok : goal.returns-in-Ok
returns-in-Ok c =
    record { by_index = λ rows. (gives_given _ _ (c.read_head-h.ensures.count_value, (c.read_head-h.ensures.returned_value, (c.read_head-h.ensures.full_value, (c.read_head-h.ensures.mourned_value, c.read_head-h.ensures.earlier_value)))) _ _ rows _ _ _ c.may_give-answer.ensures c.in-Ok.is _ refl).0; by_index_2 = λ rows. (gives_given _ _ (c.read_head-h.ensures.count_value, (c.read_head-h.ensures.returned_value, (c.read_head-h.ensures.full_value, (c.read_head-h.ensures.mourned_value, c.read_head-h.ensures.earlier_value)))) _ _ rows _ _ _ c.may_give-answer.ensures c.in-Ok.is _ refl).1 }

pub returns-in-Err : goal.returns-in-Err
returns-in-Err c =
    record { by_index = λ rows. as_numbered _ ∙ (gives_refused _ _ (c.read_head-h.ensures.count_value, (c.read_head-h.ensures.returned_value, (c.read_head-h.ensures.full_value, (c.read_head-h.ensures.mourned_value, c.read_head-h.ensures.earlier_value)))) _ _ rows _ _ _ c.may_give-answer.ensures _ c.in-Err.is).0; by_index_2 = λ rows. (gives_refused _ _ (c.read_head-h.ensures.count_value, (c.read_head-h.ensures.returned_value, (c.read_head-h.ensures.full_value, (c.read_head-h.ensures.mourned_value, c.read_head-h.ensures.earlier_value)))) _ _ rows _ _ _ c.may_give-answer.ensures _ c.in-Err.is).1 }
