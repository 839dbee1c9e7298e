-- `records::read_rest` meets its contract: the mourned section after the head. Assumes nothing.
use Rattle.std.specs.Prelude.{Option, Some, None, Result, Ok, Err}
use mathlib.Core.Path.{sym, ◌∙◌}
use Rattle.refusals.proofs.Outcomes.{passed}
use native.Mathlib.Omega.{arith}
use Rattle.layouts.proofs.Readings.{read_no_head, read_no_tail, read_whole}
use Rattle.readings.proofs.read_rest.Goals as goal

pub overflow_mul-count : goal.overflow_mul-count
overflow_mul-count c =
    let w = rw c.in_ok-top.was at c.requires.head_in in
    omega (arith, w.rostered.few)

pub overflow_add-roster : goal.overflow_add-roster
overflow_add-roster c =
    let w = rw c.in_ok-top.was at c.requires.head_in in
    omega (arith, w.rostered.there, w.starts)

pub slice_bounds-read_tail-end : goal.slice_bounds-read_tail-end
slice_bounds-read_tail-end c =
    let w = rw c.in_ok-top.was at c.requires.head_in in
    sym w.rostered.long

pub read_tail-requires : goal.read_tail-requires
read_tail-requires c =
    let w = rw c.in_ok-top.was at c.requires.head_in in
    record { at_in_bounds = omega (arith, w.rostered.there, w.starts); roster_len_bound = omega (arith, w.rostered.long, w.rostered.few); roster_value = w.rostered.single }

pub returns-in_err-top : goal.returns-in_err-top
returns-in_err-top c =
    passed _ _ c.from_residual.ensures.1 ∙ read_no_head _ c.args.bytes.now c.args.at _ c.args.list.now c.requires.bytes_value _ c.in_err-top.was

pub returns-in_err-tail : goal.returns-in_err-tail
returns-in_err-tail c =
    passed _ _ c.from_residual-in_err-tail.ensures.1
    ∙ read_no_tail _ c.args.bytes.now c.args.at _ c.args.list.now c.requires.bytes_value _ c.in_ok-top.was _ c.read_tail.ensures.bytes_value _ c.in_err-tail.was

pub returns : goal.returns
returns c =
    let w = rw c.in_ok-top.was at c.requires.head_in in
    let t = rw c.in_ok-tail.was at c.read_tail.ensures.tail_in in
    read_whole _ c.args.bytes.now c.args.at _ c.args.list.now c.requires.bytes_value _ c.in_ok-top.was _ c.read_tail.ensures.bytes_value _ _ c.in_ok-tail.was t.1 t.0 w.starts w.rostered.long
