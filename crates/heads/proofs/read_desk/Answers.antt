-- `heads::read_desk` meets its contract. Assumes nothing.
use Rattle.std.proofs.Common.{◌∙◌, arith}
use Rattle.refusals.proofs.Outcomes.{passed}
use Rattle.heads.proofs.Sights.{found_within, desk_refused, desk_seen}
use Rattle.heads.proofs.read_desk.Goals as goal

pub returns-in_err-top : goal.returns-in_err-top
returns-in_err-top c =
    let a = c.args in
    let p = passed _ _ c.from_residual.ensures.1 in
    let w = desk_refused _ a.bytes.now a.roster.now.now a.bytes.ref_ptr a.roster.now.ref_ptr _ _ c.read_head.ensures.bytes_value _ c.in_err-top.was in
    record { value = p ∙ w.0; roster_after = w.1.0; ptr_after = rw p w.1.1 }

pub overflow_mul-end : goal.overflow_mul-end
overflow_mul-end c = let w = found_within _ _ _ _ _ c.in_ok-top.was c.read_head.ensures.head_in in omega (arith, w.rostered.few)

pub overflow_add-end : goal.overflow_add-end
overflow_add-end c = let w = found_within _ _ _ _ _ c.in_ok-top.was c.read_head.ensures.head_in in omega (arith, w.starts, w.rostered.few)

pub slice_bounds-roster-end : goal.slice_bounds-roster-end
slice_bounds-roster-end c = let w = found_within _ _ _ _ _ c.in_ok-top.was c.read_head.ensures.head_in in omega (arith, w.starts, w.rostered.there)

pub returns : goal.returns
returns c =
    let a = c.args in
    let w = desk_seen _ a.bytes.now a.roster.now.now a.bytes.ref_ptr a.roster.now.ref_ptr _ _ c.read_head.ensures.bytes_value _ c.in_ok-top.was c.read_head.ensures.head_in in
    record { value = w.0; roster_after = w.1.0; ptr_after = w.1.1 }
