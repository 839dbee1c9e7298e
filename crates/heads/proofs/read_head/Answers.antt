-- `heads::read_head` meets its contract. Assumes nothing.
use Rattle.std.proofs.Common.{◌≡◌, ◌∙◌, ◌+◌, arith}
use Rattle.refusals.proofs.Outcomes.{passed}
use Rattle.layouts.specs.Parts.{owner_of, head_of}
use Rattle.heads.proofs.read_head.Goals as goal

pub returns-in_err-owner : goal.returns-in_err-owner
unfolding owner_of head_of
returns-in_err-owner c =
    let p = passed _ _ c.from_residual.ensures.1 in
    record { bytes_value = c.read_owner.ensures.by_index _ ∙ rw (c.in_err-owner.was, p); head_in = rw p tt }

pub overflow_add-at : goal.overflow_add-at
overflow_add-at c =
    let w = rw c.in_ok-owner.was at c.read_owner.ensures.owner_in in
    omega (arith, w)

pub returns : goal.returns
unfolding owner_of
returns c =
    let a = c.args in
    let e : a.at + 5 + 1 ≡ a.at + 6 = omega arith in
    record { bytes_value = c.read_owner.ensures.by_index _ ∙ rw c.in_ok-owner.was c.head_roster.ensures.bytes_value; head_in = rw e at c.head_roster.ensures.head_in }
