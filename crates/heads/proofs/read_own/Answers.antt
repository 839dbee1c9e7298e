-- `heads::read_own` meets its contract: one law for each answer. Assumes nothing.
use Rattle.std.proofs.lemmas.Result.{IfOk-at_ok}
use Rattle.refusals.proofs.Outcomes.{passed}
use Rattle.layouts.specs.Parts.{owner_of}
use Rattle.layouts.proofs.Heads.{own_fault, own_got}
use Rattle.heads.proofs.read_own.Goals as goal

pub returns-in_err-own : goal.returns-in_err-own
unfolding owner_of
returns-in_err-own c =
    let a = c.args in
    let p = passed _ _ c.from_residual.ensures.1 in
    record { by_index = λ alias. rw p (own_fault alias a.kind a.bytes.now a.at _ c.read_serial.ensures.bytes_value _ c.in_err-own.was); owner_in = rw p tt }

pub returns : goal.returns
unfolding owner_of
returns c =
    let a = c.args in
    record { by_index = λ alias. own_got alias a.kind a.bytes.now a.at _ c.read_serial.ensures.bytes_value _ c.in_ok-own.was; owner_in = IfOk-at_ok _ c.in_ok-own.was c.read_serial.ensures.at_in_bounds }
