-- `roster_bytes::roster_fault` meets its contract: one law for each answer. Assumes nothing.
use Rattle.std.proofs.Common.{sym, ◌∙◌, [], arith}
use Rattle.refusals.proofs.Outcomes.{passed}
use Rattle.layouts.proofs.Judging.{fault_there, fault_cut, fault_none_there}
use Rattle.roster_bytes.proofs.roster_fault.Goals as goal

pub returns-in_err-first_fault : goal.returns-in_err-first_fault
returns-in_err-first_fault c =
    passed _ _ c.from_residual.ensures.1 ∙ sym (fault_there _ [] _ _ (sym c.first_fault.ensures ∙ c.in_err-first_fault.was))

pub returns-then-list-count : goal.returns-then-list-count
returns-then-list-count c =
    sym (fault_cut _ [] _ (sym c.first_fault.ensures ∙ c.in_ok-first_fault.was) (omega arith))

pub returns : goal.returns
returns c =
    sym (fault_none_there _ [] _ (sym c.first_fault.ensures ∙ c.in_ok-first_fault.was) (omega arith))
