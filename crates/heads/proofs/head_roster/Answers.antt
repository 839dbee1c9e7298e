-- `heads::head_roster` meets its contract: one law for each answer. Assumes nothing.
use Rattle.std.proofs.Common.{arith}
use Rattle.std.proofs.lemmas.Result.{IfOk-at_ok}
use Rattle.refusals.proofs.Outcomes.{passed}
use Rattle.layouts.specs.Parts.{head_of}
use Rattle.layouts.proofs.Heads.{after_fault, after_read, on_in}
use Rattle.heads.proofs.head_roster.Goals as goal

pub returns-in_err-n : goal.returns-in_err-n
unfolding head_of
returns-in_err-n c =
    let p = passed _ _ c.from_residual.ensures.1 in
    record { bytes_value = rw p (after_fault _ _ _ _ _ _ _ c.read_roster.ensures.bytes_value _ c.in_err-n.was); head_in = rw p tt }

pub overflow_add-at : goal.overflow_add-at
overflow_add-at c =
    let r = IfOk-at_ok _ c.in_ok-n.was c.read_roster.ensures.rostered in
    omega (arith, r.there)

pub on_first-requires : goal.on_first-requires
on_first-requires c =
    let r = IfOk-at_ok _ c.in_ok-n.was c.read_roster.ensures.rostered in
    omega (arith, r.few)

pub returns : goal.returns
returns c = record {
  bytes_value = rw c.on_first.ensures (after_read _ _ _ _ _ _ _ c.read_roster.ensures.bytes_value _ c.in_ok-n.was);
  head_in = rw c.on_first.ensures (on_in _ _ _ _ _ _ _ (IfOk-at_ok _ c.in_ok-n.was c.read_roster.ensures.rostered));
}
