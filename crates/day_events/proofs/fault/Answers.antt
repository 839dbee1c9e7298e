-- `day_events::fault` meets its contract. Assumes nothing.
use mathlib.Core.Path.{◌≡◌, ◌∙◌}
use native.Mathlib.Omega.{arith}
use Rattle.day_events.proofs.Faults.{fault_stop, fault_hear, fault_unknown}
use Rattle.day_events.proofs.fault.Goals as goal

pub returns-in-1 : goal.returns-in-1
returns-in-1 c = c.stop_fault.ensures ∙ fault_stop _ _ _ c.in-1.is

pub returns-in-2 : goal.returns-in-2
returns-in-2 c = c.hear_fault.ensures ∙ fault_hear _ _ _ c.in-2.is

pub returns-in-0 : goal.returns-in-0
returns-in-0 c = let z : c.args.e.kind ≡ 0 = c.in-0.in-0-own.keys3 in fault_unknown _ _ _ (λ o. omega arith) (λ o. omega arith)

pub returns-in-0-2 : goal.returns-in-0-2
returns-in-0-2 c = fault_unknown _ _ _ c.in-0.in-0-own.rest.0.0.1 c.in-0.in-0-own.rest.0.1
