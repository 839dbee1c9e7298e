-- `day_records::open` meets its contract. Assumes nothing.
use mathlib.Core.Path.{◌∙◌}
use native.Mathlib.Omega.{arith}
use Rattle.executions.proofs.Gives.{begun_full, begun_short, begun_unknown}
use Rattle.day_records.proofs.open.Goals as goal
use Rattle.day_records.proofs.open.Goals.{in-0-1, in_default-1}

pub returns-in-1 : goal.returns-in-1
returns-in-1 c = c.open_as.ensures ∙ begun_full _ _ (omega arith)

pub returns-in-2 : goal.returns-in-2
returns-in-2 c = c.open_as-in-2.ensures ∙ begun_short _ _ (omega arith)

pub returns-in-0 : goal.returns-in-0
returns-in-0 c =
    let a = c.args in
    elim c.in-0-1.branch [
      | in-0-1 w ↦ c.unbegun.ensures ∙ begun_unknown a.kind a.list.now (λ e. omega arith) (λ e. omega arith)
      | in_default-1 w ↦ c.unbegun.ensures ∙ begun_unknown a.kind a.list.now (λ e. omega arith) (λ e. omega arith)
    ]
