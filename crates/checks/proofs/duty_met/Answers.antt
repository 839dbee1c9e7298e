-- `checks::duty_met` meets its contract: the members of the rows that are not left are covered. Assumes nothing.
use mathlib.Core.Path.{refl}
use native.Mathlib.Omega.{arith}
use Rattle.checks.proofs.Checks.{lent_on, turns_start, turns_next}
use Rattle.checks.proofs.Closed.{duty_open, duty_met_lem}
use Rattle.checks.proofs.duty_met.Goals as goal

pub loop-p-init : goal.loop-p-init
loop-p-init c = turns_start _ _ _ c.args.due _ _ (omega arith) refl c.below.ensures (cc)

pub returns : goal.returns
returns c = duty_met_lem _ _ _ _ c.loop-p.invariant (omega arith) (lent_on _ _) c.requires.1 (λ k _. c.in-None.ensures.steps.0 k)

pub row_closed-requires : goal.row_closed-requires
row_closed-requires c = (omega arith, (c.loop-p.invariant.on _ c.in-Some.ensures.steps.0).0)

pub returns-then-not-row_closed : goal.returns-then-not-row_closed
returns-then-not-row_closed c = duty_open _ _ _ _ c.loop-p.invariant _ c.in-Some.ensures.steps.0 (c.row_closed.ensures.p_value c.if-not-row_closed.true)

pub loop-p-preserved : goal.loop-p-preserved
loop-p-preserved c =
    let covered = c.row_closed.ensures.covered c.if-not-row_closed.false in
    turns_next _ _ _ _ c.loop-p.invariant _ _ covered c.in-Some.ensures.steps.2
