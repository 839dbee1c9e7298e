-- `checks::all_named` meets its contract: what is gathered so far are the places in the rows passed. Assumes nothing.
use native.Mathlib.Omega.{arith}
use Rattle.checks.proofs.Checks.{named_start, named_next, named_all}
use Rattle.checks.proofs.all_named.Goals as goal

pub loop-p-init : goal.loop-p-init
loop-p-init c = (omega arith, named_start _ _ c.empty-named.ensures)

pub lent_row-requires : goal.lent_row-requires
lent_row-requires c = omega arith

pub loop-p-preserved : goal.loop-p-preserved
loop-p-preserved c = (omega arith, named_next _ _ _ _ _ c.loop-p.invariant.1 (c.lent_row.ensures _ (omega arith)) c.union-named.ensures)

pub returns : goal.returns
returns c = named_all _ _ _ _ c.loop-p.invariant.0 c.loop-p-test.false c.loop-p.invariant.1
