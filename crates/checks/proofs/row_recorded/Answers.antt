-- `checks::row_recorded` meets its contract. Assumes nothing.
use mathlib.Core.Path.{refl}
use native.Mathlib.Omega.{arith}
use Rattle.checks.proofs.Checks.{row_is, same_is}
use Rattle.checks.proofs.row_recorded.Goals as goal

pub lent_row-requires : goal.lent_row-requires
lent_row-requires c = omega arith

pub returns : goal.returns
returns c =
    let lent = c.lent_row.ensures c.args.n (omega arith) in
    let recorded = row_is _ _ _ c.get.ensures in
    same_is _ (omega arith) _ _ _ c.below-roster.ensures _ _ _ _ _ lent recorded refl c.intersection-lent.ensures _ c.intersection-recorded.ensures c.same.ensures
