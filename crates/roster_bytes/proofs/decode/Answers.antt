-- `roster_bytes::decode` meets its contract. The invariant: the first i serials stand at the front of the list. Assumes nothing.
use mathlib.Core.Path.{refl}
use native.Mathlib.Omega.{arith}
use Rattle.layouts.specs.Records.{serials}
use Rattle.layouts.proofs.Lists.{laid_more}
use Rattle.roster_bytes.proofs.decode.Goals as goal

pub loop-i-init : goal.loop-i-init
unfolding serials
loop-i-init c = refl

pub loop-i-preserved : goal.loop-i-preserved
loop-i-preserved c =
    let a = c.args in
    laid_more a.bytes.now a.at c.loop-i.i a.list.now (omega arith) c.loop-i.list _ c.loop-i.invariant c.serial_at.ensures
