-- `lookups::find` meets its contract. The invariant: the serial's place is p and its place in what is left. Assumes nothing.
use mathlib.Core.Path.{◌≡◌}
use native.Mathlib.Omega.{arith}
use lib.ListN.{drop}
use Rattle.serials.specs.Rosters.{place_of}
use Rattle.serials.proofs.Rosters.{walk_hit, walk_miss, found_here, found_nowhere}
use Rattle.lookups.proofs.find.Goals as goal

pub returns-then-x-serial : goal.returns-then-x-serial
returns-then-x-serial c =
    let a = c.args in
    let h : place_of a.serial.0 (drop c.loop-p.p a.roster.now) ≡ 0 = walk_hit a.roster.now c.loop-p.p (omega arith) a.serial.0 c.if-x-serial.true in
    found_here _ _ _ (omega arith) (omega arith)

pub loop-p-preserved : goal.loop-p-preserved
loop-p-preserved c =
    let a = c.args in
    omega (arith, walk_miss a.roster.now c.loop-p.p (omega arith) a.serial.0 c.if-x-serial.false)

pub returns : goal.returns
returns c = found_nowhere _ _ (omega arith)
