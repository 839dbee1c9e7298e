-- `lines::lay_decimal` meets its contract. The invariant: what is left of the number gives the digits that are still to come. Assumes nothing.
use mathlib.Core.Path.{◌≡◌}
use Prim.Native.Nat.{◌+◌, ◌-◌, ◌<◌}
use native.Mathlib.Omega.{arith}
use lib.ListN.{length}
use Rattle.transcripts.proofs.Laws.{laying_none, laying_more, laying_all}
use Rattle.lines.proofs.lay_decimal.Goals as goal

pub loop-place-init : goal.loop-place-init
loop-place-init c = laying_none c.args.number c.args.out.now c.args.count c.requires.count_value

pub loop-place-preserved : goal.loop-place-preserved
loop-place-preserved c =
    let l = c.loop-place in
    let e : l.place ≡ l.place - 1 + 1 = omega arith in
    let h : l.place - 1 < length l.out = omega arith in
    laying_more _ l.out l.left (l.place - 1) (rw e at l.invariant) h

pub returns : goal.returns
returns c =
    let l = c.loop-place in
    let e : l.place ≡ 0 = omega arith in
    laying_all _ l.out l.left (rw e at l.invariant)
