-- `roster_bytes::same_part` meets its contract. The invariant: `same` says whether those before i are alike. Assumes nothing.
use mathlib.Core.Path.{sym, ap, ◌∙◌}
use mathlib.Core.Bool.{Bool, ◌&&◌, and-true}
use Prim.Native.Nat.{◌+◌}
use native.Mathlib.Omega.{arith}
use Rattle.roster_bytes.proofs.Parts.{part_next, part_done}
use Rattle.roster_bytes.proofs.same_part.Goals as goal

pub loop-i-preserved : goal.loop-i-preserved
loop-i-preserved c =
    let a = c.args in
    part_next a.bytes.now a.at a.list.now c.loop-i.i (a.start + a.n) (omega arith) _ c.loop-i.same _ c.loop-i.invariant c.serial_at.ensures

pub returns : goal.returns
returns c =
    let a = c.args in
    sym (c.loop-i.invariant ∙ ap (λ (t : Bool). c.loop-i.same && t) (part_done a.bytes.now a.at a.list.now c.loop-i.i (a.start + a.n) (omega arith)) ∙ and-true c.loop-i.same)
