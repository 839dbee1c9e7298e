-- `roster_bytes::same_serials` meets its contract. The invariant: the lists are alike where they are from this turn's on. Assumes nothing.
use mathlib.Core.Path.{refl, sym, ◌∙◌}
use Prim.Native.Nat.{◌+◌, ◌*◌}
use native.Mathlib.Omega.{arith}
use Rattle.layouts.proofs.Lists.{alike_all, alike_yes, alike_no}
use Rattle.roster_bytes.proofs.Parts.{rest_is}
use Rattle.roster_bytes.proofs.same_serials.Goals as goal

pub returns-then-not-same_part : goal.returns-then-not-same_part
returns-then-not-same_part c =
    let a = c.args in
    let k = c.loop-turn.turn in
    sym (sym (alike_all _ _ _) ∙ c.loop-turn.invariant ∙ alike_no a.bytes.now a.at a.list.now 16 (k * 16) (omega arith) _ refl _ c.same_part.ensures c.if-not-same_part.true)

pub loop-turn-preserved : goal.loop-turn-preserved
loop-turn-preserved c =
    let a = c.args in
    let k = c.loop-turn.turn in
    c.loop-turn.invariant ∙ alike_yes a.bytes.now a.at a.list.now 16 (k * 16) (omega arith) _ refl _ c.same_part.ensures c.if-not-same_part.false ((k + 1) * 16) (omega arith)

pub returns : goal.returns
returns c =
    let a = c.args in
    c.same_part-2.ensures ∙ rest_is a.bytes.now a.at a.list.now _ (c.loop-turn.turn * 16) (omega arith) ∙ sym c.loop-turn.invariant ∙ alike_all _ _ _
