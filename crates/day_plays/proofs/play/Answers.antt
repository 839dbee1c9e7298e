-- `day_plays::play` meets its contract: one law for each turn, and one for the end. Assumes nothing.
use mathlib.Core.Path.{sym, ap, ◌∙◌}
use Prim.Native.Nat.{◌+◌}
use native.Mathlib.Omega.{arith}
use lib.ListN.{drop}
use Rattle.executions.specs.declared.Played.{Played}
use Rattle.executions.specs.Promises.{played_from}
use Rattle.executions.proofs.Gives.{played_is, play_step, play_end}
use Rattle.day_plays.proofs.play.Goals as goal

pub loop-e-init : goal.loop-e-init
loop-e-init c = played_is c.args.d c.args.events.now

pub loop-e-preserved : goal.loop-e-preserved
loop-e-preserved c =
    let es = c.args.events.now in
    let i = c.loop-e.e-index in
    let after = ap (λ (p : Played). played_from p (drop (i + 1) es)) (sym c.step-p.ensures) in
    c.loop-e.invariant ∙ play_step es i c.loop-e.p _ (omega arith) ∙ after

pub returns : goal.returns
returns c = sym (c.loop-e.invariant ∙ play_end c.args.events.now c.loop-e.e-index c.loop-e.p (omega arith) (omega arith))
