-- `capi_days::gm_day_play` meets its contract: one law for each turn, and one for the end. Assumes nothing.
use mathlib.Core.Path.{sym, ap, ◌∙◌}
use Prim.Native.Nat.{◌+◌}
use native.Mathlib.Omega.{arith}
use lib.ListN.{drop}
use borrow.Author.Rules.{rules}
use Rattle.boundary.specs.declared.PlayedNow.{PlayedNow}
use Rattle.capi_days.proofs.Plays.{played_from_now, played_is, play_step, play_end}
use Rattle.capi_days.proofs.gm_day_play.Goals as goal

pub loop-e-init : goal.loop-e-init
loop-e-init c = played_is c.args.day c.args.events.now (search rules)

pub loop-e-preserved : goal.loop-e-preserved
loop-e-preserved c =
    let es = c.args.events.now in
    let i = c.loop-e.e-index in
    let after = ap (λ (p : PlayedNow). played_from_now p (drop (i + 1) es)) (sym c.day_step-p.ensures) in
    c.loop-e.invariant ∙ play_step es i c.loop-e.p _ (omega arith) ∙ after

pub returns : goal.returns
returns c = sym (c.loop-e.invariant ∙ play_end c.args.events.now c.loop-e.e-index c.loop-e.p (omega arith) (omega arith))
