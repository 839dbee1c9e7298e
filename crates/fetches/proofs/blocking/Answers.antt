-- `fetches::blocking` meets its contract. Assumes nothing.
use mathlib.Core.Path.{sym, ◌∙◌}
use Rattle.answers.proofs.Views.{size_at_most}
use Rattle.answers.proofs.Gathering.{back_in, gathered_none, gathered_next, gathered_all, gathered_enough}
use Rattle.fetches.proofs.blocking.Goals as goal

pub loop-p-init : goal.loop-p-init
loop-p-init c = gathered_none _ _ _ _ _ _ c.empty-known.ensures

pub returns-then-is_subset : goal.returns-then-is_subset
returns-then-is_subset c =
    gathered_enough _ _ _ _ _ _ _ (cc) (gathered_none _ _ _ _ c.unmourned-unasked.result _ c.empty-known.ensures) _ _ (size_at_most _) (back_in _ _ _ _) c.unheard-missing.ensures
    (sym c.is_subset.ensures ∙ c.if-is_subset.true)

pub returns-then-is_subset-2 : goal.returns-then-is_subset-2
returns-then-is_subset-2 c =
    gathered_enough _ _ _ _ _ _ _ (cc) c.loop-p.invariant _ _ (size_at_most _) (back_in _ _ _ _) c.unheard-missing.ensures
    (sym c.is_subset-in-loop-p.ensures ∙ c.if-is_subset-2.true)

pub returns : goal.returns
returns c = gathered_all _ _ _ _ _ _ _ (cc) c.loop-p.invariant (λ j _. c.in-None.ensures.steps.0 j)

pub loop-p-preserved : goal.loop-p-preserved
loop-p-preserved c =
    gathered_next _ _ _ _ _ _ _ _ _ _ c.loop-p.invariant _ c.in-Some.ensures.steps.0
    c.blockers-own.ensures c.union-known.ensures c.in-Some.ensures.steps.2
