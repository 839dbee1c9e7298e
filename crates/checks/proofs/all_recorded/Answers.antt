-- `checks::all_recorded` meets its contract: the rows that are not left are the recorded ones. Assumes nothing.
use mathlib.Core.Path.{sym, ◌∙◌}
use native.Mathlib.Omega.{arith}
use Rattle.sets.proofs.Booleans.{clash}
use Rattle.checks.proofs.Checks.{cut_on, turns_next, each_holds, each_fails}
use Rattle.checks.proofs.all_recorded.Goals as goal

pub loop-p-init : goal.loop-p-init
loop-p-init c = record {
  on = λ m h. (cut_on _ c.args.returned _ _ (omega arith) c.below.ensures (cc) m h, h);
  done = λ m l a h. clash a h;
}

pub returns : goal.returns
returns c = each_holds _ _ _ _ _ _ (omega arith) c.below.ensures (cc) c.loop-p.invariant (λ k _. c.in-None.ensures.steps.0 k)

pub row_recorded-requires : goal.row_recorded-requires
row_recorded-requires c = (omega arith, (c.loop-p.invariant.on _ c.in-Some.ensures.steps.0).0)

pub returns-then-not-row_recorded : goal.returns-then-not-row_recorded
returns-then-not-row_recorded c =
    each_fails _ _ _ _ _ _ (omega arith) c.below.ensures (cc) c.loop-p.invariant _ c.in-Some.ensures.steps.0
    (sym c.row_recorded.ensures ∙ c.if-not-row_recorded.true)

pub loop-p-preserved : goal.loop-p-preserved
loop-p-preserved c =
    let passed = sym c.row_recorded.ensures ∙ c.if-not-row_recorded.false in
    turns_next _ _ _ _ c.loop-p.invariant _ _ passed c.in-Some.ensures.steps.2
