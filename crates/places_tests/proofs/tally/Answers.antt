-- `places_tests::tally` meets its contract: what was counted and what is left are together the set's count. Assumes nothing.
use native.Mathlib.Omega.{arith}
use Rattle.sets.specs.PlaceSets.{has}
use Rattle.sets.proofs.Counting.{count_at_most}
use Rattle.sets.proofs.Laws.{without_count, nothing_count}
use Rattle.places_tests.proofs.tally.Goals as goal

pub returns : goal.returns
returns c = omega (arith, nothing_count _ (λ k _. c.in-None.ensures.steps.0 k))

pub overflow_add-n : goal.overflow_add-n
overflow_add-n c = omega (arith, count_at_most 128 (has c.args.s))

pub loop-preserved : goal.loop-preserved
loop-preserved c =
    let s = c.in-Some.ensures.steps in
    omega (arith, without_count _ _ _ s.0 s.2)
