-- `places::lowest` meets its contract. Assumes nothing.
use native.Mathlib.Omega.{arith}
use lib.Count.{trailing_le}
use Rattle.sets.proofs.Words.{lowest_low, lowest_high, lowest_neither}
use Rattle.places.proofs.lowest.Goals as goal

pub overflow_cast-result : goal.overflow_cast-result
overflow_cast-result c = omega (arith, trailing_le 64 c.args.s.low)

pub overflow_cast-result-then-s-ne0-2 : goal.overflow_cast-result-then-s-ne0-2
overflow_cast-result-then-s-ne0-2 c = omega (arith, trailing_le 64 c.args.s.high)

pub overflow_add-result : goal.overflow_add-result
overflow_add-result c = omega (arith, trailing_le 64 c.args.s.high)

pub returns-then-s-ne0 : goal.returns-then-s-ne0
returns-then-s-ne0 c = lowest_low _ (omega arith) c.if-s-ne0.true

pub returns-then-s-ne0-2 : goal.returns-then-s-ne0-2
returns-then-s-ne0-2 c = lowest_high _ (omega arith) c.if-s-ne0.false c.if-s-ne0-2.true

pub returns-else-s-ne0-2 : goal.returns-else-s-ne0-2
returns-else-s-ne0-2 c = lowest_neither _ c.if-s-ne0.false c.if-s-ne0-2.false
