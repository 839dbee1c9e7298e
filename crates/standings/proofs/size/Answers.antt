-- `standings::size` meets its contract. Assumes nothing.
use native.Mathlib.Omega.{arith}
use Rattle.answers.proofs.Views.{size_small, size_large}
use Rattle.standings.proofs.size.Goals as goal

pub returns-then-count-le128 : goal.returns-then-count-le128
returns-then-count-le128 c = record { value = size_small _ c.if-count-le128.true; upper_bound = omega arith }

pub returns : goal.returns
returns c = record { value = size_large _ c.if-count-le128.false; upper_bound = omega arith }
