-- `lists::spread` meets its contract. Assumes nothing.
use native.Mathlib.Omega.{arith}
use borrow.Author.Rules.{rules}
use Rattle.lists.proofs.Spreading.{marks_fit, spread_is}
use Rattle.lists.proofs.spread.Goals as goal

pub overflow_add-result : goal.overflow_add-result
overflow_add-result c = omega (arith, marks_fit c.args.digits (search rules))

pub returns : goal.returns
returns c = spread_is c.args.digits (search rules)
