-- `places::count` meets its contract. Assumes nothing.
use native.Mathlib.Omega.{arith}
use lib.Count.{ones-le}
use Rattle.sets.proofs.Words.{has_count}
use Rattle.places.proofs.count.Goals as goal

pub overflow_add-result : goal.overflow_add-result
overflow_add-result c =
    let s = c.args.s in
    omega (arith, ones-le 64 s.low (omega arith), ones-le 64 s.high (omega arith))

pub overflow_cast-result : goal.overflow_cast-result
overflow_cast-result c =
    let s = c.args.s in
    omega (arith, ones-le 64 s.low (omega arith), ones-le 64 s.high (omega arith))

pub returns : goal.returns
returns c = has_count _ (omega arith)
