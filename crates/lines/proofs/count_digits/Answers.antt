-- `lines::count_digits` meets its contract. Assumes nothing.
use mathlib.Core.Path.{sym}
use native.Mathlib.Omega.{arith}
use Rattle.transcripts.specs.Lines.{decimal}
use Rattle.transcripts.proofs.Laws.{digits_many}
use Rattle.lines.proofs.count_digits.Goals as goal

pub returns : goal.returns
unfolding decimal
returns c =
    let e = c.ilog10.ensures in
    record { value = sym (digits_many 20 c.ilog10.result c.args.number e.bound (rw c.max.ensures at e.power_le) (rw c.max.ensures at e.next_power_gt)); upper_bound = omega arith }
