-- `lines::put_numbered` meets its contract. The line is as long as the code reckons, so the tests say whether it fits. Assumes nothing.
use mathlib.Core.List.{◌++◌}
use Prim.Native.Nat.{◌+◌}
use native.Mathlib.Omega.{arith}
use lib.ListN.{length}
use Rattle.transcripts.specs.Lines.{decimal, line}
use Rattle.transcripts.proofs.Laws.{length_numbered, put_refused, put_laid}
use Rattle.lines.proofs.put_numbered.Goals as goal

pub returns-then-out-at : goal.returns-then-out-at
returns-then-out-at c =
    let a = c.args in
    record { value = (put_refused (line (a.head.now ++ (decimal a.number ++ a.tail.now))) a.out.now a.at (omega (arith, length_numbered a.head.now (decimal a.number) a.tail.now))).0; out_after = (put_refused (line (a.head.now ++ (decimal a.number ++ a.tail.now))) a.out.now a.at (omega (arith, length_numbered a.head.now (decimal a.number) a.tail.now))).1 }

pub returns-then-out-at-2 : goal.returns-then-out-at-2
returns-then-out-at-2 c =
    let a = c.args in
    record { value = (put_refused (line (a.head.now ++ (decimal a.number ++ a.tail.now))) a.out.now a.at (omega (arith, length_numbered a.head.now (decimal a.number) a.tail.now))).0; out_after = (put_refused (line (a.head.now ++ (decimal a.number ++ a.tail.now))) a.out.now a.at (omega (arith, length_numbered a.head.now (decimal a.number) a.tail.now))).1 }

pub returns : goal.returns
returns c =
    let a = c.args in
    record {
      value = (put_laid (line (a.head.now ++ (decimal a.number ++ a.tail.now))) a.out.now a.at (length a.head.now + c.count_digits-count.result + length a.tail.now + 1)
          (omega (arith, length_numbered a.head.now (decimal a.number) a.tail.now)) (omega arith) _ c.lay_numbered.ensures).0;
      out_after = (put_laid (line (a.head.now ++ (decimal a.number ++ a.tail.now))) a.out.now a.at (length a.head.now + c.count_digits-count.result + length a.tail.now + 1)
          (omega (arith, length_numbered a.head.now (decimal a.number) a.tail.now)) (omega arith) _ c.lay_numbered.ensures).1;
    }
