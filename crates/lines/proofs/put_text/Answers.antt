-- `lines::put_text` meets its contract. The line is as long as the code reckons, so the tests say whether it fits. Assumes nothing.
use mathlib.Core.Path.{sym}
use Prim.Native.Nat.{◌+◌}
use native.Mathlib.Omega.{arith}
use lib.ListN.{length}
use Rattle.transcripts.specs.Lines.{line}
use Rattle.transcripts.proofs.Laws.{length_line, put_refused, put_laid}
use Rattle.lines.proofs.put_text.Goals as goal

pub returns-then-out-at : goal.returns-then-out-at
returns-then-out-at c =
    let a = c.args in
    record { value = (put_refused (line a.text.now) a.out.now a.at (omega (arith, length_line a.text.now))).0; out_after = (put_refused (line a.text.now) a.out.now a.at (omega (arith, length_line a.text.now))).1 }

pub returns-then-out-at-2 : goal.returns-then-out-at-2
returns-then-out-at-2 c =
    let a = c.args in
    record { value = (put_refused (line a.text.now) a.out.now a.at (omega (arith, length_line a.text.now))).0; out_after = (put_refused (line a.text.now) a.out.now a.at (omega (arith, length_line a.text.now))).1 }

pub returns : goal.returns
returns c =
    let a = c.args in
    record { value = (put_laid (line a.text.now) a.out.now a.at (length a.text.now + 1) (sym (length_line a.text.now)) (omega arith) _ c.lay_last.ensures).0; out_after = (put_laid (line a.text.now) a.out.now a.at (length a.text.now + 1) (sym (length_line a.text.now)) (omega arith) _ c.lay_last.ensures).1 }
