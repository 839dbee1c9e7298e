-- `row_tables::copy` meets its contract. The invariant: the first i bytes are copied. Assumes nothing.
use mathlib.Core.Path.{◌≡◌, ap, ◌∙◌}
use mathlib.Core.List.{List, ◌++◌}
use Prim.Native.Nat.{ℕ}
use native.Mathlib.Omega.{arith}
use lib.ListN.{length, get_or, set, take, drop}
use lib.Seq.{take_all}
use Rattle.rows.proofs.Bytes.{copied}
use Rattle.row_tables.proofs.copy.Goals as goal

pub loop-i-preserved : goal.loop-i-preserved
loop-i-preserved c =
    let a = c.args in
    ap (λ (o : List ℕ). set o c.loop-i.i (get_or a.bytes.now c.loop-i.i 0)) c.loop-i.invariant ∙ copied a.out.now a.bytes.now c.loop-i.i (omega arith) (omega arith)

pub returns : goal.returns
returns c =
    let a = c.args in
    let e : c.loop-i.i ≡ length a.bytes.now = omega arith in
    c.loop-i.invariant ∙ ap (λ (k : ℕ). take k a.bytes.now ++ drop k a.out.now) e ∙ rw (take_all (length a.bytes.now) a.bytes.now (omega arith))
