-- `row_tables::lay` meets its contract. Assumes nothing.
use mathlib.Core.Path.{◌≡◌, sym, ap, ◌∙◌}
use mathlib.Core.List.{◌++◌}
use Prim.Native.Nat.{ℕ, ◌*◌}
use native.Mathlib.Omega.{arith}
use lib.ListN.{length, take, drop, length-take}
use borrow.Author.Tests.{le-leb}
use Rattle.rows.proofs.Laws.{laid_table}
use Rattle.row_tables.proofs.lay.Goals as goal

pub returns-then-n-out : goal.returns-then-n-out
returns-then-n-out c =
    let a = c.args in
    let m = 16 * a.n in
    let l : length (take m a.rows.now) ≡ m = omega (arith, length-take m a.rows.now) in
    rw (le-leb a.n 128 c.if-n-le128.true, le-leb m (length a.out.now) c.if-n-out.true)
    (c.copy.ensures ∙ ap (λ (k : ℕ). take m a.rows.now ++ drop k a.out.now) l ∙ sym (laid_table a.n a.rows.now a.out.now (λ i l. c.fits-rows i) (omega arith)))
