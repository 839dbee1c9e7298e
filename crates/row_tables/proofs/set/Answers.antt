-- `row_tables::set` meets its contract. Assumes nothing.
use mathlib.Core.Path.{sym}
use Rattle.rows.specs.Rows.{with_row}
use Rattle.rows.proofs.Laws.{with_past}
use borrow.Author.Rules.{rules}
use Rattle.row_tables.proofs.set.Goals as goal

pub returns-then-place-lt128 : goal.returns-then-place-lt128
unfolding with_row
returns-then-place-lt128 c = c.put.ensures

pub returns-else-place-lt128 : goal.returns-else-place-lt128
returns-else-place-lt128 c = sym (with_past _ _ _ (search rules) c.if-place-lt128.false)
