-- `row_tables::get` meets its contract. Assumes nothing.
use mathlib.Core.Path.{refl, sym, ◌∙◌}
use Rattle.sets.proofs.Words.{has_none}
use Rattle.rows.specs.Rows.{rows_of}
use Rattle.rows.proofs.Laws.{row_at_lem, rows_past}
use borrow.Author.Rules.{rules}
use Rattle.row_tables.proofs.get.Goals as goal

pub returns-then-place-ge128 : goal.returns-then-place-ge128
returns-then-place-ge128 c = row_at_lem _ _ _ (search rules) (has_none _ refl refl ∙ sym (rows_past _ _ (search rules) c.if-place-ge128.true))

pub returns : goal.returns
unfolding rows_of
returns c = row_at_lem _ _ _ (search rules) c.read.ensures
