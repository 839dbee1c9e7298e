-- `row_tables::none` meets its contract. Assumes nothing.
use mathlib.Core.Path.{refl}
use Rattle.rows.specs.Rows.{no_rows}
use Rattle.row_tables.proofs.none.Goals as goal

pub returns : goal.returns
unfolding no_rows
returns c = refl
