-- `recovery::fresh` meets its contract. Assumes nothing.
use mathlib.Core.Path.{◌∙◌}
use native.Mathlib.Omega.{arith}
use Rattle.serials.proofs.Pads.{padded_few}
use Rattle.calls.proofs.Gives.{fresh_is}
use borrow.Author.Rules.{rules}
use Rattle.openings.proofs.fresh.Goals as goal

pub returns : goal.returns
returns c = fresh_is _ _ _ _ (c.padded-serials.ensures ∙ padded_few _ (search rules)) (omega arith) c.empty-nobody.ensures c.none-rows.ensures
