-- `capi_records::gm_roster_is` meets its contract. Assumes nothing.
use mathlib.Core.Path.{ap, ◌∙◌}
use borrow.Author.Rules.{rules}
use Rattle.boundary.specs.Words.{yes_code}
use Rattle.capi_records.proofs.gm_roster_is.Goals as goal

pub returns : goal.returns
returns c = c.yes_code.ensures ∙ ap yes_code c.roster_is-same.ensures
