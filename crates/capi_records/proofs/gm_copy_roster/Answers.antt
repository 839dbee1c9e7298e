-- `capi_records::gm_copy_roster` meets its contract. Assumes nothing.
use mathlib.Core.Path.{ap, ◌∙◌}
use borrow.Author.Rules.{rules}
use Rattle.boundary.specs.Words.{yes_code}
use Rattle.capi_records.proofs.gm_copy_roster.Goals as goal

pub returns : goal.returns
returns c =
    record { value = c.yes_code.ensures ∙ ap yes_code c.copy_roster-done.ensures.value; list_after = c.copy_roster-done.ensures.list_after }
