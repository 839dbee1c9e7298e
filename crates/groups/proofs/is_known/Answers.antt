-- `groups::is_known` meets its contract. Assumes nothing.
use Rattle.std.proofs.Common.{ap, ◌∙◌}
use Rattle.answers.specs.Groups.{is_found}
use Rattle.groups.proofs.is_known.Goals as goal

pub returns : goal.returns
returns c = c.is_some.ensures ∙ ap is_found c.find.ensures
