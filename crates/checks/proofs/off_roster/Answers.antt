-- `checks::off_roster` meets its contract. Assumes nothing.
use Rattle.checks.proofs.Checks.{row_off, named_off}
use Rattle.checks.proofs.off_roster.Goals as goal

pub all_named-requires : goal.all_named-requires
all_named-requires c = c.size-n.ensures.upper_bound

pub returns : goal.returns
returns c =
    named_off
    _
    _
    _
    _
    c.size-n.ensures.value
    (row_off _ _ _ _ _ _ c.all_named.ensures c.below.ensures c.difference-off.ensures c.is_empty.ensures)
