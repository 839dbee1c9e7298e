-- `capi_answers::listing_code` meets its contract. Assumes nothing.
use Rattle.std.proofs.Common.{sym, ap, ◌∙◌}
use Rattle.refusals.proofs.Numbers.{as_numbered}
use Rattle.boundary.specs.Recoveries.{listing_code}
use Rattle.capi_answers.proofs.listing_code.Goals as goal

pub returns-in-Ok : goal.returns-in-Ok
unfolding listing_code
returns-in-Ok c = sym (ap listing_code c.in-Ok.is)

pub returns-in-Err : goal.returns-in-Err
unfolding listing_code
returns-in-Err c = as_numbered _ ∙ sym (ap listing_code c.in-Err.is)
