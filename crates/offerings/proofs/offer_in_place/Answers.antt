-- `offerings::offer_in_place` meets its contract. Assumes nothing.
use Rattle.refusals.proofs.Outcomes.{passed}
use Rattle.std.specs.Prelude.{Option, Some, None, Result, Ok, Err}
use mathlib.Core.Path.{sym, ◌∙◌}
use Rattle.calls.specs.Promises.{saying}
use Rattle.calls.proofs.Offers.{offered_read, offered_unread}
use Rattle.offerings.proofs.offer_in_place.Goals as goal

pub returns-in_err-x : goal.returns-in_err-x
unfolding saying
returns-in_err-x c =
    let p = passed _ _ c.from_residual.ensures.1 in
    rw p (offered_unread _ _ _ (sym c.read_lone.ensures ∙ c.in_err-x.was))

pub returns : goal.returns
returns c = c.offer_read_in_place.ensures ∙ offered_read _ _ _ (sym c.read_lone.ensures ∙ c.in_ok-x.was)
