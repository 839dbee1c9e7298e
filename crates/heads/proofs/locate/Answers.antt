-- `heads::locate` meets its contract: whichever of its place's two serials was found. Assumes nothing.
use Rattle.std.proofs.Common.{ap, ◌∙◌, Some}
use Rattle.serials.specs.Seconds.{place_in}
use Rattle.serials.proofs.Seconds.{located}
use Rattle.heads.proofs.locate.Goals as goal

pub returns-in_err-place : goal.returns-in_err-place
unfolding place_in
returns-in_err-place c = c.from_residual.ensures ∙ located _ _ _ _ _ c.look_up.ensures _ (ap place_in c.in_err-place.was)

pub returns-in-First : goal.returns-in-First
unfolding place_in
returns-in-First c = located _ _ _ _ _ c.look_up.ensures _ (ap place_in (c.in_ok-place.was ∙ ap Some c.in-First.is))

pub returns-in-Second : goal.returns-in-Second
unfolding place_in
returns-in-Second c = located _ _ _ _ _ c.look_up.ensures _ (ap place_in (c.in_ok-place.was ∙ ap Some c.in-Second.is))
