-- `lookups::look_up` meets its contract: found as itself, by what it counts as, or not. Assumes nothing.
use Rattle.std.proofs.Common.{◌∙◌, sym}
use Rattle.serials.proofs.Seconds.{look_first, look_second, look_nothing}
use Rattle.lookups.proofs.look_up.Goals as goal

pub returns-in-Some : goal.returns-in-Some
returns-in-Some c = look_first _ _ _ _ _ c.find_from.ensures _ c.in-Some.is

pub returns-in_err-place : goal.returns-in_err-place
returns-in_err-place c =
    c.from_residual.ensures ∙ look_nothing _ _ _ _ _ c.find_from.ensures c.in_default.is _ c.counts_as-other.ensures _ c.find_from-2.ensures c.in_err-place.was

pub returns : goal.returns
returns c =
    look_second _ _ _ _ _ c.find_from.ensures c.in_default.is _ c.counts_as-other.ensures _ c.find_from-2.ensures _ c.in_ok-place.was
