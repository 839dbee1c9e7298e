-- `lookups::counts_as` meets its contract: one law for each answer. Assumes nothing.
use mathlib.Core.Path.{sym}
use Rattle.serials.proofs.Rosters.{found_lacks}
use Rattle.serials.proofs.Seconds.{counts_zero, counts_other, counts_there, counts_past}
use Rattle.lookups.proofs.counts_as.Goals as goal

pub returns-then-serial-eq0 : goal.returns-then-serial-eq0
returns-then-serial-eq0 c = sym (counts_zero _ _ _ c.if-serial-eq0.true)

pub returns-in_default : goal.returns-in_default
returns-in_default c = sym (counts_other _ _ _ (found_lacks _ _ _ c.find.ensures c.in_default.is))

pub returns-then-firsts-p : goal.returns-then-firsts-p
returns-then-firsts-p c =
    sym (counts_past _ _ _ c.if-serial-eq0.false _ c.find.ensures _ c.in-Some.is c.if-firsts-p.true)

pub returns : goal.returns
returns c =
    sym (counts_there _ _ _ c.if-serial-eq0.false _ c.find.ensures _ c.in-Some.is)
