-- `lookups::find_from` meets its contract. The invariant: looking from i on finds what looking from `from` on finds.
-- Assumes nothing.
use mathlib.Core.Path.{sym, ap, ◌∙◌}
use native.Mathlib.Omega.{arith}
use lib.ListN.{length}
use Rattle.sets.specs.PlaceSets.{found}
use Rattle.serials.proofs.Rosters.{from_hit, from_miss, from_past, found_here}
use Rattle.lookups.proofs.find_from.Goals as goal

pub returns-then-roster-i : goal.returns-then-roster-i
returns-then-roster-i c =
    let a = c.args in
    found_here _ _ _ (c.loop-i.invariant ∙ from_hit a.roster.now c.loop-i.i (omega arith) a.serial.0 c.if-roster-i.true) (omega arith)

pub loop-i-preserved : goal.loop-i-preserved
loop-i-preserved c =
    let a = c.args in
    c.loop-i.invariant ∙ from_miss a.roster.now c.loop-i.i (omega arith) a.serial.0 c.if-roster-i.false

pub returns : goal.returns
returns c =
    let a = c.args in
    c.find.ensures ∙ ap (found (length a.roster.now)) (sym (c.loop-i.invariant ∙ from_past a.roster.now c.loop-i.i a.serial.0 (omega arith)))
