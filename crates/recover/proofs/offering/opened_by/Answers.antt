-- `offering::opened_by` meets its contract: the roster of a record that was read makes a recovery. Assumes nothing.
use mathlib.Core.Path.{refl, sym}
use native.Mathlib.Omega.{arith}
use lib.Seq.{length-take-le}
use Rattle.recover.proofs.Readings.{count_few, copied_long, opened_is}
use Rattle.recover.proofs.offering.opened_by.Goals as goal

pub slice_bounds-list-end : goal.slice_bounds-list-end
slice_bounds-list-end c =
    let a = c.args in
    omega (arith, copied_long a.bytes.now a.at a.x c.requires _ _ refl c.copy_roster.ensures.list_after, count_few a.bytes.now a.at a.x c.requires)

pub slice_bounds-open-end : goal.slice_bounds-open-end
slice_bounds-open-end c =
    let a = c.args in
    sym (length-take-le _ _ (omega (arith, copied_long a.bytes.now a.at a.x c.requires _ _ refl c.copy_roster.ensures.list_after, count_few a.bytes.now a.at a.x c.requires)))

pub returns : goal.returns
returns c =
    let a = c.args in
    opened_is a.bytes.now a.at a.x c.requires _ _ c.copy_roster.ensures.list_after _ c.open-opened.ensures
