-- `readings::read_mourned` meets its contract. The invariant: reading the section from its front is reading it from the j-th serial
-- on, with the set and the lowest place so far. Assumes nothing.
use mathlib.Core.Path.{◌≡◌, sym, ◌∙◌}
use Prim.Native.Nat.{◌<◌}
use native.Mathlib.Omega.{arith}
use lib.ListN.{length}
use borrow.Author.Rules.{rules}
use Rattle.sets.specs.PlaceSets.{has}
use Rattle.sets.proofs.Laws.{found_at, kept_with}
use Rattle.serials.proofs.Rosters.{found_holds, found_lacks}
use Rattle.std.proofs.lemmas.Result.{IfOk-at_ok}
use Rattle.refusals.proofs.Outcomes.{passed}
use Rattle.layouts.specs.Layout.{mourned_serials}
use Rattle.layouts.specs.Parts.{mourned_of}
use Rattle.readings.proofs.Mournings.{found_along, onwards_start, onwards_done, onwards_fault, onwards_strange, onwards_falling, onwards_more}
use Rattle.readings.proofs.read_mourned.Goals as goal

pub loop-j-init : goal.loop-j-init
loop-j-init c =
    let a = c.args in
    (omega arith, omega arith, search (rules, c.empty-set.type_inv), onwards_start _ a.bytes.now a.at a.m a.roster.now _ c.empty-set.ensures)

pub returns-in_err-x : goal.returns-in_err-x
unfolding mourned_of
returns-in_err-x c =
    let a = c.args in
    let p = passed _ _ c.from_residual.ensures.1 in
    record { bytes_value = c.loop-j.invariant.3 ∙ rw p (onwards_fault _ a.bytes.now a.at a.m a.roster.now c.loop-j.j c.loop-j.from _ c.loop-j-test.true _ c.read_serial.ensures.bytes_value _ c.in_err-x.was); mourned_in = rw p tt }

pub returns-in_default : goal.returns-in_default
unfolding mourned_of
returns-in_default c =
    let a = c.args in
    let e = found_along a.roster.now c.requires.roster_value c.loop-j.from _ c.locate.result c.locate.ensures in record { bytes_value = c.loop-j.invariant.3 ∙ onwards_strange _ a.bytes.now a.at a.m a.roster.now c.loop-j.j c.loop-j.from _ c.loop-j-test.true _ c.read_serial.ensures.bytes_value _ c.in_ok-x.was (found_lacks _ _ _ e c.in_default.is); mourned_in = tt }

pub returns-then-place-from : goal.returns-then-place-from
unfolding mourned_of
returns-then-place-from c =
    let a = c.args in
    let e = found_along a.roster.now c.requires.roster_value c.loop-j.from _ c.locate.result c.locate.ensures in
    record { bytes_value = c.loop-j.invariant.3 ∙ onwards_falling _ a.bytes.now a.at a.m a.roster.now c.loop-j.j c.loop-j.from _ c.loop-j-test.true _ c.read_serial.ensures.bytes_value _ c.in_ok-x.was (found_holds _ _ _ e _ c.in-Some.is) _ (found_at _ _ _ (sym e ∙ c.in-Some.is)).0 c.if-place-from.true; mourned_in = tt }

pub overflow_add-from : goal.overflow_add-from
overflow_add-from c =
    let a = c.args in
    let e = found_along a.roster.now c.requires.roster_value c.loop-j.from _ c.locate.result c.locate.ensures in
    omega (arith, c.requires.roster_len_bound, (found_at _ _ _ (sym e ∙ c.in-Some.is)).1)

pub loop-j-preserved : goal.loop-j-preserved
loop-j-preserved c =
    let a = c.args in
    let e = found_along a.roster.now c.requires.roster_value c.loop-j.from _ c.locate.result c.locate.ensures in
    let on : c.in-Some.place.0 < length a.roster.now = (found_at _ _ _ (sym e ∙ c.in-Some.is)).1 in
    let there = IfOk-at_ok _ c.in_ok-x.was c.read_serial.ensures.at_in_bounds in (
      omega (arith, there),
      omega (arith, on),
      search (rules, c.with-set.type_inv),
      c.loop-j.invariant.3
          ∙ onwards_more _ a.bytes.now a.at a.m a.roster.now c.loop-j.j c.loop-j.from _ c.loop-j-test.true _ c.read_serial.ensures.bytes_value _ c.in_ok-x.was (found_holds _ _ _ e _ c.in-Some.is) _ (found_at _ _ _ (sym e ∙ c.in-Some.is)).0 (has c.with-set.result) (c.with-set.ensures ∙ kept_with c.loop-j.set c.in-Some.place.0 (omega arith)) c.if-place-from.false,
    )

pub returns : goal.returns
unfolding mourned_of
returns c =
    let a = c.args in
    let e : c.loop-j.j ≡ a.m = omega arith in
    record { bytes_value = c.loop-j.invariant.3 ∙ onwards_done _ a.bytes.now a.at a.m a.roster.now c.loop-j.j c.loop-j.from _ e; mourned_in = (omega arith, c.loop-j.invariant.2) }
