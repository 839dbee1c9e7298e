-- `offering::offer_all` stays in both buffers and ends: the window lies in the input's buffer. Assumes nothing.
use mathlib.Core.Path.{sym, subst, ◌∙◌}
use Prim.Native.Nat.{◌≤◌}
use native.Mathlib.Omega.{arith}
use lib.Seq.{length-take-le}
use borrow.Author.Rules.{rules}
use Rattle.recover.proofs.Readings.{ends_inside}
use Rattle.recover.proofs.offering.offer_all.Goals as goal

pub slice_bounds-read_next-end-in-loop-number : goal.slice_bounds-read_next-end-in-loop-number
slice_bounds-read_next-end-in-loop-number c = sym (length-take-le _ _ c.in_ok-w.ensures.inside_2.1)

pub slice_bounds-opened_by-end-then-number-eq1 : goal.slice_bounds-opened_by-end-then-number-eq1
slice_bounds-opened_by-end-then-number-eq1 c = sym (length-take-le _ _ c.in_ok-w.ensures.inside_2.1)

pub opened_by-recovery-requires : goal.opened_by-recovery-requires
opened_by-recovery-requires c = sym c.read_next-got.ensures ∙ c.in-Ok.is

pub slice_bounds-judge-end-in-loop-number-2 : goal.slice_bounds-judge-end-in-loop-number-2
slice_bounds-judge-end-in-loop-number-2 c = sym (length-take-le _ _ c.in_ok-w.ensures.inside_2.1)

pub say_record-requires-in-loop-number : goal.say_record-requires-in-loop-number
say_record-requires-in-loop-number c =
    let l = c.loop-number.invariant in
    record { used_in_bounds = omega (arith, l.2, l.3); in_bounds = omega (arith, l.3, c.requires.in_bounds_2) }

pub slice_bounds-offer_read-end : goal.slice_bounds-offer_read-end
slice_bounds-offer_read-end c = c.in_ok-w.ensures.inside_2.1

pub loop-number-preserved : goal.loop-number-preserved
loop-number-preserved c =
    let l = c.loop-number.invariant in
    let i = c.in_ok-w.ensures.inside_2.1 in
    let e = ends_inside _ _ _ (sym c.read_next-got.ensures ∙ c.in-Ok.is) in
    ((omega (arith, c.past-w.ensures.0, c.past-w.ensures.1, e, length-take-le c.in_ok-w.w.have c.ready.new.buf i), omega (arith, c.past-w.ensures.1, i)), search rules, subst (λ n. c.in_ok-used-2.used ≤ n) l.3 c.in_ok-used-2.ensures.ok.inside, search rules)
