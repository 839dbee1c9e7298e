-- `showings::write` meets its contract. Assumes nothing.
use mathlib.Core.Path.{◌≡◌, sym, ◌∙◌}
use native.Mathlib.Omega.{arith}
use borrow.Author.Tests.{not-true, not-false}
use lib.ListN.{length}
use lib.Seq.{length-take-le}
use Rattle.calls.specs.Promises.{size_of}
use Rattle.calls.proofs.Writes.{write_12, write_14, write_back}
use borrow.Author.Rules.{rules}
use Rattle.showings.proofs.write.Goals as goal

pub returns-then-n-place : goal.returns-then-n-place
unfolding size_of
returns-then-n-place c = record { value = (write_12 _ _ _ _ (omega (arith, c.size-n.ensures.value))).0; out_after = (write_12 _ _ _ _ (omega (arith, c.size-n.ensures.value))).1 }

pub returns-then-not-contains : goal.returns-then-not-contains
unfolding size_of
returns-then-not-contains c = record { value = (write_14 _ _ _ _ (omega (arith, c.size-n.ensures.value)) (sym c.contains.ensures ∙ c.if-not-contains.true)).0; out_after = (write_14 _ _ _ _ (omega (arith, c.size-n.ensures.value)) (sym c.contains.ensures ∙ c.if-not-contains.true)).1 }

pub slice_bounds-serials-end : goal.slice_bounds-serials-end
slice_bounds-serials-end c =
    let l : length c.args.r.serials ≡ 128 = search rules in
    omega (arith, c.size-n.ensures.upper_bound)

pub slice_bounds-write-end : goal.slice_bounds-write-end
slice_bounds-write-end c =
    let l : length c.args.r.serials ≡ 128 = search rules in
    sym (length-take-le _ _ (omega (arith, c.size-n.ensures.upper_bound)))

pub returns : goal.returns
unfolding size_of
returns c =
    let l : length c.args.r.serials ≡ 128 = search rules in
    let long = sym (length-take-le _ _ (omega (arith, c.size-n.ensures.upper_bound))) in
    let w = write_back _ _ _ _ (omega (arith, c.size-n.ensures.value)) (sym c.contains.ensures ∙ c.if-not-contains.false) _ c.size-n.ensures.value long _ c.recorded-row.ensures _ c.kind_of-kind.ensures _ _ (c.write.ensures.value, c.write.ensures.out_after) in
    record { value = w.0; out_after = w.1 }
