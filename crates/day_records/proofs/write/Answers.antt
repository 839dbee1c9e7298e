-- `day_records::write` meets its contract. Assumes nothing.
use mathlib.Core.Path.{◌≡◌, sym, ◌∙◌}
use native.Mathlib.Omega.{arith}
use lib.ListN.{length}
use lib.Seq.{length-take-le}
use borrow.Author.Rules.{rules}
use Rattle.day_records.proofs.Writes.{write_off, write_runs, write_done}
use Rattle.day_records.proofs.write.Goals as goal

pub returns-then-n-place : goal.returns-then-n-place
returns-then-n-place c =
    let a = c.args in
    record { value = (write_off a.d a.place.0 a.out.now a.at _ c.size-n.ensures.value c.if-n-place.true).0; out_after = (write_off a.d a.place.0 a.out.now a.at _ c.size-n.ensures.value c.if-n-place.true).1 }

pub returns-then-not-contains : goal.returns-then-not-contains
returns-then-not-contains c =
    let a = c.args in
    record { value = (write_runs a.d a.place.0 a.out.now a.at _ c.size-n.ensures.value c.if-n-place.false (sym c.contains.ensures ∙ c.if-not-contains.true)).0; out_after = (write_runs a.d a.place.0 a.out.now a.at _ c.size-n.ensures.value c.if-n-place.false (sym c.contains.ensures ∙ c.if-not-contains.true)).1 }

pub slice_bounds-serials-end : goal.slice_bounds-serials-end
slice_bounds-serials-end c =
    let l : length c.args.d.serials ≡ 128 = search rules in
    omega (arith, c.size-n.ensures.upper_bound)

pub slice_bounds-write-end : goal.slice_bounds-write-end
slice_bounds-write-end c =
    let l : length c.args.d.serials ≡ 128 = search rules in
    sym (length-take-le _ _ (omega (arith, c.size-n.ensures.upper_bound)))

pub returns : goal.returns
returns c =
    let a = c.args in
    let l : length a.d.serials ≡ 128 = search rules in
    let w = write_done a.d a.place.0 a.out.now a.at _ c.size-n.ensures.value c.if-n-place.false (sym c.contains.ensures ∙ c.if-not-contains.false) c.size-n.ensures.upper_bound
    (length-take-le _ _ (omega (arith, c.size-n.ensures.upper_bound))) _ _ _ c.heard-mourned.ensures (c.write.ensures.value, c.write.ensures.out_after) in
    record { value = w.0; out_after = w.1 }
