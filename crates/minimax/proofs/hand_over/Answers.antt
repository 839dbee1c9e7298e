-- `minimax::hand_over` meets its contract. Assumes nothing.
use Rattle.std.specs.Prelude.{Option, Some, None, Result, Ok, Err}
use mathlib.Core.Path.{◌≡◌, refl, sym}
use native.Mathlib.Omega.{arith}
use lib.ListN.{length}
use lib.Seq.{length-take-le}
use Rattle.calls.specs.Promises.{size_of}
use Rattle.minimax.proofs.Handing.{end_inside, handed_is, never_refused}
use borrow.Author.Rules.{rules}
use Rattle.minimax.proofs.hand_over.Goals as goal

pub slice_bounds-serials-end : goal.slice_bounds-serials-end
slice_bounds-serials-end c =
    let l : length c.args.r.serials ≡ 128 = search rules in
    omega (arith, c.size-n.ensures.upper_bound)

pub slice_bounds-write-end : goal.slice_bounds-write-end
slice_bounds-write-end c =
    let l : length c.args.r.serials ≡ 128 = search rules in
    sym (length-take-le _ _ (omega (arith, c.size-n.ensures.upper_bound)))

pub returns-in_default : goal.returns-in_default
unfolding size_of
returns-in_default c =
    let args = c.args in
    let l : length args.r.serials ≡ 128 = search rules in
    let long = sym (length-take-le _ _ (omega (arith, c.size-n.ensures.upper_bound))) in
    never_refused args.r args.place.0 args.number c.requires.r_bound c.requires.place_bound _ c.size-n.ensures.value long
    (search rules) _ c.kind_numbered-kind.ensures _ refl _ _ (c.write-done.ensures.value, c.write-done.ensures.out_after) _ c.in_default.is

pub slice_bounds-bytes-end : goal.slice_bounds-bytes-end
unfolding size_of
slice_bounds-bytes-end c =
    let args = c.args in
    let l : length args.r.serials ≡ 128 = search rules in
    let long = sym (length-take-le _ _ (omega (arith, c.size-n.ensures.upper_bound))) in
    end_inside args.r args.place.0 args.number c.requires.r_bound c.requires.place_bound _ c.size-n.ensures.value long
    (search rules) _ c.kind_numbered-kind.ensures _ refl _ _ (c.write-done.ensures.value, c.write-done.ensures.out_after) _ c.in-Ok.is

pub slice_bounds-offer-end : goal.slice_bounds-offer-end
unfolding size_of
slice_bounds-offer-end c =
    let args = c.args in
    let l : length args.r.serials ≡ 128 = search rules in
    let long = sym (length-take-le _ _ (omega (arith, c.size-n.ensures.upper_bound))) in
    let inside = end_inside args.r args.place.0 args.number c.requires.r_bound c.requires.place_bound _ c.size-n.ensures.value long
    (search rules) _ c.kind_numbered-kind.ensures _ refl _ _ (c.write-done.ensures.value, c.write-done.ensures.out_after) _ c.in-Ok.is in
    sym (length-take-le _ _ inside)

pub returns : goal.returns
unfolding size_of
returns c =
    let args = c.args in
    let l : length args.r.serials ≡ 128 = search rules in
    let long = sym (length-take-le _ _ (omega (arith, c.size-n.ensures.upper_bound))) in
    handed_is args.r args.place.0 args.number c.requires.r_bound c.requires.place_bound _ c.size-n.ensures.value long
    (search rules) _ c.kind_numbered-kind.ensures _ refl _ _ (c.write-done.ensures.value, c.write-done.ensures.out_after) _ c.in-Ok.is _ c.offer.ensures
