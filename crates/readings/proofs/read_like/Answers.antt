-- `readings::read_like` meets its contract: by the list where the roster is the list, and else by reading. Assumes nothing.
use Rattle.std.specs.Prelude.{Option, Some, None, Result, Ok, Err}
use mathlib.Core.Path.{◌≡◌, refl, sym, ap, ◌∙◌}
use mathlib.Core.List.{[]}
use Prim.Native.Nat.{◌+◌}
use native.Mathlib.Omega.{arith}
use lib.ListN.{length}
use lib.Seq.{take-length}
use borrow.Author.Rules.{rules}
use borrow.Author.Tests.{not-false}
use Rattle.refusals.proofs.Outcomes.{passed}
use Rattle.serials.specs.Seconds.{counts_as}
use Rattle.layouts.specs.Parts.{owner_of, head_on, head_of}
use Rattle.layouts.proofs.Heads.{like_section, after_read, on_in}
use Rattle.layouts.proofs.Readings.{read_no_head}
use Rattle.readings.proofs.read_like.Goals as goal

pub overflow_add-at : goal.overflow_add-at
overflow_add-at c =
    let w = rw c.in_ok-owner.was at c.read_owner.ensures.owner_in in
    omega (arith, w)

pub returns-then-not-is_like : goal.returns-then-not-is_like
returns-then-not-is_like c = c.read.ensures

pub overflow_add-at-2 : goal.overflow_add-at-2
overflow_add-at-2 c =
    let w = rw c.in_ok-owner.was at c.read_owner.ensures.owner_in in
    search (rules, w)

pub read_rest-requires : goal.read_rest-requires
unfolding owner_of
read_rest-requires c =
    let w = c.is_like.ensures (c.if-not-is_like.false) in
    let a = c.args in
    let f = a.firsts.now in
    let o = c.on_roster-head.ensures ∙ ap (head_on (counts_as f a.seconds.now) _ _ _ (length f)) (sym (take-length f)) in
    let e : a.at + 5 + 1 ≡ a.at + 6 = omega arith in record { bytes_value = c.read_owner.ensures.by_index _ ∙ rw (c.in_ok-owner.was, o, ← e) (after_read _ _ _ _ _ _ f (like_section _ _ _ w) _ refl); head_in = rw (o, ← e) (on_in _ _ _ _ _ _ _ w.rostered) }

pub returns-in_err-owner : goal.returns-in_err-owner
unfolding owner_of head_of
returns-in_err-owner c =
    let a = c.args in
    passed _ _ c.from_residual.ensures.1 ∙ read_no_head _ a.bytes.now a.at (Err _) [] (c.read_owner.ensures.by_index _ ∙ rw c.in_err-owner.was) _ refl

pub returns : goal.returns
returns c = c.read_rest.ensures
