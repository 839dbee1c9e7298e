-- `replies::again` meets its contract. Assumes nothing.
use mathlib.Core.Path.{sym, ◌∙◌}
use mathlib.Core.Bool.{true, false}
use borrow.Author.Tests.{not-true, not-false}
use Rattle.sets.specs.PlaceSets.{has}
use Rattle.answers.specs.Views.{accepted_in}
use Rattle.answers.proofs.Replies.{same_cut, again_kind, again_row, kind_is}
use borrow.Author.Rules.{rules}
use Rattle.replies.proofs.SameKinds.{compared, differ, agree}
use Rattle.replies.proofs.again.Goals as goal

pub returns-then-ne : goal.returns-then-ne
returns-then-ne c =
    let s = c.args in
    again_kind _ (accepted_in s.count (has s.returned) (has s.full) s.rows.now) _ _ _ (kind_is s.count (has s.returned) (has s.full) s.rows.now _ _ _ _ _ c.kind_of-first.ensures (compared _ _) (differ _ _ c.ne.ensures c.if-ne.true))

pub returns-then-same : goal.returns-then-same
returns-then-same c =
    let s = c.args in
    let e = same_cut s.count (has s.returned) (has s.full) s.rows.now _ _ _ _ _ c.requires c.below-all.ensures c.intersection-named.ensures c.recorded-row.ensures in
    again_row _ (accepted_in s.count (has s.returned) (has s.full) s.rows.now) _ _ _ (kind_is s.count (has s.returned) (has s.full) s.rows.now _ _ _ _ _ c.kind_of-first.ensures (compared _ _) (agree _ _ c.ne.ensures c.if-ne.false)) true (sym e ∙ sym c.same.ensures ∙ c.if-same.true)

pub returns : goal.returns
returns c =
    let s = c.args in
    let e = same_cut s.count (has s.returned) (has s.full) s.rows.now _ _ _ _ _ c.requires c.below-all.ensures c.intersection-named.ensures c.recorded-row.ensures in
    again_row _ (accepted_in s.count (has s.returned) (has s.full) s.rows.now) _ _ _ (kind_is s.count (has s.returned) (has s.full) s.rows.now _ _ _ _ _ c.kind_of-first.ensures (compared _ _) (agree _ _ c.ne.ensures c.if-ne.false)) false (sym e ∙ sym c.same.ensures ∙ c.if-same.false)
