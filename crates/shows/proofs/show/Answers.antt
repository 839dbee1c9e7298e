-- `shows::show` meets its contract. Assumes nothing.
use mathlib.Core.Path.{sym, ◌∙◌}
use native.Mathlib.Omega.{arith}
use Rattle.answers.proofs.Views.{size_at_most}
use Rattle.shows.proofs.Shows.{blocker_at, blocker_open, blocker_none, show_12, show_last, show_not_last}
use borrow.Author.Rules.{rules}
use Rattle.shows.proofs.show.Goals as goal

pub returns-then-size-place : goal.returns-then-size-place
returns-then-size-place c = record { value = (show_12 _ _ _ _ _ _ _ _ _ (omega (arith, c.size.ensures.value))).0; first_after = (show_12 _ _ _ _ _ _ _ _ _ (omega (arith, c.size.ensures.value))).1.0; second_after = (show_12 _ _ _ _ _ _ _ _ _ (omega (arith, c.size.ensures.value))).1.1 }

pub returns-then-contains : goal.returns-then-contains
returns-then-contains c = record { value = (show_not_last _ _ _ _ _ _ _ _ _ (omega (arith, c.size.ensures.value)) (sym c.contains.ensures ∙ c.if-contains.true)).0; first_after = (show_not_last _ _ _ _ _ _ _ _ _ (omega (arith, c.size.ensures.value)) (sym c.contains.ensures ∙ c.if-contains.true)).1.0; second_after = (show_not_last _ _ _ _ _ _ _ _ _ (omega (arith, c.size.ensures.value)) (sym c.contains.ensures ∙ c.if-contains.true)).1.1 }

pub returns-in_default : goal.returns-in_default
returns-in_default c = record {
  value = (show_last _ _ _ _ _ _ _ _ _ (omega (arith, c.size.ensures.value))
      (blocker_none _ _ _ _ _ (size_at_most _) _ c.blockers-blocking.ensures _ c.lowest-found.ensures c.in_default.is (sym c.contains.ensures ∙ c.if-contains.false))).0;
  first_after = (show_last _ _ _ _ _ _ _ _ _ (omega (arith, c.size.ensures.value))
      (blocker_none _ _ _ _ _ (size_at_most _) _ c.blockers-blocking.ensures _ c.lowest-found.ensures c.in_default.is (sym c.contains.ensures ∙ c.if-contains.false))).1.0;
  second_after = (show_last _ _ _ _ _ _ _ _ _ (omega (arith, c.size.ensures.value))
      (blocker_none _ _ _ _ _ (size_at_most _) _ c.blockers-blocking.ensures _ c.lowest-found.ensures c.in_default.is (sym c.contains.ensures ∙ c.if-contains.false))).1.1;
}

pub show_open-requires : goal.show_open-requires
show_open-requires c =
    let at = blocker_at _ _ _ _ _ (size_at_most _) _ c.blockers-blocking.ensures _ c.lowest-found.ensures _ c.in-Some.is in
    let is = blocker_open _ _ _ _ _ (size_at_most _) _ c.blockers-blocking.ensures _ c.lowest-found.ensures _ c.in-Some.is (sym c.contains.ensures ∙ c.if-contains.false) in
    record { place_bound = (omega (arith, c.size.ensures.value), is); blocker_value = at }
