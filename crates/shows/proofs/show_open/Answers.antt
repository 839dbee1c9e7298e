-- `shows::show_open` meets its contract. Assumes nothing.
use mathlib.Core.Logic.{inl, inr}
use native.Mathlib.Omega.{arith}
use borrow.Author.Rules.{rules}
use Rattle.shows.proofs.Shows.{blocker_small, heard_row, show_13, show_both}
use Rattle.shows.proofs.show_open.Goals as goal

pub returns-then-first-n : goal.returns-then-first-n
returns-then-first-n c = record { value = (show_13 _ _ _ _ _ _ _ _ _ c.requires.place_bound.0 c.requires.place_bound.1 (inl (omega (arith, c.size-n.ensures.value)))).0; first_after = (show_13 _ _ _ _ _ _ _ _ _ c.requires.place_bound.0 c.requires.place_bound.1 (inl (omega (arith, c.size-n.ensures.value)))).1.0; second_after = (show_13 _ _ _ _ _ _ _ _ _ c.requires.place_bound.0 c.requires.place_bound.1 (inl (omega (arith, c.size-n.ensures.value)))).1.1 }

pub returns-then-second-n : goal.returns-then-second-n
returns-then-second-n c = record { value = (show_13 _ _ _ _ _ _ _ _ _ c.requires.place_bound.0 c.requires.place_bound.1 (inr (omega (arith, c.size-n.ensures.value)))).0; first_after = (show_13 _ _ _ _ _ _ _ _ _ c.requires.place_bound.0 c.requires.place_bound.1 (inr (omega (arith, c.size-n.ensures.value)))).1.0; second_after = (show_13 _ _ _ _ _ _ _ _ _ c.requires.place_bound.0 c.requires.place_bound.1 (inr (omega (arith, c.size-n.ensures.value)))).1.1 }

pub overflow_mul-blocker : goal.overflow_mul-blocker
overflow_mul-blocker c =
    omega (arith, blocker_small _ _ _ c.requires.blocker_value)

pub returns : goal.returns
returns c = record {
  value = (show_both _ _ _ _ _ _ _ _ _ c.requires.place_bound.0 c.requires.place_bound.1 _ c.size-n.ensures.value c.if-first-n.false c.if-second-n.false _ _ _ _ _ c.requires.blocker_value (heard_row _ _ _ _ _ _ c.heard_row-heard.ensures)
      c.lay_both.ensures.first_after c.lay_both.ensures.second_after c.put.ensures).0;
  first_after = (show_both _ _ _ _ _ _ _ _ _ c.requires.place_bound.0 c.requires.place_bound.1 _ c.size-n.ensures.value c.if-first-n.false c.if-second-n.false _ _ _ _ _ c.requires.blocker_value (heard_row _ _ _ _ _ _ c.heard_row-heard.ensures)
      c.lay_both.ensures.first_after c.lay_both.ensures.second_after c.put.ensures).1.0;
  second_after = (show_both _ _ _ _ _ _ _ _ _ c.requires.place_bound.0 c.requires.place_bound.1 _ c.size-n.ensures.value c.if-first-n.false c.if-second-n.false _ _ _ _ _ c.requires.blocker_value (heard_row _ _ _ _ _ _ c.heard_row-heard.ensures)
      c.lay_both.ensures.first_after c.lay_both.ensures.second_after c.put.ensures).1.1;
}
