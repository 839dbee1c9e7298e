-- `showings::check` meets its contract. Assumes nothing.
use mathlib.Core.Path.{refl, sym, ◌∙◌}
use native.Mathlib.Omega.{arith}
use borrow.Author.Rules.{rules}
use Rattle.calls.specs.Promises.{size_of, accepted_of}
use Rattle.calls.proofs.Calls.{checked_short, checked_off, checked_on}
use Rattle.showings.proofs.check.Goals as goal

pub returns-then-history-n : goal.returns-then-history-n
unfolding size_of
returns-then-history-n c = sym (checked_short _ (sym c.size-n.ensures.value) _ (omega arith))

pub returns-then-off_roster : goal.returns-then-off_roster
unfolding size_of
returns-then-off_roster c =
    sym (checked_off _ refl _ (omega (arith, c.size-n.ensures.value)) (sym c.off_roster.ensures ∙ c.if-off_roster.true))

pub returns : goal.returns
unfolding size_of accepted_of
returns c =
    sym (checked_on _ refl _ (omega (arith, c.size-n.ensures.value)) (sym c.off_roster.ensures ∙ c.if-off_roster.false) _ (sym c.fits.ensures))
