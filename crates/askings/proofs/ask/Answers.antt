-- `askings::ask` meets its contract. Assumes nothing.
use mathlib.Core.Path.{refl, sym, ◌∙◌}
use native.Mathlib.Omega.{arith}
use borrow.Author.Rules.{rules}
use Rattle.calls.specs.Promises.{size_of, accepted_of}
use Rattle.calls.proofs.Calls.{asked_off}
use Rattle.calls.proofs.Gives.{asked_on}
use Rattle.askings.proofs.ask.Goals as goal

pub returns-then-n-place : goal.returns-then-n-place
unfolding size_of
returns-then-n-place c = sym (asked_off _ (sym c.size-n.ensures.value) _ (omega arith))

pub returns : goal.returns
unfolding size_of accepted_of
returns c = asked_on _ _ refl _ (omega (arith, c.size-n.ensures.value)) _ c.answer_for.ensures
