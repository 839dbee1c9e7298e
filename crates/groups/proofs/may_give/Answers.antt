-- `groups::may_give` meets its contract: one law for each answer. Assumes nothing.
use mathlib.Core.Path.{sym, ◌∙◌}
use native.Mathlib.Omega.{arith}
use Rattle.answers.proofs.Groups.{give_off, give_zero, give_known, give_has, give_new}
use borrow.Author.Rules.{rules}
use Rattle.groups.proofs.may_give.Goals as goal

pub returns-then-n-place : goal.returns-then-n-place
returns-then-n-place c = give_off _ _ _ _ _ (omega (arith, c.size-n.ensures.value))

pub returns-then-serial-eq0 : goal.returns-then-serial-eq0
returns-then-serial-eq0 c = give_zero _ _ _ _ _ (omega (arith, c.size-n.ensures.value)) c.if-serial-eq0.true

pub returns-then-is_known : goal.returns-then-is_known
returns-then-is_known c =
    give_known _ _ _ _ _ (omega (arith, c.size-n.ensures.value)) c.if-serial-eq0.false (sym c.is_known.ensures ∙ c.if-is_known.true)

pub returns-then-has_second : goal.returns-then-has_second
returns-then-has_second c =
    give_has _ _ _ _ _ (omega (arith, c.size-n.ensures.value)) c.if-serial-eq0.false (sym c.is_known.ensures ∙ c.if-is_known.false) (sym c.has_second.ensures ∙ c.if-has_second.true)

pub returns : goal.returns
returns c =
    give_new _ _ _ _ _ (omega (arith, c.size-n.ensures.value)) c.if-serial-eq0.false (sym c.is_known.ensures ∙ c.if-is_known.false) (sym c.has_second.ensures ∙ c.if-has_second.false)
