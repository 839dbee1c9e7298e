-- `capi_answers::gm_ask` meets its contract. Assumes nothing.
use mathlib.Core.Path.{sym, ◌∙◌}
use native.Mathlib.Omega.{arith}
use borrow.Author.Rules.{rules}
use Rattle.boundary.specs.Recoveries.{asked_code}
use Rattle.boundary.proofs.Calls.{ask_off, ask_on}
use Rattle.capi_answers.proofs.gm_ask.Goals as goal

pub returns-then-n-place : goal.returns-then-n-place
returns-then-n-place c = λ serials seconds.
    ask_off _ _ (c.read_head-h.ensures.count_value, (c.read_head-h.ensures.returned_value, (c.read_head-h.ensures.full_value, (c.read_head-h.ensures.mourned_value, c.read_head-h.ensures.earlier_value)))) _ _ _ _ (omega (arith, c.size-n.ensures.value))

pub returns-in-Last : goal.returns-in-Last
unfolding asked_code
returns-in-Last c = λ serials seconds.
    ask_on _ _ (c.read_head-h.ensures.count_value, (c.read_head-h.ensures.returned_value, (c.read_head-h.ensures.full_value, (c.read_head-h.ensures.mourned_value, c.read_head-h.ensures.earlier_value)))) _ _ _ _ (omega (arith, c.size-n.ensures.value)) _ (sym c.in-Last.is ∙ c.answer_for-answer.ensures)

pub returns-in-NotLast : goal.returns-in-NotLast
unfolding asked_code
returns-in-NotLast c = λ serials seconds.
    ask_on _ _ (c.read_head-h.ensures.count_value, (c.read_head-h.ensures.returned_value, (c.read_head-h.ensures.full_value, (c.read_head-h.ensures.mourned_value, c.read_head-h.ensures.earlier_value)))) _ _ _ _ (omega (arith, c.size-n.ensures.value)) _ (sym c.in-NotLast.is ∙ c.answer_for-answer.ensures)

pub returns-in-Open : goal.returns-in-Open
unfolding asked_code
returns-in-Open c = λ serials seconds.
    ask_on _ _ (c.read_head-h.ensures.count_value, (c.read_head-h.ensures.returned_value, (c.read_head-h.ensures.full_value, (c.read_head-h.ensures.mourned_value, c.read_head-h.ensures.earlier_value)))) _ _ _ _ (omega (arith, c.size-n.ensures.value)) _ (sym c.in-Open.is ∙ c.answer_for-answer.ensures)
