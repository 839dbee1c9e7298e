-- `capi_histories::gm_check` meets its contract. Assumes nothing.
use mathlib.Core.Path.{sym, ◌∙◌}
use native.Mathlib.Omega.{arith}
use borrow.Author.Rules.{rules}
use Rattle.boundary.specs.Recoveries.{checked_code}
use Rattle.boundary.proofs.Calls.{check_short, check_off, check_on}
use Rattle.capi_histories.proofs.gm_check.Goals as goal

pub returns-then-history-n : goal.returns-then-history-n
returns-then-history-n c = λ serials seconds.
    check_short _ _ (c.read_head-h.ensures.count_value, (c.read_head-h.ensures.returned_value, (c.read_head-h.ensures.full_value, (c.read_head-h.ensures.mourned_value, c.read_head-h.ensures.earlier_value)))) _ _ _ _ (omega (arith, c.size-n.ensures.value))

pub returns-then-off_roster : goal.returns-then-off_roster
returns-then-off_roster c = λ serials seconds.
    check_off _ _ (c.read_head-h.ensures.count_value, (c.read_head-h.ensures.returned_value, (c.read_head-h.ensures.full_value, (c.read_head-h.ensures.mourned_value, c.read_head-h.ensures.earlier_value)))) _ _ _ _ (omega (arith, c.size-n.ensures.value)) (sym c.off_roster.ensures ∙ c.if-off_roster.true)

pub returns-then-fits : goal.returns-then-fits
unfolding checked_code
returns-then-fits c = λ serials seconds.
    check_on _ _ (c.read_head-h.ensures.count_value, (c.read_head-h.ensures.returned_value, (c.read_head-h.ensures.full_value, (c.read_head-h.ensures.mourned_value, c.read_head-h.ensures.earlier_value)))) _ _ _ _ (omega (arith, c.size-n.ensures.value)) (sym c.off_roster.ensures ∙ c.if-off_roster.false) _ (sym c.fits.ensures ∙ c.if-fits.true)

pub returns : goal.returns
unfolding checked_code
returns c = λ serials seconds.
    check_on _ _ (c.read_head-h.ensures.count_value, (c.read_head-h.ensures.returned_value, (c.read_head-h.ensures.full_value, (c.read_head-h.ensures.mourned_value, c.read_head-h.ensures.earlier_value)))) _ _ _ _ (omega (arith, c.size-n.ensures.value)) (sym c.off_roster.ensures ∙ c.if-off_roster.false) _ (sym c.fits.ensures ∙ c.if-fits.false)
