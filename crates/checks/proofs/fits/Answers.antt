-- `checks::fits` meets its contract. Assumes nothing.
use mathlib.Core.Path.{sym, ◌∙◌}
use native.Mathlib.Omega.{arith}
use Rattle.checks.proofs.Checks.{fits_not, fits_circle, fits_duty}
use Rattle.checks.proofs.fits.Goals as goal

pub all_recorded-requires : goal.all_recorded-requires
all_recorded-requires c = omega arith

pub returns-then-not-all_recorded : goal.returns-then-not-all_recorded
returns-then-not-all_recorded c =
    fits_not _ _ _ _ _ _ c.size-n.ensures.value (sym c.all_recorded.ensures ∙ c.if-not-all_recorded.true)

pub no_circle-requires : goal.no_circle-requires
no_circle-requires c = omega arith

pub returns-then-not-no_circle : goal.returns-then-not-no_circle
returns-then-not-no_circle c =
    fits_circle _ _ _ _ _ _ c.size-n.ensures.value (sym c.no_circle.ensures ∙ c.if-not-no_circle.true)

pub duty_met-requires : goal.duty_met-requires
duty_met-requires c =
    (omega arith, sym c.no_circle.ensures ∙ c.if-not-no_circle.false)

pub returns : goal.returns
returns c =
    let recorded = sym c.all_recorded.ensures ∙ c.if-not-all_recorded.false in
    let apart = sym c.no_circle.ensures ∙ c.if-not-no_circle.false in
    fits_duty _ _ _ _ _ _ c.size-n.ensures.value _ _ recorded apart c.intersection-due.ensures c.duty_met.ensures
