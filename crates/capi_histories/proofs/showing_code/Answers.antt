-- `capi_histories::showing_code` meets its contract. Assumes nothing.
use Rattle.std.proofs.Common.{◌≡◌, sym, ap, ◌∙◌, Ok}
use Rattle.refusals.proofs.Numbers.{as_numbered}
use Rattle.answers.specs.declared.Showing.{Showing}
use Rattle.answers.specs.declared.Showing.TheVariants as S
use Rattle.boundary.specs.Recoveries.{showing_code}
use Rattle.capi_histories.proofs.showing_code.Goals as goal

pub returns-in-Ok-Shown : goal.returns-in-Ok-Shown
unfolding showing_code
returns-in-Ok-Shown c =
    let e : c.args.answer ≡ Ok S.Shown = c.in-Ok-Shown.is ∙ ap (λ (w : Showing). Ok w) (rw c.in-Ok-Shown.is at c.in-Ok-Shown.field-0-is) in
    sym (ap showing_code e)

pub returns-in-Ok-Decided : goal.returns-in-Ok-Decided
unfolding showing_code
returns-in-Ok-Decided c =
    let e : c.args.answer ≡ Ok S.Decided = c.in-Ok-Decided.is ∙ ap (λ (w : Showing). Ok w) (rw c.in-Ok-Decided.is at c.in-Ok-Decided.field-0-is) in
    sym (ap showing_code e)

pub returns-in-Err : goal.returns-in-Err
unfolding showing_code
returns-in-Err c = as_numbered _ ∙ sym (ap showing_code c.in-Err.is)
