-- `capi_days::gm_day_write` meets its contract. Assumes nothing.
use Rattle.std.proofs.Common.{ap, ◌∙◌, rules}
use Rattle.refusals.proofs.Numbers.{as_numbered, numbered_is}
use Rattle.boundary.specs.Words.{end_of}
use Rattle.capi_days.proofs.Days.{write_is}
use Rattle.capi_days.proofs.gm_day_write.Goals as goal

pub returns : goal.returns
returns c =
    let n = numbered_is c.write-answer.result c.map_err.result c.map_err.ensures.cases (λ j k h. search (rules, as_numbered)) in
    let w = write_is _ _ _ _ _ _ _ _ _ _ c.day_in-day.ensures (c.end_of.ensures ∙ ap end_of n) (c.write-answer.ensures.value, c.write-answer.ensures.out_after) in
    record { value = w.0; out_after = w.1 }
