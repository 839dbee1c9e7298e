-- `capi_records::gm_write_record` meets its contract. Assumes nothing.
use mathlib.Core.Path.{◌≡◌, ap, ◌∙◌}
use native.Mathlib.Omega.{arith}
use borrow.Author.Rules.{rules}
use Rattle.sets.specs.PlaceSets.{has}
use Rattle.refusals.proofs.Numbers.{as_numbered, numbered_is}
use Rattle.boundary.specs.Words.{set_at, end_of}
use Rattle.capi_records.proofs.Writes.{lays_full, lays_short, lays_none}
use Rattle.capi_records.proofs.gm_write_record.Goals as goal

pub returns-in-1 : goal.returns-in-1
unfolding set_at
returns-in-1 c =
    let n = numbered_is c.write-answer.result c.map_err.result c.map_err.ensures.cases (λ j k h. search (rules, as_numbered)) in
    let w = lays_full _ _ _ _ _ _ _ _ _ (c.end_of.ensures ∙ ap end_of n) (omega arith) (c.write-answer.ensures.value, c.write-answer.ensures.out_after) in
    record { value = w.0; out_after = w.1 }

pub returns-in-2 : goal.returns-in-2
unfolding set_at
returns-in-2 c =
    let n = numbered_is c.write-answer-in-2.result c.map_err-in-2.result c.map_err-in-2.ensures.cases (λ j k h. search (rules, as_numbered)) in
    let w = lays_short _ _ _ _ _ _ _ _ _ (c.end_of-in-2.ensures ∙ ap end_of n) (omega arith) (c.write-answer-in-2.ensures.value, c.write-answer-in-2.ensures.out_after) in
    record { value = w.0; out_after = w.1 }

pub returns-in-0 : goal.returns-in-0
returns-in-0 c =
    let a = c.args in
    let w = lays_none a.kind a.own a.roster.now (has (set_at a.mourned.now 0)) a.out.now a.at (λ e. omega arith) (λ e. omega arith) in
    record { value = w.0; out_after = w.1 }

pub returns-in-0-2 : goal.returns-in-0-2
returns-in-0-2 c =
    let a = c.args in
    let w = lays_none a.kind a.own a.roster.now (has (set_at a.mourned.now 0)) a.out.now a.at (λ e. omega arith) (λ e. omega arith) in
    record { value = w.0; out_after = w.1 }
