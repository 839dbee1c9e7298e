-- `output::say_record` meets its contract. Assumes nothing.
use Rattle.std.proofs.Common.{rules}
use Rattle.refusals.specs.Numbers.{numbered}
use Rattle.refusals.proofs.Numbers.{as_numbered, numbered_is}
use Rattle.recover.proofs.Gathered.{record_short, said}
use Rattle.recover.proofs.output.say_record.Goals as goal

pub returns-clause-ok : goal.returns-clause-ok
returns-clause-ok c =
    let a = c.args in
    let n = numbered_is a.answer c.map_err-said.result c.map_err-said.ensures.cases (λ j k h. search (rules, as_numbered)) in
    let v = rw n at c.put_record.ensures.value in
    let o = rw n at c.put_record.ensures.out_after in
    said _ (record_short a.number (numbered a.answer)) a.used c.in_ok-at.at a.out.now _ c.put_record.result c.end_of.result c.in_ok-at.ensures.result_in_bounds c.in_ok-at.ensures.fact v o c.end_of.ensures
