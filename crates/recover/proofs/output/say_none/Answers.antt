-- `output::say_none` meets its contract. Assumes nothing.
use native.Mathlib.Omega.{arith}
use Rattle.transcripts.proofs.Laws.{line_length, none_line_lem}
use Rattle.recover.proofs.Gathered.{said}
use Rattle.recover.proofs.output.say_none.Goals as goal

pub returns-clause-ok : goal.returns-clause-ok
returns-clause-ok c =
    let a = c.args in
    said _ (omega (arith, line_length none_line_lem)) a.used c.in_ok-at.at a.out.now _ c.put_none.result c.end_of.result c.in_ok-at.ensures.result_in_bounds c.in_ok-at.ensures.fact c.put_none.ensures.value c.put_none.ensures.out_after c.end_of.ensures
