-- `output::say_whole` meets its contract. Assumes nothing.
use native.Mathlib.Omega.{arith}
use Rattle.transcripts.proofs.Laws.{line_length, whole_line_lem}
use Rattle.recover.proofs.Gathered.{said}
use Rattle.recover.proofs.output.say_whole.Goals as goal

pub returns-clause-ok : goal.returns-clause-ok
returns-clause-ok c =
    let a = c.args in
    said _ (omega (arith, line_length (whole_line_lem a.settled))) a.used c.in_ok-at.at a.out.now _ c.put_whole.result c.end_of.result c.in_ok-at.ensures.result_in_bounds c.in_ok-at.ensures.fact c.put_whole.ensures.value c.put_whole.ensures.out_after c.end_of.ensures
