-- `window::ready` meets its contract. Assumes nothing.
use native.Mathlib.Omega.{arith}
use Rattle.sets.proofs.Booleans.{clash}
use Rattle.recover.proofs.Streams.{window_enough, filled_enough}
use Rattle.recover.proofs.Windows.{length_ahead, starts_itself}
use Rattle.recover.proofs.window.ready.Goals as goal

pub returns-then-w : goal.returns-then-w
returns-then-w c = record { inside_2 = c.requires.inside; starts_with = starts_itself _; enough = λ f. clash c.if-w.true f; err = tt }

pub returns-then-w-ge1031 : goal.returns-then-w-ge1031
returns-then-w-ge1031 c =
    let i = c.requires.inside in
    record { inside_2 = i; starts_with = starts_itself _; enough = λ f. window_enough c.args.w c.args.buf.now i (omega (arith, length_ahead c.args.w c.args.buf.now i.1)); err = tt }

pub returns-clause-enough : goal.returns-clause-enough
returns-clause-enough c =
    filled_enough c.refill.result c.refill.new.buf _ c.requires.in_bounds c.refill.ensures.inside c.refill.ensures.buf_len
