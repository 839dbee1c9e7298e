-- `minimax::play` meets its contract. Assumes nothing.
use native.Mathlib.Omega.{arith}
use Rattle.calls.specs.Promises.{size_of}
use Rattle.games.proofs.Turns.{played_large, played_small}
use Rattle.minimax.proofs.play.Goals as goal

pub returns-then-n-gt4 : goal.returns-then-n-gt4
unfolding size_of
returns-then-n-gt4 c = played_large _ (omega (arith, c.size-n.ensures.value, c.if-n-gt4.true))

pub crew-requires : goal.crew-requires
unfolding size_of
crew-requires c = omega (arith, c.size-n.ensures.value, c.if-n-gt4.false)

pub returns : goal.returns
unfolding size_of
returns c = played_small _ (omega (arith, c.size-n.ensures.value, c.if-n-gt4.false)) _ c.crew.ensures
