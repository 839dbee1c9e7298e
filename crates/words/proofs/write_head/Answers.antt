-- `words::write_head` meets its contract. Assumes nothing.
use mathlib.Core.Path.{refl}
use Rattle.boundary.specs.Recoveries.{head_words}
use Rattle.words.proofs.write_head.Goals as goal

pub returns : goal.returns
unfolding head_words
returns c = refl
