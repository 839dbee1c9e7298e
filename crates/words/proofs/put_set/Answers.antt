-- `words::put_set` meets its contract. Assumes nothing.
use mathlib.Core.Path.{refl}
use Rattle.boundary.specs.Words.{set_words}
use Rattle.words.proofs.put_set.Goals as goal

pub returns : goal.returns
unfolding set_words
returns c = refl
