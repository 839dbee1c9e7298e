-- `places::below` meets its contract. Assumes nothing.
use Rattle.sets.proofs.Words.{below_low, below_high}
use Rattle.places.proofs.below.Goals as goal

pub returns-then-n-lt64 : goal.returns-then-n-lt64
returns-then-n-lt64 c = below_low _ _ c.if-n-lt64.true c.word_below.ensures

pub returns-else-n-lt64 : goal.returns-else-n-lt64
returns-else-n-lt64 c = below_high _ _ c.if-n-lt64.false c.word_below-else-n-lt64.ensures
