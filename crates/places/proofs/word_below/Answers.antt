-- `places::word_below` meets its contract. Assumes nothing.
use lib.Pow.{pow_pos}
use Rattle.sets.proofs.Digits.{one_shl}
use Rattle.sets.proofs.Words.{word_some, word_all}
use Rattle.places.proofs.word_below.Goals as goal

pub overflow_sub-result : goal.overflow_sub-result
overflow_sub-result c = rw (one_shl 64 _ c.if-n-lt64.true) (pow_pos _)

pub returns-then-n-lt64 : goal.returns-then-n-lt64
returns-then-n-lt64 c = word_some _ c.if-n-lt64.true

pub returns-else-n-lt64 : goal.returns-else-n-lt64
returns-else-n-lt64 c = word_all _ c.if-n-lt64.false
