-- `listing::answer_of` meets its contract. Assumes nothing.
use Rattle.recover.proofs.Gathered.{says_not, says_last, says_open}
use Rattle.recover.proofs.listing.answer_of.Goals as goal

pub returns-then-byte-eq0 : goal.returns-then-byte-eq0
returns-then-byte-eq0 c = says_not _ c.if-byte-eq0.true

pub returns-then-byte-eq1 : goal.returns-then-byte-eq1
returns-then-byte-eq1 c = says_last _ c.if-byte-eq1.true

pub returns : goal.returns
returns c = says_open _ c.if-byte-eq0.false c.if-byte-eq1.false
