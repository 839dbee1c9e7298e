-- `words::kind_word` meets its contract. Assumes nothing.
use Rattle.layouts.proofs.KindBytes.{as_byte}
use Rattle.words.proofs.kind_word.Goals as goal

pub returns : goal.returns
returns c = as_byte c.args.kind
