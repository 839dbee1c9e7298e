-- `writes::kind_byte` meets its contract. Assumes nothing.
use Rattle.layouts.proofs.KindBytes.{as_byte}
use Rattle.writes.proofs.kind_byte.Goals as goal

pub returns : goal.returns
returns c = as_byte c.args.kind
