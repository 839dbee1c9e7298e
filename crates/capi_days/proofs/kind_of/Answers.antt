-- `capi_days::kind_of` meets its contract. Assumes nothing.
use Rattle.capi_days.proofs.Days.{kind_short, kind_full}
use Rattle.capi_days.proofs.kind_of.Goals as goal

pub returns-then-word-eq2 : goal.returns-then-word-eq2
returns-then-word-eq2 c = kind_short _ c.if-word-eq2.true

pub returns : goal.returns
returns c = kind_full _ c.if-word-eq2.false
