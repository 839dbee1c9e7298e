-- `capi_fetches::recovery_in` meets its contract. Assumes nothing.
use borrow.Author.Rules.{rules}
use Rattle.capi_fetches.proofs.Parts.{in_memory}
use Rattle.capi_fetches.proofs.recovery_in.Goals as goal

pub returns : goal.returns
returns c =
    in_memory _ _ _ _ _ c.set_at-returned.ensures c.set_at-full.ensures c.set_at-mourned.ensures c.set_at-earlier.ensures _ _ _
