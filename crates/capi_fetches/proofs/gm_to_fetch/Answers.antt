-- `capi_fetches::gm_to_fetch` meets its contract. Assumes nothing.
use borrow.Author.Rules.{rules}
use Rattle.capi_fetches.proofs.Parts.{told_is}
use Rattle.capi_fetches.proofs.gm_to_fetch.Goals as goal

pub returns : goal.returns
returns c =
    told_is _ _ _ _ _ c.set_at-returned.ensures c.set_at-full.ensures c.set_at-mourned.ensures c.set_at-earlier.ensures _ _ _ c.fetch_now.ensures c.to_fetch-told.ensures
