-- `capi_fetches::fetch_now` meets its contract. Assumes nothing.
use mathlib.Core.Path.{sym, ap}
use borrow.Author.Rules.{rules}
use Rattle.boundary.specs.Fetches.{fetch_of}
use Rattle.capi_fetches.proofs.fetch_now.Goals as goal

pub returns-in-None : goal.returns-in-None
unfolding fetch_of
returns-in-None c = sym (ap fetch_of c.in-None.is)

pub returns-in-Some : goal.returns-in-Some
unfolding fetch_of
returns-in-Some c = sym (ap fetch_of c.in-Some.is)
