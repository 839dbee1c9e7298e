-- `capi_fetches::set_at` meets its contract. Assumes nothing.
use mathlib.Core.Path.{refl}
use borrow.Author.Rules.{rules}
use Rattle.boundary.specs.Words.{set_at}
use Rattle.capi_fetches.proofs.set_at.Goals as goal

pub returns : goal.returns
unfolding set_at
returns c = refl
