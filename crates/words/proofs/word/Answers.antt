-- `words::word` meets its contract. Assumes nothing.
use Prim.Native.Nat.{◌-◌}
use mathlib.Core.Path.{sym}
use lib.ListN.{get_or-eq_default}
use borrow.Author.Rules.{rules}
use Rattle.words.proofs.word.Goals as goal

pub returns : goal.returns
returns c = sym (get_or-eq_default c.args.list.now 0 (search rules))
