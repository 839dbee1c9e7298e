-- `lists::lay_word` meets its contract. The invariant: k times eight bytes are laid, and the words are shifted by as many. Assumes nothing.
use mathlib.Core.Path.{◌≡◌}
use Prim.Native.Nat.{◌*◌, ◌/◌, ◌^◌}
use Rattle.sets.specs.PlaceSets.{bit}
use Rattle.answers.specs.Lists.{byte_by, laid}
use Rattle.lists.proofs.lay_word.Given as goal

abbrev pub invariant-loop-k : goal.invariant-loop-k
invariant-loop-k l = (l.l ≡ l.last / 2 ^ (8 * l.k)) × (l.o ≡ l.«open» / 2 ^ (8 * l.k)) × (l.out ≡ laid (8 * l.k) (byte_by (bit l.last) (bit l.«open»)) l.initial.out)
