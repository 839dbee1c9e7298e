-- `lists::lay_few` meets its contract. The invariant: i bytes are laid, and the words are shifted by i. Assumes nothing.
use mathlib.Core.Path.{◌≡◌}
use Prim.Native.Nat.{◌/◌, ◌^◌}
use Rattle.sets.specs.PlaceSets.{bit}
use Rattle.answers.specs.Lists.{byte_by, laid}
use Rattle.lists.proofs.lay_few.Given as goal

abbrev pub invariant-loop-i : goal.invariant-loop-i
invariant-loop-i l = (l.l ≡ l.last / 2 ^ l.i) × (l.o ≡ l.«open» / 2 ^ l.i) × (l.out ≡ laid l.i (byte_by (bit l.last) (bit l.«open»)) l.initial.out)
