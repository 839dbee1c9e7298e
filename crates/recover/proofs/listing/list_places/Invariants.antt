-- `listing::list_places` stays in the buffer and ends. Assumes nothing.
use mathlib.Core.Path.{◌≡◌}
use Prim.Native.Nat.{◌≤◌}
use lib.ListN.{length}
use Rattle.recover.proofs.listing.list_places.Given as goal

abbrev pub invariant-loop-p : goal.invariant-loop-p
invariant-loop-p l = (l.end ≤ length l.initial.out) × (length l.out ≡ length l.initial.out)
