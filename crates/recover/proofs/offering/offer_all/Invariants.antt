-- `offering::offer_all` stays in both buffers and ends: the window lies in the input's buffer. Assumes nothing.
use mathlib.Core.Path.{◌≡◌}
use Prim.Native.Nat.{◌≤◌}
use lib.ListN.{length}
use Rattle.recover.specs.Windows.{Inside}
use Rattle.recover.proofs.offering.offer_all.Given as goal

abbrev pub invariant-loop-number : goal.invariant-loop-number
invariant-loop-number l = Inside l.w l.input × (length l.input ≡ length l.initial.input) × (l.used ≤ length l.initial.out) × (length l.out ≡ length l.initial.out)
