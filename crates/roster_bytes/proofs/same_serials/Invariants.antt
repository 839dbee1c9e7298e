-- `roster_bytes::same_serials` meets its contract. The invariant: the lists are alike where they are from this turn's on. Assumes nothing.
use mathlib.Core.Path.{◌≡◌}
use Prim.Native.Nat.{◌*◌}
use Rattle.layouts.specs.Parts.{alike_from}
use Rattle.roster_bytes.proofs.same_serials.Given as goal

abbrev pub invariant-loop-turn : goal.invariant-loop-turn
invariant-loop-turn l = alike_from 0 l.bytes l.at l.list ≡ alike_from (l.turn * 16) l.bytes l.at l.list
