-- `roster_bytes::same_part` meets its contract. The invariant: `same` says whether those before i are alike. Assumes nothing.
use mathlib.Core.Path.{◌≡◌}
use mathlib.Core.Bool.{◌&&◌}
use Prim.Native.Nat.{◌+◌, ◌-◌, ◌*◌}
use Rattle.layouts.specs.Parts.{alike}
use Rattle.roster_bytes.proofs.same_part.Given as goal

abbrev pub invariant-loop-i : goal.invariant-loop-i
invariant-loop-i l = alike l.n l.bytes (l.at + l.start * 4) l.list l.start ≡ l.same && alike (l.start + l.n - l.i) l.bytes (l.at + l.i * 4) l.list l.i
