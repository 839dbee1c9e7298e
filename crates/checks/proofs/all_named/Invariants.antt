-- `checks::all_named` meets its contract: what is gathered so far are the places in the rows passed. Assumes nothing.
use mathlib.Core.Path.{◌≡◌}
use Prim.Native.Nat.{◌≤◌, ◌-◌}
use Rattle.sets.specs.Sets.{any}
use Rattle.sets.specs.PlaceSets.{has}
use Rattle.rows.specs.Rows.{history_in}
use Rattle.checks.proofs.all_named.Given as goal

abbrev pub invariant-loop-p : goal.invariant-loop-p
invariant-loop-p l = (l.p ≤ l.n) × (has l.named ≡ (λ q. any l.p (λ i. history_in l.n l.history i q)))

abbrev pub decreases-loop-p : goal.decreases-loop-p
decreases-loop-p l = l.n - l.p
