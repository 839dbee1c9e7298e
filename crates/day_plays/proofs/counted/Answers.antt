-- `day_plays::counted` meets its contract. Assumes nothing.
use mathlib.Core.Path.{◌≡◌, refl, ◌∙◌}
use mathlib.Core.Bool.{Bool, true, false, cond}
use Prim.Native.Nat.{ℕ, ◌+◌, ◌-◌, ◌^◌, ◌<◌, ◌≤◌, min}
use native.Mathlib.Omega.{arith}
use lib.Dec.{ltb}
use borrow.Author.Tests.{ltb-true, ltb-false}
use Rattle.refusals.proofs.Numbers.{as_numbered}
use Rattle.executions.specs.Promises.{one_more}
use Rattle.executions.proofs.Gives.{counted_refused, counted_allowed}
use Rattle.day_plays.proofs.counted.Goals as goal

-- the sum, or the largest number there is
least_of : (n : ℕ) → n < 2 ^ 64 → min (n + 1) (2 ^ 64 - 1) ≡ one_more n
unfolding one_more
least_of n h = go (ltb n (2 ^ 64 - 1)) refl
  where
    go : (t : Bool) → ltb n (2 ^ 64 - 1) ≡ t → min (n + 1) (2 ^ 64 - 1) ≡ cond t (n + 1) n
    go true e = let l : n < 2 ^ 64 - 1 = ltb-true n (2 ^ 64 - 1) e in omega arith
    go false e = let l : 2 ^ 64 - 1 ≤ n = ltb-false n (2 ^ 64 - 1) e in omega arith

pub returns-in-Ok : goal.returns-in-Ok
returns-in-Ok c = counted_allowed _ _ _ c.in-Ok.is (c.saturating_add.ensures ∙ least_of c.args.n (omega arith))

pub returns-in-Err : goal.returns-in-Err
returns-in-Err c = counted_refused _ _ _ _ c.in-Err.is (as_numbered c.in-Err.refusal)
