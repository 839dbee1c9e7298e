-- Of any recovery whatever: the crew's turn is one fetch and the least over all absent places of what the hill makes of them, and the hill's turn is the greatest over all
-- records of the place. Assumes nothing.
use mathlib.Core.Path.{◌≡◌, refl, ap}
use mathlib.Core.Bool.{Bool, true, false, cond}
use Prim.Native.Nat.{ℕ, zero, suc, ◌+◌, ◌-◌, ◌*◌, ◌^◌, ◌<◌}
use native.Mathlib.Omega.{arith}
use lib.Pow.{pow_pos}
use Rattle.calls.specs.declared.Recovery.{Recovery}
use Rattle.calls.specs.Promises.{size_of, settled_of}
use Rattle.games.specs.Games.{absent_of, least, greatest, record_count, handed, lasting, hills_turn, crews_turn}
use Rattle.games.specs.Choices.{IsLeast, IsGreatest}
use Rattle.games.proofs.Least.{least_least, greatest_greatest}

module _ (k : ℕ) (r : Recovery) (unsettled : settled_of r ≡ false) (p : ℕ) (on : p < size_of r) (absent : absent_of r p ≡ true) where
  pub crew_least : (m : ℕ) × (crews_turn (suc k) r ≡ suc m) × IsLeast (size_of r) (absent_of r) (hills_turn (crews_turn k) r) m
  unfolding crews_turn
  crew_least = (
    least (size_of r) (absent_of r) (hills_turn (crews_turn k) r),
    ap (λ (b : Bool). cond b 0 (suc (least (size_of r) (absent_of r) (hills_turn (crews_turn k) r)))) unsettled,
    least_least (size_of r) (absent_of r) (hills_turn (crews_turn k) r) p on absent,
  )

pub hill_greatest : (turn : Recovery → ℕ) (r : Recovery) (p : ℕ) → IsGreatest (record_count r) (λ j. lasting turn (handed r p j)) (hills_turn turn r p)
unfolding hills_turn record_count
hill_greatest turn r p = go (2 * 2 ^ size_of r) (omega (arith, pow_pos (size_of r)))
  where
    go : (n : ℕ) → 0 < n → IsGreatest n (λ j. lasting turn (handed r p j)) (greatest n (λ j. lasting turn (handed r p j)))
    go zero l = absurd (omega arith)
    go (suc n) l = greatest_greatest n (λ j. lasting turn (handed r p j))
