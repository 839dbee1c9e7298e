-- Eight digits spread over eight bytes: the formula of `spread` is tried at every number below 256. Assumes nothing.
use mathlib.Core.Path.{◌≡◌, refl}
use mathlib.Core.Bool.{true, cond}
use Prim.Native.Nat.{ℕ, ◌+◌, ◌*◌, ◌/◌, ◌^◌, ◌<◌}
use lib.Bits.{bit_and}
use lib.Dec.{eqb, ltb}
use borrow.Author.Tests.{eqb-true, ltb-true}
use Rattle.sets.specs.Sets.{all}
use Rattle.sets.specs.PlaceSets.{bit}
use Rattle.sets.proofs.Tests.{all_elim}
use Rattle.answers.specs.Lists.{joined}

-- copies of the digits, of each the one that is its byte's
abbrev marks : ℕ → ℕ
marks d = bit_and (d * 72340172838076673) 9241421688590303745

every_fits : all 256 (λ d. ltb (marks d + 9187201950435737471) (2 ^ 64)) ≡ true
unfolding all
every_fits = refl

every_spread : all 256 (λ d. eqb (bit_and ((marks d + 9187201950435737471) / 2 ^ 7) 72340172838076673) (joined 8 (λ j. cond (bit d j) 1 0))) ≡ true
unfolding all joined bit
every_spread = refl

-- each mark carries into its byte's highest digit, and past it never
pub marks_fit : (d : ℕ) → d < 256 → marks d + 9187201950435737471 < 2 ^ 64
marks_fit d l = ltb-true (marks d + 9187201950435737471) (2 ^ 64) (all_elim 256 (λ d. ltb (marks d + 9187201950435737471) (2 ^ 64)) every_fits d l)

pub spread_is : (d : ℕ) → d < 256 → bit_and ((marks d + 9187201950435737471) / 2 ^ 7) 72340172838076673 ≡ joined 8 (λ j. cond (bit d j) 1 0)
spread_is d l =
    eqb-true (bit_and ((marks d + 9187201950435737471) / 2 ^ 7) 72340172838076673) (joined 8 (λ j. cond (bit d j) 1 0))
    (all_elim 256 (λ d. eqb (bit_and ((marks d + 9187201950435737471) / 2 ^ 7) 72340172838076673) (joined 8 (λ j. cond (bit d j) 1 0))) every_spread d l)
