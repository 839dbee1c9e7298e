-- Each of the faulty records meets its number, computed. Assumes nothing.
use mathlib.Core.Path.{◌≡◌, refl}
use mathlib.Core.List.{map}
use Prim.Native.Nat.{ℕ}
use Rattle.refusals.specs.Numbers.{number}
use Rattle.serials.specs.Rosters.{place_of, holds}
use Rattle.serials.specs.Seconds.{itself, stands_for}
use Rattle.layouts.specs.Layout as L
use Rattle.layouts.specs.Layout.{Parsed, got, refused, Stored, lone}
use Rattle.layouts.specs.FaultCases.{Faulty, bytes_of, number_of, head, mourning, faulty}

-- the refusal, 0 for none
unfoldable pub fault_of : Parsed Stored → ℕ
fault_of (got x s) = 0
fault_of (refused j) = number j

unfoldable pub meets_of : Faulty → ℕ
meets_of x = fault_of (lone itself (bytes_of x))

pub faults_met : map meets_of faulty ≡ map number_of faulty
unfolding fault_of meets_of bytes_of number_of head mourning faulty place_of holds stands_for L.then L.check L.byte L.serial L.known_kind L.kind_of L.kind_section L.roster_serials L.roster_section L.head_section L.mourned_serials L.mourned_section L.stored L.lone
faults_met = refl
