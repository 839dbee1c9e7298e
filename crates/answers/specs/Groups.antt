-- A group's serials, for whatever values they are: a count of places, a first serial for each, and a second one (document 02, [2]), 0
-- where a place has none. Assumes nothing.
use Rattle.std.specs.Prelude.{Bool, true, false, not, cond, Option, is_some, Result, Ok, Err, ◌||◌, List, ℕ, get_or, take, eqb, ltb}
use Rattle.serials.specs.declared.Finding.{Finding}
use Rattle.serials.specs.Seconds.{counts_as, finding}
use Rattle.answers.specs.Views.{size}
use Rattle.refusals.specs.declared.Refusal.{Refusal}
use Rattle.refusals.specs.declared.Refusal.TheVariants as R

-- how many serials of a list go by: one for each place, and no more than there are
unfoldable pub roster_length : ℕ → ℕ → ℕ
roster_length count there = cond (ltb (size count) there) (size count) there

-- what serials count as: those behind the roster are not looked at
unfoldable pub alias_in : ℕ → List ℕ → List ℕ → ℕ → ℕ
alias_in count serials seconds = counts_as (take (size count) serials) (take (size count) seconds)

-- the place of a serial, and which of the place's two it is
unfoldable pub found_among : ℕ → List ℕ → List ℕ → ℕ → Option Finding
found_among count serials seconds x = finding (alias_in count serials seconds) (take (size count) serials) x

-- whether a serial was found, as a first or as a second one
abbrev pub is_found : Option Finding → Bool
is_found f = is_some f

-- giving the place p the second serial x: 12 off the roster, 4 for 0, 16 where x is known or p has a second one
unfoldable pub giving : ℕ → List ℕ → List ℕ → ℕ → ℕ → Result (Unit {0}) Refusal
giving count serials seconds p x =
    cond (ltb p (size count))
    (cond (eqb x 0) (Err R.ZeroSerial) (cond (is_found (found_among count serials seconds x) || not (eqb (get_or seconds p 0) 0)) (Err R.KnownSerial) (Ok tt)))
    (Err R.OffRoster)
