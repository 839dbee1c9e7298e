-- Second serials: document 02, [2]. They stand beside a group's roster as a list, place by place, with 0 where a place has none.
-- Assumes nothing.
use Rattle.std.specs.Prelude.{Bool, cond, Option, Some, None, not, ◌&&◌, List, ℕ, get_or, eqb}
use Rattle.serials.specs.Rosters.{place_of, holds, place_from}
use Rattle.serials.specs.declared.Finding.{Finding}
use Rattle.serials.specs.declared.Finding.TheVariants.{First, Second}
use Rattle.sets.specs.declared.Place.{Place}

-- x is the second serial of some place: 0 is nobody's
unfoldable pub is_second : List ℕ → ℕ → Bool
is_second seconds x = holds x seconds && not (eqb x 0)

-- what x counts as in a group: a second serial as the first one of its place, any other as itself
unfoldable pub counts_as : List ℕ → List ℕ → ℕ → ℕ
counts_as firsts seconds x = cond (is_second seconds x) (get_or firsts (place_of x seconds) 0) x

-- where no place has a second serial
abbrev pub itself : ℕ → ℕ
itself x = x

-- what x stands for on a roster: a serial of the roster for itself, only another for what it counts as
unfoldable pub stands_for : (ℕ → ℕ) → List ℕ → ℕ → ℕ
stands_for alias roster x = cond (holds x roster) x (alias x)

-- where x is found on a roster, and as which of its place's two serials
unfoldable pub finding : (ℕ → ℕ) → List ℕ → ℕ → Option Finding
finding alias roster x =
    cond (holds x roster) (Some (First (record { 0 = place_of x roster })))
    (cond (holds (alias x) roster) (Some (Second (record { 0 = place_of (alias x) roster }))) None)

-- the same, looking from a place on first
unfoldable pub finding_from : (ℕ → ℕ) → ℕ → List ℕ → ℕ → Option Finding
finding_from alias from roster x =
    cond (holds x roster) (Some (First (record { 0 = place_from from x roster })))
    (cond (holds (alias x) roster) (Some (Second (record { 0 = place_from from (alias x) roster }))) None)

-- the place that was found, whichever of its two serials it was
unfoldable pub place_in : Option Finding → Option Place
place_in (Some (First p)) = Some p
place_in (Some (Second p)) = Some p
place_in None = None
