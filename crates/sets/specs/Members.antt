-- A walk over the members of a set, lowest first: what one step of it takes.
-- Assumes nothing.
use Rattle.std.specs.Prelude.{◌≡◌, ℕ, ◌<◌, true, false, MatchOption, Option}
use Rattle.sets.specs.Sets.{without}
use Rattle.sets.specs.PlaceSets.{has}
use Rattle.sets.specs.declared.Place.{Place}
use Rattle.sets.specs.declared.PlaceSet.{PlaceSet}

-- a step from s gave its lowest member and left t, which is s without it; or s has no member and stays
abbrev pub TakesLowest : PlaceSet → Option Place → PlaceSet → Type 0
TakesLowest s r t = MatchOption r (((k : ℕ) → has s k ≡ false) × (t ≡ s))
    (λ p. (has s p.0 ≡ true) × ((j : ℕ) → j < p.0 → has s j ≡ false) × (has t ≡ without p.0 (has s)))
