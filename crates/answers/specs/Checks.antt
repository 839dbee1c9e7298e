-- What the check of a lent history looks for beside the rule's own test. Assumes nothing.
use Rattle.std.specs.Prelude.{◌≡◌, Bool, true, ◌&&◌, ◌⊎◌, ℕ, ◌<◌, leb}
use Rattle.sets.specs.Sets.{any, subset}
use Rattle.histories.specs.Histories.{Row, History}

-- some row has a place off a roster of n
unfoldable pub off_roster : ℕ → History → Bool
off_roster n H = any n (λ p. any 128 (λ q. leb n q && H p q))

-- the row of p holds the row of a member k that is m, or that has m in its row and is in S: where the row of each of S is closed, the row of
-- p holds that of m
abbrev pub Covered : ℕ → History → Row → ℕ → ℕ → Type 0
Covered n H S p m = (k : ℕ) × (k < n) × (H p k ≡ true) × (subset n (H k) (H p) ≡ true) × ((k ≡ m) ⊎ ((S k ≡ true) × (H k m ≡ true)))
