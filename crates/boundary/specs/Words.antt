-- What the libraries for C have in common: sets of places as words, tests as numbers, and where a written record ends. Assumes nothing.
use Rattle.std.specs.Prelude.{Result, Ok, Err}
use Rattle.std.specs.Prelude.{Bool, cond, List, [], ◌∷◌, ℕ, ◌+◌, get_or}
use Rattle.sets.specs.declared.PlaceSet.{PlaceSet}
use Rattle.boundary.specs.declared.End.{End}

-- two words of places from a position on
unfoldable pub set_at : List ℕ → ℕ → PlaceSet
set_at w k = record { low = get_or w k 0; high = get_or w (k + 1) 0 }

unfoldable pub set_words : PlaceSet → List ℕ
set_words s = s.low ∷ s.high ∷ []

-- whether or not: 1 or 0
unfoldable pub yes_code : Bool → ℕ
yes_code b = cond b 1 0

-- the refusal, or 0 and where the record ends
unfoldable pub end_of : Result ℕ ℕ → End
end_of (Ok e) = record { refusal = 0; next = e }
end_of (Err j) = record { refusal = j; next = 0 }
