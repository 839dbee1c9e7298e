-- A set of places in two words: which places are its members. This is the one place that says which bit is which.
-- Assumes nothing.
use Rattle.std.specs.Prelude.{false, cond, Option, Some, None, ℕ, zero, suc, ◌+◌, ◌-◌, ◌*◌, ◌/◌, ◌%◌, ◌^◌, ◌<◌, eqb, ltb}
use Rattle.sets.specs.Sets.{Places, below, intersection}
use Rattle.sets.specs.declared.Place.{Place}
use Rattle.sets.specs.declared.PlaceSet.{PlaceSet}

-- the binary digit k of n is 1
unfoldable pub bit : ℕ → Places
bit n k = eqb (n / 2 ^ k % 2) 1

-- the members of s: the digits of `low` are the places 0 to 63, those of `high` the places 64 to 127, and there are no others
unfoldable pub has : PlaceSet → Places
has s k = cond (ltb k 64) (bit s.low k) (cond (ltb k 128) (bit s.high (k - 64)) false)

-- of any set, what two words can hold: a place of 128 or more is in no set
abbrev pub kept : Places → Places
kept S = intersection S (below 128)

-- each word fits 64 bits: known of every value of the type
abbrev pub Words : PlaceSet → Type 0
Words s = (s.low < 2 ^ 64) × (s.high < 2 ^ 64)

-- the number whose binary digit k, for each k below n, is 1 exactly if k is in S
unfoldable pub word : ℕ → Places → ℕ
word zero S = 0
word (suc n) S = word n (λ k. S (suc k)) * 2 + cond (S 0) 1 0

-- the set whose members are those of S below 128
unfoldable pub packed : Places → PlaceSet
packed S = record { low = word 64 S; high = word 64 (λ k. S (64 + k)) }

-- the place p, if it is below n
unfoldable pub found : ℕ → ℕ → Option Place
found n p = cond (ltb p n) (Some (record { 0 = p })) None
