-- Sets of places as mathematics: the words in which contracts and laws speak of them. Nothing here has a width.
-- Assumes nothing.
use Rattle.std.specs.Prelude.{Bool, true, false, not, cond, ◌&&◌, ◌||◌, ℕ, zero, suc, ◌+◌, eqb, ltb}
use Rattle.std.specs.Bool.{beq}

-- a set of places: p is a member of S exactly if `S p ≡ true`
abbrev pub Places : Type 0
Places = ℕ → Bool

abbrev pub nothing : Places
nothing k = false

-- the one place p
abbrev pub only : ℕ → Places
only p k = eqb k p

-- the places below n
abbrev pub below : ℕ → Places
below n k = ltb k n

abbrev pub union : Places → Places → Places
union A B k = A k || B k

abbrev pub intersection : Places → Places → Places
intersection A B k = A k && B k

-- the members of A that are not in B
abbrev pub difference : Places → Places → Places
difference A B k = A k && not (B k)

-- S and the place p
abbrev pub with : ℕ → Places → Places
with p S = union S (only p)

-- S but for the place p
abbrev pub without : ℕ → Places → Places
without p S = difference S (only p)

-- some member is below n
unfoldable pub any : ℕ → Places → Bool
any zero S = false
any (suc n) S = S n || any n S

-- every place below n is a member
unfoldable pub all : ℕ → Places → Bool
all zero S = true
all (suc n) S = S n && all n S

-- every member of A that is below n is a member of B
unfoldable pub subset : ℕ → Places → Places → Bool
subset n A B = all n (λ k. not (A k) || B k)

-- A and B have the same members below n
unfoldable pub same : ℕ → Places → Places → Bool
same n A B = all n (λ k. beq (A k) (B k))

-- how many members are below n
unfoldable pub count : ℕ → Places → ℕ
count zero S = 0
count (suc n) S = count n S + cond (S n) 1 0

-- the lowest member below n, or n where there is none
unfoldable pub lowest : ℕ → Places → ℕ
lowest zero S = zero
lowest (suc n) S = cond (S 0) 0 (suc (lowest n (λ k. S (suc k))))
