-- Rows as bytes, and a table of them. Assumes nothing.
use Rattle.std.specs.Prelude.{cond, ◌&&◌, List, [], ◌∷◌, ◌++◌, ℕ, zero, suc, ◌+◌, ◌*◌, ◌/◌, ◌%◌, length, get_or, take, drop, replicate, leb, ltb}
use Rattle.sets.specs.Sets.{Places}
use Rattle.sets.specs.PlaceSets.{bit, has, word, packed}
use Rattle.sets.specs.declared.PlaceSet.{PlaceSet}

-- ---- rows as bytes: document 01, 'Histories'

-- m bytes of the row S, from byte j on: place k is bit k mod 8 of byte k div 8
unfoldable pub bytes_from : ℕ → ℕ → Places → List ℕ
bytes_from zero j S = []
bytes_from (suc m) j S = word 8 (λ b. S (8 * j + b)) ∷ bytes_from m (suc j) S

unfoldable pub row_bytes : Places → List ℕ
row_bytes S = bytes_from 16 0 S

-- a buffer after a row was laid into it from a position on, where it fits
unfoldable pub put_row : List ℕ → ℕ → Places → List ℕ
put_row out at S = cond (leb (at + 16) (length out)) (take at out ++ (row_bytes S ++ drop (at + 16) out)) out

-- the row that stands in some bytes from a position on: its bytes are all there, and the place's bit is set
unfoldable pub row_in : List ℕ → ℕ → Places
row_in b at q = leb (at + 16) (length b) && (ltb q 128 && bit (get_or b (at + q / 8) 0) (q % 8))

-- the history whose n rows stand at the front of some bytes, in roster order
unfoldable pub history_in : ℕ → List ℕ → ℕ → Places
history_in n b p q = ltb p n && row_in b (16 * p) q

-- m rows of a history, from row p on, and a buffer after n rows were laid into its front
unfoldable pub rows_from : ℕ → ℕ → (ℕ → Places) → List ℕ
rows_from zero p H = []
rows_from (suc m) p H = row_bytes (H p) ++ rows_from m (suc p) H

unfoldable pub laid : ℕ → (ℕ → Places) → List ℕ → List ℕ
laid n H out = rows_from n 0 H ++ drop (16 * n) out

-- ---- a table: the bytes of 128 rows

unfoldable pub no_rows : List ℕ
no_rows = replicate 2048 0

-- the rows of a table, by their members
unfoldable pub rows_of : List ℕ → ℕ → Places
rows_of w p = row_in w (16 * p)

-- a row as a set of two words
unfoldable pub row_at : List ℕ → ℕ → PlaceSet
row_at w p = packed (rows_of w p)

-- the table with another row for p
unfoldable pub with_row : List ℕ → ℕ → PlaceSet → List ℕ
with_row w p s = put_row w (16 * p) (has s)

-- the table of given rows: of each the places below 128
unfoldable pub table_of : (ℕ → Places) → List ℕ
table_of H = rows_from 128 0 H
