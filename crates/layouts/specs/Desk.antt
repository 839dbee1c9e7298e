-- What the ticket desk may see of a lone record (document 02, [5]): its kind, its own serial as stored, and the roster's serials without
-- their count, as a part of the lent bytes. Whoever reads it all reads these sections first, and judges them alike (`Layout.antt`).
-- Assumes nothing.
use Rattle.std.specs.Prelude.{◌≡◌, Result, Ok, Err, List, [], ◌∷◌, ◌++◌, ℕ, ◌+◌, ◌*◌, length, get_or, take, drop}
use Rattle.refusals.specs.declared.Refusal.{Refusal}
use Rattle.layouts.specs.declared.Sight.{Sight}
use Rattle.layouts.specs.Layout.{Parsed, got, refused, Head, head_section}

-- the answer, and the slice that is handed back
pub record Shown : Type 0 where
  pub answer : Result Sight Refusal
  pub roster : List ℕ

-- n serials in a record's bytes: four bytes each, after those of the kind, the own serial and the roster's count
unfoldable pub roster_part : ℕ → List ℕ → List ℕ
roster_part n s = take (n * 4) (drop 6 s)

-- a record is judged as far as the roster's end, and what follows is left alone; where it is refused, the slice stays the one it was
unfoldable pub shown_of : List ℕ → List ℕ → Parsed Head → Shown
shown_of s before (got h rest) = record { answer = Ok (record { kind = h.kind; own = record { 0 = h.own } }); roster = roster_part (length h.roster) s }
shown_of s before (refused j) = record { answer = Err j; roster = before }

unfoldable pub shown_to_desk : (ℕ → ℕ) → List ℕ → List ℕ → Shown
shown_to_desk alias s before = shown_of s before (head_section alias s)

-- where the slice lies in memory, a block and an offset, by the answer: in the lent bytes, six on, so nothing is copied
unfoldable pub lies_of : Result Sight Refusal → ℕ × ℕ → ℕ × ℕ → ℕ × ℕ
lies_of (Ok seen) bytes before = (bytes.0, 6 + bytes.1)
lies_of (Err j) bytes before = before

-- ---- what is secret

-- where the roster of a record ends, by its count
unfoldable pub roster_end : List ℕ → ℕ
roster_end s = 6 + get_or s 5 0 * 4

-- the same record with nobody mourned
unfoldable pub nobody_mourned : List ℕ → List ℕ
nobody_mourned s = take (roster_end s) s ++ (0 ∷ [])

-- two records are the same as far as the roster's end: after it they may differ in bytes and in length
abbrev pub SameToRoster : List ℕ → List ℕ → Type 0
SameToRoster s t = take (roster_end s) s ≡ take (roster_end s) t
