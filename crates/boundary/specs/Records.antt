-- Stored records at the boundary to C: what was read as words, and document 01's answers as numbers. Assumes nothing.
use Rattle.refusals.specs.declared.Refusal.{Refusal}
use Rattle.refusals.specs.declared.Refusal.TheVariants as R
use Rattle.std.specs.Prelude.{Result, Ok, Err}
use Rattle.refusals.specs.Numbers.{number}
use Rattle.std.specs.Prelude.{cond, List, [], ◌∷◌, ℕ, ◌*◌, ◌/◌, length, get_or, take, drop}
use Rattle.sets.specs.Sets.{Places}
use Rattle.layouts.specs.Layout.{kind_byte, known_kind, kind_of}
use Rattle.layouts.specs.declared.Record.{Record}
use Rattle.layouts.specs.declared.Sight.{Sight}
use Rattle.layouts.specs.Records.{Written, unwritten, written}
use Rattle.layouts.specs.Desk.{Shown}

-- ---- a record that was read, as seven words: kind, own place, where the roster starts, its count, the mourned set, where the record ends

unfoldable pub record_words : Record → List ℕ
record_words x = kind_byte x.kind ∷ x.own.0 ∷ x.roster ∷ x.count ∷ x.mourned.low ∷ x.mourned.high ∷ x.next ∷ []

unfoldable pub read_code : Result Record Refusal → ℕ
read_code (Ok x) = 0
read_code (Err j) = number j

-- the words after reading: where it is refused they stay as they were
unfoldable pub read_words : Result Record Refusal → List ℕ → List ℕ
read_words (Ok x) out = record_words x
read_words (Err j) out = out

-- ---- what the ticket desk is shown, as four words: kind, own serial, where the roster's serials start, how many they are

unfoldable pub sight_code : Result Sight Refusal → ℕ
sight_code (Ok seen) = 0
sight_code (Err j) = number j

unfoldable pub sight_words : Result Sight Refusal → ℕ → List ℕ → List ℕ
sight_words (Ok seen) count out = kind_byte seen.kind ∷ seen.own.0 ∷ 6 ∷ count ∷ []
sight_words (Err j) count out = out

unfoldable pub shown_words : Shown → List ℕ → List ℕ
shown_words x out = sight_words x.answer (length x.roster / 4) out

-- the part of some bytes that four such words tell: as many serials as the fourth says, from the position that the third says
unfoldable pub part_told : List ℕ → List ℕ → List ℕ
part_told words bytes = take (get_or words 3 0 * 4) (drop (get_or words 2 0) bytes)

-- ---- writing a record from its parts: an unknown kind is 2, before all else

unfoldable pub written_parts : ℕ → ℕ → List ℕ → Places → List ℕ → ℕ → Written
written_parts kind own roster M out at = cond (known_kind kind) (written (kind_of kind) own roster M out at) (unwritten R.UnknownKind out)
