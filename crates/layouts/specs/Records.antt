-- What the reader and the writer answer, and what each lent byte is afterwards: the definitions that the contracts cite.
-- Assumes nothing.
use Rattle.std.specs.Prelude.{Bool, true, false, cond, Result, Ok, Err, ◌&&◌, List, [], ◌∷◌, ◌++◌, ℕ, zero, suc, ◌+◌, ◌-◌, ◌*◌, length, take, drop, eqb, leb, ltb}
use Rattle.sets.specs.Sets.{Places}
use Rattle.sets.specs.PlaceSets.{packed}
use Rattle.histories.specs.declared.Kind.{Kind}
use Rattle.refusals.specs.declared.Refusal.{Refusal}
use Rattle.refusals.specs.declared.Refusal.TheVariants as R
use Rattle.layouts.specs.declared.Record.{Record}
use Rattle.layouts.specs.Layout.{Parsed, got, refused, word_at, Stored, stored, lone, layout}

-- ---- reading

-- the answer for a record that starts at a position of a list of bytes: the roster's serials stand 6 bytes on, and the record
-- ends where the bytes after it start
unfoldable pub reading_of : ℕ → ℕ → Parsed Stored → Result Record Refusal
reading_of all at (got x rest) =
    Ok (record { kind = x.kind; own = record { 0 = x.own }; roster = at + 6; count = length x.roster; mourned = packed x.mourned; next = all - length rest })
reading_of all at (refused j) = Err j

-- a record that starts at a position; a position past the end is bytes that end early
unfoldable pub reading : (ℕ → ℕ) → List ℕ → ℕ → Result Record Refusal
reading alias b at = reading_of (length b) at (stored alias (drop at b))

unfoldable pub reading_lone : (ℕ → ℕ) → List ℕ → Result Record Refusal
reading_lone alias b = reading_of (length b) 0 (lone alias b)

-- ---- a roster in bytes, and a list

-- the first n serials of some bytes
unfoldable pub serials : ℕ → List ℕ → List ℕ
serials zero s = []
serials (suc n) s = word_at s 0 ∷ serials n (drop 4 s)

unfoldable pub same_list : List ℕ → List ℕ → Bool
same_list [] [] = true
same_list [] (y ∷ ys) = false
same_list (x ∷ xs) [] = false
same_list (x ∷ xs) (y ∷ ys) = eqb x y && same_list xs ys

-- n serials from a position on are all there
unfoldable pub roster_there : List ℕ → ℕ → ℕ → Bool
roster_there b at n = leb (at + n * 4) (length b)

unfoldable pub roster_is : List ℕ → ℕ → ℕ → List ℕ → Bool
roster_is b at n list = roster_there b at n && same_list (serials n (drop at b)) list

-- whether n serials can be copied into the front of a list of 128, and the list afterwards
unfoldable pub copiable : List ℕ → ℕ → ℕ → Bool
copiable b at n = roster_there b at n && leb n 128

unfoldable pub copied : List ℕ → ℕ → ℕ → List ℕ → List ℕ
copied b at n list = cond (copiable b at n) (serials n (drop at b) ++ drop n list) list

-- ---- writing

-- the answer, and the buffer afterwards
pub record Written : Type 0 where
  pub answer : Result ℕ Refusal
  pub buffer : List ℕ

unfoldable pub unwritten : Refusal → List ℕ → Written
unwritten j out = record { answer = Err j; buffer = out }

-- some bytes laid into a buffer from a position on: every other byte is as it was
unfoldable pub put_at : ℕ → List ℕ → List ℕ → List ℕ
put_at at bytes out = take at out ++ (bytes ++ drop (at + length bytes) out)

-- the bytes laid down from a position on, or 13 where the buffer ends before they do
unfoldable pub written_at : List ℕ → List ℕ → ℕ → Written
written_at bytes out at =
    cond (leb (at + length bytes) (length out)) (record { answer = Ok (at + length bytes); buffer = put_at at bytes out }) (unwritten R.TooShort out)

-- the record of the place own with the mourned places M: 12, 3, 13, or laid down
unfoldable pub written : Kind → ℕ → List ℕ → Places → List ℕ → ℕ → Written
written k own roster M out at =
    cond (ltb own (length roster))
    (cond (leb (length roster) 128) (written_at (layout (record { kind = k; own = own; roster = roster; mourned = M })) out at) (unwritten R.BadCount out))
    (unwritten R.OffRoster out)
