-- A stored record as bytes: document 01, 'A stored record', and of 'Refusals' what its writer can cause (1 to 8). A section reads
-- from the front of a list of bytes and gives its value with the bytes after it, or the first fault. A record is read by what serials count
-- as in a group (`alias`; document 02, [2]): `itself` where no place has a second serial. Assumes nothing.
use Rattle.std.specs.Prelude.{Bool, true, false, not, cond, ◌||◌, List, [], ◌∷◌, ◌++◌, ℕ, zero, suc, ◌+◌, ◌*◌, ◌/◌, ◌%◌, length, get_or, drop, eqb, leb}
use Rattle.refusals.specs.declared.Refusal.{Refusal}
use Rattle.refusals.specs.declared.Refusal.TheVariants as R
use Rattle.sets.specs.Sets.{Places, nothing, with}
use Rattle.histories.specs.declared.Kind.{Kind}
use Rattle.histories.specs.declared.Kind.TheVariants.{Full, Short}
use Rattle.serials.specs.Rosters.{place_of, holds}
use Rattle.serials.specs.Seconds.{stands_for}

pub data Parsed (A : Type 0) : Type 0 where
  got : A → List ℕ → Parsed A
  refused : Refusal → Parsed A

-- one section after another
unfoldable pub then : {A B : Type 0} → Parsed A → (A → List ℕ → Parsed B) → Parsed B
then (got a s) next = next a s
then (refused j) next = refused j

-- a test, and the fault where it fails
unfoldable pub check : {A : Type 0} → Bool → Refusal → Parsed A → Parsed A
check true j p = p
check false j p = refused j

-- ---- the parts of a section

unfoldable pub byte : List ℕ → Parsed ℕ
byte [] = refused R.EndsEarly
byte (x ∷ s) = got x s

-- the number that four bytes spell, the highest first
abbrev pub word_at : List ℕ → ℕ → ℕ
word_at s at = get_or s at 0 * 16777216 + get_or s (at + 1) 0 * 65536 + get_or s (at + 2) 0 * 256 + get_or s (at + 3) 0

-- a serial: all four bytes are there (1), and it is not 0 (4)
unfoldable pub serial : List ℕ → Parsed ℕ
serial s = check (leb 4 (length s)) R.EndsEarly (check (not (eqb (word_at s 0) 0)) R.ZeroSerial (got (word_at s 0) (drop 4 s)))

-- ---- the sections, in their order

-- kind, one byte: 1 full, 2 short, any other is 2
unfoldable pub known_kind : ℕ → Bool
known_kind k = eqb k 1 || eqb k 2

unfoldable pub kind_of : ℕ → Kind
kind_of k = cond (eqb k 1) Full Short

unfoldable pub kind_section : List ℕ → Parsed Kind
kind_section s = then (byte s) (λ k s₁. check (known_kind k) R.UnknownKind (got (kind_of k) s₁))

-- n serials, no one of which stands before it (5)
unfoldable pub roster_serials : ℕ → List ℕ → List ℕ → Parsed (List ℕ)
roster_serials zero seen s = got seen s
roster_serials (suc n) seen s = then (serial s) (λ x s₁. check (not (holds x seen)) R.Twice (roster_serials n (seen ++ (x ∷ [])) s₁))

-- roster: a count from 1 to 128 (3), then that many serials
unfoldable pub roster_section : List ℕ → Parsed (List ℕ)
roster_section s = then (byte s) (λ n s₁. check (leb 1 n) R.BadCount (check (leb n 128) R.BadCount (roster_serials n [] s₁)))

-- an own or a mourned serial on the record's roster: whether what it stands for is there, and its place
abbrev pub is_on : (ℕ → ℕ) → List ℕ → ℕ → Bool
is_on alias r x = holds (stands_for alias r x) r

abbrev pub place_on : (ℕ → ℕ) → List ℕ → ℕ → ℕ
place_on alias r x = place_of (stands_for alias r x) r

-- a record as far as the roster's end: its own serial is the one that is stored, and `place` the place that it stands for
pub record Head : Type 0 where
  pub kind : Kind
  pub own : ℕ
  pub place : ℕ
  pub roster : List ℕ

-- the own serial is looked up when the roster has been read (6)
unfoldable pub head_section : (ℕ → ℕ) → List ℕ → Parsed Head
head_section alias s =
    then (kind_section s) (λ k s₁.
    then (serial s₁) (λ own s₂.
    then (roster_section s₂) (λ r s₃.
    check (is_on alias r own) R.NotOnRoster (got (record { kind = k; own = own; place = place_on alias r own; roster = r }) s₃))))

-- m serials of the roster (6), at rising places from `from` on (7), which join the set M
unfoldable pub mourned_serials : (ℕ → ℕ) → ℕ → List ℕ → ℕ → Places → List ℕ → Parsed Places
mourned_serials alias zero r from M s = got M s
mourned_serials alias (suc m) r from M s =
    then (serial s) (λ x s₁.
    check (is_on alias r x) R.NotOnRoster
    (check (leb from (place_on alias r x)) R.OutOfOrder
    (mourned_serials alias m r (suc (place_on alias r x)) (with (place_on alias r x) M) s₁)))

-- mourned: a count of at most the roster's (3), then that many serials
unfoldable pub mourned_section : (ℕ → ℕ) → List ℕ → List ℕ → Parsed Places
mourned_section alias r s = then (byte s) (λ m s₁. check (leb m (length r)) R.BadCount (mourned_serials alias m r 0 nothing s₁))

-- ---- a whole record, its serials as places

pub record Stored : Type 0 where
  pub kind : Kind
  pub own : ℕ
  pub roster : List ℕ
  pub mourned : Places

unfoldable pub stored : (ℕ → ℕ) → List ℕ → Parsed Stored
stored alias s =
    then (head_section alias s) (λ h s₁.
    then (mourned_section alias h.roster s₁) (λ M s₂.
    got (record { kind = h.kind; own = h.place; roster = h.roster; mourned = M }) s₂))

-- a lone record: nothing follows it (8)
unfoldable pub lone : (ℕ → ℕ) → List ℕ → Parsed Stored
lone alias s = then (stored alias s) (λ x s₁. check (eqb (length s₁) 0) R.BytesAfter (got x s₁))

-- ---- the bytes of a record: own and mourned are first serials, whichever were read

unfoldable pub kind_byte : Kind → ℕ
kind_byte Full = 1
kind_byte Short = 2

-- four bytes, the highest first
unfoldable pub serial_bytes : ℕ → List ℕ
serial_bytes x = (x / 16777216 % 256) ∷ (x / 65536 % 256) ∷ (x / 256 % 256) ∷ (x % 256) ∷ []

unfoldable pub serials_bytes : List ℕ → List ℕ
serials_bytes [] = []
serials_bytes (x ∷ xs) = serial_bytes x ++ serials_bytes xs

-- the serials of a roster whose places are in M, in roster order
unfoldable pub chosen : Places → List ℕ → List ℕ
chosen M [] = []
chosen M (x ∷ xs) = cond (M 0) (x ∷ chosen (λ k. M (suc k)) xs) (chosen (λ k. M (suc k)) xs)

unfoldable pub layout : Stored → List ℕ
layout x =
    (kind_byte x.kind ∷ serial_bytes (get_or x.roster x.own 0))
    ++ ((length x.roster ∷ serials_bytes x.roster)
    ++ (length (chosen x.mourned x.roster) ∷ serials_bytes (chosen x.mourned x.roster)))
