-- Demand 3: what the accepted records (document 01's pile), and the second serials given (document 02, [2]), dictate for each call. A call
-- holds what its caller passes, an outcome what the caller gets, lent bytes included. Nothing here knows of a recovery. Assumes nothing.
use Rattle.refusals.specs.declared.Refusal.{Refusal}
use Rattle.refusals.specs.Numbers as N
use Rattle.std.specs.Prelude.{◌≡◌, true, false, ◌⊎◌, ◌↔◌, List, [], ◌∷◌, ℕ, ◌+◌, ◌*◌, ◌^◌, ◌<◌, ◌≤◌, length, get_or, set, take, drop, replicate}
use Rattle.sets.specs.Sets.{count}
use Rattle.histories.specs.declared.Kind.{Kind}
use Rattle.histories.specs.Histories.{Row, History, Accepted, none, lay, Fits, LastInAll, LastInNone, Decided, Disagree}
use Rattle.answers.specs.Fetches.{MayHaveHeard}
use Rattle.serials.specs.Rosters.{IsRoster}
use Rattle.serials.specs.Seconds.{counts_as, itself}
use Rattle.rows.specs.Rows.{history_in}
use Rattle.layouts.specs.Layout.{got, Stored, stored, lone, layout}
use Rattle.layouts.specs.Layout as L

-- document 01's words, and its refusals by their numbers
pub data Said : Type 0 where
  opened taken repeated is_last not_last is_open decided shown fits fits_not settled unsettled given not_found listed : Said
  -- a serial was found: it is the first one, or the second one, of this place
  first_of second_of : ℕ → Said
  -- a record was written, up to this position
  ends : ℕ → Said
  -- so many fetches surely suffice, and this place is next
  fetches : ℕ → ℕ → Said
  refused : ℕ → Said

-- ---- opening

-- an opening free of the faults 3 to 5, with serials of 32 bits, as every lent list has them
pub record Free (roster : List ℕ) : Type 0 where
  pub sound : IsRoster roster
  pub serials : (p : ℕ) → p < length roster → get_or roster p 0 < 2 ^ 32

-- what opening must say: 3, 4, 5 in that order, each over the whole, and opened where there is no fault
pub data Opens (s : List ℕ) : Said → Type 0 where
  wrong_count : (length s ≡ 0) ⊎ (128 < length s) → Opens s (refused 3)
  zero_serial : {p : ℕ} → 1 ≤ length s → length s ≤ 128 → p < length s → get_or s p 0 ≡ 0 → Opens s (refused 4)
  twice : {p q : ℕ} → 1 ≤ length s → length s ≤ 128 → ((p : ℕ) → p < length s → ¬ (get_or s p 0 ≡ 0))
      → p < q → q < length s → get_or s p 0 ≡ get_or s q 0 → Opens s (refused 5)
  succeeds : IsRoster s → Opens s opened

-- ---- calls and outcomes

pub data Call : Type 0 where
  offer : List ℕ → Call
  ask : ℕ → Call
  show : ℕ → List ℕ → List ℕ → Call
  -- a lent history
  check : List ℕ → Call
  whole to_fetch unmourned list_unmourned_absent count_unmourned : Call
  -- a serial
  find : ℕ → Call
  -- a place, and a second serial for it
  give : ℕ → ℕ → Call
  -- a place, a buffer, and a position in it
  write : ℕ → List ℕ → ℕ → Call
  -- a buffer
  list : List ℕ → Call

pub data Outcome : Type 0 where
  says : Said → Outcome
  -- what is said, and the lent buffers afterwards
  lent : Said → List ℕ → List ℕ → Outcome
  lent_one : Said → List ℕ → Outcome
  places : Row → Outcome
  number : ℕ → Outcome

-- ---- what stands beside a recovery

-- what anybody can keep who sees the calls' arguments: the accepted records, and the second serials given, place by place, 0 where a place
-- has none
pub record Ledger : Type 0 where
  pub accepted : Accepted
  pub seconds : List ℕ

-- at the opening
abbrev pub begun : List ℕ → Ledger
begun roster = record { accepted = none; seconds = replicate (length roster) 0 }

-- with the record of p; with a second serial for p
abbrev pub laying : Ledger → ℕ → Kind → Row → Ledger
laying A p k M = record { accepted = lay A.accepted p k M; seconds = A.seconds }

abbrev pub noting : Ledger → ℕ → ℕ → Ledger
noting A p x = record { accepted = A.accepted; seconds = set A.seconds p x }

-- x, if it is not 0, is the first or the second serial of some place
abbrev pub KnownSerial : List ℕ → List ℕ → ℕ → Type 0
KnownSerial roster seconds x = (p : ℕ) × (p < length roster) × ((get_or roster p 0 ≡ x) ⊎ (get_or seconds p 0 ≡ x))

-- what the second serials given are, whatever was called: one or 0 for each place, none of them a first one, no two alike
pub record AreSeconds (roster seconds : List ℕ) : Type 0 where
  pub long : length seconds ≡ length roster
  pub not_first : (p q : ℕ) → p < length roster → q < length roster → ¬ (get_or seconds p 0 ≡ get_or roster q 0)
  pub no_repeat : (p q : ℕ) → p < q → q < length roster → get_or seconds p 0 ≡ get_or seconds q 0 → get_or seconds p 0 ≡ 0

-- ---- what it dictates, of a group of this roster

-- the bytes are a lone record of this group, free of the faults 1 to 9: a serial that is not on the record's roster counts as the first
-- one of the place whose second one it is
pub record OfGroup (roster seconds : List ℕ) (bytes : List ℕ) (x : Stored) : Type 0 where
  pub rest : List ℕ
  pub reads : lone (counts_as roster seconds) bytes ≡ got x rest
  pub same_roster : x.roster ≡ roster

-- x is the record that was accepted of its place: of the same kind, with the same mourned set
pub record SameRecord (A : Accepted) (x : Stored) : Type 0 where
  pub kind : x.kind ≡ A.kind x.own
  pub mourned : x.mourned ≡ A.row x.own

-- some accepted record names q
abbrev pub Mourned : Accepted → ℕ → Type 0
Mourned A q = (p : ℕ) × (A.returned p ≡ true) × (A.row p q ≡ true)

-- S is the set of the unmourned places of a roster of n
abbrev pub Unmourned : ℕ → Accepted → Row → Type 0
Unmourned n A S = (q : ℕ) → (S q ≡ true) ↔ ((q < n) × (¬ (Mourned A q)))

-- a buffer afterwards, read as the rows of a history, and equal to the one before past the rows
pub record Holds (n : ℕ) (old new : List ℕ) (H : History) : Type 0 where
  pub same_length : length new ≡ length old
  pub same_rest : drop (16 * n) new ≡ drop (16 * n) old
  pub is_history : (p q : ℕ) → history_in n new p q ≡ H p q

-- the accepted record of p
abbrev pub record_in : List ℕ → Accepted → ℕ → Stored
record_in roster A p = record { kind = A.kind p; own = p; roster = roster; mourned = A.row p }

-- where its bytes end, if they start at a position
abbrev pub end_in : List ℕ → Accepted → ℕ → ℕ → ℕ
end_in roster A p at = at + length (layout (record_in roster A p))

-- the byte of a place in a list of all: document 02, [4]
pub data ByteOf (n : ℕ) (A : Accepted) (i : ℕ) : ℕ → Type 0 where
  byte_not : LastInNone n A i → ByteOf n A i 0
  byte_last : LastInAll n A i → ByteOf n A i 1
  byte_open : {F G : History} → Disagree n A i F G → ByteOf n A i 2

-- S is the set of those who, in some history that fits, heard an unmourned place: document 02, [6]
abbrev pub MayHear : ℕ → Accepted → Row → Type 0
MayHear n A S = (b : ℕ) → (S b ≡ true) ↔ MayHaveHeard n A b

-- `Dictates roster A c o B`: where A stands beside the recovery, the call c must have the outcome o, and leaves B there
pub data Dictates (roster : List ℕ) : Ledger → Call → Outcome → Ledger → Type 0 where
  faulty : {A : Ledger} {bytes : List ℕ} {j : Refusal} → lone (counts_as roster A.seconds) bytes ≡ L.refused j → 1 ≤ N.number j → N.number j ≤ 8 → Dictates roster A (offer bytes) (says (refused (N.number j))) A
  foreign : {A : Ledger} {bytes rest : List ℕ} {x : Stored} → lone (counts_as roster A.seconds) bytes ≡ got x rest → ¬ (x.roster ≡ roster)
      → Dictates roster A (offer bytes) (says (refused 9)) A
  repeats : {A : Ledger} {bytes : List ℕ} {x : Stored} → OfGroup roster A.seconds bytes x → A.accepted.returned x.own ≡ true → SameRecord A.accepted x
      → Dictates roster A (offer bytes) (says repeated) A
  differs : {A : Ledger} {bytes : List ℕ} {x : Stored} → OfGroup roster A.seconds bytes x → A.accepted.returned x.own ≡ true → ¬ (SameRecord A.accepted x)
      → Dictates roster A (offer bytes) (says (refused 10)) A
  takes : {A : Ledger} {bytes : List ℕ} {x : Stored} {H : History} → OfGroup roster A.seconds bytes x → A.accepted.returned x.own ≡ false
      → Fits (length roster) (lay A.accepted x.own x.kind x.mourned) H
      → Dictates roster A (offer bytes) (says taken) (laying A x.own x.kind x.mourned)
  none_fits : {A : Ledger} {bytes : List ℕ} {x : Stored} → OfGroup roster A.seconds bytes x → A.accepted.returned x.own ≡ false
      → ((H : History) → ¬ (Fits (length roster) (lay A.accepted x.own x.kind x.mourned) H))
      → Dictates roster A (offer bytes) (says (refused 11)) A
  asked_off : {A : Ledger} {i : ℕ} → length roster ≤ i → Dictates roster A (ask i) (says (refused 12)) A
  asked_last : {A : Ledger} {i : ℕ} → i < length roster → LastInAll (length roster) A.accepted i → Dictates roster A (ask i) (says is_last) A
  asked_not : {A : Ledger} {i : ℕ} → i < length roster → LastInNone (length roster) A.accepted i → Dictates roster A (ask i) (says not_last) A
  asked_open : {A : Ledger} {i : ℕ} {F G : History} → i < length roster → Disagree (length roster) A.accepted i F G → Dictates roster A (ask i) (says is_open) A
  showed_off : {A : Ledger} {i : ℕ} {a b : List ℕ} → length roster ≤ i → Dictates roster A (show i a b) (lent (refused 12) a b) A
  showed_decided : {A : Ledger} {i : ℕ} {a b : List ℕ} → i < length roster → Decided (length roster) A.accepted i
      → Dictates roster A (show i a b) (lent decided a b) A
  showed_short : {A : Ledger} {i : ℕ} {a b : List ℕ} {F G : History} → i < length roster → Disagree (length roster) A.accepted i F G
      → (length a < 16 * length roster) ⊎ (length b < 16 * length roster) → Dictates roster A (show i a b) (lent (refused 13) a b) A
  showed : {A : Ledger} {i : ℕ} {a b a' b' : List ℕ} {F G : History} → i < length roster → 16 * length roster ≤ length a → 16 * length roster ≤ length b
      → Disagree (length roster) A.accepted i F G → Holds (length roster) a a' F → Holds (length roster) b b' G
      → Dictates roster A (show i a b) (lent shown a' b') A
  checked_short : {A : Ledger} {h : List ℕ} → length h < 16 * length roster → Dictates roster A (check h) (says (refused 13)) A
  checked_off : {A : Ledger} {h : List ℕ} (p q : ℕ) → 16 * length roster ≤ length h → history_in (length roster) h p q ≡ true → length roster ≤ q
      → Dictates roster A (check h) (says (refused 15)) A
  checked_fits : {A : Ledger} {h : List ℕ} → 16 * length roster ≤ length h → Fits (length roster) A.accepted (history_in (length roster) h)
      → Dictates roster A (check h) (says fits) A
  checked_not : {A : Ledger} {h : List ℕ} → 16 * length roster ≤ length h → ((p q : ℕ) → history_in (length roster) h p q ≡ true → q < length roster)
      → ¬ (Fits (length roster) A.accepted (history_in (length roster) h)) → Dictates roster A (check h) (says fits_not) A
  whole_settled : {A : Ledger} → ((i : ℕ) → i < length roster → Decided (length roster) A.accepted i) → Dictates roster A whole (says settled) A
  whole_open : {A : Ledger} {i : ℕ} {F G : History} → i < length roster → Disagree (length roster) A.accepted i F G → Dictates roster A whole (says unsettled) A
  fetched_none : {A : Ledger} → ((b : ℕ) → ¬ (MayHaveHeard (length roster) A.accepted b)) → Dictates roster A to_fetch (says settled) A
  fetched_next : {A : Ledger} {S : Row} {p : ℕ} → MayHear (length roster) A.accepted S → S p ≡ true → ((q : ℕ) → q < p → S q ≡ false)
      → Dictates roster A to_fetch (says (fetches (count (length roster) S) p)) A
  gave_unmourned : {A : Ledger} {S : Row} → Unmourned (length roster) A.accepted S → Dictates roster A unmourned (places S) A
  gave_absent : {A : Ledger} {S U : Row} → Unmourned (length roster) A.accepted U → ((q : ℕ) → (S q ≡ true) ↔ ((U q ≡ true) × (A.accepted.returned q ≡ false)))
      → Dictates roster A list_unmourned_absent (places S) A
  gave_count : {A : Ledger} {U : Row} → Unmourned (length roster) A.accepted U → Dictates roster A count_unmourned (number (count (length roster) U)) A
  found_first : {A : Ledger} {x p : ℕ} → p < length roster → get_or roster p 0 ≡ x → Dictates roster A (find x) (says (first_of p)) A
  found_second : {A : Ledger} {x p : ℕ} → p < length roster → ¬ (x ≡ 0) → get_or A.seconds p 0 ≡ x → Dictates roster A (find x) (says (second_of p)) A
  found_none : {A : Ledger} {x : ℕ} → (x ≡ 0) ⊎ (¬ (KnownSerial roster A.seconds x)) → Dictates roster A (find x) (says not_found) A
  gave_off : {A : Ledger} {p x : ℕ} → length roster ≤ p → Dictates roster A (give p x) (says (refused 12)) A
  gave_zero : {A : Ledger} {p x : ℕ} → p < length roster → x ≡ 0 → Dictates roster A (give p x) (says (refused 4)) A
  gave_known : {A : Ledger} {p x : ℕ} → p < length roster → ¬ (x ≡ 0) → KnownSerial roster A.seconds x ⊎ (¬ (get_or A.seconds p 0 ≡ 0))
      → Dictates roster A (give p x) (says (refused 16)) A
  gave : {A : Ledger} {p x : ℕ} → p < length roster → ¬ (x ≡ 0) → ¬ (KnownSerial roster A.seconds x) → get_or A.seconds p 0 ≡ 0
      → Dictates roster A (give p x) (says given) (noting A p x)
  wrote_off : {A : Ledger} {p at : ℕ} {out : List ℕ} → length roster ≤ p → Dictates roster A (write p out at) (lent_one (refused 12) out) A
  wrote_absent : {A : Ledger} {p at : ℕ} {out : List ℕ} → p < length roster → A.accepted.returned p ≡ false
      → Dictates roster A (write p out at) (lent_one (refused 14) out) A
  wrote_short : {A : Ledger} {p at : ℕ} {out : List ℕ} → p < length roster → A.accepted.returned p ≡ true → length out < end_in roster A.accepted p at
      → Dictates roster A (write p out at) (lent_one (refused 13) out) A
  wrote : {A : Ledger} {p at : ℕ} {out out' : List ℕ} → p < length roster → A.accepted.returned p ≡ true → end_in roster A.accepted p at ≤ length out
      → length out' ≡ length out → take at out' ≡ take at out → drop (end_in roster A.accepted p at) out' ≡ drop (end_in roster A.accepted p at) out
      → stored itself (drop at out') ≡ got (record_in roster A.accepted p) (drop (end_in roster A.accepted p at) out')
      → Dictates roster A (write p out at) (lent_one (ends (end_in roster A.accepted p at)) out') A
  listed_short : {A : Ledger} {out : List ℕ} → length out < length roster → Dictates roster A (list out) (lent_one (refused 13) out) A
  listed_all : {A : Ledger} {out out' : List ℕ} → length roster ≤ length out → length out' ≡ length out → drop (length roster) out' ≡ drop (length roster) out
      → ((i : ℕ) → i < length roster → ByteOf (length roster) A.accepted i (get_or out' i 0)) → Dictates roster A (list out) (lent_one listed out') A

-- a whole list of calls: each has the outcome that the records accepted and the second serials given before it dictate
pub data Whole (roster : List ℕ) : Ledger → List Call → List Outcome → Type 0 where
  end : {A : Ledger} → Whole roster A [] []
  then : {A B : Ledger} {c : Call} {o : Outcome} {cs : List Call} {os : List Outcome}
      → Dictates roster A c o B → Whole roster B cs os → Whole roster A (c ∷ cs) (o ∷ os)
