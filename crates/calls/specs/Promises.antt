-- What each call gives, and each lent byte afterwards, for every recovery and every input: the definitions that the contracts
-- cite. Assumes nothing.
use Rattle.refusals.specs.declared.Refusal.{Refusal}
use Rattle.refusals.specs.declared.Refusal.TheVariants as R
use Rattle.std.specs.Prelude.{Bool, cond, Option, Result, Ok, Err, List, [], ◌++◌, ℕ, ◌-◌, ◌*◌, length, set, take, replicate, leb, ltb}
use Rattle.sets.specs.Sets.{nothing, below, union, difference, with, count}
use Rattle.sets.specs.PlaceSets.{has, packed}
use Rattle.histories.specs.declared.Kind.{Kind}
use Rattle.histories.specs.declared.Kind.TheVariants.{Full, Short}
use Rattle.histories.specs.Histories.{Row, History, Accepted}
use Rattle.histories.specs.Rule.{Answer, is_last, not_last, is_open, recorded, mourned, full_back, before_full, fits_test}
use Rattle.histories.specs.Kept.{answer_by, settled_by}
use Rattle.serials.specs.Rosters.{listed}
use Rattle.serials.specs.Seconds.{counts_as, finding}
use Rattle.serials.specs.declared.Finding.{Finding}
use Rattle.rows.specs.Rows.{no_rows, rows_of, with_row, table_of, history_in}
use Rattle.layouts.specs.Layout.{Parsed, got, refused, Stored, lone, layout}
use Rattle.layouts.specs.Records.{same_list, Written, unwritten, written_at}
use Rattle.answers.specs.declared.Answer as declared
use Rattle.answers.specs.declared.Answer.TheVariants as A
use Rattle.answers.specs.Views.{size, accepted_in, answer_of}
use Rattle.answers.specs.Groups.{giving}
use Rattle.answers.specs.Checks.{off_roster}
use Rattle.answers.specs.Shows.{Shown, shown_in}
use Rattle.answers.specs.Lists.{ListedAll, listed_in}
use Rattle.answers.specs.Fetches.{blocking_by, told}
use Rattle.answers.specs.declared.Fetching.{Fetching}
use Rattle.answers.specs.Replies.{entering}
use Rattle.calls.specs.declared.Recovery.{Recovery}
use Rattle.calls.specs.declared.Opened.{Opened}
use Rattle.answers.specs.declared.Reply.{Reply}
use Rattle.answers.specs.declared.Reply.TheVariants as O
use Rattle.calls.specs.declared.Offered.{Offered}
use Rattle.calls.specs.declared.Gave.{Gave}

-- ---- what a recovery holds, whatever its fields are

-- how many places: a count above 128, which no opening makes, counts as 128
unfoldable pub size_of : Recovery → ℕ
size_of r = size r.count

unfoldable pub roster_of : Recovery → List ℕ
roster_of r = take (size_of r) r.serials

-- the second serials beside it, 0 where a place has none
unfoldable pub seconds_of : Recovery → List ℕ
seconds_of r = take (size_of r) r.seconds

-- what serials count as in its group
unfoldable pub alias_of : Recovery → ℕ → ℕ
alias_of r = counts_as (roster_of r) (seconds_of r)

-- the accepted records; places off the roster are not looked at
unfoldable pub accepted_of : Recovery → Accepted
accepted_of r = accepted_in r.count (has r.returned) (has r.full) r.rows

-- the recovery of a group that has these second serials and these records accepted, whatever came in between and in whatever order. Every
-- recovery is such a one from its opening on (proofs/Demand.antt, `Good`): the mourned places that it keeps are those that its accepted records
-- name, the full ones are those back with a full record, the earlier ones are those before one of these, and it has an empty row for each
-- place that is not back. The calls go by what is kept, so that asking need not collect it, and showing need not clean it
unfoldable pub holding : List ℕ → List ℕ → Accepted → Recovery
holding roster seconds A = record {
  count = length roster;
  serials = roster ++ replicate (128 - length roster) 0;
  seconds = seconds ++ replicate (128 - length seconds) 0;
  returned = packed A.returned;
  full = packed (full_back A);
  mourned = packed (mourned (length roster) A);
  earlier = packed (before_full (length roster) A);
  rows = table_of (recorded A);
}

-- ---- opening: 3, 4, 5, or opened

-- a roster, no second serial, and nobody back
unfoldable pub fresh : List ℕ → Recovery
fresh s = record {
  count = length s;
  serials = s ++ replicate (128 - length s) 0;
  seconds = replicate 128 0;
  returned = packed nothing;
  full = packed nothing;
  mourned = packed nothing;
  earlier = packed nothing;
  rows = no_rows;
}

-- a refused opening gives a recovery of no places
unfoldable pub unopened : Refusal → Opened
unopened j = record { answer = Err j; recovery = fresh [] }

unfoldable pub opened_as : List ℕ → Result (Unit {0}) Refusal → Opened
opened_as s (Ok u) = record { answer = Ok tt; recovery = fresh s }
opened_as s (Err j) = unopened j

unfoldable pub opened : List ℕ → Opened
opened s = opened_as s (listed s)

-- ---- offering: 1 to 8, 9, repeated or 10, 11 or taken

-- the record is of this group: its roster is the recovery's, order included
unfoldable pub of_group : Recovery → Stored → Bool
of_group r x = same_list x.roster (roster_of r)

-- the recovery stays as it is
unfoldable pub saying : Recovery → Result Reply Refusal → Offered
saying r a = record { answer = a; recovery = r }

-- the place p is full, and those of M are before it
unfoldable pub keeping_full : Recovery → ℕ → Row → Recovery
keeping_full r p M = record {
  count = r.count;
  serials = r.serials;
  seconds = r.seconds;
  returned = r.returned;
  full = packed (with p (has r.full));
  mourned = r.mourned;
  earlier = packed (union (has r.earlier) M);
  rows = r.rows;
}

-- the place p is back, with the mourned set M
unfoldable pub keeping_row : Recovery → ℕ → Row → Recovery
keeping_row r p M = record {
  count = r.count;
  serials = r.serials;
  seconds = r.seconds;
  returned = packed (with p (has r.returned));
  full = r.full;
  mourned = packed (union (has r.mourned) M);
  earlier = r.earlier;
  rows = with_row r.rows p (packed M);
}

-- the record of p with the kind k and the mourned set M is kept
unfoldable pub keeping : Recovery → ℕ → Kind → Row → Recovery
keeping r p Full M = keeping_row (keeping_full r p M) p M
keeping r p Short M = keeping_row r p M

-- what a reply to the record of p leaves: one that is taken is kept, otherwise the recovery stays as it is
unfoldable pub answered : Recovery → ℕ → Kind → Row → Result Reply Refusal → Offered
answered r p k M (Ok O.Taken) = record { answer = Ok O.Taken; recovery = keeping r p k M }
answered r p k M (Ok O.Repeated) = saying r (Ok O.Repeated)
answered r p k M (Err j) = saying r (Err j)

-- a record of the group: of p, with the kind k and the mourned set M
unfoldable pub entered : Recovery → ℕ → Kind → Row → Offered
entered r p k M = answered r p k M (entering r.count (has r.returned) (has r.full) r.rows p k M)

-- a sound record
unfoldable pub judged : Recovery → Stored → Offered
judged r x = cond (of_group r x) (entered r x.own x.kind x.mourned) (saying r (Err R.OtherGroup))

unfoldable pub offered_as : Recovery → Parsed Stored → Offered
offered_as r (got x rest) = judged r x
offered_as r (refused j) = saying r (Err j)

unfoldable pub offered : Recovery → List ℕ → Offered
offered r bytes = offered_as r (lone (alias_of r) bytes)

-- ---- asking: 12, or the answer

unfoldable pub answer_at : Recovery → ℕ → Answer
answer_at r i = answer_by (size_of r) (accepted_of r) (has r.mourned) (has r.earlier) i

unfoldable pub asked_as : Answer → Result declared.Answer Refusal
asked_as a = Ok (answer_of a)

unfoldable pub asked : Recovery → ℕ → Result declared.Answer Refusal
asked r i = cond (ltb i (size_of r)) (asked_as (answer_at r i)) (Err R.OffRoster)

-- ---- listing every place: 13, or the byte of each answer laid down

unfoldable pub listed_of : Recovery → List ℕ → ListedAll
listed_of r out = listed_in (size_of r) (accepted_of r) (has r.mourned) (has r.earlier) out

-- the byte of what asking says: document 02, [4]
pub data AskedByte : Result declared.Answer Refusal → ℕ → Type 0 where
  not_byte : AskedByte (Ok A.NotLast) 0
  last_byte : AskedByte (Ok A.Last) 1
  open_byte : AskedByte (Ok A.Open) 2

-- ---- showing: 12, decided, 13, or both histories laid down

unfoldable pub shown : Recovery → ℕ → List ℕ → List ℕ → Shown
shown r i a b = shown_in (size_of r) (accepted_of r) (has r.mourned) (has r.earlier) (rows_of r.rows) i a b

-- ---- checking a lent history: 13, 15, or whether it fits

unfoldable pub checked_rows : Recovery → History → Result Bool Refusal
checked_rows r H =
    cond (off_roster (size_of r) H) (Err R.BitOffRoster) (Ok (fits_test (size_of r) (accepted_of r) H))

unfoldable pub checked : Recovery → List ℕ → Result Bool Refusal
checked r h = cond (leb (16 * size_of r) (length h)) (checked_rows r (history_in (size_of r) h)) (Err R.TooShort)

-- ---- the whole

unfoldable pub settled_of : Recovery → Bool
settled_of r = settled_by (size_of r) (accepted_of r) (has r.mourned) (has r.earlier)

-- ---- how many places to fetch at most, and which next: document 02, [6]

-- the places that block some unmourned place
unfoldable pub blocking_of : Recovery → Row
blocking_of r = blocking_by (size_of r) (accepted_of r) (has r.mourned) (has r.earlier)

unfoldable pub fetching_of : Recovery → Option Fetching
fetching_of r = told (size_of r) (blocking_of r)

-- ---- the two sets and the number

unfoldable pub unmourned_of : Recovery → Row
unmourned_of r = difference (below (size_of r)) (has r.mourned)

unfoldable pub unmourned_absent_of : Recovery → Row
unmourned_absent_of r = difference (unmourned_of r) (accepted_of r).returned

unfoldable pub unmourned_count_of : Recovery → ℕ
unmourned_count_of r = count (size_of r) (unmourned_of r)

-- ---- the place of a serial, and which of the place's two it is

unfoldable pub found_in : Recovery → ℕ → Option Finding
found_in r x = finding (alias_of r) (roster_of r) x

-- ---- giving a place a second serial: 12, 4, 16, or given

unfoldable pub with_second : Recovery → ℕ → ℕ → Recovery
with_second r p x = record {
  count = r.count;
  serials = r.serials;
  seconds = set r.seconds p x;
  returned = r.returned;
  full = r.full;
  mourned = r.mourned;
  earlier = r.earlier;
  rows = r.rows;
}

-- where it is refused, the recovery stays as it is
unfoldable pub gave_as : Recovery → ℕ → ℕ → Result (Unit {0}) Refusal → Gave
gave_as r p x (Ok u) = record { answer = Ok tt; recovery = with_second r p x }
gave_as r p x (Err j) = record { answer = Err j; recovery = r }

unfoldable pub given : Recovery → ℕ → ℕ → Gave
given r p x = gave_as r p x (giving r.count r.serials r.seconds p x)

-- ---- writing a returned record: 12, 14, 13, or laid down from a position on

-- the accepted record of p
unfoldable pub record_of : Recovery → ℕ → Stored
record_of r p = record { kind = (accepted_of r).kind p; own = p; roster = roster_of r; mourned = (accepted_of r).row p }

unfoldable pub written_of : Recovery → ℕ → List ℕ → ℕ → Written
written_of r p out at =
    cond (ltb p (size_of r)) (cond ((accepted_of r).returned p) (written_at (layout (record_of r p)) out at) (unwritten R.NotAllowed out)) (unwritten R.OffRoster out)
