-- What each call on a day gives, and each lent byte afterwards, for every day and every input: the definitions that the contracts
-- cite. Assumes nothing.
use Rattle.refusals.specs.declared.Refusal.{Refusal}
use Rattle.refusals.specs.declared.Refusal.TheVariants as R
use Rattle.refusals.specs.Numbers.{number}
use Rattle.std.specs.Prelude.{cond, Result, Ok, Err, List, [], ◌∷◌, ◌++◌, ℕ, ◌+◌, ◌-◌, ◌^◌, length, take, replicate, eqb, ltb}
use Rattle.sets.specs.Sets.{nothing, below, intersection, with}
use Rattle.sets.specs.PlaceSets.{has, packed}
use Rattle.histories.specs.declared.Kind.{Kind}
use Rattle.histories.specs.declared.Kind.TheVariants.{Full}
use Rattle.serials.specs.Rosters.{listed}
use Rattle.rows.specs.Rows.{no_rows, rows_of, table_of}
use Rattle.layouts.specs.Layout.{known_kind, kind_of, Stored, layout}
use Rattle.layouts.specs.Records.{Written, unwritten, written_at}
use Rattle.answers.specs.Views.{size}
use Rattle.executions.specs.declared.Day.{Day}
use Rattle.executions.specs.declared.Begun.{Begun}
use Rattle.executions.specs.declared.Event.{Event}
use Rattle.executions.specs.declared.Happened.{Happened}
use Rattle.executions.specs.declared.Played.{Played}
use Rattle.executions.specs.Executions.{Execution, fault, listeners, noting}

-- ---- what a day holds, whatever its fields are

unfoldable pub size_of : Day → ℕ
size_of d = size d.count

unfoldable pub roster_of : Day → List ℕ
roster_of d = take (size_of d) d.serials

-- places off the roster are not looked at
unfoldable pub execution_of : Day → Execution
execution_of d = record {
  stopped = intersection (below (size_of d)) (has d.stopped);
  row = λ p. intersection (below (size_of d)) (rows_of d.rows p);
}

-- ---- opening: 2, then 3, 4, 5, or opened

-- a roster, and all run
unfoldable pub starting : Kind → List ℕ → Day
starting k s = record { kind = k; count = length s; serials = s ++ replicate (128 - length s) 0; stopped = packed nothing; rows = no_rows }

-- a refused opening gives a day of no places
unfoldable pub unbegun : Refusal → Begun
unbegun j = record { answer = Err j; day = starting Full [] }

unfoldable pub begun_as : Kind → List ℕ → Result (Unit {0}) Refusal → Begun
begun_as k s (Ok u) = record { answer = Ok u; day = starting k s }
begun_as k s (Err j) = unbegun j

unfoldable pub begun : ℕ → List ℕ → Begun
begun kind s = cond (known_kind kind) (begun_as (kind_of kind) s (listed s)) (unbegun R.UnknownKind)

-- ---- one event: 12, 14, or the day after it

-- the day after an event that is allowed
unfoldable pub stopping : Day → ℕ → Day
stopping d p = record { kind = d.kind; count = d.count; serials = d.serials; stopped = packed (with p (has d.stopped)); rows = d.rows }

unfoldable pub hearing : Day → ℕ → ℕ → Day
hearing d p q = record {
  kind = d.kind;
  count = d.count;
  serials = d.serials;
  stopped = d.stopped;
  rows = table_of (noting (listeners d.kind (size_of d) (execution_of d) p) q (rows_of d.rows));
}

unfoldable pub day_after : Day → Event → Day
day_after d e = cond (eqb e.kind 1) (stopping d e.place.0) (hearing d e.place.0 e.other.0)

unfoldable pub happened_as : Day → Event → Result (Unit {0}) Refusal → Happened
happened_as d e (Ok u) = record { answer = Ok u; day = day_after d e }
happened_as d e (Err j) = record { answer = Err j; day = d }

unfoldable pub happened : Day → Event → Happened
happened d e = happened_as d e (fault (size_of d) (execution_of d) e)

-- ---- a list of events, played up to the first refusal

-- one more played; the largest number there is stays
unfoldable pub one_more : ℕ → ℕ
one_more n = cond (ltb n (2 ^ 64 - 1)) (n + 1) n

unfoldable pub counted_as : ℕ → Day → Result (Unit {0}) Refusal → Played
counted_as n d (Ok u) = record { count = one_more n; answer = Ok u; day = d }
counted_as n d (Err j) = record { count = n; answer = Err (number j); day = d }

unfoldable pub counted : ℕ → Happened → Played
counted n h = counted_as n h.day h.answer

-- one event after those played: after a refusal nothing more is played
unfoldable pub stepped_as : Played → Event → Result (Unit {0}) ℕ → Played
stepped_as p e (Ok u) = counted p.count (happened p.day e)
stepped_as p e (Err k) = p

unfoldable pub stepped : Played → Event → Played
stepped p e = stepped_as p e p.answer

unfoldable pub played_from : Played → List Event → Played
played_from p [] = p
played_from p (e ∷ es) = played_from (stepped p e) es

unfoldable pub played : Day → List Event → Played
played d es = played_from (record { count = 0; answer = Ok tt; day = d }) es

-- ---- writing the record of one that has stopped: 12, 14, 13, or laid down from a position on

unfoldable pub record_of : Day → ℕ → Stored
record_of d p = record { kind = d.kind; own = p; roster = roster_of d; mourned = (execution_of d).row p }

unfoldable pub written_of : Day → ℕ → List ℕ → ℕ → Written
written_of d p out at =
    cond (ltb p (size_of d)) (cond ((execution_of d).stopped p) (written_at (layout (record_of d p)) out at) (unwritten R.NotAllowed out)) (unwritten R.OffRoster out)
