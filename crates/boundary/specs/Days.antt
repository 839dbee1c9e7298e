-- A day at the boundary to C: four words, 128 serials and the rows in the caller's memory, and document 01's answers as numbers.
-- Assumes nothing.
use Rattle.refusals.specs.declared.Refusal.{Refusal}
use Rattle.refusals.specs.Numbers.{number}
use Rattle.std.specs.Prelude.{cond, Result, Ok, Err, List, [], ◌∷◌, ℕ, get_or, eqb}
use Rattle.sets.specs.declared.PlaceSet.{PlaceSet}
use Rattle.histories.specs.declared.Kind.{Kind}
use Rattle.histories.specs.declared.Kind.TheVariants.{Full, Short}
use Rattle.layouts.specs.Layout.{kind_byte}
use Rattle.executions.specs.declared.Day.{Day}
use Rattle.executions.specs.declared.Event.{Event}
use Rattle.executions.specs.declared.Played.{Played}
use Rattle.executions.specs.Promises.{begun, happened, stepped, played}
use Rattle.boundary.specs.Words.{set_at}
use Rattle.boundary.specs.declared.DayNow.{DayNow}
use Rattle.boundary.specs.declared.EventNow.{EventNow}
use Rattle.boundary.specs.declared.PlayedNow.{PlayedNow}

-- ---- a day in the caller's memory

-- the four words: the kind (2 is short, every other word counts as full), the count, and two words of the places that have stopped
unfoldable pub kind_in : List ℕ → Kind
kind_in head = cond (eqb (get_or head 0 0) 2) Short Full

unfoldable pub stopped_in : List ℕ → PlaceSet
stopped_in head = set_at head 2

unfoldable pub day_in : List ℕ → List ℕ → List ℕ → Day
day_in head serials rows = record { kind = kind_in head; count = get_or head 1 0; serials = serials; stopped = stopped_in head; rows = rows }

unfoldable pub day_head_of : Kind → ℕ → PlaceSet → List ℕ
day_head_of k count s = kind_byte k ∷ count ∷ s.low ∷ s.high ∷ []

-- the words with other places that have stopped
unfoldable pub with_stopped : List ℕ → PlaceSet → List ℕ
with_stopped head s = get_or head 0 0 ∷ get_or head 1 0 ∷ s.low ∷ s.high ∷ []

-- an answer as a number: 0 where it was done, else that of the refusal
unfoldable pub done_code : Result (Unit {0}) Refusal → ℕ
done_code (Ok u) = 0
done_code (Err j) = number j

-- what a call answers, and the caller's memory after it
pub record DayHeld : Type 0 where
  pub code : ℕ
  pub head : List ℕ
  pub serials : List ℕ
  pub rows : List ℕ

-- ---- opening: the caller's memory is written only where it is opened

unfoldable pub begun_as : Result (Unit {0}) Refusal → Day → List ℕ → List ℕ → List ℕ → DayHeld
begun_as (Ok u) d head serials rows = record { code = 0; head = day_head_of d.kind d.count d.stopped; serials = d.serials; rows = d.rows }
begun_as (Err j) d head serials rows = record { code = number j; head = head; serials = serials; rows = rows }

unfoldable pub begun_held : ℕ → List ℕ → List ℕ → List ℕ → List ℕ → DayHeld
begun_held kind s head serials rows = begun_as (begun kind s).answer (begun kind s).day head serials rows

-- ---- one event of a day

unfoldable pub event_of : ℕ → ℕ → ℕ → Event
event_of kind place other = record { kind = kind; place = record { 0 = place }; other = record { 0 = other } }

unfoldable pub happened_held : List ℕ → List ℕ → List ℕ → Event → DayHeld
happened_held head serials rows e =
    record {
      code = done_code (happened (day_in head serials rows) e).answer;
      head = with_stopped head (happened (day_in head serials rows) e).day.stopped;
      serials = serials;
      rows = (happened (day_in head serials rows) e).day.rows;
    }

-- ---- a list of events: the day goes in by value and comes back by value

unfoldable pub day_of : DayNow → Day
day_of d = day_in d.head d.serials d.rows

-- its words, serials and rows after it: who has stopped and who heard what are another day's
unfoldable pub day_now : DayNow → Day → DayNow
day_now d after = record { head = with_stopped d.head after.stopped; serials = d.serials; rows = after.rows }

unfoldable pub event_in : EventNow → Event
event_in e = event_of e.kind e.place e.other

unfoldable pub events_in : List EventNow → List Event
events_in [] = []
events_in (e ∷ es) = event_in e ∷ events_in es

-- how a play ended as a number: 0 where all were played, else that of the refusal
unfoldable pub play_code : Result (Unit {0}) ℕ → ℕ
play_code (Ok u) = 0
play_code (Err k) = k

unfoldable pub played_as : DayNow → Played → PlayedNow
played_as d p = record { count = p.count; refusal = play_code p.answer; day = day_now d p.day }

unfoldable pub played_now : DayNow → List EventNow → PlayedNow
played_now d es = played_as d (played (day_of d) (events_in es))

-- one event after those played: after a refusal nothing more is played
unfoldable pub stepped_now : PlayedNow → EventNow → PlayedNow
stepped_now p e = cond (eqb p.refusal 0) (played_as p.day (stepped (record { count = p.count; answer = Ok tt; day = day_of p.day }) (event_in e))) p
