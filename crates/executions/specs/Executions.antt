-- A day of stops, as document 01 has it ('A day'), on the places below n. Assumes nothing.
use Rattle.std.specs.Prelude.{not, cond, Result, Ok, Err, ◌&&◌, ℕ, eqb, ltb}
use Rattle.refusals.specs.declared.Refusal.{Refusal}
use Rattle.refusals.specs.declared.Refusal.TheVariants as R
use Rattle.sets.specs.Sets.{Places, nothing, only, below, with, difference}
use Rattle.histories.specs.declared.Kind.{Kind}
use Rattle.histories.specs.declared.Kind.TheVariants.{Full, Short}
use Rattle.histories.specs.Histories.{History}
use Rattle.executions.specs.declared.Event.{Event}

-- 01's day: who has stopped, and the row of each place, whom it has heard stop
pub record Execution : Type 0 where
  pub stopped : Places
  pub row : History

-- all run at first, and nobody has heard anything
abbrev pub morning : Execution
morning = record { stopped = nothing; row = λ p. nothing }

-- whether an event is allowed, or the refusal that it meets: 12 for a place off the roster, 14 where it is not allowed. A stop needs its place
-- running, and its other place is not looked at; a hearing needs its place running and the other stopped
unfoldable pub stop_fault : ℕ → Execution → ℕ → Result (Unit {0}) Refusal
stop_fault n D p = cond (ltb p n) (cond (D.stopped p) (Err R.NotAllowed) (Ok tt)) (Err R.OffRoster)

unfoldable pub hear_fault : ℕ → Execution → ℕ → ℕ → Result (Unit {0}) Refusal
hear_fault n D p q = cond (ltb p n && ltb q n) (cond (not (D.stopped p) && D.stopped q) (Ok tt) (Err R.NotAllowed)) (Err R.OffRoster)

unfoldable pub fault : ℕ → Execution → Event → Result (Unit {0}) Refusal
fault n D e =
    cond (eqb e.kind 1) (stop_fault n D e.place.0)
    (cond (eqb e.kind 2) (hear_fault n D e.place.0 e.other.0) (Err R.NotAllowed))

-- who notes what p hears: p itself in the short kind, everyone who runs in the full kind
unfoldable pub listeners : Kind → ℕ → Execution → ℕ → Places
listeners Full n D p = difference (below n) D.stopped
listeners Short n D p = only p

-- rows in which some places note that q has stopped
unfoldable pub noting : Places → ℕ → History → History
noting who q H x = cond (who x) (with q (H x)) (H x)

-- an event that is allowed
unfoldable pub happening : Kind → ℕ → Execution → Event → Execution
happening k n D e =
    cond (eqb e.kind 1)
    (record { stopped = with e.place.0 D.stopped; row = D.row })
    (record { stopped = D.stopped; row = noting (listeners k n D e.place.0) e.other.0 D.row })
