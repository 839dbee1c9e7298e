-- What happened in a list of events, said of the events alone: document 01, 'A day'. Nothing here knows of a day, of its rows or of who has stopped in it. Assumes nothing.
use Rattle.refusals.specs.declared.Refusal.{Refusal}
use Rattle.refusals.specs.declared.Refusal.TheVariants as R
use Rattle.std.specs.Prelude.{◌≡◌, ◌⊎◌, Result, Ok, Err, List, ◌∷◌, ◌++◌, ℕ, ◌<◌, ◌≤◌}
use Rattle.histories.specs.declared.Kind.{Kind}
use Rattle.histories.specs.declared.Kind.TheVariants.{Full, Short}
use Rattle.executions.specs.declared.Event.{Event}

-- 01's "stop p", whatever its second place is, and "hear p q"
abbrev pub IsStop : Event → ℕ → Type 0
IsStop e p = (e.kind ≡ 1) × (e.place.0 ≡ p)

abbrev pub IsHear : Event → ℕ → ℕ → Type 0
IsHear e p q = (e.kind ≡ 2) × (e.place.0 ≡ p) × (e.other.0 ≡ q)

-- x has stopped in these events: a stop of x is among them
pub record Stopped (es : List Event) (x : ℕ) : Type 0 where
  pub before : List Event
  pub event : Event
  pub later : List Event
  pub among : es ≡ before ++ (event ∷ later)
  pub stop : IsStop event x

-- who notes what p hears behind the events `before`, on a roster of n: in the short kind p, in the full kind everyone who runs
abbrev pub Notes : Kind → ℕ → List Event → ℕ → ℕ → Type 0
Notes Short n before p x = x ≡ p
Notes Full n before p x = (x < n) × (¬ (Stopped before x))

-- x heard q stop in these events: among them is a hearing of q that x noted
pub record Heard (k : Kind) (n : ℕ) (es : List Event) (x q : ℕ) : Type 0 where
  pub before : List Event
  pub event : Event
  pub later : List Event
  pub among : es ≡ before ++ (event ∷ later)
  pub hearer : ℕ
  pub hear : IsHear event hearer q
  pub notes : Notes k n before hearer x

-- what an event meets behind the events `before`, on a roster of n. A stop needs its place running; a hearing needs its
-- place running and the other one stopped; places off the roster come first
pub data Meets (n : ℕ) (before : List Event) (e : Event) : Result (Unit {0}) Refusal → Type 0 where
  stop_off : e.kind ≡ 1 → n ≤ e.place.0 → Meets n before e (Err R.OffRoster)
  stop_again : e.kind ≡ 1 → e.place.0 < n → Stopped before e.place.0 → Meets n before e (Err R.NotAllowed)
  stop_allowed : e.kind ≡ 1 → e.place.0 < n → ¬ (Stopped before e.place.0) → Meets n before e (Ok tt)
  hear_off : e.kind ≡ 2 → (n ≤ e.place.0) ⊎ (n ≤ e.other.0) → Meets n before e (Err R.OffRoster)
  hear_late : e.kind ≡ 2 → e.place.0 < n → e.other.0 < n → Stopped before e.place.0 → Meets n before e (Err R.NotAllowed)
  hear_early : e.kind ≡ 2 → e.place.0 < n → e.other.0 < n → ¬ (Stopped before e.other.0) → Meets n before e (Err R.NotAllowed)
  hear_allowed : e.kind ≡ 2 → e.place.0 < n → e.other.0 < n → ¬ (Stopped before e.place.0) → Stopped before e.other.0 → Meets n before e (Ok tt)
  no_event : ¬ (e.kind ≡ 1) → ¬ (e.kind ≡ 2) → Meets n before e (Err R.NotAllowed)

-- each of these events is allowed where it comes
abbrev pub AllAllowed : ℕ → List Event → Type 0
AllAllowed n es = (before : List Event) (e : Event) (later : List Event) → es ≡ before ++ (e ∷ later) → Meets n before e (Ok tt)

-- everyone on a roster of n has stopped
abbrev pub AllStopped : ℕ → List Event → Type 0
AllStopped n es = (p : ℕ) → p < n → Stopped es p
