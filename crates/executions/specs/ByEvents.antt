-- What a play of a list of events gives, and what is true of the records of a day that is over, said of what happened in its events alone. Assumes nothing.
use Rattle.refusals.specs.declared.Refusal.{Refusal}
use Rattle.refusals.specs.Numbers.{number}
use Rattle.std.specs.Prelude.{◌≡◌, true, Ok, Err, ◌⊎◌, ◌↔◌, List, [], ◌∷◌, ◌++◌, ℕ, length, take}
use Rattle.histories.specs.declared.Kind.{Kind}
use Rattle.calls.specs.declared.Recovery.{Recovery}
use Rattle.answers.specs.declared.Answer.TheVariants as A
use Rattle.calls.specs.Promises.{asked}
use Rattle.executions.specs.declared.Day.{Day}
use Rattle.executions.specs.declared.Event.{Event}
use Rattle.executions.specs.declared.Played.{Played}
use Rattle.executions.specs.Promises.{execution_of, played}
use Rattle.executions.specs.Events.{Stopped, Heard, Meets, AllAllowed}

-- ---- a list of events

-- the event behind those played is refused by j
pub record Refuses (n : ℕ) (front rest : List Event) (j : Refusal) : Type 0 where
  pub event : Event
  pub later : List Event
  pub first : rest ≡ event ∷ later
  pub meets : Meets n front event (Err j)

-- a play of a list of events gives what happened in it: those in front were played, each allowed where it came, and the others are none or their
-- first is refused; who has stopped, and whom each has heard, is what the events in front say
pub record AsPlayed (k : Kind) (n : ℕ) (es : List Event) (p : Played) : Type 0 where
  pub front : List Event
  pub rest : List Event
  pub splits : es ≡ front ++ rest
  pub counts : p.count ≡ length front
  pub allowed : AllAllowed n front
  pub ends : ((rest ≡ []) × (p.answer ≡ Ok tt)) ⊎ ((j : Refusal) × (p.answer ≡ Err (number j)) × Refuses n front rest j)
  pub stopped : (x : ℕ) → ((execution_of p.day).stopped x ≡ true) ↔ Stopped front x
  pub heard : (x q : ℕ) → ((execution_of p.day).row x q ≡ true) ↔ Heard k n front x q

-- the events of a list that were played
unfoldable pub played_of : Day → List Event → List Event
played_of d es = take (played d es).count es

-- ---- its records

-- what r answers is true of these events: last only where nobody heard it stop in them, not last only where somebody did
pub record TrueOf (k : Kind) (n : ℕ) (es : List Event) (r : Recovery) : Type 0 where
  pub last : (p : ℕ) → asked r p ≡ Ok A.Last → (x : ℕ) → ¬ (Heard k n es x p)
  pub not_last : (p : ℕ) → asked r p ≡ Ok A.NotLast → (x : ℕ) × Heard k n es x p
