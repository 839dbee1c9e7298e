-- The refusal that an event meets, one law for each way in which the code returns it. Assumes nothing.
use Rattle.refusals.specs.declared.Refusal.TheVariants as R
use Rattle.std.specs.Prelude.{Ok, Err}
use mathlib.Core.Path.{◌≡◌}
use mathlib.Core.Bool.{true, false}
use Prim.Native.Nat.{ℕ, ◌<◌, ◌≤◌}
use native.Mathlib.Omega.{arith}
use borrow.Author.Tests.{lt-ltb, le-ltb, eq-eqb, ne_eqb}
use Rattle.sets.specs.Sets.{Places}
use Rattle.sets.specs.PlaceSets.{has}
use Rattle.answers.specs.Views.{size}
use Rattle.executions.specs.declared.Day.{Day}
use Rattle.executions.specs.declared.Event.{Event}
use Rattle.executions.specs.Executions.{stop_fault, hear_fault, fault}
use Rattle.executions.specs.Parts.{stops_of}
use Rattle.executions.specs.Promises.{size_of, execution_of}

module _ (n : ℕ) (S : Places) where
  -- ---- a stop

  pub stop_off : (p : ℕ) → n ≤ p → Err R.OffRoster ≡ stop_fault n (stops_of n S) p
  unfolding stop_fault
  stop_off p h = rw (le-ltb p n h)

  pub stop_stopped : (p : ℕ) → p < n → S p ≡ true → Err R.NotAllowed ≡ stop_fault n (stops_of n S) p
  unfolding stop_fault stops_of
  stop_stopped p h e = rw (lt-ltb p n h, e)

  pub stop_free : (p : ℕ) → p < n → S p ≡ false → Ok tt ≡ stop_fault n (stops_of n S) p
  unfolding stop_fault stops_of
  stop_free p h e = rw (lt-ltb p n h, e)

  -- ---- a hearing

  pub hear_off : (p q : ℕ) → n ≤ p → Err R.OffRoster ≡ hear_fault n (stops_of n S) p q
  unfolding hear_fault
  hear_off p q h = rw (le-ltb p n h)

  pub hear_other_off : (p q : ℕ) → p < n → n ≤ q → Err R.OffRoster ≡ hear_fault n (stops_of n S) p q
  unfolding hear_fault
  hear_other_off p q h k = rw (lt-ltb p n h, le-ltb q n k)

  pub hear_stopped : (p q : ℕ) → p < n → q < n → S p ≡ true → Err R.NotAllowed ≡ hear_fault n (stops_of n S) p q
  unfolding hear_fault stops_of
  hear_stopped p q h k e = rw (lt-ltb p n h, lt-ltb q n k, e)

  pub hear_runs : (p q : ℕ) → p < n → q < n → S p ≡ false → S q ≡ false → Err R.NotAllowed ≡ hear_fault n (stops_of n S) p q
  unfolding hear_fault stops_of
  hear_runs p q h k e f = rw (lt-ltb p n h, lt-ltb q n k, e, f)

  pub hear_free : (p q : ℕ) → p < n → q < n → S p ≡ false → S q ≡ true → Ok tt ≡ hear_fault n (stops_of n S) p q
  unfolding hear_fault stops_of
  hear_free p q h k e f = rw (lt-ltb p n h, lt-ltb q n k, e, f)

  -- ---- any event

  pub fault_stop : (e : Event) → e.kind ≡ 1 → stop_fault n (stops_of n S) e.place.0 ≡ fault n (stops_of n S) e
  unfolding fault
  fault_stop e h = rw (eq-eqb e.kind 1 h)

  pub fault_hear : (e : Event) → e.kind ≡ 2 → hear_fault n (stops_of n S) e.place.0 e.other.0 ≡ fault n (stops_of n S) e
  unfolding fault
  fault_hear e h = rw (ne_eqb e.kind 1 (λ o. omega arith), eq-eqb e.kind 2 h)

  pub fault_unknown : (e : Event) → (e.kind ≡ 1 → ⊥) → (e.kind ≡ 2 → ⊥) → Err R.NotAllowed ≡ fault n (stops_of n S) e
  unfolding fault
  fault_unknown e a b = rw (ne_eqb e.kind 1 a, ne_eqb e.kind 2 b)

-- a day's rows are not looked at
pub fault_of_lem : (d : Day) (e : Event) (n : ℕ) → n ≡ size d.count → fault n (stops_of n (has d.stopped)) e ≡ fault (size_of d) (execution_of d) e
unfolding fault stop_fault hear_fault stops_of execution_of size_of
fault_of_lem d e n h = rw h
