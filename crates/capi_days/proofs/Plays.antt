-- A list of events on a day by value: one event after another gives what playing them gives. Assumes nothing.
use Rattle.refusals.specs.declared.Refusal.{Refusal}
use Rattle.refusals.specs.declared.Refusal.TheVariants as R
use Rattle.refusals.specs.Numbers.{number}
use Rattle.refusals.proofs.Numbers.{as_numbered}
use Rattle.std.specs.Prelude.{Result, Ok, Err}
use mathlib.Core.Path.{◌≡◌, refl, sym, ap, ◌∙◌}
use mathlib.Core.Bool.{Bool, true, false, cond}
use mathlib.Core.List.{List, [], ◌∷◌}
use Prim.Native.Nat.{ℕ, ◌+◌, ◌≤◌, ◌<◌}
use native.Mathlib.Numerals.{add-one}
use native.Mathlib.Omega.{arith}
use lib.ListN.{length, drop, get_or}
use lib.Seq.{drop-cons, drop-length}
use lib.Dec.{eqb, ltb}
use borrow.Author.Tests.{eq-eqb, ne_eqb, ltb-false}
use Rattle.executions.specs.declared.Day.{Day}
use Rattle.executions.specs.declared.Event.{Event}
use Rattle.executions.specs.declared.Happened.{Happened}
use Rattle.executions.specs.declared.Played.{Played}
use Rattle.executions.specs.Executions.{fault}
use Rattle.executions.specs.Promises.{size_of, execution_of, stopping, hearing, day_after, happened_as, happened, counted_as, counted, stepped_as, stepped, played_from, played}
use Rattle.executions.proofs.Plays.{counted_day}
use Rattle.boundary.specs.declared.DayNow.{DayNow}
use Rattle.boundary.specs.declared.EventNow.{EventNow}
use Rattle.boundary.specs.declared.PlayedNow.{PlayedNow}
use Rattle.boundary.specs.Words.{set_at}
use Rattle.boundary.specs.Days.{kind_in, stopped_in, day_in, event_of, with_stopped, day_of, day_now, event_in, events_in, play_code, played_as, played_now, stepped_now}
use Rattle.capi_days.proofs.Days.{same_head}

-- ---- a kind as a byte

-- an event of an unknown kind is refused by 14
unknown : (d : Day) (kind p q : ℕ) → (kind ≡ 1 → ⊥) → (kind ≡ 2 → ⊥) → happened d (event_of kind p q) ≡ record { answer = Err R.NotAllowed; day = d }
unfolding happened happened_as fault event_of
unknown d kind p q a b = rw (ne_eqb kind 1 a, ne_eqb kind 2 b)

byte_same : (d : Day) (kind p q : ℕ) → happened d (event_of (cond (ltb kind 256) kind 0) p q) ≡ happened d (event_of kind p q)
byte_same d kind p q = go (ltb kind 256) refl
  where
    go : (t : Bool) → ltb kind 256 ≡ t → happened d (event_of (cond t kind 0) p q) ≡ happened d (event_of kind p q)
    go true e = refl
    go false e =
        let l : 256 ≤ kind = ltb-false kind 256 e in
        unknown d 0 p q (λ z. omega arith) (λ z. omega arith) ∙ sym (unknown d kind p q (λ z. omega arith) (λ z. omega arith))

-- ---- what an event leaves as it was

record Same (d after : Day) : Type 0 where
  kind : after.kind ≡ d.kind
  count : after.count ≡ d.count
  serials : after.serials ≡ d.serials

same_here : (d : Day) → Same d d
same_here d = record { kind = refl; count = refl; serials = refl }

same_on : {a b c : Day} → Same a b → Same b c → Same a c
same_on s t = record { kind = t.kind ∙ s.kind; count = t.count ∙ s.count; serials = t.serials ∙ s.serials }

same_after : (d : Day) (e : Event) → Same d (day_after d e)
unfolding day_after stopping hearing
same_after d e = go (eqb e.kind 1)
  where
    go : (t : Bool) → Same d (cond t (stopping d e.place.0) (hearing d e.place.0 e.other.0))
    go true = record { kind = refl; count = refl; serials = refl }
    go false = record { kind = refl; count = refl; serials = refl }

same_happened : (d : Day) (e : Event) → Same d (happened d e).day
unfolding happened happened_as
same_happened d e = go (fault (size_of d) (execution_of d) e)
  where
    go : (a : Result (Unit {0}) Refusal) → Same d (happened_as d e a).day
    go (Ok u) = same_after d e
    go (Err j) = same_here d

same_stepped : (d : Day) (p : Played) (e : Event) → Same d p.day → Same d (stepped p e).day
unfolding stepped stepped_as
same_stepped d p e s = go p.answer
  where
    go : (a : Result (Unit {0}) ℕ) → Same d (stepped_as p e a).day
    go (Ok u) = rw (counted_day p.count (happened p.day e)) (same_on s (same_happened p.day e))
    go (Err k) = s

-- ---- a day in its struct

same_day : (d : DayNow) → length d.head ≡ 4 → d ≡ day_now d (day_of d)
unfolding day_now day_of day_in
same_day d l = λ i. record { head = same_head d.head l i; serials = d.serials; rows = d.rows }

-- what is in a struct is what was put there, where the kind, the count and the serials are its own
put_back : (d : DayNow) (x : Day) → Same (day_of d) x → day_of (day_now d x) ≡ x
unfolding day_of day_now day_in kind_in stopped_in set_at with_stopped
put_back d x s = λ i. record { kind = sym s.kind i; count = sym s.count i; serials = sym s.serials i; stopped = x.stopped; rows = x.rows }

-- ---- one event

module _ (p : PlayedNow) (e : EventNow) where
  pub step_refused : (p.refusal ≡ 0 → ⊥) → p ≡ stepped_now p e
  unfolding stepped_now
  step_refused r = rw (ne_eqb p.refusal 0 r)

  pub step_on : (d : Day) (k : ℕ) (q : Played) (after : DayNow) (c : ℕ) → p.refusal ≡ 0 → d ≡ day_of p.day → k ≡ cond (ltb e.kind 256) e.kind 0
      → q ≡ stepped (record { count = p.count; answer = Ok tt; day = d }) (event_of k e.place e.other) → after ≡ day_now p.day q.day → c ≡ play_code q.answer
      → record { count = q.count; refusal = c; day = after } ≡ stepped_now p e
  unfolding stepped_now stepped stepped_as played_as event_in
  step_on d k q after c r f g h i z =
      let is : q ≡ counted p.count (happened (day_of p.day) (event_of e.kind e.place e.other)) =
      h ∙ ap (λ (x : Happened). counted p.count x) (ap (λ (d : Day). happened d (event_of k e.place e.other)) f
      ∙ ap (λ (k : ℕ). happened (day_of p.day) (event_of k e.place e.other)) g ∙ byte_same (day_of p.day) e.kind e.place e.other) in
      rw (eq-eqb p.refusal 0 r, z) (ap (λ (a : DayNow). record { count = q.count; refusal = play_code q.answer; day = a }) i ∙ ap (played_as p.day) is)

-- ---- a list of events

unfoldable pub played_from_now : PlayedNow → List EventNow → PlayedNow
played_from_now p [] = p
played_from_now p (e ∷ es) = played_from_now (stepped_now p e) es

-- no play ends by a refusal of number 0
abbrev NotByZero : Played → Type 0
NotByZero q = q.answer ≡ Err 0 → ⊥

counted_not_by_zero : (n : ℕ) (h : Happened) → NotByZero (counted n h)
unfolding counted counted_as
counted_not_by_zero n h = go h.answer
  where
    go : (a : Result (Unit {0}) Refusal) → NotByZero (counted_as n h.day a)
    go (Ok u) z = cc
    go (Err j) z = let n : number j ≡ 0 = cc in omega (arith, as_numbered j)

stepped_not_by_zero : (q : Played) (e : Event) → NotByZero q → NotByZero (stepped q e)
unfolding stepped stepped_as
stepped_not_by_zero q e t = go q.answer
  where
    go : (a : Result (Unit {0}) ℕ) → NotByZero (stepped_as q e a)
    go (Ok u) = counted_not_by_zero q.count (happened q.day e)
    go (Err k) = t

-- a step on what was put into a struct
step_put : (d : DayNow) (q : Played) (e : EventNow) → Same (day_of d) q.day → NotByZero q → stepped_now (played_as d q) e ≡ played_as d (stepped q (event_in e))
unfolding stepped_now stepped stepped_as played_as play_code day_now with_stopped
step_put d q e s t = go q.answer t
  where
    go : (a : Result (Unit {0}) ℕ) → (a ≡ Err 0 → ⊥)
        → stepped_now (played_as d (record { count = q.count; answer = a; day = q.day })) e ≡ played_as d (stepped (record { count = q.count; answer = a; day = q.day }) (event_in e))
    go (Ok u) t = ap (λ (x : Day). played_as d (counted q.count (happened x (event_in e)))) (put_back d q.day s)
    go (Err k) t = rw (ne_eqb k 0 (λ z. t (ap (λ (k : ℕ). Err k) z)))

from_now : (es : List EventNow) (d : DayNow) (q : Played) → Same (day_of d) q.day → NotByZero q → played_from_now (played_as d q) es ≡ played_as d (played_from q (events_in es))
unfolding played_from_now played_from events_in
from_now [] d q s t = refl
from_now (e ∷ es) d q s t =
    ap (λ (p : PlayedNow). played_from_now p es) (step_put d q e s t)
    ∙ from_now es d (stepped q (event_in e)) (same_stepped (day_of d) q (event_in e) s) (stepped_not_by_zero q (event_in e) t)

-- before any event
abbrev pub start : DayNow → PlayedNow
start d = record { count = 0; refusal = 0; day = d }

pub played_is : (d : DayNow) (es : List EventNow) → length d.head ≡ 4 → played_now d es ≡ played_from_now (start d) es
unfolding played_now played played_as play_code
played_is d es l =
    sym (from_now es d (record { count = 0; answer = Ok tt; day = day_of d }) (same_here (day_of d)) (λ z. cc))
    ∙ ap (λ (a : DayNow). played_from_now (record { count = 0; refusal = 0; day = a }) es) (sym (same_day d l))

-- the event at i is next, or all are played
pub play_step : (es : List EventNow) (i : ℕ) (p : PlayedNow) (z : EventNow) → i < length es → played_from_now p (drop i es) ≡ played_from_now (stepped_now p (get_or es i z)) (drop (i + 1) es)
unfolding played_from_now
play_step es i p z h = rw (add-one, drop-cons es i z)

pub play_end : (es : List EventNow) (i : ℕ) (p : PlayedNow) → i ≤ length es → length es ≤ i → played_from_now p (drop i es) ≡ p
unfolding played_from_now
play_end es i p h k = let e : i ≡ length es = omega arith in rw (e, drop-length)
