-- A list of events, played: what holds of the day that is left, how many are counted, and which one is refused. Assumes nothing.
use Rattle.refusals.specs.declared.Refusal.{Refusal}
use Rattle.refusals.specs.Numbers.{number}
use Rattle.std.specs.Prelude.{Result, Ok, Err}
use mathlib.Core.Path.{◌≡◌, refl, sym, ap, ap₂, ◌∙◌, subst}
use mathlib.Core.Bool.{Bool, cond}
use mathlib.Core.Logic.{◌⊎◌, inl, inr}
use mathlib.Core.List.{List, [], ◌∷◌, ◌++◌, append-nil}
use Prim.Native.Nat.{ℕ, suc, ◌+◌, ◌-◌, ◌^◌, ◌<◌, ◌≤◌}
use native.Mathlib.Omega.{arith}
use lib.ListN.{length, take, drop, length-append}
use lib.Seq.{take_at, drop_at}
use borrow.Author.Tests.{lt-ltb}
use Rattle.histories.specs.declared.Kind.{Kind}
use Rattle.executions.specs.declared.Day.{Day}
use Rattle.executions.specs.declared.Event.{Event}
use Rattle.executions.specs.declared.Happened.{Happened}
use Rattle.executions.specs.declared.Played.{Played}
use Rattle.executions.specs.Executions.{Execution, fault, happening}
use Rattle.executions.specs.Promises.{size_of, execution_of, starting, day_after, happened_as, happened, one_more, counted_as, counted, stepped_as, stepped, played_from, played}
use Rattle.executions.proofs.Executed.{Orderly, orderly_morning, orderly_next}
use Rattle.executions.proofs.Days.{Sound, starting_execution, starting_sound, after_execution, after_sound}

-- ---- what holds of a day, whatever was played

pub record Kept (k : Kind) (roster : List ℕ) (d : Day) : Type 0 where
  pub sound : Sound k roster d
  pub orderly : Orderly k (length roster) (execution_of d)

pub kept_starting : (k : Kind) (s : List ℕ) → length s ≤ 128 → Kept k s (starting k s)
kept_starting k s few =
    record { sound = starting_sound k s few; orderly = subst (λ (D : Execution). Orderly k (length s) D) (sym (starting_execution k s)) (orderly_morning k (length s)) }

-- whether an event is allowed on a day, or the refusal that it meets
abbrev pub fault_on : Day → Event → Result (Unit {0}) Refusal
fault_on d e = fault (size_of d) (execution_of d) e

module _ (d : Day) (e : Event) where
  -- an event that is allowed
  pub happened_allowed : fault_on d e ≡ Ok tt → happened d e ≡ record { answer = Ok tt; day = day_after d e }
  unfolding happened happened_as
  happened_allowed f = ap (happened_as d e) f

  -- a refused one leaves the day as it was
  pub happened_refused : {j : Refusal} → fault_on d e ≡ Err j → happened d e ≡ record { answer = Err j; day = d }
  unfolding happened happened_as
  happened_refused f = ap (happened_as d e) f

  -- allowed or refused
  faulted : (fault_on d e ≡ Ok tt) ⊎ ((j : Refusal) × (fault_on d e ≡ Err j))
  faulted = go (fault_on d e)
    where
      go : (a : Result (Unit {0}) Refusal) → (a ≡ Ok tt) ⊎ ((j : Refusal) × (a ≡ Err j))
      go (Ok u) = inl refl
      go (Err j) = inr (j, refl)

module _ {k : Kind} {roster : List ℕ} {d : Day} (g : Kept k roster d) (e : Event) where
  -- on the day's roster
  pub fault_on_lem : fault (length roster) (execution_of d) e ≡ fault_on d e
  fault_on_lem = ap (λ (n : ℕ). fault n (execution_of d) e) (sym g.sound.is_size)

  pub after_is : fault_on d e ≡ Ok tt → execution_of (day_after d e) ≡ happening k (length roster) (execution_of d) e
  after_is f = after_execution g.sound e f ∙ ap₂ (λ (j : Kind) (n : ℕ). happening j n (execution_of d) e) g.sound.is_kind g.sound.is_size

  pub kept_after : fault_on d e ≡ Ok tt → Kept k roster (day_after d e)
  kept_after f = record {
    sound = after_sound g.sound e f;
    orderly = subst (λ (D : Execution). Orderly k (length roster) D) (sym (after_is f)) (orderly_next g.orderly e (fault_on_lem ∙ f));
  }

  pub kept_happened : Kept k roster (happened d e).day
  kept_happened = go (faulted d e)
    where
      go : (fault_on d e ≡ Ok tt) ⊎ ((j : Refusal) × (fault_on d e ≡ Err j)) → Kept k roster (happened d e).day
      go (inl f) = subst (λ (h : Happened). Kept k roster h.day) (sym (happened_allowed d e f)) (kept_after f)
      go (inr (j, f)) = subst (λ (h : Happened). Kept k roster h.day) (sym (happened_refused d e f)) g

pub counted_day : (n : ℕ) (h : Happened) → (counted n h).day ≡ h.day
unfolding counted counted_as
counted_day n h = go h.answer
  where
    go : (a : Result (Unit {0}) Refusal) → (counted_as n h.day a).day ≡ h.day
    go (Ok u) = refl
    go (Err j) = refl

kept_stepped : {k : Kind} {roster : List ℕ} (p : Played) → Kept k roster p.day → (e : Event) → Kept k roster (stepped p e).day
unfolding stepped stepped_as
kept_stepped {k} {roster} p g e = go p.answer
  where
    go : (a : Result (Unit {0}) ℕ) → Kept k roster (stepped_as p e a).day
    go (Ok u) = subst (Kept k roster) (sym (counted_day p.count (happened p.day e))) (kept_happened g e)
    go (Err j) = g

kept_from : {k : Kind} {roster : List ℕ} (p : Played) → Kept k roster p.day → (es : List Event) → Kept k roster (played_from p es).day
unfolding played_from
kept_from p g [] = g
kept_from p g (e ∷ es) = kept_from (stepped p e) (kept_stepped p g e) es

-- every list of events, and so every front of one, leaves such a day
pub played_kept : {k : Kind} {roster : List ℕ} {d : Day} → Kept k roster d → (es : List Event) → Kept k roster (played d es).day
unfolding played
played_kept {d = d} g es = kept_from (record { count = 0; answer = Ok tt; day = d }) g es

-- ---- events one after another, each allowed

pub data Plays : Day → List Event → Day → Type 0 where
  done : {d : Day} → Plays d [] d
  next : {a b : Day} {e : Event} {es : List Event} → fault_on a e ≡ Ok tt → Plays (day_after a e) es b → Plays a (e ∷ es) b

-- what is refused: the first of the events that are left, by the refusal whose number is answered
pub record Refuses (p : Played) (rest : List Event) : Type 0 where
  pub event : Event
  pub later : List Event
  pub first : rest ≡ event ∷ later
  pub refusal : Refusal
  pub refused : fault_on p.day event ≡ Err refusal
  pub some : p.answer ≡ Err (number refusal)

-- how a play ends that starts with c events counted: those in front are played, and the others are none, or their first is refused
pub record Ends (c : ℕ) (d : Day) (es : List Event) (p : Played) : Type 0 where
  pub front : List Event
  pub rest : List Event
  pub splits : es ≡ front ++ rest
  pub plays : Plays d front p.day
  pub counts : p.count ≡ c + length front
  pub ends : ((rest ≡ []) × (p.answer ≡ Ok tt)) ⊎ Refuses p rest

-- a play so far, with no refusal
abbrev sofar : ℕ → Day → Played
sofar c d = record { count = c; answer = Ok tt; day = d }

one_more_lem : (m c l : ℕ) → c + suc l < m → c < m - 1
one_more_lem m c l h = omega arith

module _ (c : ℕ) (d : Day) (e : Event) where
  step_allowed : (l : ℕ) → c + suc l < 2 ^ 64 → fault_on d e ≡ Ok tt → stepped (sofar c d) e ≡ sofar (c + 1) (day_after d e)
  unfolding stepped stepped_as counted counted_as one_more
  step_allowed l h f =
      ap (counted c) (happened_allowed d e f)
      ∙ ap (λ (b : Bool). sofar (cond b (c + 1) c) (day_after d e)) (lt-ltb c (2 ^ 64 - 1) (one_more_lem (2 ^ 64) c l h))

  step_refused : {j : Refusal} → fault_on d e ≡ Err j → stepped (sofar c d) e ≡ record { count = c; answer = Err (number j); day = d }
  unfolding stepped stepped_as counted counted_as
  step_refused f = ap (counted c) (happened_refused d e f)

-- after a refusal nothing changes
from_refused : (p : Played) {k : ℕ} → p.answer ≡ Err k → (es : List Event) → played_from p es ≡ p
unfolding played_from stepped stepped_as
from_refused p r [] = refl
from_refused p r (e ∷ es) = ap (λ (a : Result (Unit {0}) ℕ). played_from (stepped_as p e a) es) r ∙ from_refused p r es

from_ends : (c : ℕ) (d : Day) (es : List Event) → c + length es < 2 ^ 64 → Ends c d es (played_from (sofar c d) es)
unfolding played_from
from_ends c d [] h = record { front = []; rest = []; splits = refl; plays = done; counts = omega arith; ends = inl (refl, refl) }
from_ends c d (e ∷ es) h = go (faulted d e) (λ l. from_ends (c + 1) (day_after d e) es l)
  where
    more : fault_on d e ≡ Ok tt → Ends (c + 1) (day_after d e) es (played_from (sofar (c + 1) (day_after d e)) es) → Ends c d (e ∷ es) (played_from (sofar (c + 1) (day_after d e)) es)
    more f w = record {
      front = e ∷ w.front;
      rest = w.rest;
      splits = ap (λ (l : List Event). e ∷ l) w.splits;
      plays = next f w.plays;
      counts = w.counts ∙ omega arith;
      ends = w.ends;
    }

    halts : (j : Refusal) → fault_on d e ≡ Err j → Ends c d (e ∷ es) (record { count = c; answer = Err (number j); day = d })
    halts j f = record {
      front = [];
      rest = e ∷ es;
      splits = refl;
      plays = done;
      counts = omega arith;
      ends = inr (record { event = e; later = es; first = refl; refusal = j; refused = f; some = refl });
    }

    go : (fault_on d e ≡ Ok tt) ⊎ ((j : Refusal) × (fault_on d e ≡ Err j)) → (c + 1 + length es < 2 ^ 64 → Ends (c + 1) (day_after d e) es (played_from (sofar (c + 1) (day_after d e)) es))
        → Ends c d (e ∷ es) (played_from (stepped (sofar c d) e) es)
    go (inl f) rest = rw (step_allowed c d e (length es) h f) (more f (rest (omega arith)))
    go (inr (j, f)) rest = rw (step_refused c d e f, from_refused (record { count = c; answer = Err (number j); day = d }) refl es) (halts j f)

-- ---- the play of a list

pub played_ends : (d : Day) (es : List Event) → length es < 2 ^ 64 → Ends 0 d es (played d es)
unfolding played
played_ends d es h = from_ends 0 d es (omega arith)

plays_from : (c : ℕ) {a b : Day} {es : List Event} → Plays a es b → c + length es < 2 ^ 64 → played_from (sofar c a) es ≡ sofar (c + length es) b
unfolding played_from
plays_from c (done {d = d}) h =
    let z : c ≡ c + 0 = omega arith in
    ap (λ (n : ℕ). sofar n d) z
plays_from c (next {a = a} {b = b} {e = e} {es = es} f p) h =
    let z : c + 1 + length es ≡ c + suc (length es) = omega arith in
    ap (λ (p : Played). played_from p es) (step_allowed c a e (length es) h f) ∙ plays_from (c + 1) p (omega arith) ∙ ap (λ (n : ℕ). sofar n b) z

-- events that are all allowed are all played
pub plays_played : {a b : Day} {es : List Event} → Plays a es b → length es < 2 ^ 64 → played a es ≡ record { count = length es; answer = Ok tt; day = b }
unfolding played
plays_played {b = b} {es = es} p h =
    let z : 0 + length es ≡ length es = omega arith in
    plays_from 0 p (omega arith) ∙ ap (λ (n : ℕ). sofar n b) z

module _ (d : Day) (es : List Event) (h : length es < 2 ^ 64) where
  w : Ends 0 d es (played d es)
  w = played_ends d es h

  -- without a refusal all are counted
  pub counted_all : (played d es).answer ≡ Ok tt → (played d es).count ≡ length es
  counted_all z = go w.ends
    where
      go : ((w.rest ≡ []) × ((played d es).answer ≡ Ok tt)) ⊎ Refuses (played d es) w.rest → (played d es).count ≡ length es
      go (inl (n, _)) =
          let s : es ≡ w.front = w.splits ∙ ap (λ (l : List Event). w.front ++ l) n ∙ append-nil w.front in
          w.counts ∙ omega (arith, ap length s)
      go (inr r) = let w = r.some in cc

  pub count_within : (played d es).count ≤ length es
  count_within = omega (arith, w.counts, ap length w.splits, length-append w.front w.rest)

  front_is : take (played d es).count es ≡ w.front
  front_is =
      let n : length w.front ≡ (played d es).count = omega (arith, w.counts) in
      ap (take (played d es).count) w.splits ∙ take_at w.front w.rest (played d es).count n

  rest_is : drop (played d es).count es ≡ w.rest
  rest_is =
      let n : length w.front ≡ (played d es).count = omega (arith, w.counts) in
      ap (drop (played d es).count) w.splits ∙ drop_at w.front w.rest (played d es).count n

  -- each of those counted is allowed where it comes, and the day is the one after them
  pub counted_plays : Plays d (take (played d es).count es) (played d es).day
  counted_plays = subst (λ (l : List Event). Plays d l (played d es).day) (sym front_is) w.plays

  pub counted_played : played d (take (played d es).count es) ≡ record { count = (played d es).count; answer = Ok tt; day = (played d es).day }
  counted_played =
      let n : length (take (played d es).count es) ≡ (played d es).count = ap length front_is ∙ omega (arith, w.counts) in
      plays_played counted_plays (omega (arith, count_within)) ∙ ap (λ (c : ℕ). sofar c (played d es).day) n

  -- the day after those counted is the day that is left
  pub counted_day_is : (played d (take (played d es).count es)).day ≡ (played d es).day
  counted_day_is = ap (λ (p : Played). p.day) counted_played

  -- with a refusal, the event behind those counted is refused by it on the day that is left
  pub refused_next : {k : ℕ} → (played d es).answer ≡ Err k → Refuses (played d es) (drop (played d es).count es)
  refused_next z = subst (Refuses (played d es)) (sym rest_is) (go w.ends)
    where
      go : ((w.rest ≡ []) × ((played d es).answer ≡ Ok tt)) ⊎ Refuses (played d es) w.rest → Refuses (played d es) w.rest
      go (inl (_, e)) = cc
      go (inr r) = r
