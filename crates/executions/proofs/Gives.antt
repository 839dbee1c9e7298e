-- What each call gives, one law for each way in which the code returns. Assumes nothing.
use Rattle.refusals.specs.declared.Refusal.{Refusal}
use Rattle.refusals.specs.declared.Refusal.TheVariants as R
use Rattle.refusals.specs.Numbers.{number}
use Rattle.std.specs.Prelude.{true, false, Result, Ok, Err, is_err}
use mathlib.Core.Path.{◌≡◌, refl, sym, ap, ◌∙◌}
use mathlib.Core.List.{List, []}
use Prim.Native.Nat.{ℕ, ◌+◌, ◌≤◌, ◌<◌}
use native.Mathlib.Numerals.{add-one}
use native.Mathlib.Omega.{arith}
use borrow.Author.Tests.{ne_eqb}
use lib.ListN.{length, drop, get_or}
use lib.Seq.{drop-cons, drop-length}
use Rattle.sets.specs.Sets.{Places, nothing, with}
use Rattle.sets.specs.PlaceSets.{has, kept, Words}
use Rattle.sets.specs.declared.PlaceSet.{PlaceSet}
use Rattle.sets.proofs.Laws.{packed_is}
use Rattle.histories.specs.declared.Kind.{Kind}
use Rattle.histories.specs.declared.Kind.TheVariants.{Full, Short}
use Rattle.serials.specs.Rosters.{listed, padded}
use Rattle.serials.proofs.Pads.{padded_few}
use Rattle.rows.specs.Rows.{no_rows, rows_of, table_of}
use Rattle.layouts.specs.Layout.{known_kind, kind_of}
use Rattle.answers.specs.Views.{size}
use Rattle.executions.specs.declared.Day.{Day}
use Rattle.executions.specs.declared.Event.{Event}
use Rattle.executions.specs.declared.Happened.{Happened}
use Rattle.executions.specs.declared.Played.{Played}
use Rattle.executions.specs.Executions.{fault, listeners, noting}
use Rattle.executions.specs.Parts.{stops_of}
use Rattle.executions.specs.Promises.{size_of, execution_of, starting, unbegun, begun_as, begun, stopping, hearing, day_after, happened_as, happened, one_more, counted_as, counted, stepped_as, stepped, played_from, played}

-- ---- opening

pub starting_is : (k : Kind) (s serials : List ℕ) (e : PlaceSet) (w : List ℕ) → length s ≤ 128 → serials ≡ padded s → Words e → has e ≡ nothing → w ≡ no_rows
    → record { kind = k; count = length s; serials = serials; stopped = e; rows = w } ≡ starting k s
unfolding starting
starting_is k s serials e w l p we he q =
    λ i. record { kind = k; count = length s; serials = (p ∙ padded_few s l) i; stopped = packed_is e nothing we he i; rows = q i }

pub unbegun_is : (j : Refusal) (d : Day) → d ≡ starting Full [] → record { answer = Err j; day = d } ≡ unbegun j
unfolding unbegun
unbegun_is j d e = rw e

pub begun_sound : (k : Kind) (s : List ℕ) (l : Result (Unit {0}) Refusal) (d : Day) → l ≡ listed s → l ≡ Ok tt → d ≡ starting k s → record { answer = Ok tt; day = d } ≡ begun_as k s (listed s)
unfolding begun_as
begun_sound k s l d e f g = rw (sym e ∙ f, g)

pub begun_refused : (k : Kind) (s : List ℕ) (l : Result (Unit {0}) Refusal) (j : Refusal) → l ≡ listed s → l ≡ Err j → unbegun j ≡ begun_as k s (listed s)
unfolding begun_as
begun_refused k s l j e f = rw (sym e ∙ f)

pub begun_full : (kind : ℕ) (s : List ℕ) → kind ≡ 1 → begun_as Full s (listed s) ≡ begun kind s
unfolding begun known_kind kind_of
begun_full kind s e = rw e

pub begun_short : (kind : ℕ) (s : List ℕ) → kind ≡ 2 → begun_as Short s (listed s) ≡ begun kind s
unfolding begun known_kind kind_of
begun_short kind s e = rw e

pub begun_unknown : (kind : ℕ) (s : List ℕ) → (kind ≡ 1 → ⊥) → (kind ≡ 2 → ⊥) → unbegun R.UnknownKind ≡ begun kind s
unfolding begun known_kind
begun_unknown kind s a b = rw (ne_eqb kind 1 a, ne_eqb kind 2 b)

-- ---- one event

pub stopping_is : (d : Day) (p : ℕ) (s : PlaceSet) → Words s → has s ≡ kept (with p (has d.stopped))
    → record { kind = d.kind; count = d.count; serials = d.serials; stopped = s; rows = d.rows } ≡ stopping d p
unfolding stopping
stopping_is d p s w e = λ i. record { kind = d.kind; count = d.count; serials = d.serials; stopped = packed_is s (with p (has d.stopped)) w e i; rows = d.rows }

-- who listens depends on no row
listeners_of : (d : Day) (p : ℕ) → listeners d.kind (size_of d) (stops_of (size_of d) (has d.stopped)) p ≡ listeners d.kind (size_of d) (execution_of d) p
unfolding listeners stops_of execution_of
listeners_of d p = go d.kind
  where
    go : (k : Kind) → listeners k (size_of d) (stops_of (size_of d) (has d.stopped)) p ≡ listeners k (size_of d) (execution_of d) p
    go Full = refl
    go Short = refl

pub hearing_is : (d : Day) (p q n : ℕ) (w : List ℕ) → n ≡ size d.count → w ≡ table_of (noting (listeners d.kind n (stops_of n (has d.stopped)) p) q (rows_of d.rows))
    → record { kind = d.kind; count = d.count; serials = d.serials; stopped = d.stopped; rows = w } ≡ hearing d p q
unfolding hearing size_of
hearing_is d p q n w h e =
    let t : w ≡ table_of (noting (listeners d.kind (size_of d) (execution_of d) p) q (rows_of d.rows)) = e
    ∙ ap (λ (m : ℕ). table_of (noting (listeners d.kind m (stops_of m (has d.stopped)) p) q (rows_of d.rows))) h
    ∙ ap (λ (who : Places). table_of (noting who q (rows_of d.rows))) (listeners_of d p) in
    λ i. record { kind = d.kind; count = d.count; serials = d.serials; stopped = d.stopped; rows = t i }

pub happened_refused : (d : Day) (e : Event) (r : Result (Unit {0}) Refusal) (j : Refusal) → r ≡ fault (size_of d) (execution_of d) e → r ≡ Err j → record { answer = Err j; day = d } ≡ happened d e
unfolding happened happened_as
happened_refused d e r j f h = ap (happened_as d e) (sym h ∙ f)

pub happened_allowed : (d : Day) (e : Event) (r : Result (Unit {0}) Refusal) (n : Day) → r ≡ fault (size_of d) (execution_of d) e → r ≡ Ok tt → n ≡ day_after d e → record { answer = Ok tt; day = n } ≡ happened d e
unfolding happened happened_as
happened_allowed d e r n f h g = rw g (ap (happened_as d e) (sym h ∙ f))

-- ---- a list of events

pub counted_refused : (n : ℕ) (h : Happened) (j : Refusal) (k : ℕ) → h.answer ≡ Err j → k ≡ number j → record { count = n; answer = Err k; day = h.day } ≡ counted n h
unfolding counted counted_as
counted_refused n h j k r e = rw (r, e)

pub counted_allowed : (n : ℕ) (h : Happened) (m : ℕ) → h.answer ≡ Ok tt → m ≡ one_more n → record { count = m; answer = Ok tt; day = h.day } ≡ counted n h
unfolding counted counted_as
counted_allowed n h m r e = rw (r, e)

pub stepped_refused : (p : Played) (e : Event) → is_err p.answer ≡ true → p ≡ stepped p e
unfolding stepped stepped_as
stepped_refused p e r = go p.answer r
  where
    go : (a : Result (Unit {0}) ℕ) → is_err a ≡ true → p ≡ stepped_as p e a
    go (Ok u) z = cc
    go (Err k) z = refl

pub stepped_on : (p : Played) (e : Event) (h : Happened) (s : Played) → is_err p.answer ≡ false → h ≡ happened p.day e → s ≡ counted p.count h → s ≡ stepped p e
unfolding stepped stepped_as
stepped_on p e h s r a b = go p.answer r
  where
    go : (a : Result (Unit {0}) ℕ) → is_err a ≡ false → s ≡ stepped_as p e a
    go (Ok u) z = b ∙ ap (counted p.count) a
    go (Err k) z = cc

-- before any event
abbrev pub start : Day → Played
start d = record { count = 0; answer = Ok tt; day = d }

pub played_is : (d : Day) (es : List Event) → played d es ≡ played_from (start d) es
unfolding played
played_is d es = refl

-- the event at i is next, or all are played
pub play_step : (es : List Event) (i : ℕ) (p : Played) (z : Event) → i < length es → played_from p (drop i es) ≡ played_from (stepped p (get_or es i z)) (drop (i + 1) es)
unfolding played_from
play_step es i p z h = rw (add-one, drop-cons es i z)

pub play_end : (es : List Event) (i : ℕ) (p : Played) → i ≤ length es → length es ≤ i → played_from p (drop i es) ≡ p
unfolding played_from
play_end es i p h k = let e : i ≡ length es = omega arith in rw (e, drop-length)
