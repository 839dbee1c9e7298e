-- A day's records, offered in any order, are taken or repeated, and what is answered then is true of the day. Assumes nothing.
use Rattle.refusals.specs.declared.Refusal.{Refusal}
use Rattle.refusals.specs.declared.Refusal.TheVariants as R
use Rattle.answers.specs.declared.Answer as declared
use Rattle.std.specs.Prelude.{Result, Ok, Err}
use mathlib.Core.Path.{◌≡◌, refl, sym, ap, ◌∙◌, subst}
use mathlib.Core.Bool.{Bool, true, false, cond}
use mathlib.Core.Logic.{◌⊎◌, inl, inr, ◌↔◌}
use mathlib.Core.List.Memᴰ
use mathlib.Core.List.{List, [], ◌∷◌, ◌++◌, map, Memᴰ}
use Prim.Native.Nat.{ℕ, zero, suc, ◌+◌, ◌^◌, ◌<◌, ◌≤◌}
use native.Mathlib.Omega.{arith}
use lib.ListN.{length, get_or, length-append}
use lib.Dec.{eqb}
use borrow.Author.Tests.{lt-ltb, le-leb, eqb-true}
use Rattle.sets.specs.Sets.{any}
use Rattle.sets.proofs.Booleans.{split, clash, is_false, or_cases, or_left, or_right, eqb_self}
use Rattle.sets.proofs.Tests.{last_or_below, any_elim, any_none}
use Rattle.histories.specs.declared.Kind.{Kind}
use Rattle.histories.specs.Histories.{History, none, Fits, Last}
use Rattle.histories.specs.Earlier.{IsHistory}
use Rattle.histories.proofs.Closure.{before_closed}
use Rattle.serials.specs.Rosters.{IsRoster, listed}
use Rattle.serials.proofs.Rosters.{listed_sound}
use Rattle.serials.specs.Seconds.{counts_as}
use Rattle.layouts.specs.Layout.{known_kind, kind_of, layout}
use Rattle.layouts.specs.Records.{put_at, written_at}
use Rattle.layouts.proofs.Layouts.{IsStored}
use Rattle.layouts.proofs.Trips.{layout_lone}
use Rattle.calls.specs.declared.Recovery.{Recovery}
use Rattle.calls.specs.declared.Opened.{Opened}
use Rattle.calls.specs.Promises.{seconds_of, accepted_of, unopened, opened_as, opened}
use Rattle.calls.specs.Demand.{ask, says, OfGroup}
use Rattle.calls.specs.Run.{opening_says, asked_says, outcome, left, reached}
use Rattle.calls.proofs.Opens.{opens, opened_free}
use Rattle.calls.proofs.Keeps.{fresh_accepted}
use Rattle.calls.specs.Later.{offers, Accepts}
use Rattle.calls.proofs.Demand.{Good, good_opened, good_after, step}
use Rattle.calls.proofs.Dictated.{last_iff, not_last_iff, Agrees}
use Rattle.calls.proofs.Later.{Model, agreeing_accepted}
use Rattle.executions.specs.declared.Day.{Day}
use Rattle.executions.specs.declared.Event.{Event}
use Rattle.executions.specs.declared.Played.{Played}
use Rattle.executions.specs.declared.Begun.{Begun}
use Rattle.executions.specs.Executions.{Execution}
use Rattle.executions.specs.Promises.{size_of, execution_of, starting, unbegun, begun_as, begun, day_after, played, record_of, written_of}
use Rattle.executions.specs.Finished.{Known, Free, Opens, unknown, otherwise, record_bytes, Over, records_of, True}
use Rattle.executions.proofs.Executed.{stops, allowed_free, after_stop, happening_stop, orderly_history}
use Rattle.executions.proofs.Days.{after_execution}
use Rattle.executions.proofs.Plays.{Kept, kept_starting, kept_after, fault_on, played_kept, Plays, done, next, plays_played}

-- ---- opening

known_intro : (kind : ℕ) → Known kind → known_kind kind ≡ true
unfolding known_kind
known_intro kind (inl e) = rw e
known_intro kind (inr e) = rw e

known_elim : (kind : ℕ) → known_kind kind ≡ true → Known kind
unfolding known_kind
known_elim kind e = go (or_cases (eqb kind 1) (eqb kind 2) e)
  where
    go : (eqb kind 1 ≡ true) ⊎ (eqb kind 2 ≡ true) → Known kind
    go (inl h) = inl (eqb-true kind 1 h)
    go (inr h) = inr (eqb-true kind 2 h)

pub begun_as_lem : (kind : ℕ) (s : List ℕ) → Free kind s → begun kind s ≡ record { answer = Ok tt; day = starting (kind_of kind) s }
unfolding begun begun_as
begun_as_lem kind s f = rw (known_intro kind f.known, (listed_sound s).1 f.list.sound)

pub begun_free : (kind : ℕ) (s : List ℕ) → Free kind s → (begun kind s).answer ≡ Ok tt
begun_free kind s f = ap (λ (b : Begun). b.answer) (begun_as_lem kind s f)

module _ (kind : ℕ) (s : List ℕ) where
  -- a kind byte that is not known is refused, whatever the list
  pub begun_unknown : ¬ (Known kind) → (begun kind s).answer ≡ Err R.UnknownKind
  unfolding begun unbegun
  begun_unknown z = ap (λ (b : Bool). (cond b (begun_as (kind_of kind) s (listed s)) (unbegun R.UnknownKind)).answer) (is_false (known_kind kind) (λ e. z (known_elim kind e)))

  module _ (k : Known kind) where
    -- otherwise a day and a recovery are opened alike
    pub begun_alike : (begun kind s).answer ≡ (opened s).answer
    unfolding begun begun_as unbegun opened opened_as unopened
    begun_alike = ap (λ (b : Bool). (cond b (begun_as (kind_of kind) s (listed s)) (unbegun R.UnknownKind)).answer) (known_intro kind k) ∙ go (listed s)
      where
        go : (l : Result (Unit {0}) Refusal) → (begun_as (kind_of kind) s l).answer ≡ (opened_as s l).answer
        go (Ok u) = refl
        go (Err j) = refl

    -- and refused alike, so by the same faults in the same order
    pub begins : (j : Refusal) → ((begun kind s).answer ≡ Err j) ↔ ((opened s).answer ≡ Err j)
    begins j = (λ e. sym begun_alike ∙ e, λ e. begun_alike ∙ e)

    pub begins_opened : ((begun kind s).answer ≡ Ok tt) ↔ ((opened s).answer ≡ Ok tt)
    begins_opened = (λ e. sym begun_alike ∙ e, λ e. begun_alike ∙ e)

  pub begins_as : Opens kind s (opening_says (begun kind s).answer)
  unfolding opening_says
  begins_as = go (split (known_kind kind))
    where
      go : (known_kind kind ≡ true) ⊎ (known_kind kind ≡ false) → Opens kind s (opening_says (begun kind s).answer)
      go (inl e) = rw (begun_alike (known_elim kind e)) (otherwise (known_elim kind e) (opens s))
      go (inr e) = let z : ¬ (Known kind) = λ k. clash (known_intro kind k) e in rw (begun_unknown z) (unknown z)

pub begun_kept : (kind : ℕ) (s : List ℕ) → Free kind s → Kept (kind_of kind) s (begun kind s).day
begun_kept kind s f = subst (λ (b : Begun). Kept (kind_of kind) s b.day) (sym (begun_as_lem kind s f)) (kept_starting (kind_of kind) s f.list.sound.few)

-- ---- a day that was opened and played, and a recovery of its group

module _ {k : Kind} {s : List ℕ} {d : Day} (sound : IsRoster s) (below : (p : ℕ) → p < length s → get_or s p 0 < 2 ^ 32) (g : Kept k s d) where
  abbrev rows : History
  rows = (execution_of d).row

  pub is_history : IsHistory k (length s) rows
  is_history = orderly_history g.orderly

  -- the record of a place is one that bytes can hold
  pub record_stored : (p : ℕ) → p < length s → IsStored (record_of d p)
  unfolding record_of
  record_stored p l = record {
    roster = rw g.sound.is_roster sound;
    below = rw g.sound.is_roster below;
    own = rw g.sound.is_roster l;
    mourned = rw g.sound.is_roster (λ q e. (is_history.history.inside p q e).1);
  }

  -- and is read back from its bytes as one of the group, whatever second serials it has
  record_group : (seconds : List ℕ) (p : ℕ) → p < length s → OfGroup s seconds (record_bytes d p) (record_of d p)
  unfolding record_bytes record_of
  record_group seconds p l = record { rest = []; reads = layout_lone (counts_as s seconds) (record_of d p) (record_stored p l); same_roster = g.sound.is_roster }

  -- somebody heard one that is not last
  heard_of : (i : ℕ) → ¬ (Last rows i) → (x : ℕ) × (rows x i ≡ true)
  heard_of i z = go (any (length s) (λ x. rows x i)) refl
    where
      go : (t : Bool) → any (length s) (λ x. rows x i) ≡ t → (x : ℕ) × (rows x i ≡ true)
      go true e = let w = any_elim (length s) (λ x. rows x i) e in (w.0, w.2)
      go false e = absurd (z (λ p. is_false (rows p i) (λ t. clash t (any_none (length s) (λ x. rows x i) e p (is_history.history.inside p i t).0))))

  answers_true : {r : Recovery} → Good s r → Fits (length s) (accepted_of r) rows → True d r
  unfolding outcome asked_says
  answers_true good f = record {
    last = λ p e. ((last_iff good.fits (step good (ask p))).0 (ap (λ (a : Result declared.Answer Refusal). says (asked_says a)) e)).1 rows f;
    not_last = λ p e. heard_of p (((not_last_iff good.fits (step good (ask p))).0 (ap (λ (a : Result declared.Answer Refusal). says (asked_says a)) e)).1 rows f);
  }

  -- each record agrees with the day
  records_agree : (seconds : List ℕ) (ps : List ℕ) → ((p : ℕ) → Memᴰ p ps → p < length s) → (x : List ℕ) → Memᴰ x (records_of d ps) → Agrees s seconds rows (λ p. k) x
  unfolding records_of record_of
  records_agree seconds [] on x m = absurd (Memᴰ.not-nil m)
  records_agree seconds (p ∷ ps) on x m = go (records_agree seconds ps (λ q n. on q (Memᴰ.tail n)) x) (Memᴰ.cases_cons m)
    where
      go : (Memᴰ x (map (record_bytes d) ps) → Agrees s seconds rows (λ p. k) x) → (x ≡ record_bytes d p) ⊎ Memᴰ x (map (record_bytes d) ps) → Agrees s seconds rows (λ p. k) x
      go rest (inl e) = subst (Agrees s seconds rows (λ p. k)) (sym e) (record {
        stored = record_of d p;
        is_of_group = record_group seconds p (on p (Memᴰ.head refl));
        kind = g.sound.is_kind;
        row = refl;
        duty = λ e q w. before_closed (is_history.closed (sym g.sound.is_kind ∙ e)) w;
      })
      go rest (inr n) = rest n

  -- the records of any places, in any order
  all_accepted : (ps : List ℕ) → ((p : ℕ) → Memᴰ p ps → p < length s) → (r : Recovery) → Good s r → Model s rows (λ p. k) r
      → Accepts r (records_of d ps) × True d (left r (offers (records_of d ps)))
  all_accepted ps on r good f =
      let w = agreeing_accepted good f (records_of d ps) (records_agree (seconds_of r) ps on) in
      (w.0, answers_true (good_after good (offers (records_of d ps))) w.1.fits)

-- ---- the theorem

module _ (kind : ℕ) (s : List ℕ) (f : Free kind s) where
  opened_none : accepted_of (opened s).recovery ≡ none
  opened_none = ap (λ (o : Opened). accepted_of o.recovery) (opened_free s f.list) ∙ fresh_accepted s

  -- nobody is back, so every history fits
  opened_model : {k : Kind} (H : History) → IsHistory k (length s) H → Model s H (λ p. k) (opened s).recovery
  opened_model H h = record {
    fits = rw opened_none (record { history = h.history; recorded = λ p e q. clash e refl; duty = λ p e x q w. clash e refl });
    kinds = rw opened_none (λ p e. clash e refl);
  }

  -- of a day that was opened and played, over or not
  pub any_time : (d : Day) → Kept (kind_of kind) s d
      → IsHistory (kind_of kind) (length s) (execution_of d).row
      × ((ps : List ℕ) → ((p : ℕ) → Memᴰ p ps → p < length s) → Accepts (opened s).recovery (records_of d ps) × True d (reached s (offers (records_of d ps))))
  any_time d g = (
    is_history f.list.sound f.list.serials g,
    λ ps on. all_accepted f.list.sound f.list.serials g ps on (opened s).recovery (good_opened f.list) (opened_model (execution_of d).row (is_history f.list.sound f.list.serials g)),
  )

-- for every kind and roster free of faults and every list of events, once the day is over: its rows are a history, each row of a full
-- day holds all that is in the rows of its members, and its records
-- are taken or repeated in every order, and what the recovery then answers of a place is true of the day
pub finished : (kind : ℕ) (s : List ℕ) → Free kind s → (es : List Event) → Over (played (begun kind s).day es).day
    → IsHistory (kind_of kind) (length s) (execution_of (played (begun kind s).day es).day).row
    × ((ps : List ℕ) → ((p : ℕ) → Memᴰ p ps → p < length s)
    → Accepts (opened s).recovery (records_of (played (begun kind s).day es).day ps)
    × True (played (begun kind s).day es).day (reached s (offers (records_of (played (begun kind s).day es).day ps))))
finished kind s f es over = any_time kind s f (played (begun kind s).day es).day (played_kept (begun_kept kind s f) es)

-- ---- its records are written

pub writes : (d : Day) (p : ℕ) → p < size_of d → (execution_of d).stopped p ≡ true → (out : List ℕ) (at : ℕ) → at + length (record_bytes d p) ≤ length out
    → written_of d p out at ≡ record { answer = Ok (at + length (record_bytes d p)); buffer = put_at at (record_bytes d p) out }
unfolding written_of written_at record_bytes
writes d p l s out at room = rw (lt-ltb p (size_of d) l, s, le-leb (at + length (layout (record_of d p))) (length out) room)

pub record_written : (kind : ℕ) (s : List ℕ) → Free kind s → (es : List Event) → Over (played (begun kind s).day es).day → (p : ℕ) → p < length s → (out : List ℕ) (at : ℕ)
    → at + length (record_bytes (played (begun kind s).day es).day p) ≤ length out
    → written_of (played (begun kind s).day es).day p out at
    ≡ record {
      answer = Ok (at + length (record_bytes (played (begun kind s).day es).day p));
      buffer = put_at at (record_bytes (played (begun kind s).day es).day p) out;
    }
record_written kind s f es over p l out at room = writes d p on (over p on) out at room
  where
    d : Day
    d = (played (begun kind s).day es).day

    on : p < size_of d
    on = rw (played_kept (begun_kept kind s f) es).sound.is_size l

-- ---- a day that is over can be had

pub plays_on : {a b c : Day} {es fs : List Event} → Plays a es b → Plays b fs c → Plays a (es ++ fs) c
plays_on done q = q
plays_on (next f p) q = next f (plays_on p q)

abbrev pub stop_of : ℕ → Event
stop_of p = record { kind = 1; place = record { 0 = p }; other = record { 0 = 0 } }

-- events after which those below m have stopped
pub record Stopping (k : Kind) (s : List ℕ) (d : Day) (m : ℕ) : Type 0 where
  pub events : List Event
  pub day : Day
  pub plays : Plays d events day
  pub few : length events ≤ m
  pub kept : Kept k s day
  pub all : (p : ℕ) → p < m → (execution_of day).stopped p ≡ true

module _ {k : Kind} {s : List ℕ} {d : Day} (g : Kept k s d) where
  one_stop : (m : ℕ) → m < length s → Stopping k s d m → Stopping k s d (suc m)
  one_stop m l w = go (split ((execution_of w.day).stopped m))
    where
      b : Day
      b = w.day

      on : m < size_of b
      on = rw w.kept.sound.is_size l

      go : ((execution_of b).stopped m ≡ true) ⊎ ((execution_of b).stopped m ≡ false) → Stopping k s d (suc m)
      go (inl t) = record {
        events = w.events;
        day = b;
        plays = w.plays;
        few = omega (arith, w.few);
        kept = w.kept;
        all = λ p h. also p (last_or_below p m h);
      }
        where
          also : (p : ℕ) → (p ≡ m) ⊎ (p < m) → (execution_of b).stopped p ≡ true
          also p (inl e) = rw e t
          also p (inr h) = w.all p h
      go (inr t) = record {
        events = w.events ++ (stop_of m ∷ []);
        day = day_after b (stop_of m);
        plays = plays_on w.plays (next free done);
        few = rw length-append (omega (arith, w.few));
        kept = kept_after w.kept (stop_of m) free;
        all = λ p h. subst (λ (D : Execution). D.stopped p ≡ true) (sym is) (also p (last_or_below p m h));
      }
        where
          free : fault_on b (stop_of m) ≡ Ok tt
          free = allowed_free (size_of b) (execution_of b) (stop_of m) (stops refl on t)

          is : execution_of (day_after b (stop_of m)) ≡ after_stop (execution_of b) m
          is = after_execution w.kept.sound (stop_of m) free ∙ happening_stop b.kind (size_of b) (execution_of b) (stop_of m) refl

          also : (p : ℕ) → (p ≡ m) ⊎ (p < m) → (after_stop (execution_of b) m).stopped p ≡ true
          also p (inl e) = rw e (or_right ((execution_of b).stopped m) (eqb_self m))
          also p (inr h) = or_left (eqb p m) (w.all p h)

  pub all_stop : (m : ℕ) → m ≤ length s → Stopping k s d m
  all_stop zero l = record { events = []; day = d; plays = done; few = omega arith; kept = g; all = λ p h. absurd (omega arith) }
  all_stop (suc m) l = one_stop m l (all_stop m (omega arith))

-- whatever was played, further events that are all allowed end the day
pub ends : (kind : ℕ) (s : List ℕ) → Free kind s → (es : List Event) → (fs : List Event) × ((played (played (begun kind s).day es).day fs).answer ≡ Ok tt)
    × Over (played (played (begun kind s).day es).day fs).day
ends kind s f es =
    let g = played_kept (begun_kept kind s f) es in
    let w = all_stop g (length s) (omega arith) in
    let e = plays_played w.plays (omega (arith, w.few, f.list.sound.few)) in
    (w.events, ap (λ (p : Played). p.answer) e, subst (λ (p : Played). Over p.day) (sym e) (λ p l. w.all p (rw w.kept.sound.is_size at l)))
