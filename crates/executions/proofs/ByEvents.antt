-- What is true of a day and of its records, said of what happened in its events alone. Assumes nothing.
use Rattle.std.specs.Prelude.{true, Ok}
use mathlib.Core.Path.{◌≡◌, refl, sym, subst}
use mathlib.Core.Logic.{◌↔◌}
use mathlib.Core.List.{List, [], ◌++◌, Memᴰ}
use Prim.Native.Nat.{ℕ, ◌+◌, ◌^◌, ◌<◌, ◌≤◌}
use native.Mathlib.Omega.{arith}
use lib.ListN.{length, take}
use Rattle.sets.proofs.Booleans.{clash}
use Rattle.histories.specs.declared.Kind.{Kind}
use Rattle.histories.specs.Earlier.{IsHistory}
use Rattle.serials.specs.Seconds.{itself}
use Rattle.layouts.specs.Layout.{got, kind_of, Stored, lone}
use Rattle.layouts.specs.Records.{put_at}
use Rattle.layouts.proofs.Trips.{layout_lone}
use Rattle.calls.specs.declared.Recovery.{Recovery}
use Rattle.calls.specs.Promises.{opened}
use Rattle.calls.specs.Run.{reached}
use Rattle.calls.specs.Later.{offers, Accepts}
use Rattle.executions.specs.declared.Day.{Day}
use Rattle.executions.specs.declared.Event.{Event}
use Rattle.executions.specs.declared.Begun.{Begun}
use Rattle.executions.specs.Promises.{size_of, execution_of, starting, begun, played, record_of, written_of}
use Rattle.executions.specs.Events.{Stopped, Heard, AllAllowed, AllStopped}
use Rattle.executions.specs.Finished.{Free, record_bytes, records_of, True}
use Rattle.executions.specs.ByEvents.{AsPlayed, played_of, TrueOf}
use Rattle.executions.proofs.Events.{Tells, tells_day, as_played}
use Rattle.executions.proofs.Plays.{Kept, kept_starting, played_kept, counted_plays}
use Rattle.executions.proofs.Finished as of_day
use Rattle.executions.proofs.Finished.{begun_as_lem, begun_kept, record_stored, plays_on, Stopping, all_stop}

-- ---- of a day that was opened and played, over or not

-- what is true of the day is true of the events that it holds
true_of : {k : Kind} {n : ℕ} {es : List Event} {d : Day} {r : Recovery} → Tells k n es (execution_of d) → True d r → TrueOf k n es r
true_of t w = record {
  last = λ p e x h. clash ((t.heard x p).1 h) (w.last p e x);
  not_last = λ p e. let m = w.not_last p e in (m.0, (t.heard m.0 p).0 m.1);
}

pub any_time : (kind : ℕ) (s : List ℕ) (f : Free kind s) (d : Day) → Kept (kind_of kind) s d → (es : List Event) → Tells (kind_of kind) (length s) es (execution_of d)
    → IsHistory (kind_of kind) (length s) (execution_of d).row
    × ((ps : List ℕ) → ((p : ℕ) → Memᴰ p ps → p < length s)
    → Accepts (opened s).recovery (records_of d ps) × TrueOf (kind_of kind) (length s) es (reached s (offers (records_of d ps))))
any_time kind s f d g es t = let w = of_day.any_time kind s f d g in (w.0, λ ps on. let m = w.1 ps on in (m.0, true_of t m.1))

module _ (kind : ℕ) (s : List ℕ) (f : Free kind s) (es : List Event) (h : length es < 2 ^ 64) where
  -- the day after the events, and those of them that were played
  abbrev over : Day
  over = (played (begun kind s).day es).day

  abbrev events : List Event
  events = played_of (begun kind s).day es

  over_kept : Kept (kind_of kind) s over
  over_kept = played_kept (begun_kept kind s f) es

  -- every play gives what happened in its events
  pub happened_so : AsPlayed (kind_of kind) (length s) es (played (begun kind s).day es)
  happened_so = subst (λ (b : Begun). AsPlayed (kind_of kind) (length s) es (played b.day es)) (sym (begun_as_lem kind s f)) (as_played (kind_of kind) s f.list.sound.few es h)

  events_told : Tells (kind_of kind) (length s) events (execution_of over)
  unfolding played_of
  events_told = subst (λ (b : Begun). Tells (kind_of kind) (length s) (take (played b.day es).count es) (execution_of (played b.day es).day)) (sym (begun_as_lem kind s f))
      (tells_day (kind_of kind) s f.list.sound.few (counted_plays (starting (kind_of kind) s) es h))

  -- for every kind and roster free of faults and every list of events after which all have stopped: the day's rows are a history, each row of a full day holds all that is in
  -- the rows of its members, its records are taken or repeated in every order, and what the recovery then answers of a place is true of what happened in those events
  pub finished : AllStopped (length s) events
      → IsHistory (kind_of kind) (length s) (execution_of over).row
      × ((ps : List ℕ) → ((p : ℕ) → Memᴰ p ps → p < length s)
      → Accepts (opened s).recovery (records_of over ps) × TrueOf (kind_of kind) (length s) events (reached s (offers (records_of over ps))))
  finished all = any_time kind s f over over_kept events events_told

  -- ---- its records are written

  -- the bytes are those of a record that names whom its place heard in these events
  pub record_told : (p : ℕ) → p < length s → (x : Stored) × (lone itself (record_bytes over p) ≡ got x [])
      × (x.kind ≡ kind_of kind) × (x.own ≡ p) × (x.roster ≡ s) × ((q : ℕ) → (x.mourned q ≡ true) ↔ Heard (kind_of kind) (length s) events p q)
  unfolding record_bytes record_of
  record_told p l = (
    record_of over p,
    layout_lone itself (record_of over p) (record_stored f.list.sound f.list.serials over_kept p l),
    over_kept.sound.is_kind,
    refl,
    over_kept.sound.is_roster,
    λ q. events_told.heard p q,
  )

  -- and the writer lays them down wherever there is room, of each place that has stopped
  pub record_written : (p : ℕ) → p < length s → Stopped events p → (out : List ℕ) (at : ℕ) → at + length (record_bytes over p) ≤ length out
      → written_of over p out at ≡ record { answer = Ok (at + length (record_bytes over p)); buffer = put_at at (record_bytes over p) out }
  record_written p l z out at room =
      let on : p < size_of over = rw over_kept.sound.is_size l in
      of_day.writes over p on ((events_told.stopped p).1 z) out at room

-- ---- a day that is over can be had

-- whatever was played, there are further events, allowed where they come, after which everyone has stopped
pub ends : (kind : ℕ) (s : List ℕ) → Free kind s → (es : List Event) → length es < 2 ^ 64
    → (fs : List Event) × AllAllowed (length s) (played_of (begun kind s).day es ++ fs) × AllStopped (length s) (played_of (begun kind s).day es ++ fs)
unfolding played_of
ends kind s f es h = subst (λ (b : Begun). Ending b) (sym (begun_as_lem kind s f)) (w.events, t.allowed, λ p l. (t.stopped p).0 (w.all p l))
  where
    Ending : Begun → Type 0
    Ending b = (fs : List Event) × AllAllowed (length s) (take (played b.day es).count es ++ fs) × AllStopped (length s) (take (played b.day es).count es ++ fs)

    start : Day
    start = starting (kind_of kind) s

    w : Stopping (kind_of kind) s (played start es).day (length s)
    w = all_stop (played_kept (kept_starting (kind_of kind) s f.list.sound.few) es) (length s) (omega arith)

    t : Tells (kind_of kind) (length s) (take (played start es).count es ++ w.events) (execution_of w.day)
    t = tells_day (kind_of kind) s f.list.sound.few (plays_on (counted_plays start es h) w.plays)
