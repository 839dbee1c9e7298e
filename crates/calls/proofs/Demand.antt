-- Demand 3, proved: after a sound opening no call has an outcome that the records accepted by then do not dictate. Assumes nothing.
use Rattle.answers.specs.Views.{answer_of}
use Rattle.refusals.specs.declared.Refusal.{Refusal}
use Rattle.refusals.specs.declared.Refusal.TheVariants as R
use Rattle.std.specs.Prelude.{Option, Some, None, Result, Ok, Err}
use mathlib.Core.Path.{◌≡◌, refl, sym, ap, ap₂, ◌∙◌, subst}
use mathlib.Core.Bool.{Bool, true, false, cond, ◌&&◌}
use mathlib.Core.Logic.{◌⊎◌, inl, inr, ◌↔◌}
use mathlib.Core.List.{List, [], ◌∷◌}
use Prim.Native.Nat.{ℕ, ◌+◌, ◌*◌, ◌^◌, ◌<◌, ◌≤◌}
use native.Mathlib.Omega.{arith}
use native.Mathlib.Decide.{dec_lt, ℕ_discrete}
use lib.ListN.{length, get_or, set, drop, replicate, length-set, length-replicate}
use lib.Dec.{ltb}
use borrow.Author.Tests.{lt-ltb}
use Rattle.sets.specs.Sets.{nothing, any, same, count, lowest}
use Rattle.sets.specs.PlaceSets.{has}
use Rattle.sets.proofs.Booleans.{split, clash, is_false, and_intro, and_left, and_right}
use Rattle.sets.proofs.Tests.{same_intro, any_elim, any_none, lowest_below, lowest_member, lowest_least}
use Rattle.histories.specs.declared.Kind.{Kind}
use Rattle.histories.specs.Histories.{Row, History, Accepted, lay, Fits, Disagree}
use Rattle.histories.specs.Rule.{Answer, is_last, not_last, is_open, answer, recorded, second, accepts, fits_test, settled}
use Rattle.histories.specs.Kept.{answer_by}
use Rattle.histories.proofs.Exact.{none_fitted, exact, settled_iff, unsettled, unmourned_iff, unmourned_absent_iff}
use Rattle.histories.proofs.Accepts.{accepts_iff}
use Rattle.histories.proofs.Checks.{fits_iff}
use Rattle.serials.specs.Rosters.{IsRoster}
use Rattle.serials.specs.Seconds.{counts_as, itself}
use Rattle.serials.specs.declared.Finding.{Finding}
use Rattle.answers.specs.Groups.{is_found}
use Rattle.rows.specs.Rows.{history_in, laid}
use Rattle.rows.proofs.Laws.{laid_length, laid_rest, laid_history}
use Rattle.layouts.specs.Layout.{Parsed, got, Stored, stored, lone, layout}
use Rattle.layouts.specs.Layout as L
use Rattle.layouts.specs.Records.{put_at, unwritten}
use Rattle.layouts.proofs.Layouts.{IsStored, length_put, drop_put}
use Rattle.layouts.proofs.Trips.{read_layout, faults}
use Rattle.calls.specs.declared.Recovery.{Recovery}
use Rattle.calls.specs.declared.Offered.{Offered}
use Rattle.calls.specs.declared.Gave.{Gave}
use Rattle.answers.specs.Checks.{off_roster}
use Rattle.answers.specs.Shows.{unshown}
use Rattle.answers.specs.Lists.{answer_byte}
use Rattle.answers.specs.Lists as listing
use Rattle.answers.proofs.Lists as lists
use Rattle.answers.proofs.Laying as laying
use Rattle.answers.specs.Fetches.{told, blocking}
use Rattle.answers.proofs.Fetches as fetches
use Rattle.answers.specs.Replies.{same_kind}
use Rattle.calls.specs.Promises.{size_of, roster_of, seconds_of, alias_of, accepted_of, holding, fresh, opened, of_group, saying, keeping, entered, offered, asked_as, asked, shown, checked, settled_of, fetching_of, unmourned_of, unmourned_absent_of, unmourned_count_of, found_in, with_second, given, record_of, written_of, listed_of}
use Rattle.calls.specs.Demand as D
use Rattle.calls.specs.Demand.{Free, Call, offer, ask, show, check, whole, to_fetch, unmourned, list_unmourned_absent, count_unmourned, find, give, write, list, Ledger, begun, KnownSerial, AreSeconds, says, lent_one, places, number, OfGroup, SameRecord, Holds, MayHear, record_in, ByteOf, byte_not, byte_last, byte_open, Dictates, faulty, foreign, repeats, differs, takes, none_fits, asked_off, asked_last, asked_not, asked_open, showed_off, showed_decided, showed_short, showed, checked_short, checked_off, checked_fits, checked_not, whole_settled, whole_open, fetched_none, fetched_next, gave_unmourned, gave_absent, gave_count, found_first, found_second, found_none, gave_off, gave_zero, gave_known, gave, wrote_off, wrote_absent, wrote_short, wrote, listed_short, listed_all, Whole, end, then}
use Rattle.calls.specs.Run.{offer_says, asked_says, showing_says, checked_says, fetching_says, writing_says, found_says, giving_says, listing_says, shown_gives, written_gives, listed_gives, outcome, next, run, ledger_of, left}
use Rattle.calls.proofs.Opens.{opened_free}
use Rattle.calls.proofs.Keeps.{row_on, fresh_accepted, fresh_seconds, fresh_holds, kept_accepted, Held, held_size, held_roster, held_table, not_full, kept_seconds, keeping_holds, second_given, second_holds, kept_answer, kept_settled, kept_blocking, kept_shown, kept_unmourned, kept_absent, kept_count}
use Rattle.calls.proofs.Swaps.{Standing, as_first, as_second, unknown, standing, seconds_none, seconds_noted}
use Rattle.calls.proofs.Calls as call
use Rattle.calls.proofs.Facts.{same_kind_elim, same_kind_self, rows_equal, off_there, rows_on, lone_on, take_put, past_put}

-- the invariant: true from the opening on, whatever is called
pub record Good (roster : List ℕ) (r : Recovery) : Type 0 where
  pub held : Held roster r
  pub given : AreSeconds roster (seconds_of r)
  pub sound : IsRoster roster
  pub below : (p : ℕ) → p < length roster → get_or roster p 0 < 2 ^ 32
  pub some : History
  pub fits : Fits (length roster) (accepted_of r) some

module _ {roster : List ℕ} {r : Recovery} (g : Good roster r) where
  pub is_roster : roster_of r ≡ roster
  is_roster = held_roster g.held

  pub is_size : size_of r ≡ length roster
  is_size = held_size g.held

  -- what serials count as in its group
  pub is_alias : alias_of r ≡ counts_as roster (seconds_of r)
  unfolding alias_of
  is_alias = ap (λ (s : List ℕ). counts_as s (seconds_of r)) is_roster

-- ---- one call on a recovery of this roster

module _ {roster : List ℕ} {r : Recovery} (g : Good roster r) where
  -- what stands in an accepted row is on the roster
  row_inside : (p q : ℕ) → (accepted_of r).row p q ≡ true → q < length roster
  row_inside p q e = rw (is_size g) at (row_on r p q e)

  -- the answer by what is kept
  by : (i : ℕ) {a : Answer} → answer (length roster) (accepted_of r) i ≡ a → answer_by (length roster) (accepted_of r) (has r.mourned) (has r.earlier) i ≡ a
  by i e = kept_answer g.held g.fits i ∙ e

  -- ---- asking

  ask_step : (i : ℕ) → Dictates roster (ledger_of r) (ask i) (says (asked_says (asked r i))) (ledger_of r)
  unfolding asked_as answer_of asked_says
  ask_step i = go (dec_lt i n)
    where
      n : ℕ
      n = length roster

      at : i < n → (a : Answer) → answer n (accepted_of r) i ≡ a → Dictates roster (ledger_of r) (ask i) (says (asked_says (asked r i))) (ledger_of r)
      at l is_last e = rw (call.asked_is r (is_size g) i is_last l (by i e)) (asked_last l ((exact g.fits i l).last_iff.0 e))
      at l not_last e = rw (call.asked_is r (is_size g) i not_last l (by i e)) (asked_not l ((exact g.fits i l).not_iff.0 e))
      at l is_open e = rw (call.asked_is r (is_size g) i is_open l (by i e)) (asked_open l ((exact g.fits i l).shown e))

      go : Dec (i < n) → Dictates roster (ledger_of r) (ask i) (says (asked_says (asked r i))) (ledger_of r)
      go (yes l) = at l (answer n (accepted_of r) i) refl
      go (no l) = let m : n ≤ i = omega arith in rw (call.asked_off r (is_size g) i m) (asked_off m)

  -- ---- showing

  -- a history of this roster, laid into a buffer with room
  holds : (H : History) (a : List ℕ) → 16 * length roster ≤ length a → ((p q : ℕ) → H p q ≡ true → (p < length roster) × (q < length roster)) → Holds (length roster) a (laid (length roster) H a) H
  holds H a l inside = record { same_length = laid_length n H a l; same_rest = laid_rest n H a l; is_history = λ p q. laid_history n H a l p q ∙ whole_of p q (H p q) refl }
    where
      n : ℕ
      n = length roster

      whole_of : (p q : ℕ) (t : Bool) → H p q ≡ t → ltb p n && (ltb q 128 && H p q) ≡ H p q
      whole_of p q true e =
          let i = inside p q e in
          let m : q < 128 = omega (arith, i.1, g.sound.few) in
          rw (lt-ltb p n i.0, lt-ltb q 128 m)
      whole_of p q false e = is_false _ (λ t. clash (and_right (ltb q 128) (H p q) (and_right (ltb p n) _ t)) e) ∙ sym e

  -- an open place
  open_step : (i : ℕ) (a b : List ℕ) → i < length roster → answer (length roster) (accepted_of r) i ≡ is_open
      → Dictates roster (ledger_of r) (show i a b) (shown_gives (shown r i a b)) (ledger_of r)
  unfolding unshown shown_gives showing_says
  open_step i a b l e = go (dec_lt (length a) (16 * n)) (dec_lt (length b) (16 * n))
    where
      n : ℕ
      n = length roster

      d : Disagree n (accepted_of r) i (recorded (accepted_of r)) (second n (accepted_of r) i)
      d = (exact g.fits i l).shown e

      short : (length a < 16 * n) ⊎ (length b < 16 * n) → Dictates roster (ledger_of r) (show i a b) (shown_gives (shown r i a b)) (ledger_of r)
      short s = rw (call.shown_short r (is_size g) i a b l (by i e) s) (showed_short l d s)

      go : Dec (length a < 16 * n) → Dec (length b < 16 * n) → Dictates roster (ledger_of r) (show i a b) (shown_gives (shown r i a b)) (ledger_of r)
      go (yes x) y = short (inl x)
      go (no x) (yes y) = short (inr y)
      go (no x) (no y) =
          let u : 16 * n ≤ length a = omega arith in
          let v : 16 * n ≤ length b = omega arith in
          rw (kept_shown g.held g.fits i a b l e u v)
          (showed l u v d (holds (recorded (accepted_of r)) a u d.first_fits.history.inside) (holds (second n (accepted_of r) i) b v d.second_fits.history.inside))

  show_step : (i : ℕ) (a b : List ℕ) → Dictates roster (ledger_of r) (show i a b) (shown_gives (shown r i a b)) (ledger_of r)
  unfolding unshown shown_gives showing_says
  show_step i a b = go (dec_lt i n)
    where
      n : ℕ
      n = length roster

      at : i < n → (w : Answer) → answer n (accepted_of r) i ≡ w → Dictates roster (ledger_of r) (show i a b) (shown_gives (shown r i a b)) (ledger_of r)
      at l is_last e = rw (call.shown_last r (is_size g) i a b l (by i e)) (showed_decided l (inl ((exact g.fits i l).last_iff.0 e)))
      at l not_last e = rw (call.shown_not r (is_size g) i a b l (by i e)) (showed_decided l (inr ((exact g.fits i l).not_iff.0 e)))
      at l is_open e = open_step i a b l e

      go : Dec (i < n) → Dictates roster (ledger_of r) (show i a b) (shown_gives (shown r i a b)) (ledger_of r)
      go (yes l) = at l (answer n (accepted_of r) i) refl
      go (no l) = let m : n ≤ i = omega arith in rw (call.shown_off r (is_size g) i a b m) (showed_off m)

  -- ---- offering

  -- a record is kept
  keep_good : (p : ℕ) (k : Kind) (M : Row) (H : History) → keeping r p k M ≡ holding roster (seconds_of r) (lay (accepted_of r) p k M) → accepted_of (keeping r p k M) ≡ lay (accepted_of r) p k M
      → Fits (length roster) (lay (accepted_of r) p k M) H → Good roster (keeping r p k M)
  keep_good p k M H h e f = record {
    held = record { few = g.sound.few; long = ap length (same_seconds k) ∙ g.held.long; is = h ∙ ap₂ (holding roster) (sym (same_seconds k)) (sym e) };
    given = subst (AreSeconds roster) (sym (same_seconds k)) g.given;
    sound = g.sound;
    below = g.below;
    some = H;
    fits = subst (λ (A : Accepted). Fits (length roster) A H) (sym e) f;
  }
    where
      same_seconds : (k : Kind) → seconds_of (keeping r p k M) ≡ seconds_of r
      same_seconds k = kept_seconds r p k M

  module _ (bytes : List ℕ) where
    -- what is said is dictated, and what is left is good
    Does : Offered → Type 0
    Does o = Dictates roster (ledger_of r) (offer bytes) (says (offer_says o.answer)) (ledger_of o.recovery) × Good roster o.recovery

    module _ (x : Stored) (s : OfGroup roster (seconds_of r) bytes x) where
      own_on : x.own < length roster
      own_on = rw s.same_roster at (lone_on (counts_as roster (seconds_of r)) bytes x s.rest s.reads).0

      mourned_on : (q : ℕ) → x.mourned q ≡ true → q < length roster
      mourned_on q e = rw s.same_roster at ((lone_on (counts_as roster (seconds_of r)) bytes x s.rest s.reads).1 q e)

      again_step : (accepted_of r).returned x.own ≡ true → Does (entered r x.own x.kind x.mourned)
      unfolding Does offer_says saying
      again_step b = go (same_kind x.kind K && same n M N) refl
        where
          n : ℕ
          n = length roster

          M : Row
          M = x.mourned

          K : Kind
          K = (accepted_of r).kind x.own

          N : Row
          N = (accepted_of r).row x.own

          is : same_kind x.kind K && same n M N ≡ true → SameRecord (accepted_of r) x
          is e = record {
            kind = same_kind_elim x.kind K (and_left (same_kind x.kind K) (same n M N) e);
            mourned = rows_equal n M N mourned_on (row_inside x.own) (and_right (same_kind x.kind K) (same n M N) e);
          }

          is_not : SameRecord (accepted_of r) x → same_kind x.kind K && same n M N ≡ true
          is_not w = and_intro (ap (same_kind x.kind) (sym w.kind) ∙ same_kind_self x.kind) (same_intro n M N (λ q _. ap (λ (S : Row). S q) w.mourned))

          go : (t : Bool) → same_kind x.kind K && same n M N ≡ t → Does (entered r x.own x.kind M)
          go true e = rw (call.entered_again r (is_size g) x.own x.kind M b true e) (repeats s b (is e), g)
          go false e = rw (call.entered_again r (is_size g) x.own x.kind M b false e) (differs s b (λ w. clash (is_not w) e), g)

      new_step : (accepted_of r).returned x.own ≡ false → Does (entered r x.own x.kind x.mourned)
      unfolding Does offer_says saying
      new_step b = go (accepts n (accepted_of r) x.own k M) refl
        where
          n : ℕ
          n = length roster

          k : Kind
          k = x.kind

          M : Row
          M = x.mourned

          iff : (accepts n (accepted_of r) x.own k M ≡ true) ↔ ((H : History) × Fits n (lay (accepted_of r) x.own k M) H)
          iff = accepts_iff g.fits x.own k M b own_on mourned_on

          on : x.own < size_of r
          on = rw (is_size g) own_on

          m_on : (q : ℕ) → M q ≡ true → q < size_of r
          m_on q e = rw (is_size g) (mourned_on q e)

          laid_on : accepted_of (keeping r x.own k M) ≡ lay (accepted_of r) x.own k M
          laid_on = kept_accepted r x.own k M (held_table g.held) on (not_full g.held x.own b) m_on

          beside : record { accepted = lay (accepted_of r) x.own k M; seconds = seconds_of r } ≡ ledger_of (keeping r x.own k M)
          beside = ap₂ (λ (B : Accepted) (S : List ℕ). record { accepted = B; seconds = S }) (sym laid_on) (sym (kept_seconds r x.own k M))

          go : (t : Bool) → accepts n (accepted_of r) x.own k M ≡ t → Does (entered r x.own k M)
          go true e =
              let f = iff.0 e in
              rw (call.entered_new r (is_size g) x.own k M b true e)
              (subst (Dictates roster (ledger_of r) (offer bytes) (says D.taken)) beside (takes s b f.1), keep_good x.own k M f.0 (keeping_holds g.held x.own M b own_on k f.1) laid_on f.1)
          go false e = rw (call.entered_new r (is_size g) x.own k M b false e) (none_fits s b (λ H f. clash (iff.1 (H, f)) e), g)

      enter_step : Does (entered r x.own x.kind x.mourned)
      enter_step = go (split ((accepted_of r).returned x.own))
        where
          go : ((accepted_of r).returned x.own ≡ true) ⊎ ((accepted_of r).returned x.own ≡ false) → Does (entered r x.own x.kind x.mourned)
          go (inl b) = again_step b
          go (inr b) = new_step b

    -- as the recovery reads
    reads : {p : Parsed Stored} → lone (counts_as roster (seconds_of r)) bytes ≡ p → lone (alias_of r) bytes ≡ p
    reads e = ap (λ (a : ℕ → ℕ). lone a bytes) (is_alias g) ∙ e

    read_step : (x : Stored) (rest : List ℕ) → lone (counts_as roster (seconds_of r)) bytes ≡ got x rest → Does (offered r bytes)
    unfolding Does offer_says saying
    read_step x rest e = go (of_group r x) refl
      where
        go : (t : Bool) → of_group r x ≡ t → Does (offered r bytes)
        go true h =
            let w = call.group_elim r x h in
            rw (call.offered_entered r bytes x rest (reads e) w) (enter_step x (record { rest = rest; reads = e; same_roster = w ∙ is_roster g }))
        go false h =
            let z : ¬ (x.roster ≡ roster_of r) = λ w. clash (call.group_intro r x w) h in
            rw (call.offered_foreign r bytes x rest (reads e) z) (foreign e (λ w. z (w ∙ sym (is_roster g))), g)

    offer_step : Does (offered r bytes)
    unfolding Does offer_says saying
    offer_step = go (lone (counts_as roster (seconds_of r)) bytes) refl
      where
        go : (p : Parsed Stored) → lone (counts_as roster (seconds_of r)) bytes ≡ p → Does (offered r bytes)
        go (got x rest) e = read_step x rest e
        go (L.refused j) e = let w = faults (counts_as roster (seconds_of r)) bytes j e in rw (call.offered_faulty r bytes j (reads e)) (faulty e w.0 w.1, g)

  -- ---- checking a lent history

  check_step : (h : List ℕ) → Dictates roster (ledger_of r) (check h) (says (checked_says (checked r h))) (ledger_of r)
  unfolding checked_says
  check_step h = go (dec_lt (length h) (16 * n))
    where
      n : ℕ
      n = length roster

      H : History
      H = history_in n h

      iff : off_roster n H ≡ false → (fits_test n (accepted_of r) H ≡ true) ↔ Fits n (accepted_of r) H
      iff e = fits_iff n (accepted_of r) g.some g.fits H (rows_on n h e)

      on : 16 * n ≤ length h → off_roster n H ≡ false → (t : Bool) → fits_test n (accepted_of r) H ≡ t
          → Dictates roster (ledger_of r) (check h) (says (checked_says (checked r h))) (ledger_of r)
      on l e true f = rw (call.checked_on r (is_size g) h l e true f) (checked_fits l ((iff e).0 f))
      on l e false f = rw (call.checked_on r (is_size g) h l e false f) (checked_not l (λ p q x. (rows_on n h e p q x).1) (λ y. clash ((iff e).1 y) f))

      long : 16 * n ≤ length h → (t : Bool) → off_roster n H ≡ t → Dictates roster (ledger_of r) (check h) (says (checked_says (checked r h))) (ledger_of r)
      long l true e = let w = off_there n H e in rw (call.checked_off r (is_size g) h l e) (checked_off w.0 w.1 l w.2 w.3)
      long l false e = on l e (fits_test n (accepted_of r) H) refl

      go : Dec (length h < 16 * n) → Dictates roster (ledger_of r) (check h) (says (checked_says (checked r h))) (ledger_of r)
      go (yes l) = rw (call.checked_short r (is_size g) h l) (checked_short l)
      go (no l) = long (omega arith) (off_roster n H) refl

  -- ---- the whole

  whole_step : Dictates roster (ledger_of r) whole (says (cond (settled_of r) D.settled D.unsettled)) (ledger_of r)
  whole_step = rw (call.settled_is r (is_size g), kept_settled g.held g.fits) (go (settled (length roster) (accepted_of r)) refl)
    where
      go : (t : Bool) → settled (length roster) (accepted_of r) ≡ t → Dictates roster (ledger_of r) whole (says (cond t D.settled D.unsettled)) (ledger_of r)
      go true e = whole_settled ((settled_iff g.fits).0 e)
      go false e = let w = unsettled g.fits e in whole_open w.1 w.2

  -- ---- how many to fetch, and which next

  to_fetch_step : Dictates roster (ledger_of r) to_fetch (says (fetching_says (fetching_of r))) (ledger_of r)
  unfolding fetching_says told
  to_fetch_step = rw (call.fetching_is r (is_size g), kept_blocking g.held g.fits) (go (any n S) refl)
    where
      n : ℕ
      n = length roster

      S : Row
      S = blocking n (accepted_of r)

      heard : MayHear n (accepted_of r) S
      heard = fetches.blocking_iff g.fits

      go : (t : Bool) → any n S ≡ t → Dictates roster (ledger_of r) to_fetch (says (fetching_says (cond t (Some (record { number = count n S; next = record { 0 = lowest n S } })) None))) (ledger_of r)
      go true e =
          let w = any_elim n S e in
          let l = lowest_below n S w.0 w.1 w.2 in
          fetched_next heard (lowest_member n S l) (lowest_least n S)
      go false e = fetched_none (λ b m. clash ((heard b).1 m) (any_none n S e b (m.fits.history.inside b m.place m.heard).0))

  -- ---- the two sets and the number

  unmourned_step : Dictates roster (ledger_of r) unmourned (places (unmourned_of r)) (ledger_of r)
  unmourned_step = rw (kept_unmourned g.held) (gave_unmourned (unmourned_iff g.fits))

  absent_step : Dictates roster (ledger_of r) list_unmourned_absent (places (unmourned_absent_of r)) (ledger_of r)
  absent_step = rw (kept_absent g.held) (gave_absent (unmourned_iff g.fits) (unmourned_absent_iff (length roster) (accepted_of r)))

  count_step : Dictates roster (ledger_of r) count_unmourned (number (unmourned_count_of r)) (ledger_of r)
  count_step = rw (kept_count g.held) (gave_count (unmourned_iff g.fits))

  -- ---- the place of a serial, and a second one

  -- where a serial stands in the group, and what finding says
  view : (x : ℕ) → Standing roster (seconds_of r) x (found_in r x)
  unfolding found_in
  view x = rw (is_alias g, is_roster g) (standing roster (seconds_of r) g.held.long g.sound.no_repeat x)

  find_step : (x : ℕ) → Dictates roster (ledger_of r) (find x) (says (found_says (found_in r x))) (ledger_of r)
  unfolding found_says
  find_step x = go (view x)
    where
      go : {f : Option Finding} → Standing roster (seconds_of r) x f → Dictates roster (ledger_of r) (find x) (says (found_says f)) (ledger_of r)
      go (as_first l e) = found_first l e
      go (as_second l z e) = found_second l z e
      go (unknown z) = found_none z

  -- a place is given one
  give_good : (p x : ℕ) → p < length roster → ¬ (x ≡ 0) → ¬ (KnownSerial roster (seconds_of r) x) → Good roster (with_second r p x)
  unfolding accepted_of with_second
  give_good p x l z u =
      let e : seconds_of (with_second r p x) ≡ set (seconds_of r) p x = second_given g.held p x l in
      record {
        held = record {
          few = g.sound.few;
          long = ap length e ∙ length-set (seconds_of r) p x ∙ g.held.long;
          is = second_holds g.held p x l ∙ ap (λ (s : List ℕ). holding roster s (accepted_of r)) (sym e);
        };
        given = rw e (seconds_noted roster (seconds_of r) p x g.given l z u);
        sound = g.sound;
        below = g.below;
        some = g.some;
        fits = g.fits;
      }

  Gives : ℕ → ℕ → Gave → Type 0
  Gives p x v = Dictates roster (ledger_of r) (give p x) (says (giving_says v.answer)) (ledger_of v.recovery) × Good roster v.recovery

  give_step : (p x : ℕ) → Gives p x (given r p x)
  unfolding Gives giving_says accepted_of with_second
  give_step p x = go (dec_lt p n) (ℕ_discrete x 0)
    where
      n : ℕ
      n = length roster

      at : p < n → p < size_of r
      at l = rw (is_size g) l

      -- one that is new
      new : p < n → ¬ (x ≡ 0) → is_found (found_in r x) ≡ false → ¬ (KnownSerial roster (seconds_of r) x) → Dec (get_or (seconds_of r) p 0 ≡ 0) → Gives p x (given r p x)
      new l z f u (yes e) =
          rw (call.given_new r p x (at l) z f e)
          (subst (λ (s : List ℕ). Dictates roster (ledger_of r) (give p x) (says D.given) (record { accepted = accepted_of r; seconds = s })) (sym (second_given g.held p x l)) (gave l z u e), give_good p x l z u)
      new l z f u (no e) = rw (call.given_has r p x (at l) z f e) (gave_known l z (inr e), g)

      judge : p < n → ¬ (x ≡ 0) → {f : Option Finding} → found_in r x ≡ f → Standing roster (seconds_of r) x f → Gives p x (given r p x)
      judge l z f (as_first {p = q} m e) = rw (call.given_known r p x (at l) z (ap is_found f)) (gave_known l z (inl (q, m, inl e)), g)
      judge l z f (as_second {p = q} m y e) = rw (call.given_known r p x (at l) z (ap is_found f)) (gave_known l z (inl (q, m, inr e)), g)
      judge l z f (unknown (inl y)) = absurd (z y)
      judge l z f (unknown (inr u)) = new l z (ap is_found f) u (ℕ_discrete (get_or (seconds_of r) p 0) 0)

      go : Dec (p < n) → Dec (x ≡ 0) → Gives p x (given r p x)
      go (yes l) (yes z) = rw (call.given_zero r p x (at l) z) (gave_zero l z, g)
      go (yes l) (no z) = judge l z refl (view x)
      go (no l) z = let m : n ≤ p = omega arith in rw (call.given_off r p x (rw (is_size g) m)) (gave_off m, g)

  -- ---- writing a returned record

  pub record_is : (p : ℕ) → record_of r p ≡ record_in roster (accepted_of r) p
  unfolding record_of
  record_is p = λ i. record { kind = (accepted_of r).kind p; own = p; roster = is_roster g i; mourned = (accepted_of r).row p }

  pub record_stored : (p : ℕ) → p < length roster → IsStored (record_of r p)
  record_stored p l = rw (record_is p) (record { roster = g.sound; below = g.below; own = l; mourned = row_inside p })

  write_step : (p : ℕ) (out : List ℕ) (at : ℕ) → Dictates roster (ledger_of r) (write p out at) (written_gives (written_of r p out at)) (ledger_of r)
  unfolding unwritten written_gives writing_says
  write_step p out at = go (dec_lt p n)
    where
      n : ℕ
      n = length roster

      x : Stored
      x = record_in roster (accepted_of r) p

      lays : p < n → (accepted_of r).returned p ≡ true → at + length (layout (record_of r p)) ≤ length out
          → Dictates roster (ledger_of r) (write p out at) (lent_one (D.ends (at + length (layout (record_of r p)))) (put_at at (layout (record_of r p)) out)) (ledger_of r)
      lays l b = rw (record_is p) (λ u.
          wrote l b u (length_put at (layout x) out u) (take_put at (layout x) out u) (past_put at (layout x) out u)
          (ap (stored itself) (drop_put at (layout x) out u) ∙ read_layout itself x (rw (record_is p) at (record_stored p l)) (drop (at + length (layout x)) out) ∙ ap (got x) (sym (past_put at (layout x) out u))))

      back : p < n → (accepted_of r).returned p ≡ true → Dec (length out < at + length (layout (record_of r p)))
          → Dictates roster (ledger_of r) (write p out at) (written_gives (written_of r p out at)) (ledger_of r)
      back l b (yes u) = rw (call.written_short r (is_size g) p out at l b u) (wrote_short l b (rw (record_is p) at u))
      back l b (no u) = let v : at + length (layout (record_of r p)) ≤ length out = omega arith in rw (call.written_at_lem r (is_size g) p out at l b v) (lays l b v)

      on : p < n → ((accepted_of r).returned p ≡ true) ⊎ ((accepted_of r).returned p ≡ false)
          → Dictates roster (ledger_of r) (write p out at) (written_gives (written_of r p out at)) (ledger_of r)
      on l (inl b) = back l b (dec_lt (length out) (at + length (layout (record_of r p))))
      on l (inr b) = rw (call.written_absent r (is_size g) p out at l b) (wrote_absent l b)

      go : Dec (p < n) → Dictates roster (ledger_of r) (write p out at) (written_gives (written_of r p out at)) (ledger_of r)
      go (yes l) = on l (split ((accepted_of r).returned p))
      go (no l) = let m : n ≤ p = omega arith in rw (call.written_off r (is_size g) p out at m) (wrote_off m)

  -- ---- listing every place

  list_step : (out : List ℕ) → Dictates roster (ledger_of r) (list out) (listed_gives (listed_of r out)) (ledger_of r)
  unfolding listed_gives listing_says answer_byte
  list_step out = go (dec_lt (length out) n)
    where
      n : ℕ
      n = length roster

      byte : ℕ → ℕ
      byte i = answer_byte (answer_by n (accepted_of r) (has r.mourned) (has r.earlier) i)

      byte_is : (i : ℕ) → i < n → (a : Answer) → answer n (accepted_of r) i ≡ a → ByteOf n (accepted_of r) i (answer_byte a)
      byte_is i l is_last e = byte_last ((exact g.fits i l).last_iff.0 e)
      byte_is i l not_last e = byte_not ((exact g.fits i l).not_iff.0 e)
      byte_is i l is_open e = byte_open ((exact g.fits i l).shown e)

      each : (i : ℕ) → i < n → ByteOf n (accepted_of r) i (get_or (listing.laid n byte out) i 0)
      each i l = subst (ByteOf n (accepted_of r) i) (sym (lists.laid_byte n byte out i l ∙ ap answer_byte (by i refl))) (byte_is i l (answer n (accepted_of r) i) refl)

      go : Dec (length out < n) → Dictates roster (ledger_of r) (list out) (listed_gives (listed_of r out)) (ledger_of r)
      go (yes l) = rw (call.listed_short r (is_size g) out l) (listed_short l)
      go (no l) = let m : n ≤ length out = omega arith in rw (call.listed_laid r (is_size g) out m) (listed_all m (laying.laid_length n byte out m) (lists.laid_rest n byte out) each)

  -- ---- any call

  both_step : (c : Call) → Dictates roster (ledger_of r) c (outcome r c) (ledger_of (next r c)) × Good roster (next r c)
  unfolding outcome next Does Gives
  both_step (offer bytes) = offer_step bytes
  both_step (ask i) = (ask_step i, g)
  both_step (show i a b) = (show_step i a b, g)
  both_step (check h) = (check_step h, g)
  both_step whole = (whole_step, g)
  both_step to_fetch = (to_fetch_step, g)
  both_step unmourned = (unmourned_step, g)
  both_step list_unmourned_absent = (absent_step, g)
  both_step count_unmourned = (count_step, g)
  both_step (find x) = (find_step x, g)
  both_step (give p x) = give_step p x
  both_step (write p out at) = (write_step p out at, g)
  both_step (list out) = (list_step out, g)

  -- a single call has the outcome that is dictated
  pub step : (c : Call) → Dictates roster (ledger_of r) c (outcome r c) (ledger_of (next r c))
  step c = (both_step c).0

  -- and leaves a good recovery
  pub good_next : (c : Call) → Good roster (next r c)
  good_next c = (both_step c).1

-- ---- any list of calls

pub good_after : {roster : List ℕ} {r : Recovery} → Good roster r → (cs : List Call) → Good roster (left r cs)
unfolding left
good_after g [] = g
good_after {roster = roster} {r = r} g (c ∷ cs) = good_after {r = next r c} (good_next g c) cs

pub demand_from : {roster : List ℕ} {r : Recovery} → Good roster r → (cs : List Call) → Whole roster (ledger_of r) cs (run r cs)
unfolding run
demand_from g [] = end
demand_from {roster = roster} {r = r} g (c ∷ cs) = then (step g c) (demand_from {r = next r c} (good_next g c) cs)

-- ---- from an opening on

module _ (roster : List ℕ) (f : Free roster) where
  no_seconds : seconds_of (fresh roster) ≡ replicate (length roster) 0
  no_seconds = fresh_seconds roster f.sound.few

  fresh_good : Good roster (fresh roster)
  fresh_good = record {
    held = record {
      few = f.sound.few;
      long = ap length no_seconds ∙ length-replicate (length roster) 0;
      is = fresh_holds roster f.sound.few ∙ ap₂ (holding roster) (sym no_seconds) (sym (fresh_accepted roster));
    };
    given = rw no_seconds (seconds_none roster f.sound.no_zero);
    sound = f.sound;
    below = f.serials;
    some = λ p. nothing;
    fits = subst (λ (A : Accepted). Fits (length roster) A (λ p. nothing)) (sym (fresh_accepted roster)) (none_fitted (length roster));
  }

pub good_opened : {roster : List ℕ} → Free roster → Good roster (opened roster).recovery
good_opened {roster} f = rw (opened_free roster f) (fresh_good roster f)

pub good_left : {roster : List ℕ} → Free roster → (cs : List Call) → Good roster (left (opened roster).recovery cs)
good_left f cs = good_after (good_opened f) cs

-- a sound opening succeeds, and whatever is called on the recovery afterwards, in whatever order, is answered as dictated
pub demand_3 : (roster : List ℕ) → Free roster → (cs : List Call)
    → ((opened roster).answer ≡ Ok tt) × Whole roster (begun roster) cs (run (opened roster).recovery cs)
demand_3 roster f cs =
    rw (opened_free roster f)
    (refl, subst (λ (A : Ledger). Whole roster A cs (run (fresh roster) cs)) beside (demand_from (fresh_good roster f) cs))
  where
    beside : ledger_of (fresh roster) ≡ begun roster
    beside = ap₂ (λ (A : Accepted) (s : List ℕ). record { accepted = A; seconds = s }) (fresh_accepted roster) (no_seconds roster f)
