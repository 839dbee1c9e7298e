-- Records and histories there and back, on any recovery that an opening and calls can reach. Assumes nothing.
use Rattle.refusals.specs.declared.Refusal.{Refusal}
use Rattle.refusals.specs.declared.Refusal.TheVariants as R
use Rattle.std.specs.Prelude.{Option, Some, None, Result, Ok, Err}
use mathlib.Core.Path.{◌≡◌, refl, sym, ap, ◌∙◌, subst}
use mathlib.Core.Bool.{Bool, true, false, cond}
use mathlib.Core.List.{List}
use Prim.Native.Nat.{ℕ, ◌+◌, ◌*◌, ◌≤◌}
use native.Mathlib.Omega.{arith}
use lib.ListN.{length, drop}
use Rattle.sets.proofs.Booleans.{or_right, eqb_self}
use Rattle.histories.specs.Histories.{History, Fits, Disagree}
use Rattle.serials.specs.Seconds.{counts_as, itself}
use Rattle.rows.specs.Rows.{history_in}
use Rattle.layouts.specs.Layout.{Parsed, got, Stored, stored, lone, layout}
use Rattle.layouts.specs.Records.{reading_of, reading, put_at, Written}
use Rattle.layouts.proofs.Layouts.{AllBytes, IsStored, drop_put}
use Rattle.layouts.proofs.Trips.{read_layout, lone_layout, read_back}
use Rattle.calls.specs.declared.Recovery.{Recovery}
use Rattle.answers.specs.declared.Reply.{Reply}
use Rattle.answers.specs.declared.Reply.TheVariants as O
use Rattle.answers.specs.declared.Showing.{Showing}
use Rattle.answers.specs.declared.Showing.TheVariants as S
use Rattle.calls.specs.Promises.{seconds_of, alias_of, accepted_of, offered, shown, checked, record_of, written_of}
use Rattle.calls.specs.Demand as D
use Rattle.calls.specs.Demand.{Free, Ledger, laying, Call, offer, show, check, says, lent, OfGroup, Holds, record_in, Dictates, takes, showed, checked_fits}
use Rattle.calls.specs.Run.{offer_says, showing_says, checked_says, shown_gives, outcome, next, ledger_of, left, reached}
use Rattle.calls.proofs.Calls.{written_at_lem}
use Rattle.calls.proofs.Keeps.{returned_on}
use Rattle.calls.proofs.Demand.{Good, is_size, is_alias, record_is, record_stored, step, good_next, good_after, good_left}
use Rattle.calls.proofs.Dictated.{within_left}
use Rattle.calls.proofs.Single.{plain, single}

-- ---- a record taken is written in first serials: as its own bytes, if it came so

-- what is left when a record is taken
taken_lays : {roster bytes : List ℕ} {A B : Ledger} → Dictates roster A (offer bytes) (says D.taken) B
    → (x : Stored) × OfGroup roster A.seconds bytes x × (B ≡ laying A x.own x.kind x.mourned)
taken_lays (takes {x = x} s b f) = (x, s, refl)

module _ {roster : List ℕ} {r : Recovery} (g : Good roster r) (bytes : List ℕ) (t : (offered r bytes).answer ≡ Ok O.Taken) where
  taken_step : Dictates roster (ledger_of r) (offer bytes) (says D.taken) (ledger_of (offered r bytes).recovery)
  unfolding outcome next offer_says
  taken_step =
      subst (λ (a : Result Reply Refusal). Dictates roster (ledger_of r) (offer bytes) (says (offer_says a)) (ledger_of (offered r bytes).recovery)) t (step g (offer bytes))

  taken_good : Good roster (offered r bytes).recovery
  unfolding next
  taken_good = good_next g (offer bytes)

  -- its place is back from then on, and its record is the one that was read
  taken_stays : (ds : List Call) (x : Stored) (rest : List ℕ) → lone (counts_as roster (seconds_of r)) bytes ≡ got x rest
      → ((accepted_of (left (offered r bytes).recovery ds)).returned x.own ≡ true) × (record_of (left (offered r bytes).recovery ds) x.own ≡ x)
  taken_stays ds x rest e = subst There (same s.reads e) (u.0, record_is good y.own ∙ is)
    where
      r' : Recovery
      r' = left (offered r bytes).recovery ds

      A : Ledger
      A = ledger_of r

      B : Ledger
      B = ledger_of (offered r bytes).recovery

      There : Stored → Type 0
      There x = ((accepted_of r').returned x.own ≡ true) × (record_of r' x.own ≡ x)

      same : {p : Parsed Stored} {u v : List ℕ} {x y : Stored} → p ≡ got x u → p ≡ got y v → x ≡ y
      same a b = cc

      lays : (x : Stored) × OfGroup roster (seconds_of r) bytes x × (B ≡ laying A x.own x.kind x.mourned)
      lays = taken_lays taken_step

      y : Stored
      y = lays.0

      s : OfGroup roster (seconds_of r) bytes y
      s = lays.1

      back : B.accepted.returned y.own ≡ true
      back = subst (λ (B : Ledger). B.accepted.returned y.own ≡ true) (sym lays.2) (or_right (A.accepted.returned y.own) (eqb_self y.own))

      row : B.accepted.row y.own ≡ y.mourned
      row = ap (λ (B : Ledger). B.accepted.row y.own) lays.2 ∙ ap (λ (t : Bool). cond t y.mourned (A.accepted.row y.own)) (eqb_self y.own)

      good : Good roster r'
      good = good_after taken_good ds

      u : ((accepted_of r').returned y.own ≡ true) × ((accepted_of r').kind y.own ≡ B.accepted.kind y.own) × ((accepted_of r').row y.own ≡ B.accepted.row y.own)
      u = let w = within_left taken_good ds in (w.returned y.own back, w.kind y.own back, w.row y.own back)

      kind : (accepted_of r').kind y.own ≡ y.kind
      kind = u.1 ∙ ap (λ (B : Ledger). B.accepted.kind y.own) lays.2 ∙ ap (λ (t : Bool). cond t y.kind (A.accepted.kind y.own)) (eqb_self y.own)

      list : roster ≡ y.roster
      list = sym s.same_roster

      mourned : (accepted_of r').row y.own ≡ y.mourned
      mourned = u.2 ∙ row

      is : record_in roster (accepted_of r') y.own ≡ y
      is = λ i. record { kind = kind i; own = y.own; roster = list i; mourned = mourned i }

-- where a returned record is written
lays_down : (r : Recovery) (p : ℕ) → (accepted_of r).returned p ≡ true → (out : List ℕ) (at : ℕ) → at + length (layout (record_of r p)) ≤ length out
    → written_of r p out at ≡ record { answer = Ok (at + length (layout (record_of r p))); buffer = put_at at (layout (record_of r p)) out }
lays_down r p b out at l = written_at_lem r refl p out at (returned_on r p b) b l

module _ {roster : List ℕ} (f : Free roster) (cs : List Call) (bytes : List ℕ) (t : (offered (reached roster cs) bytes).answer ≡ Ok O.Taken) where
  -- it was read, by the second serials given up to then
  pub taken_reads : (x : Stored) × (rest : List ℕ) × (lone (alias_of (reached roster cs)) bytes ≡ got x rest)
  taken_reads = let w = taken_lays (taken_step (good_left f cs) bytes t) in (w.0, w.1.rest, as_read w.1.reads)
    where
      as_read : {p : Parsed Stored} → lone (counts_as roster (seconds_of (reached roster cs))) bytes ≡ p → lone (alias_of (reached roster cs)) bytes ≡ p
      as_read e = ap (λ (a : ℕ → ℕ). lone a bytes) (is_alias (good_left f cs)) ∙ e

  module _ (ds : List Call) (x : Stored) (rest : List ℕ) (e : lone (alias_of (reached roster cs)) bytes ≡ got x rest) where
    stays : ((accepted_of (left (offered (reached roster cs) bytes).recovery ds)).returned x.own ≡ true) × (record_of (left (offered (reached roster cs) bytes).recovery ds) x.own ≡ x)
    stays = taken_stays (good_left f cs) bytes t ds x rest (sym (ap (λ (a : ℕ → ℕ). lone a bytes) (is_alias (good_left f cs))) ∙ e)

    -- whatever calls come after it, its place's record is the one that was read: kind, own place, roster and mourned set
    pub taken_kept : record_of (left (offered (reached roster cs) bytes).recovery ds) x.own ≡ x
    taken_kept = stays.1

    -- and is what is written, in first serials
    pub taken_put : (out : List ℕ) (at : ℕ) → at + length (layout x) ≤ length out
        → written_of (left (offered (reached roster cs) bytes).recovery ds) x.own out at ≡ record { answer = Ok (at + length (layout x)); buffer = put_at at (layout x) out }
    taken_put out at l =
        lays_down (left (offered (reached roster cs) bytes).recovery ds) x.own stays.0 out at (rw taken_kept l)
        ∙ ap (λ (y : Stored). record { answer = Ok (at + length (layout y)); buffer = put_at at (layout y) out }) taken_kept

    -- so the bytes that were offered are written, if no second serial is among them
    pub taken_written : AllBytes bytes → lone itself bytes ≡ got x rest → layout (record_of (left (offered (reached roster cs) bytes).recovery ds) x.own) ≡ bytes
    taken_written h p = ap layout taken_kept ∙ sym (lone_layout bytes x rest h p)

-- ---- a record written is read as the one that was accepted

module _ {roster : List ℕ} {r : Recovery} (g : Good roster r) (p : ℕ) (b : (accepted_of r).returned p ≡ true) where
  returned_stored : IsStored (record_of r p)
  returned_stored = record_stored g p (rw (is_size g) at (returned_on r p b))

module _ {roster : List ℕ} (f : Free roster) (cs : List Call) (p : ℕ) (b : (accepted_of (reached roster cs)).returned p ≡ true)
    (out : List ℕ) (at : ℕ) (l : at + length (layout (record_of (reached roster cs) p)) ≤ length out) where
  buffer_is : (written_of (reached roster cs) p out at).buffer ≡ put_at at (layout (record_of (reached roster cs) p)) out
  buffer_is = ap (λ (w : Written). w.buffer) (lays_down (reached roster cs) p b out at l)

  pub written_read : (alias : ℕ → ℕ) → stored alias (drop at (written_of (reached roster cs) p out at).buffer)
      ≡ got (record_of (reached roster cs) p) (drop (at + length (layout (record_of (reached roster cs) p))) out)
  written_read alias =
      ap (λ (l : List ℕ). stored alias (drop at l)) buffer_is ∙ ap (stored alias) (drop_put at (layout (record_of (reached roster cs) p)) out l)
      ∙ read_layout alias (record_of (reached roster cs) p) (returned_stored (good_left f cs) p b) (drop (at + length (layout (record_of (reached roster cs) p))) out)

  -- as the reader answers
  pub written_reading : (alias : ℕ → ℕ) → reading alias (written_of (reached roster cs) p out at).buffer at
      ≡ reading_of (length out) at (got (record_of (reached roster cs) p) (drop (at + length (layout (record_of (reached roster cs) p))) out))
  written_reading alias = ap (λ (l : List ℕ). reading alias l at) buffer_is ∙ read_back alias (record_of (reached roster cs) p) (returned_stored (good_left f cs) p b) out at l

-- ---- a history shown is found to fit

-- what was shown
shown_holds : {roster : List ℕ} {A B : Ledger} {i : ℕ} {a b a' b' : List ℕ} → Dictates roster A (show i a b) (lent D.shown a' b') B
    → (F : History) × (G : History) × (16 * length roster ≤ length a) × (16 * length roster ≤ length b) × Disagree (length roster) A.accepted i F G × Holds (length roster) a a' F × Holds (length roster) b b' G
shown_holds (showed {F = F} {G = G} x u v d y z) = (F, G, u, v, d, y, z)

fits_said : (c : Result Bool Refusal) → checked_says c ≡ D.fits → c ≡ Ok true
unfolding checked_says
fits_said (Ok true) e = refl
fits_said (Ok false) e = let z : ◌≡◌ {A = ℕ} 0 1 = cc in absurd (omega arith)
fits_said (Err j) e = let z : ◌≡◌ {A = ℕ} 0 1 = cc in absurd (omega arith)

module _ {roster : List ℕ} {r : Recovery} (g : Good roster r) where
  -- a buffer whose rows fit
  fits_checked : (h : List ℕ) → 16 * length roster ≤ length h → Fits (length roster) (accepted_of r) (history_in (length roster) h) → checked r h ≡ Ok true
  unfolding outcome plain
  fits_checked h l f = fits_said (checked r h) (said (single g.fits (record { roster = g.sound; seconds = g.given }) (step g (check h)) (checked_fits l f) tt tt).0)
    where
      said : says (checked_says (checked r h)) ≡ says D.fits → checked_says (checked r h) ≡ D.fits
      said e = cc

  holds_checked : (a a' : List ℕ) (H : History) → 16 * length roster ≤ length a → Holds (length roster) a a' H → Fits (length roster) (accepted_of r) H → checked r a' ≡ Ok true
  holds_checked a a' H l y f =
      fits_checked a' (rw y.same_length l) (subst (Fits (length roster) (accepted_of r)) (sym (λ i p q. y.is_history p q i)) f)

  show_checked : (i : ℕ) (a b : List ℕ) → (shown r i a b).answer ≡ Ok S.Shown → (checked r (shown r i a b).first ≡ Ok true) × (checked r (shown r i a b).second ≡ Ok true)
  unfolding outcome shown_gives showing_says
  show_checked i a b e = (holds_checked a (shown r i a b).first w.0 w.2 w.5 w.4.first_fits, holds_checked b (shown r i a b).second w.1 w.3 w.6 w.4.second_fits)
    where
      shows : Dictates roster (ledger_of r) (show i a b) (lent D.shown (shown r i a b).first (shown r i a b).second) (ledger_of (next r (show i a b)))
      shows = subst (λ (s : Result Showing Refusal). Dictates roster (ledger_of r) (show i a b) (lent (showing_says s) (shown r i a b).first (shown r i a b).second) (ledger_of (next r (show i a b)))) e (step g (show i a b))

      w : (F : History) × (G : History) × (16 * length roster ≤ length a) × (16 * length roster ≤ length b) × Disagree (length roster) (accepted_of r) i F G
          × Holds (length roster) a (shown r i a b).first F × Holds (length roster) b (shown r i a b).second G
      w = shown_holds shows

pub shown_checked : {roster : List ℕ} → Free roster → (cs : List Call) (i : ℕ) (a b : List ℕ) → (shown (reached roster cs) i a b).answer ≡ Ok S.Shown
    → (checked (reached roster cs) (shown (reached roster cs) i a b).first ≡ Ok true) × (checked (reached roster cs) (shown (reached roster cs) i a b).second ≡ Ok true)
shown_checked f cs = show_checked (good_left f cs)
