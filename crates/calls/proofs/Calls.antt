-- What each call gives, case by case: one law for each case, as the code meets it. Assumes nothing.
use Rattle.refusals.specs.declared.Refusal.{Refusal}
use Rattle.refusals.specs.declared.Refusal.TheVariants as R
use Rattle.std.specs.Prelude.{Option, Some, None, Result, Ok, Err}
use mathlib.Core.Path.{◌≡◌, refl, sym, ap, ap₂, ◌∙◌}
use mathlib.Core.Bool.{Bool, true, false, not, cond, ◌&&◌}
use mathlib.Core.Logic.{◌⊎◌}
use mathlib.Core.List.{List}
use Prim.Native.Nat.{ℕ, ◌+◌, ◌*◌, ◌<◌, ◌≤◌}
use lib.ListN.{length, get_or}
use lib.Seq.{get_or-take}
use lib.Dec.{eqb, leb, ltb}
use borrow.Author.Tests.{lt-ltb, le-ltb, le-leb, lt-leb, eq-eqb, ne_eqb}
use Rattle.sets.specs.Sets.{below, difference, with, same, lowest}
use Rattle.sets.specs.PlaceSets.{has}
use Rattle.sets.proofs.Booleans.{is_false}
use Rattle.histories.specs.declared.Kind.{Kind}
use Rattle.histories.specs.Histories.{Row}
use Rattle.histories.specs.Rule.{Answer, is_last, not_last, is_open, before, accepts, fits_test}
use Rattle.histories.specs.Kept.{blockers_by, answer_by, settled_by}
use Rattle.rows.specs.Rows.{rows_of, history_in, laid}
use Rattle.layouts.specs.Layout.{got, refused, Stored, lone, layout}
use Rattle.layouts.specs.Records.{same_list, put_at, unwritten, written_at}
use Rattle.layouts.proofs.Lists.{same_list_elim}
use Rattle.calls.specs.declared.Recovery.{Recovery}
use Rattle.answers.specs.declared.Reply.TheVariants as O
use Rattle.answers.specs.Replies.{same_kind}
use Rattle.answers.proofs.Replies.{entering_back, entering_new}
use Rattle.answers.specs.declared.Showing.TheVariants as S
use Rattle.answers.specs.Shows.{unshown, replaced, shown_in}
use Rattle.answers.proofs.ShowCases as case
use Rattle.answers.specs.Lists as listing
use Rattle.answers.specs.Lists.{answer_byte, listed_in}
use Rattle.answers.proofs.Lists as lists
use Rattle.answers.specs.Fetches.{blocking_by, told}
use Rattle.answers.specs.Checks.{off_roster}
use Rattle.answers.specs.Groups.{alias_in, found_among, is_found, giving}
use Rattle.answers.proofs.Groups.{give_off, give_zero, give_known, give_has, give_new}
use Rattle.calls.specs.Promises.{size_of, roster_of, seconds_of, alias_of, accepted_of, of_group, saying, keeping, answered, entered, judged, offered_as, offered, answer_at, asked_as, asked, shown, checked_rows, checked, settled_of, blocking_of, fetching_of, unmourned_of, found_in, with_second, gave_as, given, record_of, written_of, listed_of}
use Rattle.calls.proofs.Facts.{same_list_self}

-- ---- offering

-- the record is of this recovery's group
pub group_elim : (r : Recovery) (x : Stored) → of_group r x ≡ true → x.roster ≡ roster_of r
unfolding of_group
group_elim r x e = same_list_elim x.roster (roster_of r) e

pub group_intro : (r : Recovery) (x : Stored) → x.roster ≡ roster_of r → of_group r x ≡ true
unfolding of_group
group_intro r x s = ap (same_list x.roster) (sym s) ∙ same_list_self x.roster

module _ (r : Recovery) (bytes : List ℕ) where
  pub offered_faulty : (j : Refusal) → lone (alias_of r) bytes ≡ refused j → offered r bytes ≡ saying r (Err j)
  unfolding offered offered_as
  offered_faulty j e = ap (offered_as r) e

  module _ (x : Stored) (rest : List ℕ) (e : lone (alias_of r) bytes ≡ got x rest) where
    pub offered_foreign : ¬ (x.roster ≡ roster_of r) → offered r bytes ≡ saying r (Err R.OtherGroup)
    unfolding offered offered_as judged
    offered_foreign z =
        ap (offered_as r) e ∙ ap (λ (b : Bool). cond b (entered r x.own x.kind x.mourned) (saying r (Err R.OtherGroup))) (is_false (of_group r x) (λ t. z (group_elim r x t)))

    pub offered_entered : x.roster ≡ roster_of r → offered r bytes ≡ entered r x.own x.kind x.mourned
    unfolding offered offered_as judged
    offered_entered s =
        ap (offered_as r) e ∙ ap (λ (b : Bool). cond b (entered r x.own x.kind x.mourned) (saying r (Err R.OtherGroup))) (group_intro r x s)

module _ (r : Recovery) {n : ℕ} (is : size_of r ≡ n) where
  module _ (p : ℕ) (k : Kind) (M : Row) where
    -- of one that is back
    pub entered_again : (accepted_of r).returned p ≡ true → (t : Bool) → same_kind k ((accepted_of r).kind p) && same n M ((accepted_of r).row p) ≡ t
        → entered r p k M ≡ saying r (cond t (Ok O.Repeated) (Err R.OtherRecord))
    unfolding entered answered accepted_of size_of
    entered_again b t e =
        ap (answered r p k M) (sym (entering_back r.count (has r.returned) (has r.full) r.rows p k M b))
        ∙ ap (λ (m : ℕ). answered r p k M (cond (same_kind k ((accepted_of r).kind p) && same m M ((accepted_of r).row p)) (Ok O.Repeated) (Err R.OtherRecord))) is
        ∙ ap (λ (c : Bool). answered r p k M (cond c (Ok O.Repeated) (Err R.OtherRecord))) e ∙ left t
      where
        left : (t : Bool) → answered r p k M (cond t (Ok O.Repeated) (Err R.OtherRecord)) ≡ saying r (cond t (Ok O.Repeated) (Err R.OtherRecord))
        left true = refl
        left false = refl

    -- of another
    pub entered_new : (accepted_of r).returned p ≡ false → (t : Bool) → accepts n (accepted_of r) p k M ≡ t
        → entered r p k M ≡ cond t (record { answer = Ok O.Taken; recovery = keeping r p k M }) (saying r (Err R.NoHistory))
    unfolding entered answered accepted_of size_of
    entered_new b t e =
        ap (answered r p k M) (sym (entering_new r.count (has r.returned) (has r.full) r.rows p k M b _ refl))
        ∙ ap (λ (m : ℕ). answered r p k M (cond (accepts m (accepted_of r) p k M) (Ok O.Taken) (Err R.NoHistory))) is
        ∙ ap (λ (c : Bool). answered r p k M (cond c (Ok O.Taken) (Err R.NoHistory))) e ∙ left t
      where
        left : (t : Bool)
            → answered r p k M (cond t (Ok O.Taken) (Err R.NoHistory)) ≡ cond t (record { answer = Ok O.Taken; recovery = keeping r p k M }) (saying r (Err R.NoHistory))
        left true = refl
        left false = refl

  -- ---- asking

  answer_is : (i : ℕ) → answer_at r i ≡ answer_by n (accepted_of r) (has r.mourned) (has r.earlier) i
  unfolding answer_at
  answer_is i = ap (λ (m : ℕ). answer_by m (accepted_of r) (has r.mourned) (has r.earlier) i) is

  pub asked_off : (i : ℕ) → n ≤ i → asked r i ≡ Err R.OffRoster
  unfolding asked
  asked_off i l = ap₂ (λ (m : ℕ) (a : Answer). cond (ltb i m) (asked_as a) (Err R.OffRoster)) is (answer_is i) ∙ ap (λ (b : Bool). cond b (asked_as (answer_by n (accepted_of r) (has r.mourned) (has r.earlier) i)) (Err R.OffRoster)) (le-ltb i n l)

  pub asked_is : (i : ℕ) (a : Answer) → i < n → answer_by n (accepted_of r) (has r.mourned) (has r.earlier) i ≡ a → asked r i ≡ asked_as a
  unfolding asked
  asked_is i a l e =
      ap₂ (λ (m : ℕ) (a : Answer). cond (ltb i m) (asked_as a) (Err R.OffRoster)) is (answer_is i ∙ e) ∙ ap (λ (b : Bool). cond b (asked_as a) (Err R.OffRoster)) (lt-ltb i n l)

  -- ---- listing

  module _ (out : List ℕ) where
    listed_is : listed_of r out ≡ listed_in n (accepted_of r) (has r.mourned) (has r.earlier) out
    unfolding listed_of
    listed_is = ap (λ (m : ℕ). listed_in m (accepted_of r) (has r.mourned) (has r.earlier) out) is

    pub listed_short : length out < n → listed_of r out ≡ record { answer = Err R.TooShort; buffer = out }
    listed_short l = listed_is ∙ lists.listed_short n (accepted_of r) (has r.mourned) (has r.earlier) out l

    pub listed_laid : n ≤ length out
        → listed_of r out ≡ record { answer = Ok tt; buffer = listing.laid n (λ i. answer_byte (answer_by n (accepted_of r) (has r.mourned) (has r.earlier) i)) out }
    listed_laid l = listed_is ∙ lists.listed_laid n (accepted_of r) (has r.mourned) (has r.earlier) out l

  -- ---- showing

  module _ (i : ℕ) (a b : List ℕ) where
    shown_is : shown r i a b ≡ shown_in n (accepted_of r) (has r.mourned) (has r.earlier) (rows_of r.rows) i a b
    unfolding shown
    shown_is = ap (λ (m : ℕ). shown_in m (accepted_of r) (has r.mourned) (has r.earlier) (rows_of r.rows) i a b) is

    pub shown_off : n ≤ i → shown r i a b ≡ unshown (Err R.OffRoster) a b
    shown_off l = shown_is ∙ case.shown_off n (accepted_of r) (has r.mourned) (has r.earlier) (rows_of r.rows) i a b l

    pub shown_last : i < n → answer_by n (accepted_of r) (has r.mourned) (has r.earlier) i ≡ is_last → shown r i a b ≡ unshown (Ok S.Decided) a b
    shown_last l e = shown_is ∙ case.shown_last n (accepted_of r) (has r.mourned) (has r.earlier) (rows_of r.rows) i a b l e

    pub shown_not : i < n → answer_by n (accepted_of r) (has r.mourned) (has r.earlier) i ≡ not_last → shown r i a b ≡ unshown (Ok S.Decided) a b
    shown_not l e = shown_is ∙ case.shown_not n (accepted_of r) (has r.mourned) (has r.earlier) (rows_of r.rows) i a b l e

    module _ (l : i < n) (e : answer_by n (accepted_of r) (has r.mourned) (has r.earlier) i ≡ is_open) where
      pub shown_short : (length a < 16 * n) ⊎ (length b < 16 * n) → shown r i a b ≡ unshown (Err R.TooShort) a b
      shown_short s = shown_is ∙ case.shown_short n (accepted_of r) (has r.mourned) (has r.earlier) (rows_of r.rows) i a b l e s

      pub shown_both : 16 * n ≤ length a → 16 * n ≤ length b
          → shown r i a b ≡ record { answer = Ok S.Shown; first = laid n (rows_of r.rows) a; second = laid n (replaced (rows_of r.rows) (lowest n (blockers_by n (accepted_of r) (has r.mourned) (has r.earlier) i)) (with i (before n (accepted_of r) i))) b }
      shown_both u v = shown_is ∙ case.shown_both n (accepted_of r) (has r.mourned) (has r.earlier) (rows_of r.rows) i a b l e u v

  -- ---- checking a lent history

  module _ (h : List ℕ) where
    pub checked_short : length h < 16 * n → checked r h ≡ Err R.TooShort
    unfolding checked
    checked_short l =
        ap (λ (m : ℕ). cond (leb (16 * m) (length h)) (checked_rows r (history_in m h)) (Err R.TooShort)) is ∙ ap (λ (t : Bool). cond t (checked_rows r (history_in n h)) (Err R.TooShort)) (lt-leb (16 * n) (length h) l)

    module _ (l : 16 * n ≤ length h) where
      rows_checked : checked r h ≡ cond (off_roster n (history_in n h)) (Err R.BitOffRoster) (Ok (fits_test n (accepted_of r) (history_in n h)))
      unfolding checked checked_rows
      rows_checked =
          ap (λ (m : ℕ). cond (leb (16 * m) (length h)) (cond (off_roster m (history_in m h)) (Err R.BitOffRoster) (Ok (fits_test m (accepted_of r) (history_in m h)))) (Err R.TooShort)) is
          ∙ ap (λ (t : Bool). cond t (cond (off_roster n (history_in n h)) (Err R.BitOffRoster) (Ok (fits_test n (accepted_of r) (history_in n h)))) (Err R.TooShort)) (le-leb (16 * n) (length h) l)

      pub checked_off : off_roster n (history_in n h) ≡ true → checked r h ≡ Err R.BitOffRoster
      checked_off e = rows_checked ∙ ap (λ (t : Bool). cond t (Err R.BitOffRoster) (Ok (fits_test n (accepted_of r) (history_in n h)))) e

      pub checked_on : off_roster n (history_in n h) ≡ false → (t : Bool) → fits_test n (accepted_of r) (history_in n h) ≡ t → checked r h ≡ Ok t
      checked_on e t f = rows_checked ∙ ap₂ (λ (o t : Bool). cond o (Err R.BitOffRoster) (Ok t)) e f

  -- ---- the whole, the two sets and the number

  pub settled_is : settled_of r ≡ settled_by n (accepted_of r) (has r.mourned) (has r.earlier)
  unfolding settled_of
  settled_is = ap (λ (m : ℕ). settled_by m (accepted_of r) (has r.mourned) (has r.earlier)) is

  pub blocking_is : blocking_of r ≡ blocking_by n (accepted_of r) (has r.mourned) (has r.earlier)
  unfolding blocking_of
  blocking_is = ap (λ (m : ℕ). blocking_by m (accepted_of r) (has r.mourned) (has r.earlier)) is

  pub fetching_is : fetching_of r ≡ told n (blocking_of r)
  unfolding fetching_of
  fetching_is = ap (λ (m : ℕ). told m (blocking_of r)) is

  pub unmourned_is : unmourned_of r ≡ difference (below n) (has r.mourned)
  unfolding unmourned_of
  unmourned_is = ap (λ (m : ℕ). difference (below m) (has r.mourned)) is

  -- ---- writing a returned record

  module _ (p : ℕ) (out : List ℕ) (at : ℕ) where
    pub written_off : n ≤ p → written_of r p out at ≡ unwritten R.OffRoster out
    unfolding written_of
    written_off l =
        ap (λ (m : ℕ). cond (ltb p m) (cond ((accepted_of r).returned p) (written_at (layout (record_of r p)) out at) (unwritten R.NotAllowed out)) (unwritten R.OffRoster out)) is
        ∙ ap (λ (t : Bool). cond t (cond ((accepted_of r).returned p) (written_at (layout (record_of r p)) out at) (unwritten R.NotAllowed out)) (unwritten R.OffRoster out)) (le-ltb p n l)

    module _ (l : p < n) where
      written_on : (t : Bool) → (accepted_of r).returned p ≡ t → written_of r p out at ≡ cond t (written_at (layout (record_of r p)) out at) (unwritten R.NotAllowed out)
      unfolding written_of
      written_on t b =
          ap₂ (λ (m : ℕ) (t : Bool). cond (ltb p m) (cond t (written_at (layout (record_of r p)) out at) (unwritten R.NotAllowed out)) (unwritten R.OffRoster out)) is b
          ∙ ap (λ (c : Bool). cond c (cond t (written_at (layout (record_of r p)) out at) (unwritten R.NotAllowed out)) (unwritten R.OffRoster out)) (lt-ltb p n l)

      pub written_absent : (accepted_of r).returned p ≡ false → written_of r p out at ≡ unwritten R.NotAllowed out
      written_absent b = written_on false b

      pub written_short : (accepted_of r).returned p ≡ true → length out < at + length (layout (record_of r p)) → written_of r p out at ≡ unwritten R.TooShort out
      unfolding written_at
      written_short b u =
          written_on true b
          ∙ ap (λ (t : Bool). cond t (record { answer = Ok (at + length (layout (record_of r p))); buffer = put_at at (layout (record_of r p)) out }) (unwritten R.TooShort out)) (lt-leb (at + length (layout (record_of r p))) (length out) u)

      pub written_at_lem : (accepted_of r).returned p ≡ true → at + length (layout (record_of r p)) ≤ length out
          → written_of r p out at ≡ record { answer = Ok (at + length (layout (record_of r p))); buffer = put_at at (layout (record_of r p)) out }
      unfolding written_at
      written_at_lem b u =
          written_on true b
          ∙ ap (λ (t : Bool). cond t (record { answer = Ok (at + length (layout (record_of r p))); buffer = put_at at (layout (record_of r p)) out }) (unwritten R.TooShort out)) (le-leb (at + length (layout (record_of r p))) (length out) u)

-- ---- giving a place a second serial

module _ (r : Recovery) (p x : ℕ) where
  gave : {v : Result (Unit {0}) Refusal} → v ≡ giving r.count r.serials r.seconds p x → given r p x ≡ gave_as r p x v
  unfolding given
  gave e = ap (gave_as r p x) (sym e)

  pub given_off : size_of r ≤ p → given r p x ≡ record { answer = Err R.OffRoster; recovery = r }
  unfolding gave_as size_of
  given_off l = gave (give_off r.count r.serials r.seconds p x l)

  module _ (on : p < size_of r) where
    pub given_zero : x ≡ 0 → given r p x ≡ record { answer = Err R.ZeroSerial; recovery = r }
    unfolding gave_as size_of
    given_zero z = gave (give_zero r.count r.serials r.seconds p x on z)

    module _ (z : ¬ (x ≡ 0)) where
      pub given_known : is_found (found_in r x) ≡ true → given r p x ≡ record { answer = Err R.KnownSerial; recovery = r }
      unfolding gave_as size_of found_in alias_of roster_of seconds_of found_among alias_in
      given_known e = gave (give_known r.count r.serials r.seconds p x on z e)

      module _ (e : is_found (found_in r x) ≡ false) where
        taken : ℕ → Bool
        taken y = not (eqb y 0)

        pub given_has : ¬ (get_or (seconds_of r) p 0 ≡ 0) → given r p x ≡ record { answer = Err R.KnownSerial; recovery = r }
        unfolding gave_as size_of found_in alias_of roster_of seconds_of found_among alias_in taken
        given_has h = gave (give_has r.count r.serials r.seconds p x on z e (ap taken (sym (get_or-take (size_of r) r.seconds p 0 on)) ∙ ap not (ne_eqb (get_or (seconds_of r) p 0) 0 h)))

        pub given_new : get_or (seconds_of r) p 0 ≡ 0 → given r p x ≡ record { answer = Ok tt; recovery = with_second r p x }
        unfolding gave_as size_of found_in alias_of roster_of seconds_of found_among alias_in taken
        given_new h = gave (give_new r.count r.serials r.seconds p x on z e (ap taken (sym (get_or-take (size_of r) r.seconds p 0 on)) ∙ ap not (eq-eqb (get_or (seconds_of r) p 0) 0 h)))
