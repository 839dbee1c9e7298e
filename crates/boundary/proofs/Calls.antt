-- What each call on a recovery in the caller's memory gives: one law for each way in which the code returns. Assumes nothing.
use Rattle.refusals.specs.declared.Refusal.{Refusal}
use Rattle.refusals.specs.Numbers.{number}
use Rattle.std.specs.Prelude.{Option, Result, Ok, Err}
use mathlib.Core.Path.{◌≡◌, refl, sym, ap, ◌∙◌}
use mathlib.Core.Bool.{Bool, true, false}
use mathlib.Core.List.{List}
use Prim.Native.Nat.{ℕ, ◌*◌, ◌≤◌, ◌<◌}
use lib.ListN.{length, set, get_or}
use Rattle.sets.specs.Sets as sets
use Rattle.sets.specs.Sets.{Places}
use Rattle.sets.specs.PlaceSets.{has, Words}
use Rattle.sets.specs.declared.PlaceSet.{PlaceSet}
use Rattle.sets.proofs.Laws.{packed_is, kept_has}
use Rattle.histories.specs.Histories.{Accepted}
use Rattle.histories.specs.Rule as rule
use Rattle.histories.specs.Kept as kept
use Rattle.serials.specs.declared.Finding.{Finding}
use Rattle.rows.specs.Rows.{rows_of, history_in}
use Rattle.answers.specs.Views.{size, accepted_in, answer_of}
use Rattle.answers.specs.declared.Answer.{Answer}
use Rattle.answers.specs.Groups.{alias_in, found_among, giving}
use Rattle.answers.specs.Checks.{off_roster}
use Rattle.answers.specs.Shows.{Shown, shown_in}
use Rattle.answers.specs.Lists.{ListedAll, listed_in}
use Rattle.answers.specs.declared.Showing.{Showing}
use Rattle.calls.specs.declared.Recovery.{Recovery}
use Rattle.calls.specs.declared.Gave.{Gave}
use Rattle.calls.specs.Promises.{size_of, roster_of, seconds_of, alias_of, accepted_of, asked, shown, checked, settled_of, unmourned_of, unmourned_absent_of, unmourned_count_of, found_in, with_second, gave_as, given, listed_of}
use Rattle.calls.proofs.Calls.{asked_off, checked_short, checked_off, checked_on}
use Rattle.calls.proofs.Gives.{asked_on, absent_set, count_set}
use Rattle.boundary.specs.declared.Head.{Head}
use Rattle.boundary.specs.declared.FoundNow.{FoundNow}
use Rattle.boundary.specs.Words.{set_at, set_words, yes_code}
use Rattle.boundary.specs.Recoveries.{recovery_in, asked_code, showing_code, listing_code, checked_code, found_of, giving_code, words_of}

-- what nine words say
abbrev pub Says : List ℕ → Head → Type 0
Says head h = (h.count ≡ get_or head 0 0) × ((h.returned ≡ set_at head 1) × ((h.full ≡ set_at head 3) × ((h.mourned ≡ set_at head 5) × (h.earlier ≡ set_at head 7))))

-- the recovery of what they say is the one in memory
abbrev pub parts_of : Head → List ℕ → List ℕ → List ℕ → Recovery
parts_of h serials seconds rows = record {
  count = h.count;
  serials = serials;
  seconds = seconds;
  returned = h.returned;
  full = h.full;
  mourned = h.mourned;
  earlier = h.earlier;
  rows = rows;
}

pub held : (head : List ℕ) (h : Head) → Says head h → (serials seconds rows : List ℕ) → parts_of h serials seconds rows ≡ recovery_in head serials seconds rows
unfolding recovery_in
held head h (n, (b, (f, (m, e)))) serials seconds rows = λ i. record {
  count = n i;
  serials = serials;
  seconds = seconds;
  returned = b i;
  full = f i;
  mourned = m i;
  earlier = e i;
  rows = rows;
}

-- the records taken, and what showing gives, by what they say
abbrev accepted_at : Head → List ℕ → Accepted
accepted_at h rows = accepted_in h.count (has h.returned) (has h.full) rows

abbrev shown_at : Head → List ℕ → ℕ → List ℕ → List ℕ → Shown
shown_at h rows p a b = shown_in (size h.count) (accepted_at h rows) (has h.mourned) (has h.earlier) (rows_of rows) p a b

abbrev listed_at : Head → List ℕ → List ℕ → ListedAll
listed_at h rows out = listed_in (size h.count) (accepted_at h rows) (has h.mourned) (has h.earlier) out

-- the words of a set are those of its places
words_are : (s : PlaceSet) (S : Places) → Words s → has s ≡ S → set_words s ≡ words_of S
unfolding words_of
words_are s S w e = ap set_words (packed_is s (has s) w (sym (kept_has s))) ∙ ap words_of e

module _ (head : List ℕ) (h : Head) (says : Says head h) (serials seconds rows : List ℕ) where
  abbrev parts : Recovery
  parts = parts_of h serials seconds rows

  abbrev accepted : Accepted
  accepted = accepted_at h rows

  in_memory : parts ≡ recovery_in head serials seconds rows
  in_memory = held head h says serials seconds rows

  -- ---- asking

  pub ask_off : (p : ℕ) → size h.count ≤ p → 12 ≡ asked_code (asked (recovery_in head serials seconds rows) p)
  unfolding size_of asked_code
  ask_off p l = ap asked_code (sym (asked_off parts refl p l)) ∙ ap (λ (r : Recovery). asked_code (asked r p)) in_memory

  pub ask_on : (p : ℕ) → p < size h.count → (a : Answer) → a ≡ answer_of (kept.answer_by (size h.count) accepted (has h.mourned) (has h.earlier) p)
      → asked_code (Ok a) ≡ asked_code (asked (recovery_in head serials seconds rows) p)
  unfolding size_of accepted_of
  ask_on p l a e = ap asked_code (asked_on parts (size h.count) refl p l a e) ∙ ap (λ (r : Recovery). asked_code (asked r p)) in_memory

  -- ---- the whole, the two sets and the number

  pub settled_is : (t : Bool) → t ≡ kept.settled_by (size h.count) accepted (has h.mourned) (has h.earlier) → yes_code t ≡ yes_code (settled_of (recovery_in head serials seconds rows))
  unfolding settled_of size_of accepted_of
  settled_is t e = ap yes_code e ∙ ap (λ (r : Recovery). yes_code (settled_of r)) in_memory

  module _ (u : PlaceSet) (e : has u ≡ sets.difference (sets.below (size h.count)) (has h.mourned)) where
    all : has u ≡ unmourned_of parts
    unfolding unmourned_of size_of accepted_of
    all = e

    pub unmourned_is : Words u → set_words u ≡ words_of (unmourned_of (recovery_in head serials seconds rows))
    unmourned_is w = words_are u (unmourned_of parts) w all ∙ ap (λ (r : Recovery). words_of (unmourned_of r)) in_memory

    pub absent_is : (d : PlaceSet) → Words d → has d ≡ sets.difference (has u) (has h.returned) → set_words d ≡ words_of (unmourned_absent_of (recovery_in head serials seconds rows))
    absent_is d w f = words_are d (unmourned_absent_of parts) w (absent_set parts u d all f) ∙ ap (λ (r : Recovery). words_of (unmourned_absent_of r)) in_memory

    pub count_is : (c : ℕ) → c ≡ sets.count 128 (has u) → c ≡ unmourned_count_of (recovery_in head serials seconds rows)
    count_is c f = count_set parts u c all f ∙ ap unmourned_count_of in_memory

  -- ---- checking a lent history

  module _ (lent : List ℕ) where
    pub check_short : length lent < 16 * size h.count → 13 ≡ checked_code (checked (recovery_in head serials seconds rows) lent)
    unfolding size_of checked_code
    check_short l = ap checked_code (sym (checked_short parts refl lent l)) ∙ ap (λ (r : Recovery). checked_code (checked r lent)) in_memory

    pub check_off : 16 * size h.count ≤ length lent → off_roster (size h.count) (history_in (size h.count) lent) ≡ true → 15 ≡ checked_code (checked (recovery_in head serials seconds rows) lent)
    unfolding size_of checked_code
    check_off l o = ap checked_code (sym (checked_off parts refl lent l o)) ∙ ap (λ (r : Recovery). checked_code (checked r lent)) in_memory

    pub check_on : 16 * size h.count ≤ length lent → off_roster (size h.count) (history_in (size h.count) lent) ≡ false
        → (t : Bool) → rule.fits_test (size h.count) accepted (history_in (size h.count) lent) ≡ t
        → checked_code (Ok t) ≡ checked_code (checked (recovery_in head serials seconds rows) lent)
    unfolding size_of accepted_of
    check_on l o t f = ap checked_code (sym (checked_on parts refl lent l o t f)) ∙ ap (λ (r : Recovery). checked_code (checked r lent)) in_memory

  -- ---- showing

  shown_is : (p : ℕ) (a b : List ℕ) → shown_at h rows p a b ≡ shown (recovery_in head serials seconds rows) p a b
  unfolding shown size_of accepted_of
  shown_is p a b = ap (λ (r : Recovery). shown r p a b) in_memory

  -- ---- listing

  listed_is : (out : List ℕ) → listed_at h rows out ≡ listed_of (recovery_in head serials seconds rows) out
  unfolding listed_of size_of accepted_of
  listed_is out = ap (λ (r : Recovery). listed_of r out) in_memory

  -- ---- the place of a serial

  pub found_is : (x : ℕ) (e : FoundNow) (f : Option Finding) → e ≡ found_of f → f ≡ found_among h.count serials seconds x → e ≡ found_of (found_in (recovery_in head serials seconds rows) x)
  unfolding found_in alias_of roster_of seconds_of size_of found_among alias_in
  found_is x e f c is = c ∙ ap found_of is ∙ ap (λ (r : Recovery). found_of (found_in r x)) in_memory

  -- ---- giving a place a second serial

  module _ (p x : ℕ) (v : Result (Unit {0}) Refusal) (is : v ≡ giving h.count serials seconds p x) where
    given_is : gave_as parts p x v ≡ given (recovery_in head serials seconds rows) p x
    unfolding given
    given_is = ap (gave_as parts p x) is ∙ ap (λ (r : Recovery). given r p x) in_memory

    pub gives_given : v ≡ Ok tt → (t : List ℕ) → t ≡ set seconds p x
        → (0 ≡ giving_code (given (recovery_in head serials seconds rows) p x).answer) × (t ≡ (given (recovery_in head serials seconds rows) p x).recovery.seconds)
    unfolding gave_as with_second giving_code
    gives_given e t f =
        let g : gave_as parts p x (Ok tt) ≡ given (recovery_in head serials seconds rows) p x = ap (gave_as parts p x) (sym e) ∙ given_is in
        (ap (λ (w : Gave). giving_code w.answer) g, f ∙ ap (λ (w : Gave). w.recovery.seconds) g)

    pub gives_refused : (j : Refusal) → v ≡ Err j
        → (number j ≡ giving_code (given (recovery_in head serials seconds rows) p x).answer) × (seconds ≡ (given (recovery_in head serials seconds rows) p x).recovery.seconds)
    unfolding gave_as giving_code
    gives_refused j e =
        let g : gave_as parts p x (Err j) ≡ given (recovery_in head serials seconds rows) p x = ap (gave_as parts p x) (sym e) ∙ given_is in
        (ap (λ (w : Gave). giving_code w.answer) g, ap (λ (w : Gave). w.recovery.seconds) g)

-- the number and the buffer
pub lists_are : (head : List ℕ) (h : Head) → Says head h → (rows out : List ℕ) (x : Result (Unit {0}) Refusal) (c : ℕ) (after : List ℕ) → c ≡ listing_code x
    → (x ≡ (listed_at h rows out).answer) × (after ≡ (listed_at h rows out).buffer)
    → ((serials seconds : List ℕ) → c ≡ listing_code (listed_of (recovery_in head serials seconds rows) out).answer)
    × ((serials seconds : List ℕ) → after ≡ (listed_of (recovery_in head serials seconds rows) out).buffer)
lists_are head h says rows out x c after code (e, f) =
    (λ t u. code ∙ ap listing_code (e ∙ ap (λ (w : ListedAll). w.answer) (is t u)), λ t u. f ∙ ap (λ (w : ListedAll). w.buffer) (is t u))
  where
    is : (t u : List ℕ) → listed_at h rows out ≡ listed_of (recovery_in head t u rows) out
    is t u = listed_is head h says t u rows out

-- the number and both buffers
pub shows_are : (head : List ℕ) (h : Head) → Says head h → (rows : List ℕ) (p : ℕ) (a b : List ℕ) (x : Result Showing Refusal) (c : ℕ) (first second : List ℕ) → c ≡ showing_code x
    → (x ≡ (shown_at h rows p a b).answer) × ((first ≡ (shown_at h rows p a b).first) × (second ≡ (shown_at h rows p a b).second))
    → ((serials seconds : List ℕ) → c ≡ showing_code (shown (recovery_in head serials seconds rows) p a b).answer)
    × (((serials seconds : List ℕ) → first ≡ (shown (recovery_in head serials seconds rows) p a b).first) × ((serials seconds : List ℕ) → second ≡ (shown (recovery_in head serials seconds rows) p a b).second))
shows_are head h says rows p a b x c first second code (e, (f, g)) =
    (λ t u. code ∙ ap showing_code (e ∙ ap (λ (w : Shown). w.answer) (is t u)), (λ t u. f ∙ ap (λ (w : Shown). w.first) (is t u), λ t u. g ∙ ap (λ (w : Shown). w.second) (is t u)))
  where
    is : (t u : List ℕ) → shown_at h rows p a b ≡ shown (recovery_in head t u rows) p a b
    is t u = shown_is head h says t u rows p a b
