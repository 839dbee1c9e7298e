-- Document 02, [6], proved: the number of fetches that is told is enough, whatever is handed over, and no smaller one is. Assumes nothing.
use Rattle.refusals.specs.declared.Refusal.{Refusal}
use Rattle.std.specs.Prelude.{Option, Some, None, Result, Ok, Err}
use mathlib.Core.Path.{◌≡◌, refl, sym, ap, ◌∙◌, subst}
use mathlib.Core.Bool.{true, false, not}
use mathlib.Core.Logic.{◌⊎◌, inl, inr}
use mathlib.Core.List.{List, []}
use Prim.Native.Nat.{ℕ, zero, suc, ◌<◌, ◌≤◌}
use native.Mathlib.Omega.{arith}
use lib.ListN.{length}
use lib.Dec.{eqb}
use borrow.Author.Tests.{ne_eqb}
use Rattle.sets.specs.Sets.{nothing, without, any, count, lowest}
use Rattle.sets.proofs.Booleans.{split, clash, both_ways, minus_elim, minus_intro}
use Rattle.sets.proofs.Tests.{any_elim, any_intro, any_none, lowest_below, lowest_member}
use Rattle.sets.proofs.Counting.{count_same, count_nothing, count_subset, count_without, count_some}
use Rattle.histories.specs.declared.Kind.{Kind}
use Rattle.histories.specs.declared.Kind.TheVariants.{Full}
use Rattle.histories.specs.Histories.{Row, Accepted, lay}
use Rattle.histories.proofs.Fewer.{Within, within_trans}
use Rattle.answers.specs.Fetches.{blocking, told}
use Rattle.answers.proofs.Fetches.{settled_told}
use Rattle.answers.proofs.Gathering.{blocking_absent}
use Rattle.answers.proofs.Records.{fewer_block, back_blocks_none, empty_fits, empty_takes_off}
use Rattle.layouts.specs.Layout.{got, Stored, lone, layout}
use Rattle.layouts.proofs.Layouts.{IsStored}
use Rattle.layouts.proofs.Trips.{layout_lone}
use Rattle.answers.specs.declared.Reply.{Reply}
use Rattle.answers.specs.declared.Reply.TheVariants as O
use Rattle.calls.specs.declared.Recovery.{Recovery}
use Rattle.calls.specs.Promises.{size_of, roster_of, seconds_of, alias_of, accepted_of, offered, settled_of, blocking_of, fetching_of}
use Rattle.calls.specs.Demand as D
use Rattle.calls.specs.Demand.{Free, Call, offer, Ledger, says, OfGroup, takes}
use Rattle.calls.specs.Run.{offer_says, outcome, ledger_of, left, reached}
use Rattle.calls.specs.Run as run
use Rattle.calls.proofs.Keeps.{kept_blocking}
use Rattle.calls.proofs.Demand.{Good, is_roster, is_size, is_alias, step, good_after, good_left}
use Rattle.calls.proofs.Single.{plain, single, same_record}
use Rattle.calls.proofs.Dictated.{within_left}
use Rattle.calls.proofs.Later.{offered_good, offered_enters, offered_within}
use Rattle.games.specs.Fetched.{number, Absent, HandedOver, empty_record, SettledWithin, done, fetch, OpenBeyond}

-- ---- what is told, of any recovery whatever

module _ (r : Recovery) where
  -- the whole is settled just where nobody blocks
  settled_is : settled_of r ≡ not (any (size_of r) (blocking_of r))
  unfolding settled_of blocking_of
  settled_is = settled_told (size_of r) (accepted_of r) _ _

  -- who blocks is absent
  pub blocks_absent : (b : ℕ) → blocking_of r b ≡ true → Absent r b
  unfolding blocking_of
  blocks_absent = blocking_absent (size_of r) (accepted_of r) _ _

  pub some_blocks : any (size_of r) (blocking_of r) ≡ true → (settled_of r ≡ false) × (fetching_of r ≡ Some (record { number = count (size_of r) (blocking_of r); next = record { 0 = lowest (size_of r) (blocking_of r) } }))
  unfolding fetching_of told
  some_blocks e = (settled_is ∙ ap not e, rw e)

  pub none_blocks : any (size_of r) (blocking_of r) ≡ false → (settled_of r ≡ true) × (fetching_of r ≡ None) × (count (size_of r) (blocking_of r) ≡ 0)
  unfolding fetching_of told
  none_blocks e = (settled_is ∙ ap not e, rw e, count_same (size_of r) (blocking_of r) nothing (any_none (size_of r) (blocking_of r) e) ∙ count_nothing (size_of r))

  -- the number told is that of the places that block some unmourned place
  pub number_is : number (fetching_of r) ≡ count (size_of r) (blocking_of r)
  unfolding number
  number_is = go (split (any (size_of r) (blocking_of r)))
    where
      go : (any (size_of r) (blocking_of r) ≡ true) ⊎ (any (size_of r) (blocking_of r) ≡ false) → number (fetching_of r) ≡ count (size_of r) (blocking_of r)
      go (inl e) = ap number (some_blocks e).1
      go (inr e) = let w = none_blocks e in ap number w.1 ∙ sym w.2

taken_said : (a : Result Reply Refusal) → says (offer_says a) ≡ says D.taken → a ≡ Ok O.Taken
unfolding offer_says
taken_said (Ok O.Taken) e = refl
taken_said (Ok O.Repeated) e = let z : ◌≡◌ {A = ℕ} 0 1 = cc in absurd (omega arith)
taken_said (Err j) e = let z : ◌≡◌ {A = ℕ} 0 1 = cc in absurd (omega arith)

-- ---- one fetch

module _ {roster : List ℕ} {r : Recovery} (g : Good roster r) where
  module _ {p : ℕ} {bytes : List ℕ} (h : HandedOver r p bytes) where
    -- the fetched place is back
    pub handed_back : (accepted_of (offered r bytes).recovery).returned p ≡ true
    handed_back =
        let w = offered_enters g bytes h.accepted in
        let e : h.stored ≡ w.stored = same_record h.reads (ap (λ (a : ℕ → ℕ). lone a bytes) (is_alias g) ∙ w.is_of_group.reads) in
        subst (λ (q : ℕ). (accepted_of (offered r bytes).recovery).returned q ≡ true) (sym (ap (λ (x : Stored). x.own) e) ∙ h.own) w.back

    -- and whatever is called then, those who block blocked before, and the fetched place does not
    module _ (cs : List Call) where
      pub good_then : Good roster (left (offered r bytes).recovery cs)
      good_then = good_after (offered_good g bytes) cs

      pub handed_takes_off : (b : ℕ) → blocking_of (left (offered r bytes).recovery cs) b ≡ true → without p (blocking_of r) b ≡ true
      handed_takes_off b e = minus_intro (ap (λ (S : Row). S b) (kept_blocking g.held g.fits) ∙ fewer_block (within_trans (offered_within g bytes) more) good_then.fits b now) (ne_eqb b p other)
        where
          n : ℕ
          n = length roster

          A : Accepted
          A = accepted_of (left (offered r bytes).recovery cs)

          more : Within (accepted_of (offered r bytes).recovery) A
          more = within_left (offered_good g bytes) cs

          now : blocking n A b ≡ true
          now = sym (ap (λ (S : Row). S b) (kept_blocking good_then.held good_then.fits)) ∙ e

          other : b ≡ p → ⊥
          other q = clash now (back_blocks_none good_then.fits b (more.returned b (rw q handed_back)))

  -- ---- the record of a place with some mourned set, in first serials, and an empty one

  pub group_reads : (p : ℕ) (k : Kind) (M : Row) → p < length roster → ((q : ℕ) → M q ≡ true → q < length roster)
      → lone (alias_of r) (layout (record { kind = k; own = p; roster = roster_of r; mourned = M })) ≡ got (record { kind = k; own = p; roster = roster_of r; mourned = M }) []
  group_reads p k M on inside =
      layout_lone (alias_of r) (record { kind = k; own = p; roster = roster_of r; mourned = M })
      (subst (λ (s : List ℕ). IsStored (record { kind = k; own = p; roster = s; mourned = M })) (sym (is_roster g)) (record { roster = g.sound; below = g.below; own = on; mourned = inside }))

  module _ (p : ℕ) (k : Kind) (absent : Absent r p) where
    abbrev empty : Stored
    empty = record { kind = k; own = p; roster = roster_of r; mourned = nothing }

    on : p < length roster
    on = rw (is_size g) at absent.0

    empty_reads : lone (alias_of r) (empty_record r p k) ≡ got empty []
    unfolding empty_record
    empty_reads = group_reads p k nothing on (λ q e. clash e refl)

    empty_of_group : OfGroup roster (seconds_of r) (empty_record r p k) empty
    empty_of_group = record { rest = []; reads = ap (λ (a : ℕ → ℕ). lone a (empty_record r p k)) (sym (is_alias g)) ∙ empty_reads; same_roster = is_roster g }

    -- so it is taken, and lies on the others
    taken_lays : (says (offer_says (offered r (empty_record r p k)).answer) ≡ says D.taken) × (ledger_of (offered r (empty_record r p k)).recovery ≡ record { accepted = lay (accepted_of r) p k nothing; seconds = seconds_of r })
    unfolding outcome run.next plain
    taken_lays =
        single g.fits (record { roster = g.sound; seconds = g.given }) (step g (offer (empty_record r p k)))
        (takes empty_of_group absent.1 (empty_fits (accepted_of r) p k absent.1 g.fits)) tt tt

    -- an empty record is never refused
    pub empty_taken : (offered r (empty_record r p k)).answer ≡ Ok O.Taken
    empty_taken = taken_said (offered r (empty_record r p k)).answer taken_lays.0

    pub empty_handed : HandedOver r p (empty_record r p k)
    empty_handed = record { stored = empty; rest = []; reads = empty_reads; own = refl; accepted = inl empty_taken }

    -- and it takes just its place off those who block
    pub empty_takes_one : blocking_of (offered r (empty_record r p k)).recovery ≡ without p (blocking_of r)
    empty_takes_one =
        kept_blocking next.held next.fits ∙ ap (blocking (length roster)) (ap (λ (A : Ledger). A.accepted) taken_lays.1)
        ∙ empty_takes_off (accepted_of r) p k absent.1 g.fits on ∙ ap (without p) (sym (kept_blocking g.held g.fits))
      where
        next : Good roster (offered r (empty_record r p k)).recovery
        next = offered_good g (empty_record r p k)

-- ---- enough

-- where some place is told, a fetch of it leaves fewer who block
module _ {roster : List ℕ} {r : Recovery} (g : Good roster r) (some : any (size_of r) (blocking_of r) ≡ true) where
  abbrev p : ℕ
  p = lowest (size_of r) (blocking_of r)

  next_blocks : blocking_of r p ≡ true
  next_blocks = let w = any_elim (size_of r) (blocking_of r) some in lowest_member (size_of r) (blocking_of r) (lowest_below (size_of r) (blocking_of r) w.0 w.1 w.2)

  one_fewer : count (size_of r) (blocking_of r) ≡ suc (count (size_of r) (without p (blocking_of r)))
  one_fewer = count_without (size_of r) (blocking_of r) p (blocks_absent r p next_blocks).0 next_blocks

  fetch_first : {k : ℕ} → count (size_of r) (blocking_of r) ≤ suc k
      → ((s : Recovery) → Good roster s → count (size_of s) (blocking_of s) ≤ k → SettledWithin k s) → SettledWithin (suc k) r
  fetch_first {k} l then = fetch (some_blocks r some).1 absent (empty_record r p Full, empty_handed g p Full absent) (λ bytes h cs. then (left (offered r bytes).recovery cs) (good_then g h cs) (less bytes h cs))
    where
      absent : Absent r p
      absent = blocks_absent r p next_blocks

      less : (bytes : List ℕ) (h : HandedOver r p bytes) (cs : List Call) → count (size_of (left (offered r bytes).recovery cs)) (blocking_of (left (offered r bytes).recovery cs)) ≤ k
      less bytes h cs =
          let m = count_subset (size_of r) (blocking_of (left (offered r bytes).recovery cs)) (without p (blocking_of r)) (λ b _. handed_takes_off g h cs b) in
          rw (is_size (good_then g h cs) ∙ sym (is_size g)) (omega (arith, one_fewer, m))

enough_from : {roster : List ℕ} (k : ℕ) (r : Recovery) → Good roster r → count (size_of r) (blocking_of r) ≤ k → SettledWithin k r
enough_from zero r g l = go (split (any (size_of r) (blocking_of r)))
  where
    go : (any (size_of r) (blocking_of r) ≡ true) ⊎ (any (size_of r) (blocking_of r) ≡ false) → SettledWithin 0 r
    go (inl e) = absurd (omega (arith, one_fewer g e))
    go (inr e) = done (none_blocks r e).0
enough_from {roster} (suc k) r g l = go (enough_from k) (split (any (size_of r) (blocking_of r)))
  where
    go : ((s : Recovery) → Good roster s → count (size_of s) (blocking_of s) ≤ k → SettledWithin k s) → (any (size_of r) (blocking_of r) ≡ true) ⊎ (any (size_of r) (blocking_of r) ≡ false) → SettledWithin (suc k) r
    go then (inl e) = fetch_first g e l then
    go then (inr e) = done (none_blocks r e).0

-- ---- needed

-- a place more or less
pub count_fewer : (n : ℕ) (S : Row) (p : ℕ) → p < n → count n S ≤ suc (count n (without p S))
count_fewer n S p l = go (split (S p))
  where
    kept : S p ≡ false → (q : ℕ) → q < n → S q ≡ without p S q
    kept e q _ = both_ways (S q) (without p S q) (λ t. minus_intro t (ne_eqb q p (λ h. clash (rw h at t) e))) (λ t. (minus_elim (S q) (eqb q p) t).0)

    go : (S p ≡ true) ⊎ (S p ≡ false) → count n S ≤ suc (count n (without p S))
    go (inl e) = omega (arith, count_without n S p l e)
    go (inr e) = omega (arith, count_same n S (without p S) (kept e))

-- where some place blocks, the whole is not settled
open_still : (r : Recovery) → 0 < count (size_of r) (blocking_of r) → settled_of r ≡ false
open_still r l = let w = count_some (size_of r) (blocking_of r) l in (some_blocks r (any_intro (size_of r) (blocking_of r) w.0 w.1 w.2)).0

-- an empty record leaves one fewer at most
module _ {roster : List ℕ} {r : Recovery} (g : Good roster r) (p : ℕ) (absent : Absent r p) where
  after_empty : Recovery
  after_empty = (offered r (empty_record r p Full)).recovery

  many_left : count (size_of r) (blocking_of r) ≤ suc (count (size_of after_empty) (blocking_of after_empty))
  unfolding after_empty
  many_left =
      rw (is_size (offered_good g (empty_record r p Full)) ∙ sym (is_size g), empty_takes_one g p Full absent) (count_fewer (size_of r) (blocking_of r) p absent.0)

needed_from : {roster : List ℕ} (k : ℕ) {r : Recovery} → Good roster r → k < count (size_of r) (blocking_of r) → OpenBeyond k r
unfolding after_empty
needed_from zero {r} g l = open_still r l
needed_from (suc k) {r} g l =
    (open_still r (omega arith), λ p a. (empty_record r p Full, empty_handed g p Full a, needed_from k (offered_good g (empty_record r p Full)) (omega (arith, many_left g p a))))

-- ---- the statements

module _ {roster : List ℕ} (f : Free roster) (cs : List Call) where
  -- after any calls: whoever fetches as told is done within the number that is told
  pub enough : SettledWithin (number (fetching_of (reached roster cs))) (reached roster cs)
  enough = enough_from _ (reached roster cs) (good_left f cs) (rw (number_is (reached roster cs)) (omega arith))

  -- and for every smaller number the group can keep any crew busy beyond it
  pub needed : (k : ℕ) → k < number (fetching_of (reached roster cs)) → OpenBeyond k (reached roster cs)
  needed k l = needed_from k (good_left f cs) (rw (number_is (reached roster cs)) at l)

  -- a record of an absent place that is not refused always is there
  pub some_record : (p : ℕ) → Absent (reached roster cs) p → (bytes : List ℕ) × HandedOver (reached roster cs) p bytes
  some_record p a = (empty_record (reached roster cs) p Full, empty_handed (good_left f cs) p Full a)
