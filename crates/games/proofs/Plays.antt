-- The game played out lasts just as many fetches as are told; and the hill has every record that may be handed over. Assumes nothing.
use Rattle.refusals.specs.declared.Refusal.{Refusal}
use Rattle.refusals.specs.declared.Refusal.TheVariants as R
use Rattle.refusals.specs.Numbers as N
use Rattle.std.specs.Prelude.{Option, Some, None, Result, Ok, Err}
use mathlib.Core.Path.{◌≡◌, refl, sym, ap, ap₂, ◌∙◌, subst, fun_ext}
use mathlib.Core.Bool.{Bool, true, false, cond}
use mathlib.Core.Logic.{◌⊎◌, inl, inr}
use mathlib.Core.List.{List, []}
use Prim.Native.Nat.{ℕ, zero, suc, ◌/◌, ◌<◌, ◌≤◌}
use native.Mathlib.Omega.{arith}
use native.Mathlib.Decide.{dec_lt}
use lib.ListN.{length}
use lib.Dec.{ltb}
use borrow.Author.Tests.{ltb-true, lt-ltb}
use Rattle.sets.specs.Sets.{without, any, count}
use Rattle.sets.specs.PlaceSets.{bit}
use Rattle.sets.proofs.Booleans.{split, clash, is_false, minus_elim, minus_intro}
use Rattle.sets.proofs.Tests.{any_elim, none_any}
use Rattle.sets.proofs.Counting.{count_subset, count_without}
use Rattle.sets.proofs.Digits.{bit_zero, bit_high}
use Rattle.histories.specs.declared.Kind.TheVariants.{Full}
use Rattle.histories.specs.Histories.{Row}
use Rattle.layouts.specs.Layout.{got, Stored, lone, layout}
use Rattle.answers.specs.declared.Reply.{Reply}
use Rattle.answers.specs.declared.Reply.TheVariants as O
use Rattle.calls.specs.declared.Recovery.{Recovery}
use Rattle.calls.specs.declared.Offered.{Offered}
use Rattle.calls.specs.Promises.{size_of, roster_of, alias_of, accepted_of, judged, offered_as, offered, settled_of, blocking_of, fetching_of}
use Rattle.calls.specs.Demand.{Free, Call}
use Rattle.calls.specs.Run.{left, reached}
use Rattle.calls.proofs.Facts.{lone_on}
use Rattle.calls.proofs.Demand.{Good, is_roster, is_size, is_alias, good_left}
use Rattle.calls.proofs.Single.{same_record}
use Rattle.calls.proofs.Later.{offered_good, offered_enters}
use Rattle.games.specs.Fetched.{number, Absent, HandedOver, empty_record}
use Rattle.games.specs.Games.{absent_of, absent_count, least, greatest, kind_numbered, record_numbered, record_count, handed, is_taken, lasting, hills_turn, crews_turn, fetches_from, played}
use Rattle.games.specs.Choices.{IsLeast, IsGreatest}
use Rattle.games.proofs.Fetched.{some_blocks, none_blocks, number_is, blocks_absent, handed_takes_off, group_reads, empty_taken, empty_takes_one, count_fewer}
use Rattle.games.proofs.Numbers.{HasNumber, has_number, half_less, some_numbers}
use Rattle.games.proofs.Least.{least_is, greatest_is}
use Rattle.games.proofs.Choices.{crew_least, hill_greatest}
use Rattle.games.proofs.Turns.{absent_some, taken_fewer, turn_settled, played_large, played_small}

-- ---- who is absent

absent_elim : (r : Recovery) (p : ℕ) → absent_of r p ≡ true → Absent r p
unfolding absent_of
absent_elim r p e = let w = minus_elim (ltb p (size_of r)) ((accepted_of r).returned p) e in (ltb-true p (size_of r) w.0, w.1)

absent_intro : (r : Recovery) (p : ℕ) → Absent r p → absent_of r p ≡ true
unfolding absent_of
absent_intro r p a = minus_intro (lt-ltb p (size_of r) a.0) a.1

taken_is : (a : Result Reply Refusal) → is_taken a ≡ true → a ≡ Ok O.Taken
unfolding is_taken
taken_is (Ok O.Taken) e = refl
taken_is (Ok O.Repeated) e = clash e refl
taken_is (Err j) e = clash e refl

is_taken_lem : (a : Result Reply Refusal) → a ≡ Ok O.Taken → is_taken a ≡ true
unfolding is_taken
is_taken_lem a e = rw e

-- ---- the hill's turn

module _ {roster : List ℕ} {r : Recovery} (g : Good roster r) (p : ℕ) (a : Absent r p) where
  on : p < length roster
  on = rw (is_size g) at a.0

  inside : (j : ℕ) → j < record_count r → (q : ℕ) → bit (j / 2) q ≡ true → q < length roster
  inside j l q e = go (dec_lt q (length roster))
    where
      go : Dec (q < length roster) → q < length roster
      go (yes h) = h
      go (no h) = clash e (bit_high (j / 2) (size_of r) q (half_less r j l) (omega (arith, is_size g)))

  -- a numbered record that is taken is one that a fetch may hand over
  numbered_handed : (j : ℕ) → j < record_count r → is_taken (handed r p j).answer ≡ true → HandedOver r p (layout (record_numbered r p j))
  unfolding handed record_numbered
  numbered_handed j l t = record {
    stored = record_numbered r p j;
    rest = [];
    reads = group_reads g p (kind_numbered j) (bit (j / 2)) on (inside j l);
    own = refl;
    accepted = inl (taken_is (handed r p j).answer t);
  }

  -- the first one is empty
  first_empty : handed r p 0 ≡ offered r (empty_record r p Full)
  unfolding handed record_numbered kind_numbered empty_record
  first_empty = ap (λ (M : Row). offered r (layout (record { kind = Full; own = p; roster = roster_of r; mourned = M }))) (fun_ext bit_zero)

  module _ (k : ℕ) (some : absent_count r ≡ suc k) (then : (s : Recovery) → Good roster s → absent_count s ≡ k → crews_turn k s ≡ count (size_of s) (blocking_of s)) where
    abbrev rest : ℕ
    rest = count (size_of r) (without p (blocking_of r))

    -- no record makes the rest longer than an empty one does
    numbered_below : (j : ℕ) → j < record_count r → lasting (crews_turn k) (handed r p j) ≤ rest
    unfolding lasting handed left
    numbered_below j l = go (is_taken (handed r p j).answer) refl
      where
        b : List ℕ
        b = layout (record_numbered r p j)

        go : (t : Bool) → is_taken (handed r p j).answer ≡ t → cond t (crews_turn k (handed r p j).recovery) 0 ≤ rest
        go false e = omega arith
        go true e =
            let m = count_subset (size_of r) (blocking_of (offered r b).recovery) (without p (blocking_of r)) (λ q _. handed_takes_off g (numbered_handed j l e) [] q) in
            let f : crews_turn k (offered r b).recovery ≡ count (size_of (offered r b).recovery) (blocking_of (offered r b).recovery) = then (offered r b).recovery (offered_good g b) (omega (arith, some, taken_fewer r b e)) in
            let c : size_of (offered r b).recovery ≡ size_of r = is_size (offered_good g b) ∙ sym (is_size g) in
            rw (f, c) m

    empty_lasts : lasting (crews_turn k) (handed r p 0) ≡ rest
    unfolding lasting
    empty_lasts =
        let b : List ℕ = empty_record r p Full in
        let t : is_taken (offered r b).answer ≡ true = is_taken_lem (offered r b).answer (empty_taken g p Full a) in
        let c : size_of (offered r b).recovery ≡ size_of r = is_size (offered_good g b) ∙ sym (is_size g) in
        ap (lasting (crews_turn k)) first_empty ∙ ap (λ (x : Bool). cond x (crews_turn k (offered r b).recovery) 0) t
        ∙ then (offered r b).recovery (offered_good g b) (omega (arith, some, taken_fewer r b t))
        ∙ ap₂ count c (empty_takes_one g p Full a)

    hill_is : hills_turn (crews_turn k) r p ≡ rest
    unfolding hills_turn
    hill_is = greatest_is (record_count r) (λ j. lasting (crews_turn k) (handed r p j)) 0 rest (some_numbers r) empty_lasts numbered_below

-- ---- the crew's turn

module _ {roster : List ℕ} {r : Recovery} (g : Good roster r) (k : ℕ) (some : absent_count r ≡ suc k)
    (then : (s : Recovery) → Good roster s → absent_count s ≡ k → crews_turn k s ≡ count (size_of s) (blocking_of s)) where
  -- where some place blocks, a fetch of it is as good as any
  best_is : any (size_of r) (blocking_of r) ≡ true → suc (least (size_of r) (absent_of r) (hills_turn (crews_turn k) r)) ≡ count (size_of r) (blocking_of r)
  best_is e = ap suc (least_is n (absent_of r) (hills_turn (crews_turn k) r) b (count n (without b S)) w.1 (absent_intro r b first) (hill_is g b first k some then) others) ∙ sym fewer
    where
      n : ℕ
      n = size_of r

      S : Row
      S = blocking_of r

      w : (b : ℕ) × (b < n) × (S b ≡ true)
      w = any_elim n S e

      b : ℕ
      b = w.0

      first : Absent r b
      first = blocks_absent r b w.2

      fewer : count n S ≡ suc (count n (without b S))
      fewer = count_without n S b w.1 w.2

      others : (q : ℕ) → q < n → absent_of r q ≡ true → count n (without b S) ≤ hills_turn (crews_turn k) r q
      others q l t = rw (hill_is g q (absent_elim r q t) k some then) (omega (arith, fewer, count_fewer n S q l))

  crew_some : crews_turn (suc k) r ≡ count (size_of r) (blocking_of r)
  unfolding crews_turn
  crew_some = go (split (any (size_of r) (blocking_of r)))
    where
      go : (any (size_of r) (blocking_of r) ≡ true) ⊎ (any (size_of r) (blocking_of r) ≡ false)
          → cond (settled_of r) 0 (suc (least (size_of r) (absent_of r) (hills_turn (crews_turn k) r))) ≡ count (size_of r) (blocking_of r)
      go (inl e) = ap (λ (t : Bool). cond t 0 (suc (least (size_of r) (absent_of r) (hills_turn (crews_turn k) r)))) (some_blocks r e).0 ∙ best_is e
      go (inr e) = let w = none_blocks r e in ap (λ (t : Bool). cond t 0 (suc (least (size_of r) (absent_of r) (hills_turn (crews_turn k) r)))) w.0 ∙ sym w.2

-- of any recovery whatever: where nobody is absent, nobody blocks, and the whole is settled
none_absent : (r : Recovery) → absent_count r ≡ 0 → any (size_of r) (blocking_of r) ≡ false
none_absent r e = none_any (size_of r) (blocking_of r) (λ b _. is_false (blocking_of r b) (λ t. omega (arith, absent_some r b (absent_intro r b (blocks_absent r b t)))))

pub nobody_settled : (r : Recovery) → absent_count r ≡ 0 → settled_of r ≡ true
nobody_settled r e = (none_blocks r (none_absent r e)).0

-- so the game lasts as many fetches as places block, whatever the roster's length
crew_is : {roster : List ℕ} (k : ℕ) (r : Recovery) → Good roster r → absent_count r ≡ k → crews_turn k r ≡ count (size_of r) (blocking_of r)
unfolding crews_turn
crew_is zero r g e = sym (none_blocks r (none_absent r e)).2
crew_is (suc k) r g e = crew_some g k e (crew_is k)

-- ---- every record

module _ {roster : List ℕ} {r : Recovery} (g : Good roster r) {p : ℕ} {bytes : List ℕ} (h : HandedOver r p bytes) where
  abbrev x : Stored
  x = h.stored

  own_roster : x.roster ≡ roster_of r
  own_roster =
      let w = offered_enters g bytes h.accepted in
      ap (λ (y : Stored). y.roster) (same_record h.reads (ap (λ (a : ℕ → ℕ). lone a bytes) (is_alias g) ∙ w.is_of_group.reads)) ∙ w.is_of_group.same_roster ∙ sym (is_roster g)

  mourned_inside : (q : ℕ) → x.mourned q ≡ true → q < size_of r
  mourned_inside q e = omega (arith, (lone_on (alias_of r) bytes x h.rest h.reads).1 q e, ap length (own_roster ∙ is_roster g), is_size g)

  own_number : HasNumber r x.kind x.mourned
  own_number = has_number r x.kind x.mourned mourned_inside

  abbrev j : ℕ
  j = own_number.number

  same_stored : record_numbered r p j ≡ x
  unfolding record_numbered
  same_stored = λ i. record { kind = own_number.kind i; own = sym h.own i; roster = sym own_roster i; mourned = own_number.mourned i }

  own_on : p < length roster
  own_on = omega (arith, (lone_on (alias_of r) bytes x h.rest h.reads).0, h.own, ap length (own_roster ∙ is_roster g))

  numbered_reads : lone (alias_of r) (layout (record_numbered r p j)) ≡ got (record_numbered r p j) []
  unfolding record_numbered
  numbered_reads =
      group_reads g p (kind_numbered j) (bit (j / 2)) own_on
      (λ q e. rw (is_size g) at (mourned_inside q (sym (ap (λ (y : Stored). y.mourned q) same_stored) ∙ e)))

  -- a record that is handed over has a number
  every_from : (i : ℕ) × (i < record_count r) × (handed r p i ≡ offered r bytes)
  unfolding handed offered offered_as
  every_from = (j, own_number.less, ap (offered_as r) numbered_reads ∙ ap (judged r) same_stored ∙ sym (ap (offered_as r) h.reads))

-- ---- the statements

module _ {roster : List ℕ} (f : Free roster) (cs : List Call) where
  -- after any calls, on a roster of at most four: the game played out lasts as many fetches as are told
  pub played_as_told : length roster ≤ 4 → played (reached roster cs) ≡ Ok (number (fetching_of (reached roster cs)))
  played_as_told few =
      let r : Recovery = reached roster cs in
      sym (played_small r (rw (is_size (good_left f cs)) few) (number (fetching_of r)) (number_is r ∙ sym (crew_is (absent_count r) r (good_left f cs) refl)))

  -- and on a larger one it is refused
  pub played_17 : 4 < length roster → (played (reached roster cs) ≡ Err R.TooMany) × (N.number R.TooMany ≡ 17)
  played_17 many = (sym (played_large (reached roster cs) (rw (is_size (good_left f cs)) many)), refl)

  -- whatever a fetch may hand over, the hill has a record that does just the same
  pub every_record : {p : ℕ} {bytes : List ℕ} → HandedOver (reached roster cs) p bytes
      → (i : ℕ) × (i < record_count (reached roster cs)) × (handed (reached roster cs) p i ≡ offered (reached roster cs) bytes)
  every_record h = every_from (good_left f cs) h

  -- and it has no others: each that is taken is one that a fetch may hand over
  pub no_other_record : (p : ℕ) → Absent (reached roster cs) p → (i : ℕ) → i < record_count (reached roster cs) → is_taken (handed (reached roster cs) p i).answer ≡ true
      → HandedOver (reached roster cs) p (layout (record_numbered (reached roster cs) p i))
  no_other_record p a = numbered_handed (good_left f cs) p a

-- ---- the game, of any recovery whatever

module _ (r : Recovery) where
  -- settled, it is over
  pub game_over : settled_of r ≡ true → fetches_from r ≡ 0
  unfolding fetches_from
  game_over e = sym (turn_settled r e)

  -- how long the rest lasts after a record that is taken, whoever counts
  turn_on : (k p j : ℕ) → absent_count r ≡ suc k → lasting (crews_turn k) (handed r p j) ≡ lasting fetches_from (handed r p j)
  unfolding lasting handed fetches_from
  turn_on k p j e = go (is_taken given.answer) refl
    where
      given : Offered
      given = offered r (layout (record_numbered r p j))

      go : (b : Bool) → is_taken given.answer ≡ b → cond b (crews_turn k given.recovery) 0 ≡ cond b (crews_turn (absent_count given.recovery) given.recovery) 0
      go true t = let z : k ≡ absent_count given.recovery = omega (arith, e, taken_fewer r (layout (record_numbered r p j)) t) in ap (λ (i : ℕ). crews_turn i given.recovery) z
      go false t = refl

  hill_on : (k p : ℕ) → absent_count r ≡ suc k → hills_turn (crews_turn k) r p ≡ hills_turn fetches_from r p
  unfolding hills_turn
  hill_on k p e = ap (greatest (record_count r)) (λ i j. turn_on k p j e i)

  -- otherwise the crew fetches a place that makes the rest shortest, of all that are absent
  pub every_place : settled_of r ≡ false → (p : ℕ) → Absent r p
      → (m : ℕ) × (fetches_from r ≡ suc m) × IsLeast (size_of r) (absent_of r) (hills_turn fetches_from r) m
  unfolding fetches_from
  every_place u p a = go (absent_count r) refl
    where
      is_absent : absent_of r p ≡ true
      is_absent = absent_intro r p a

      go : (n : ℕ) → absent_count r ≡ n → (m : ℕ) × (crews_turn (absent_count r) r ≡ suc m) × IsLeast (size_of r) (absent_of r) (hills_turn fetches_from r) m
      go zero e = absurd (omega (arith, absent_some r p is_absent))
      go (suc k) e =
          let w = crew_least k r u p a.0 is_absent in
          (w.0, ap (λ (n : ℕ). crews_turn n r) e ∙ w.1, subst (λ (f : ℕ → ℕ). IsLeast (size_of r) (absent_of r) f w.0) (λ i p. hill_on k p e i) w.2)

  -- and the hill hands over a record that makes the rest longest, of all that the place may have
  pub every_number : (p : ℕ) → IsGreatest (record_count r) (λ j. lasting fetches_from (handed r p j)) (hills_turn fetches_from r p)
  every_number p = hill_greatest fetches_from r p
