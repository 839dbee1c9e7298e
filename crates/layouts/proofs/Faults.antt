-- The reader answers just by the faults of specs/Faults.antt: it refuses by j where j is the first fault of the bytes, it reads where they have none, and what it then says stands in the bytes.
-- The parser is walked at positions of the bytes; that bytes have a fault or none is decided without it. Assumes nothing.
use Rattle.refusals.specs.declared.Refusal.{Refusal}
use Rattle.refusals.specs.declared.Refusal.TheVariants as R
use Rattle.std.specs.Prelude.{Result, Ok, Err}
use mathlib.Core.Path.{◌≡◌, refl, sym, ap, ap₂, subst, ◌∙◌}
use mathlib.Core.Bool.{Bool, true, false, not, ◌||◌}
use mathlib.Core.Logic.{◌⊎◌, inl, inr, ⊎_elim, ◌↔◌}
use mathlib.Core.List.{List, [], ◌∷◌, ◌++◌}
use Prim.Native.Nat.{ℕ, zero, suc, ◌+◌, ◌-◌, ◌*◌, ◌≤◌, ◌<◌}
use native.Mathlib.Numerals.{add-one}
use native.Mathlib.Omega.{arith}
use native.Mathlib.Decide.{dec_lt, ℕ_discrete}
use lib.Dec.{eqb, leb}
use lib.ListN.{length, get_or, drop, length-drop, drop_of_length-le}
use lib.Seq.{drop-drop}
use borrow.Author.Tests.{le-leb, lt-leb, eq-eqb, ne_eqb, eqb-true}
use Rattle.sets.specs.Sets.{Places, nothing, with}
use Rattle.sets.proofs.Booleans.{clash, is_false, or_cases, or_left, or_right, not_intro}
use Rattle.histories.specs.declared.Kind.{Kind}
use Rattle.histories.specs.declared.Kind.TheVariants.{Full, Short}
use Rattle.serials.specs.Rosters.{place_of, holds}
use Rattle.serials.specs.Seconds.{stands_for}
use Rattle.serials.proofs.Seconds.{stands_itself, stands_other}
use Rattle.layouts.specs.Layout.{Parsed, got, refused, then, check, word_at, roster_serials, roster_section, is_on, place_on, Head, head_section, mourned_serials, mourned_section, Stored, stored, lone, kind_byte}
use Rattle.layouts.specs.Records.{serials}
use Rattle.layouts.specs.Parts.{roster_after, own_after}
use Rattle.layouts.specs.Faults.{own, roster_count, roster_serial, tail_at, mourned_count, mourned_at, mourned_serial, StandsAt, as_itself, as_second, OnRoster, KindSound, OwnSound, CountSound, SerialSound, RosterSound, HeadSound, MournedCountSound, MournedSound, TailSound, Fault, no_kind, own_cut, no_roster_count, serial_cut, no_mourned_count, mourned_cut, unknown_kind, roster_count_off, mourned_count_above, own_zero, serial_zero, mourned_zero, serial_twice, own_off, mourned_off, mourned_order, follows, SoundBytes}
use Rattle.layouts.proofs.Sections as S
use Rattle.layouts.proofs.Serials.{place_at_lem, place_own, holds_below, below_holds, holds_nowhere, nowhere_holds}
use Rattle.layouts.proofs.Heads.{roster_early, roster_few, roster_many, roster_counted, head_early, head_full, head_short, head_unknown}

-- ---- serials in a row

-- the word at a position, of the bytes from another on
word_at_lem : (s : List ℕ) (p q : ℕ) → word_at (drop p s) q ≡ word_at s (p + q)
word_at_lem s p q = sym (S.word_drop (drop p s) q) ∙ ap (λ (t : List ℕ). word_at t 0) (drop-drop q p s) ∙ S.word_drop s (p + q)

-- serial p
nth : (n p : ℕ) (s : List ℕ) → p < n → get_or (serials n s) p 0 ≡ word_at s (4 * p)
unfolding serials
nth zero p s l = absurd (omega arith)
nth (suc n) zero s l = refl
nth (suc n) (suc p) s l =
    let e : 4 + 4 * p ≡ 4 * suc p = omega arith in
    nth n p (drop 4 s) (omega arith) ∙ word_at_lem s 4 (4 * p) ∙ ap (word_at s) e

-- ---- the roster, as it is read

module _ (b : List ℕ) where
  abbrev roster : List ℕ
  roster = serials (roster_count b) (drop 6 b)

  listed : (n p : ℕ) → p < n → get_or (serials n (drop 6 b)) p 0 ≡ roster_serial b p
  listed n p l = nth n p (drop 6 b) l ∙ word_at_lem b 6 (4 * p)

  serials_step : (k : ℕ) → serials (suc k) (drop 6 b) ≡ serials k (drop 6 b) ++ (roster_serial b k ∷ [])
  serials_step k =
      let e : 6 + k * 4 ≡ 6 + 4 * k = omega arith in
      ap (λ (n : ℕ). serials n (drop 6 b)) (sym (add-one k)) ∙ S.serials_more b 6 k ∙ ap (λ (p : ℕ). serials k (drop 6 b) ++ (word_at b p ∷ [])) e

  long : length roster ≡ roster_count b
  long = S.length_serials (roster_count b) (drop 6 b)

  -- what follows a serial of the roster
  judge : ℕ → List ℕ → ℕ → List ℕ → Parsed (List ℕ)
  judge m seen x s₁ = check (not (holds x seen)) R.Twice (roster_serials m (seen ++ (x ∷ [])) s₁)

  module _ (k : ℕ) where
    seen_new : SerialSound b k → holds (roster_serial b k) (serials k (drop 6 b)) ≡ false
    seen_new s =
        nowhere_holds (roster_serial b k) (serials k (drop 6 b)) (λ p l e.
        let m : p < k = omega (arith, l, S.length_serials k (drop 6 b)) in
        s.new p m (sym (listed k p m) ∙ e))

    seen_old : (j : ℕ) → j < k → roster_serial b j ≡ roster_serial b k → holds (roster_serial b k) (serials k (drop 6 b)) ≡ true
    seen_old j l e = go (holds (roster_serial b k) (serials k (drop 6 b))) refl
      where
        go : (t : Bool) → holds (roster_serial b k) (serials k (drop 6 b)) ≡ t → holds (roster_serial b k) (serials k (drop 6 b)) ≡ true
        go true h = h
        go false h = absurd (holds_nowhere (roster_serial b k) (serials k (drop 6 b)) h j (omega (arith, S.length_serials k (drop 6 b))) (listed k j l ∙ e))

    -- the next serial is read, or cut off, or 0, or there already
    module _ (m : ℕ) where
      serial_passes : SerialSound b k → roster_serials (suc m) (serials k (drop 6 b)) (drop (6 + 4 * k) b) ≡ roster_serials m (serials (suc k) (drop 6 b)) (drop (6 + 4 * suc k) b)
      unfolding roster_serials judge
      serial_passes s =
          let d : 6 + 4 * k + 4 ≡ 6 + 4 * suc k = omega arith in
          S.serial_got b (6 + 4 * k) (judge m (serials k (drop 6 b))) (omega (arith, s.there)) (roster_serial b k) refl s.not_zero
          ∙ S.check_yes (not (holds (roster_serial b k) (serials k (drop 6 b)))) R.Twice _ (not_intro (seen_new s))
          ∙ ap₂ (λ (l t : List ℕ). roster_serials m l t) (sym (serials_step k)) (ap (λ (p : ℕ). drop p b) d)

      serial_1 : length b < 6 + 4 * suc k → roster_serials (suc m) (serials k (drop 6 b)) (drop (6 + 4 * k) b) ≡ refused R.EndsEarly
      unfolding roster_serials judge
      serial_1 l = S.serial_early b (6 + 4 * k) (judge m (serials k (drop 6 b))) (omega (arith, l))

      serial_4 : 6 + 4 * suc k ≤ length b → roster_serial b k ≡ 0 → roster_serials (suc m) (serials k (drop 6 b)) (drop (6 + 4 * k) b) ≡ refused R.ZeroSerial
      unfolding roster_serials judge
      serial_4 l z = S.serial_zero b (6 + 4 * k) (judge m (serials k (drop 6 b))) (omega (arith, l)) (roster_serial b k) refl z

      serial_5 : 6 + 4 * suc k ≤ length b → ¬ (roster_serial b k ≡ 0) → (j : ℕ) → j < k → roster_serial b j ≡ roster_serial b k
          → roster_serials (suc m) (serials k (drop 6 b)) (drop (6 + 4 * k) b) ≡ refused R.Twice
      unfolding roster_serials judge
      serial_5 l z j h e =
          S.serial_got b (6 + 4 * k) (judge m (serials k (drop 6 b))) (omega (arith, l)) (roster_serial b k) refl z
          ∙ S.check_no (not (holds (roster_serial b k) (serials k (drop 6 b)))) R.Twice _ (ap not (seen_old j h e))

  -- k sound serials are read
  roster_passes : (k m : ℕ) → ((j : ℕ) → j < k → SerialSound b j) → roster_serials (k + m) [] (drop 6 b) ≡ roster_serials m (serials k (drop 6 b)) (drop (6 + 4 * k) b)
  unfolding serials
  roster_passes zero m s = let e : 0 + m ≡ m = omega arith in ap (λ (n : ℕ). roster_serials n [] (drop 6 b)) e
  roster_passes (suc k) m s =
      let e : suc k + m ≡ k + suc m = omega arith in
      ap (λ (n : ℕ). roster_serials n [] (drop 6 b)) e ∙ roster_passes k (suc m) (λ j l. s j (omega arith)) ∙ serial_passes k m (s k (omega arith))

  roster_stops : (k n : ℕ) (j : Refusal) → k < n → ((i : ℕ) → i < k → SerialSound b i)
      → ((m : ℕ) → roster_serials (suc m) (serials k (drop 6 b)) (drop (6 + 4 * k) b) ≡ refused j) → roster_serials n [] (drop 6 b) ≡ refused j
  roster_stops k n j l s h =
      let e : n ≡ k + suc (n - suc k) = omega arith in
      ap (λ (n : ℕ). roster_serials n [] (drop 6 b)) e ∙ roster_passes k (suc (n - suc k)) s ∙ h (n - suc k)

  roster_read : RosterSound b (roster_count b) → roster_serials (roster_count b) [] (drop 6 b) ≡ got roster (drop (tail_at b) b)
  unfolding roster_serials
  roster_read s =
      let e : roster_count b ≡ roster_count b + 0 = omega arith in
      ap (λ (n : ℕ). roster_serials n [] (drop 6 b)) e ∙ roster_passes (roster_count b) 0 s.each

-- ---- where a serial stands

module _ (alias : ℕ → ℕ) (b : List ℕ) where
  module _ (s : RosterSound b (roster_count b)) where
    -- the place of a serial of the roster
    itself_at : (x p : ℕ) → p < roster_count b → roster_serial b p ≡ x → place_of x (roster b) ≡ p
    itself_at x p l e =
        let n : length (roster b) ≡ roster_count b = long b in
        let is : get_or (roster b) p 0 ≡ x = listed b (roster_count b) p l ∙ e in
        ap (λ (y : ℕ). place_of y (roster b)) (sym is)
        ∙ place_own (roster b) (λ p q l m e.
        let k : q < roster_count b = omega (arith, m, n) in
        (s.each q k).new p l (sym (listed b (roster_count b) p (omega (arith, l, k))) ∙ e ∙ listed b (roster_count b) q k)) p (omega (arith, l, n))

    itself_on : (x p : ℕ) → p < roster_count b → roster_serial b p ≡ x → holds x (roster b) ≡ true
    itself_on x p l e = below_holds x (roster b) (omega (arith, l, itself_at x p l e, long b))

    pub stands_place : (x p : ℕ) → StandsAt alias b x p → (is_on alias (roster b) x ≡ true) × (place_on alias (roster b) x ≡ p)
    stands_place x p (as_itself l e) =
        let f : stands_for alias (roster b) x ≡ x = stands_itself alias (roster b) x (itself_on x p l e) in
        (ap (λ (y : ℕ). holds y (roster b)) f ∙ itself_on x p l e, ap (λ (y : ℕ). place_of y (roster b)) f ∙ itself_at x p l e)
    stands_place x p (as_second h l e) =
        let none : holds x (roster b) ≡ false =
        nowhere_holds x (roster b) (λ q m d. let k : q < roster_count b = omega (arith, m, long b) in h q k (sym (listed b (roster_count b) q k) ∙ d)) in
        let f : stands_for alias (roster b) x ≡ alias x = stands_other alias (roster b) x none in
        (ap (λ (y : ℕ). holds y (roster b)) f ∙ itself_on (alias x) p l e, ap (λ (y : ℕ). place_of y (roster b)) f ∙ itself_at (alias x) p l e)

    pub stands_one : (x p q : ℕ) → StandsAt alias b x p → StandsAt alias b x q → p ≡ q
    stands_one x p q u v = sym (stands_place x p u).1 ∙ (stands_place x q v).1

    off_roster_lem : (x : ℕ) → is_on alias (roster b) x ≡ false → ¬ (OnRoster alias b x)
    off_roster_lem x h w = clash (stands_place x w.0 w.1).0 h

  pub place_stands : (x : ℕ) → is_on alias (roster b) x ≡ true → StandsAt alias b x (place_on alias (roster b) x)
  place_stands x on = go (holds x (roster b)) refl
    where
      at : (y : ℕ) → holds y (roster b) ≡ true → (place_of y (roster b) < roster_count b) × (roster_serial b (place_of y (roster b)) ≡ y)
      at y h =
          let l : place_of y (roster b) < length (roster b) = holds_below y (roster b) h in
          let m : place_of y (roster b) < roster_count b = omega (arith, l, long b) in
          (m, sym (listed b (roster_count b) (place_of y (roster b)) m) ∙ place_at_lem y (roster b) l)

      go : (t : Bool) → holds x (roster b) ≡ t → StandsAt alias b x (place_on alias (roster b) x)
      go true h =
          let f : stands_for alias (roster b) x ≡ x = stands_itself alias (roster b) x h in
          let w = at x h in
          subst (λ (y : ℕ). StandsAt alias b x (place_of y (roster b))) (sym f) (as_itself w.0 w.1)
      go false h =
          let f : stands_for alias (roster b) x ≡ alias x = stands_other alias (roster b) x h in
          let w = at (alias x) (ap (λ (y : ℕ). holds y (roster b)) (sym f) ∙ on) in
          let none : (q : ℕ) → q < roster_count b → ¬ (roster_serial b q ≡ x) =
          λ q l e. holds_nowhere x (roster b) h q (omega (arith, l, long b)) (listed b (roster_count b) q l ∙ e) in
          subst (λ (y : ℕ). StandsAt alias b x (place_of y (roster b))) (sym f) (as_second none w.0 w.1)

  not_on : (x : ℕ) → ¬ (OnRoster alias b x) → is_on alias (roster b) x ≡ false
  not_on x h = is_false (is_on alias (roster b) x) (λ on. h (place_on alias (roster b) x, place_stands x on))

-- ---- the head, section by section

module _ (alias : ℕ → ℕ) (b : List ℕ) where
  kind_passes : KindSound b → (k : Kind) × (kind_byte k ≡ get_or b 0 0) × (head_section alias b ≡ own_after alias k (drop 1 b))
  unfolding kind_byte
  kind_passes s =
      ⊎_elim (λ e. (Full, sym e, head_full alias b 0 (omega (arith, s.there)) e)) (λ e. (Short, sym e, head_short alias b 0 (omega (arith, s.there)) e)) s.known

  own_passes : OwnSound b → (k : Kind) × (kind_byte k ≡ get_or b 0 0) × (head_section alias b ≡ roster_after alias k (own b) (drop 5 b))
  unfolding own_after
  own_passes s =
      let w = kind_passes s.kind in
      (w.0, w.1, w.2 ∙ S.serial_got b 1 (roster_after alias w.0) s.there (own b) refl s.not_zero)

  count_passes : CountSound b → roster_section (drop 5 b) ≡ roster_serials (roster_count b) [] (drop 6 b)
  count_passes s = roster_counted b 5 s.there s.some s.few

  after_refused : (k : Kind) (x : ℕ) (j : Refusal) (s : List ℕ) → roster_section s ≡ refused j → roster_after alias k x s ≡ refused j
  unfolding roster_after then
  after_refused k x j s e = rw e

  after_read : (k : Kind) (x : ℕ) (s r t : List ℕ) → roster_section s ≡ got r t
      → roster_after alias k x s ≡ check (is_on alias r x) R.NotOnRoster (got (record { kind = k; own = x; place = place_on alias r x; roster = r }) t)
  unfolding roster_after then
  after_read k x s r t e = rw e

  abbrev head_of : Kind → Head
  head_of k = record { kind = k; own = own b; place = place_on alias (roster b) (own b); roster = roster b }

  whole_roster : RosterSound b (roster_count b)
      → (k : Kind) × (kind_byte k ≡ get_or b 0 0) × (head_section alias b ≡ check (is_on alias (roster b) (own b)) R.NotOnRoster (got (head_of k) (drop (tail_at b) b)))
  whole_roster s =
      let w = own_passes s.count.owner in
      (w.0, w.1, w.2 ∙ after_read w.0 (own b) (drop 5 b) (roster b) (drop (tail_at b) b) (count_passes s.count ∙ roster_read b s))

  head_passes : HeadSound alias b → (k : Kind) × (kind_byte k ≡ get_or b 0 0) × (head_section alias b ≡ got (head_of k) (drop (tail_at b) b))
  head_passes s =
      let w = whole_roster s.roster in
      (w.0, w.1, w.2 ∙ S.check_yes _ R.NotOnRoster _ (stands_place alias b s.roster (own b) s.on.0 s.on.1).0)

  -- a head that is refused
  lone_head : (j : Refusal) → head_section alias b ≡ refused j → lone alias b ≡ refused j
  unfolding lone stored then
  lone_head j e = rw e

  roster_fails : OwnSound b → (j : Refusal) → roster_section (drop 5 b) ≡ refused j → lone alias b ≡ refused j
  roster_fails s j e = let w = own_passes s in lone_head j (w.2 ∙ after_refused w.0 (own b) j (drop 5 b) e)

  serials_fail : {k : ℕ} → RosterSound b k → k < roster_count b → (j : Refusal)
      → ((m : ℕ) → roster_serials (suc m) (serials k (drop 6 b)) (drop (6 + 4 * k) b) ≡ refused j) → lone alias b ≡ refused j
  serials_fail {k} s l j h = roster_fails s.count.owner j (count_passes s.count ∙ roster_stops b k (roster_count b) j l s.each h)

  -- a mourned section that is refused, or read
  module _ (h : HeadSound alias b) where
    lone_tail : (j : Refusal) → mourned_section alias (roster b) (drop (tail_at b) b) ≡ refused j → lone alias b ≡ refused j
    unfolding lone stored then
    lone_tail j e = rw ((head_passes h).2, e)

    lone_read : (M : Places) (t : List ℕ) → mourned_section alias (roster b) (drop (tail_at b) b) ≡ got M t
        → lone alias b ≡ check (eqb (length t) 0) R.BytesAfter (got (record { kind = (head_passes h).0; own = place_on alias (roster b) (own b); roster = roster b; mourned = M }) t)
    unfolding lone stored then
    lone_read M t e = rw ((head_passes h).2, e)

-- ---- the mourned section

module _ (alias : ℕ → ℕ) (b : List ℕ) where
  -- the place of mourned serial j; where the next may stand, and the set, after k serials
  abbrev place_at : ℕ → ℕ
  place_at j = place_on alias (roster b) (mourned_serial b j)

  from_at : ℕ → ℕ
  from_at zero = 0
  from_at (suc k) = suc (place_at k)

  set_at : ℕ → Places
  set_at zero = nothing
  set_at (suc k) = with (place_at k) (set_at k)

  -- what follows a mourned serial
  weigh : ℕ → ℕ → Places → ℕ → List ℕ → Parsed Places
  weigh m from M x s₁ =
      check (is_on alias (roster b) x) R.NotOnRoster
      (check (leb from (place_on alias (roster b) x)) R.OutOfOrder
      (mourned_serials alias m (roster b) (suc (place_on alias (roster b) x)) (with (place_on alias (roster b) x) M) s₁))

  mourned_counted : ℕ → List ℕ → Parsed Places
  mourned_counted m s₁ = check (leb m (length (roster b))) R.BadCount (mourned_serials alias m (roster b) 0 nothing s₁)

  tail_1 : length b < tail_at b + 1 → mourned_section alias (roster b) (drop (tail_at b) b) ≡ refused R.EndsEarly
  unfolding mourned_section mourned_counted
  tail_1 l = S.byte_early b (tail_at b) mourned_counted (omega (arith, l))

  tail_3 : tail_at b + 1 ≤ length b → roster_count b < mourned_count b → mourned_section alias (roster b) (drop (tail_at b) b) ≡ refused R.BadCount
  unfolding mourned_section mourned_counted
  tail_3 l h = S.byte_got b (tail_at b) mourned_counted (omega (arith, l)) ∙ S.check_no _ R.BadCount _ (lt-leb (mourned_count b) (length (roster b)) (omega (arith, h, long b)))

  tail_passes : tail_at b + 1 ≤ length b → mourned_count b ≤ roster_count b
      → mourned_section alias (roster b) (drop (tail_at b) b) ≡ mourned_serials alias (mourned_count b) (roster b) 0 nothing (drop (mourned_at b 0) b)
  unfolding mourned_section mourned_counted
  tail_passes l h =
      let e : tail_at b + 1 ≡ mourned_at b 0 = omega arith in
      S.byte_got b (tail_at b) mourned_counted (omega (arith, l)) ∙ S.check_yes _ R.BadCount _ (le-leb (mourned_count b) (length (roster b)) (omega (arith, h, long b)))
      ∙ ap (λ (p : ℕ). mourned_serials alias (mourned_count b) (roster b) 0 nothing (drop p b)) e

  -- the parser at mourned serial k, with m more to come
  abbrev mourned_from : ℕ → ℕ → Parsed Places
  mourned_from k m = mourned_serials alias (suc m) (roster b) (from_at k) (set_at k) (drop (mourned_at b k) b)

  module _ (k m : ℕ) where
    mourned_1 : length b < mourned_at b (suc k) → mourned_from k m ≡ refused R.EndsEarly
    unfolding mourned_serials weigh
    mourned_1 l = S.serial_early b (mourned_at b k) (weigh m (from_at k) (set_at k)) (omega (arith, l))

    module _ (there : mourned_at b (suc k) ≤ length b) where
      mourned_4 : mourned_serial b k ≡ 0 → mourned_from k m ≡ refused R.ZeroSerial
      unfolding mourned_serials weigh
      mourned_4 z = S.serial_zero b (mourned_at b k) (weigh m (from_at k) (set_at k)) (omega (arith, there)) (mourned_serial b k) refl z

      module _ (some : ¬ (mourned_serial b k ≡ 0)) where
        mourned_there : mourned_from k m ≡ weigh m (from_at k) (set_at k) (mourned_serial b k) (drop (mourned_at b (suc k)) b)
        unfolding mourned_serials weigh
        mourned_there =
            let d : mourned_at b k + 4 ≡ mourned_at b (suc k) = omega arith in
            S.serial_got b (mourned_at b k) (weigh m (from_at k) (set_at k)) (omega (arith, there)) (mourned_serial b k) refl some
            ∙ ap (λ (p : ℕ). weigh m (from_at k) (set_at k) (mourned_serial b k) (drop p b)) d

        mourned_6 : is_on alias (roster b) (mourned_serial b k) ≡ false → mourned_from k m ≡ refused R.NotOnRoster
        unfolding weigh
        mourned_6 h = mourned_there ∙ S.check_no _ R.NotOnRoster _ h

        module _ (on : is_on alias (roster b) (mourned_serial b k) ≡ true) where
          mourned_7 : place_at k < from_at k → mourned_from k m ≡ refused R.OutOfOrder
          unfolding weigh
          mourned_7 h = mourned_there ∙ S.check_yes _ R.NotOnRoster _ on ∙ S.check_no _ R.OutOfOrder _ (lt-leb (from_at k) (place_at k) h)

          mourned_on : from_at k ≤ place_at k → mourned_from k m ≡ mourned_serials alias m (roster b) (from_at (suc k)) (set_at (suc k)) (drop (mourned_at b (suc k)) b)
          unfolding weigh from_at set_at
          mourned_on h = mourned_there ∙ S.check_yes _ R.NotOnRoster _ on ∙ S.check_yes _ R.OutOfOrder _ (le-leb (from_at k) (place_at k) h)

  -- k sound serials are read
  module _ (s : RosterSound b (roster_count b)) where
    place_is : (j : ℕ) (w : MournedSound alias b j) → place_at j ≡ w.place
    place_is j w = (stands_place alias b s (mourned_serial b j) w.place w.stands).1

    rising : (k : ℕ) → ((i : ℕ) → i < k → MournedSound alias b i) → MournedSound alias b k → from_at k ≤ place_at k
    unfolding from_at
    rising zero e w = omega arith
    rising (suc k) e w =
        let v : MournedSound alias b k = e k (omega arith) in
        omega (arith, place_is (suc k) w, place_is k v, w.behind k v.place (omega arith) v.stands)

    mourned_passes : (k m : ℕ) → ((i : ℕ) → i < k → MournedSound alias b i)
        → mourned_serials alias (k + m) (roster b) 0 nothing (drop (mourned_at b 0) b) ≡ mourned_serials alias m (roster b) (from_at k) (set_at k) (drop (mourned_at b k) b)
    unfolding from_at set_at
    mourned_passes zero m e = let z : 0 + m ≡ m = omega arith in ap (λ (n : ℕ). mourned_serials alias n (roster b) 0 nothing (drop (mourned_at b 0) b)) z
    mourned_passes (suc k) m e =
        let z : suc k + m ≡ k + suc m = omega arith in
        let w : MournedSound alias b k = e k (omega arith) in
        ap (λ (n : ℕ). mourned_serials alias n (roster b) 0 nothing (drop (mourned_at b 0) b)) z
        ∙ mourned_passes k (suc m) (λ i l. e i (omega arith))
        ∙ mourned_on k m w.there w.not_zero (stands_place alias b s (mourned_serial b k) w.place w.stands).0 (rising k (λ i l. e i (omega arith)) w)

  mourned_fails : {k : ℕ} → TailSound alias b k → k < mourned_count b → (j : Refusal) → ((m : ℕ) → mourned_from k m ≡ refused j) → lone alias b ≡ refused j
  mourned_fails {k} s l j h =
      let e : mourned_count b ≡ k + suc (mourned_count b - suc k) = omega (arith, l) in
      lone_tail alias b s.count.head j (tail_passes s.count.there s.count.few
      ∙ ap (λ (n : ℕ). mourned_serials alias n (roster b) 0 nothing (drop (mourned_at b 0) b)) e
      ∙ mourned_passes s.count.head.roster k (suc (mourned_count b - suc k)) s.each ∙ h (mourned_count b - suc k))

  tail_read : TailSound alias b (mourned_count b) → mourned_section alias (roster b) (drop (tail_at b) b) ≡ got (set_at (mourned_count b)) (drop (mourned_at b (mourned_count b)) b)
  unfolding mourned_serials
  tail_read s =
      let e : mourned_count b ≡ mourned_count b + 0 = omega arith in
      tail_passes s.count.there s.count.few
      ∙ ap (λ (n : ℕ). mourned_serials alias n (roster b) 0 nothing (drop (mourned_at b 0) b)) e
      ∙ mourned_passes s.count.head.roster (mourned_count b) 0 s.each

  -- a serial that does not stand behind all before it does not stand behind the last of them
  falling : (s : RosterSound b (roster_count b)) (i j p q : ℕ) → ((i : ℕ) → i < j → MournedSound alias b i) → StandsAt alias b (mourned_serial b j) p → i < j → StandsAt alias b (mourned_serial b i) q
      → p ≤ q → place_at j < from_at j
  unfolding from_at
  falling s i zero p q e u l v h = absurd (omega arith)
  falling s i (suc k) p q e u l v h = go (ℕ_discrete i k)
    where
      here : place_at (suc k) ≡ p
      here = (stands_place alias b s (mourned_serial b (suc k)) p u).1

      there : place_at i ≡ q
      there = (stands_place alias b s (mourned_serial b i) q v).1

      go : Dec (i ≡ k) → place_at (suc k) < suc (place_at k)
      go (yes d) = let z : place_at i ≡ place_at k = ap (λ (j : ℕ). place_at j) d in omega (arith, h, here, there, z)
      go (no d) =
          let w : MournedSound alias b k = e k (omega arith) in
          omega (arith, h, here, place_is s k w, w.behind i q (omega arith) v)

-- ---- the bytes have a fault: the reader refuses by it

module _ (alias : ℕ → ℕ) (b : List ℕ) where
  refuses : (j : Refusal) → Fault alias b j → lone alias b ≡ refused j
  unfolding own_after
  refuses _ (no_kind l) = lone_head alias b R.EndsEarly (head_early alias b 0 (omega (arith, l)))
  refuses _ (own_cut s l) = let w = kind_passes alias b s in lone_head alias b R.EndsEarly (w.2 ∙ S.serial_early b 1 (roster_after alias w.0) l)
  refuses _ (no_roster_count s l) = roster_fails alias b s R.EndsEarly (roster_early b 5 (omega (arith, l)))
  refuses _ (serial_cut {k} s l h) = serials_fail alias b s l R.EndsEarly (λ m. serial_1 b k m h)
  refuses _ (no_mourned_count s l) = lone_tail alias b s R.EndsEarly (tail_1 alias b l)
  refuses _ (mourned_cut {j} s l h) = mourned_fails alias b s l R.EndsEarly (λ m. mourned_1 alias b j m h)
  refuses _ (unknown_kind l e f) = lone_head alias b R.UnknownKind (head_unknown alias b 0 l e f)
  refuses _ (roster_count_off s l h) =
      roster_fails alias b s R.BadCount (⊎_elim (λ e. roster_few b 5 l (omega (arith, e))) (λ e. roster_many b 5 l (omega (arith, e)) e) h)
  refuses _ (mourned_count_above s l h) = lone_tail alias b s R.BadCount (tail_3 alias b l h)
  refuses _ (own_zero s l z) = let w = kind_passes alias b s in lone_head alias b R.ZeroSerial (w.2 ∙ S.serial_zero b 1 (roster_after alias w.0) l (own b) refl z)
  refuses _ (serial_zero {k} s l h z) = serials_fail alias b s l R.ZeroSerial (λ m. serial_4 b k m h z)
  refuses _ (mourned_zero {j} s l h z) = mourned_fails alias b s l R.ZeroSerial (λ m. mourned_4 alias b j m h z)
  refuses _ (serial_twice {j} {k} s l h z i e) = serials_fail alias b s l R.Twice (λ m. serial_5 b k m h z j i e)
  refuses _ (own_off s h) = lone_head alias b R.NotOnRoster ((whole_roster alias b s).2 ∙ S.check_no _ R.NotOnRoster _ (not_on alias b (own b) h))
  refuses _ (mourned_off {j} s l h z f) = mourned_fails alias b s l R.NotOnRoster (λ m. mourned_6 alias b j m h z (not_on alias b (mourned_serial b j) f))
  refuses _ (mourned_order {i} {j} {p} {q} s l h z u m v n) =
      let r : RosterSound b (roster_count b) = s.count.head.roster in
      mourned_fails alias b s l R.OutOfOrder (λ k. mourned_7 alias b j k h z (stands_place alias b r (mourned_serial b j) p u).0 (falling alias b r i j p q s.each u m v n))
  refuses _ (follows s l) =
      lone_read alias b s.count.head _ _ (tail_read alias b s)
      ∙ S.check_no _ R.BytesAfter _ (ne_eqb (length (drop (mourned_at b (mourned_count b)) b)) 0 (λ z. omega (arith, l, z, length-drop (mourned_at b (mourned_count b)) b)))

-- ---- the bytes have no fault: the reader reads what stands there

module _ (alias : ℕ → ℕ) (b : List ℕ) where
  -- the set holds the places of the serials that were read
  module _ (s : RosterSound b (roster_count b)) where
    stands_at : (j : ℕ) → MournedSound alias b j → StandsAt alias b (mourned_serial b j) (place_at alias b j)
    stands_at j w = subst (StandsAt alias b (mourned_serial b j)) (sym (place_is alias b s j w)) w.stands

    set_from : (k q : ℕ) → ((i : ℕ) → i < k → MournedSound alias b i) → set_at alias b k q ≡ true → (j : ℕ) × (j < k) × StandsAt alias b (mourned_serial b j) q
    unfolding set_at
    set_from zero q e h = clash h refl
    set_from (suc k) q e h =
        ⊎_elim (λ f. let w = set_from k q (λ i l. e i (omega arith)) f in (w.0, omega (arith, w.1), w.2)) last (or_cases (set_at alias b k q) (eqb q (place_at alias b k)) h)
      where
        last : eqb q (place_at alias b k) ≡ true → (j : ℕ) × (j < suc k) × StandsAt alias b (mourned_serial b j) q
        last f =
            let d : q ≡ place_at alias b k = eqb-true q (place_at alias b k) f in
            (k, omega arith, subst (StandsAt alias b (mourned_serial b k)) (sym d) (stands_at k (e k (omega arith))))

    set_holds : (k q j : ℕ) → j < k → StandsAt alias b (mourned_serial b j) q → set_at alias b k q ≡ true
    unfolding set_at
    set_holds zero q j l u = absurd (omega arith)
    set_holds (suc k) q j l u = go (λ m. set_holds k q j m u) (ℕ_discrete j k)
      where
        is : place_at alias b j ≡ q
        is = (stands_place alias b s (mourned_serial b j) q u).1

        go : (j < k → set_at alias b k q ≡ true) → Dec (j ≡ k) → set_at alias b k q || eqb q (place_at alias b k) ≡ true
        go f (yes d) = or_right (set_at alias b k q) (eq-eqb q (place_at alias b k) (sym is ∙ ap (λ (j : ℕ). place_at alias b j) d))
        go f (no d) = or_left (eqb q (place_at alias b k)) (f (omega arith))

  -- what a record that was read says of the bytes
  abbrev Says : Stored → Type 0
  Says x =
      (kind_byte x.kind ≡ get_or b 0 0) × StandsAt alias b (own b) x.own × (x.roster ≡ serials (roster_count b) (drop 6 b))
      × ((q : ℕ) → (x.mourned q ≡ true) ↔ ((j : ℕ) × (j < mourned_count b) × StandsAt alias b (mourned_serial b j) q))

  reads : SoundBytes alias b → (x : Stored) × (lone alias b ≡ got x []) × Says x
  reads s =
      let t : TailSound alias b (mourned_count b) = s.tail in
      let h : HeadSound alias b = t.count.head in
      let x : Stored = record { kind = (head_passes alias b h).0; own = place_on alias (roster b) (own b); roster = roster b; mourned = set_at alias b (mourned_count b) } in
      let none : drop (mourned_at b (mourned_count b)) b ≡ [] = drop_of_length-le b {i = mourned_at b (mourned_count b)} (omega (arith, s.ends)) in
      let read : lone alias b ≡ got x [] =
      lone_read alias b h _ _ (tail_read alias b t)
      ∙ S.check_yes _ R.BytesAfter _ (eq-eqb (length (drop (mourned_at b (mourned_count b)) b)) 0 (ap length none)) ∙ ap (λ (l : List ℕ). got x l) none in
      let says : Says x = (
        (head_passes alias b h).1,
        place_stands alias b (own b) (stands_place alias b h.roster (own b) h.on.0 h.on.1).0,
        refl,
        λ q. (set_from h.roster (mourned_count b) q t.each, λ w. set_holds h.roster (mourned_count b) q w.0 w.1 w.2),
      ) in
      (x, read, says)

-- ---- the bytes have a fault or none

below_suc : (P : ℕ → Type 0) (k : ℕ) → ((j : ℕ) → j < k → P j) → P k → (j : ℕ) → j < suc k → P j
below_suc P k e w j l = go (ℕ_discrete j k)
  where
    go : Dec (j ≡ k) → P j
    go (yes d) = subst P (sym d) w
    go (no d) = e j (omega arith)

-- some value below k is at least p, or none is
reaching : (f : ℕ → ℕ) (k p : ℕ) → ((i : ℕ) × (i < k) × (p ≤ f i)) ⊎ ((i : ℕ) → i < k → f i < p)
reaching f zero p = inr (λ i l. absurd (omega arith))
reaching f (suc k) p = go (dec_lt (f k) p) (reaching f k p)
  where
    go : Dec (f k < p) → ((i : ℕ) × (i < k) × (p ≤ f i)) ⊎ ((i : ℕ) → i < k → f i < p) → ((i : ℕ) × (i < suc k) × (p ≤ f i)) ⊎ ((i : ℕ) → i < suc k → f i < p)
    go (no h) w = inl (k, omega arith, omega arith)
    go (yes h) (inl w) = inl (w.0, omega (arith, w.1), w.2)
    go (yes h) (inr w) = inr (below_suc (λ i. f i < p) k w h)

module _ (alias : ℕ → ℕ) (b : List ℕ) where
  abbrev Faulty : Type 0
  Faulty = (j : Refusal) × Fault alias b j

  kind_judged : Faulty ⊎ KindSound b
  kind_judged = go (dec_lt (length b) 1) (ℕ_discrete (get_or b 0 0) 1) (ℕ_discrete (get_or b 0 0) 2)
    where
      go : Dec (length b < 1) → Dec (get_or b 0 0 ≡ 1) → Dec (get_or b 0 0 ≡ 2) → Faulty ⊎ KindSound b
      go (yes l) e f = inl (R.EndsEarly, no_kind l)
      go (no l) (yes e) f = inr (record { there = omega arith; known = inl e })
      go (no l) (no e) (yes f) = inr (record { there = omega arith; known = inr f })
      go (no l) (no e) (no f) = inl (R.UnknownKind, unknown_kind (omega arith) e f)

  own_judged : KindSound b → Faulty ⊎ OwnSound b
  own_judged s = go (dec_lt (length b) 5) (ℕ_discrete (own b) 0)
    where
      go : Dec (length b < 5) → Dec (own b ≡ 0) → Faulty ⊎ OwnSound b
      go (yes l) z = inl (R.EndsEarly, own_cut s l)
      go (no l) (yes z) = inl (R.ZeroSerial, own_zero s (omega arith) z)
      go (no l) (no z) = inr (record { kind = s; there = omega arith; not_zero = z })

  count_judged : OwnSound b → Faulty ⊎ CountSound b
  count_judged s = go (dec_lt (length b) 6) (ℕ_discrete (roster_count b) 0) (dec_lt 128 (roster_count b))
    where
      go : Dec (length b < 6) → Dec (roster_count b ≡ 0) → Dec (128 < roster_count b) → Faulty ⊎ CountSound b
      go (yes l) e f = inl (R.EndsEarly, no_roster_count s l)
      go (no l) (yes e) f = inl (R.BadCount, roster_count_off s (omega arith) (inl e))
      go (no l) (no e) (yes f) = inl (R.BadCount, roster_count_off s (omega arith) (inr f))
      go (no l) (no e) (no f) = inr (record { owner = s; there = omega arith; some = omega arith; few = omega arith })

  serial_judged : (k : ℕ) → RosterSound b k → k < roster_count b → Faulty ⊎ SerialSound b k
  serial_judged k s h = go (dec_lt (length b) (6 + 4 * suc k)) (ℕ_discrete (roster_serial b k) 0) (holds (roster_serial b k) (serials k (drop 6 b))) refl
    where
      n : length (serials k (drop 6 b)) ≡ k
      n = S.length_serials k (drop 6 b)

      go : Dec (length b < 6 + 4 * suc k) → Dec (roster_serial b k ≡ 0) → (t : Bool) → holds (roster_serial b k) (serials k (drop 6 b)) ≡ t → Faulty ⊎ SerialSound b k
      go (yes l) z t e = inl (R.EndsEarly, serial_cut s h l)
      go (no l) (yes z) t e = inl (R.ZeroSerial, serial_zero s h (omega arith) z)
      go (no l) (no z) true e =
          let p : ℕ = place_of (roster_serial b k) (serials k (drop 6 b)) in
          let m : p < length (serials k (drop 6 b)) = holds_below (roster_serial b k) (serials k (drop 6 b)) e in
          let i : p < k = omega (arith, m, n) in
          inl (R.Twice, serial_twice s h (omega arith) z i (sym (listed b k p i) ∙ place_at_lem (roster_serial b k) (serials k (drop 6 b)) m))
      go (no l) (no z) false e =
          inr (record {
            there = omega arith;
            not_zero = z;
            new = λ j m d. holds_nowhere (roster_serial b k) (serials k (drop 6 b)) e j (omega (arith, m, n)) (listed b k j m ∙ d);
          })

  roster_judged : (m k : ℕ) → k + m ≡ roster_count b → RosterSound b k → Faulty ⊎ RosterSound b (roster_count b)
  roster_judged zero k e s = let d : k ≡ roster_count b = omega (arith, e) in inr (subst (RosterSound b) d s)
  roster_judged (suc m) k e s =
      ⊎_elim inl (λ w. roster_judged m (suc k) (omega (arith, e)) (record { count = s.count; each = below_suc (SerialSound b) k s.each w })) (serial_judged k s (omega (arith, e)))

  head_judged : RosterSound b (roster_count b) → Faulty ⊎ HeadSound alias b
  head_judged s = go (is_on alias (roster b) (own b)) refl
    where
      go : (t : Bool) → is_on alias (roster b) (own b) ≡ t → Faulty ⊎ HeadSound alias b
      go true e = inr (record { roster = s; on = (place_on alias (roster b) (own b), place_stands alias b (own b) e) })
      go false e = inl (R.NotOnRoster, own_off s (off_roster_lem alias b s (own b) e))

  mourned_count_judged : HeadSound alias b → Faulty ⊎ MournedCountSound alias b
  mourned_count_judged s = go (dec_lt (length b) (tail_at b + 1)) (dec_lt (roster_count b) (mourned_count b))
    where
      go : Dec (length b < tail_at b + 1) → Dec (roster_count b < mourned_count b) → Faulty ⊎ MournedCountSound alias b
      go (yes l) h = inl (R.EndsEarly, no_mourned_count s l)
      go (no l) (yes h) = inl (R.BadCount, mourned_count_above s (omega arith) h)
      go (no l) (no h) = inr (record { head = s; there = omega arith; few = omega arith })

  mourned_judged : (k : ℕ) → TailSound alias b k → k < mourned_count b → Faulty ⊎ MournedSound alias b k
  mourned_judged k s h =
      go (dec_lt (length b) (mourned_at b (suc k))) (ℕ_discrete (mourned_serial b k) 0) (is_on alias (roster b) (mourned_serial b k)) refl
      (reaching (λ j. place_at alias b j) k (place_at alias b k))
    where
      r : RosterSound b (roster_count b)
      r = s.count.head.roster

      go : Dec (length b < mourned_at b (suc k)) → Dec (mourned_serial b k ≡ 0) → (t : Bool) → is_on alias (roster b) (mourned_serial b k) ≡ t
          → ((i : ℕ) × (i < k) × (place_at alias b k ≤ place_at alias b i)) ⊎ ((i : ℕ) → i < k → place_at alias b i < place_at alias b k) → Faulty ⊎ MournedSound alias b k
      go (yes l) z t e w = inl (R.EndsEarly, mourned_cut s h l)
      go (no l) (yes z) t e w = inl (R.ZeroSerial, mourned_zero s h (omega arith) z)
      go (no l) (no z) false e w = inl (R.NotOnRoster, mourned_off s h (omega arith) z (off_roster_lem alias b r (mourned_serial b k) e))
      go (no l) (no z) true e (inl w) =
          inl (R.OutOfOrder, mourned_order s h (omega arith) z (place_stands alias b (mourned_serial b k) e) w.1 (stands_at alias b r w.0 (s.each w.0 w.1)) w.2)
      go (no l) (no z) true e (inr w) =
          inr (record {
            there = omega arith;
            not_zero = z;
            place = place_at alias b k;
            stands = place_stands alias b (mourned_serial b k) e;
            behind = λ i p m u. omega (arith, w i m, (stands_place alias b r (mourned_serial b i) p u).1);
          })

  tail_judged : (m k : ℕ) → k + m ≡ mourned_count b → TailSound alias b k → Faulty ⊎ TailSound alias b (mourned_count b)
  tail_judged zero k e s = let d : k ≡ mourned_count b = omega (arith, e) in inr (subst (TailSound alias b) d s)
  tail_judged (suc m) k e s =
      ⊎_elim inl (λ w. tail_judged m (suc k) (omega (arith, e)) (record { count = s.count; each = below_suc (MournedSound alias b) k s.each w })) (mourned_judged k s (omega (arith, e)))

  all_there : (m : ℕ) → TailSound alias b m → mourned_at b m ≤ length b
  all_there zero s = omega (arith, s.count.there)
  all_there (suc m) s = (s.each m (omega arith)).there

  end_judged : TailSound alias b (mourned_count b) → Faulty ⊎ SoundBytes alias b
  end_judged s = go (dec_lt (mourned_at b (mourned_count b)) (length b))
    where
      go : Dec (mourned_at b (mourned_count b) < length b) → Faulty ⊎ SoundBytes alias b
      go (yes l) = inl (R.BytesAfter, follows s l)
      go (no l) = inr (record { tail = s; ends = omega (arith, all_there (mourned_count b) s) })

  judged : Faulty ⊎ SoundBytes alias b
  judged = ⊎_elim inl owned kind_judged
    where
      mourned : HeadSound alias b → Faulty ⊎ SoundBytes alias b
      mourned h =
          ⊎_elim inl (λ c. ⊎_elim inl end_judged (tail_judged (mourned_count b) 0 (omega arith) (record { count = c; each = λ i l. absurd (omega arith) }))) (mourned_count_judged h)

      counted : CountSound b → Faulty ⊎ SoundBytes alias b
      counted c =
          ⊎_elim inl (λ r. ⊎_elim inl mourned (head_judged r)) (roster_judged (roster_count b) 0 (omega arith) (record { count = c; each = λ i l. absurd (omega arith) }))

      owned : KindSound b → Faulty ⊎ SoundBytes alias b
      owned k = ⊎_elim inl (λ o. ⊎_elim inl counted (count_judged o)) (own_judged k)

-- ---- the reader answers just by the faults

refused_one : (i j : Refusal) → ◌≡◌ {A = Parsed Stored} (refused i) (refused j) → i ≡ j
refused_one i j e = cc

-- the reader refuses by j just where the first fault of the bytes is j
pub fault_iff : (alias : ℕ → ℕ) (b : List ℕ) (j : Refusal) → (lone alias b ≡ refused j) ↔ Fault alias b j
fault_iff alias b j = (λ e. ⊎_elim (faulty e) (sound e) (judged alias b), refuses alias b j)
  where
    faulty : lone alias b ≡ refused j → Faulty alias b → Fault alias b j
    faulty e w = subst (Fault alias b) (refused_one w.0 j (sym (refuses alias b w.0 w.1) ∙ e)) w.1

    sound : lone alias b ≡ refused j → SoundBytes alias b → Fault alias b j
    sound e s = let z : ◌≡◌ {A = ℕ} 0 1 = cc (reads alias b s).1 in absurd (omega arith)

-- no fault where it reads
read_sound : (alias : ℕ → ℕ) (b : List ℕ) (x : Stored) (t : List ℕ) → lone alias b ≡ got x t → SoundBytes alias b
read_sound alias b x t e = ⊎_elim (λ w. let z : ◌≡◌ {A = ℕ} 0 1 = cc (refuses alias b w.0 w.1) in absurd (omega arith)) (λ s. s) (judged alias b)

-- it reads just where the bytes have no fault
pub sound_iff : (alias : ℕ → ℕ) (b : List ℕ) → ((x : Stored) × (lone alias b ≡ got x [])) ↔ SoundBytes alias b
sound_iff alias b = (λ w. read_sound alias b w.0 [] w.1, λ s. let w = reads alias b s in (w.0, w.1))

-- what it then says stands in the bytes
pub sound_says : (alias : ℕ → ℕ) (b : List ℕ) (x : Stored) (t : List ℕ) → lone alias b ≡ got x t
    → (kind_byte x.kind ≡ get_or b 0 0) × StandsAt alias b (own b) x.own × (x.roster ≡ serials (roster_count b) (drop 6 b))
    × ((q : ℕ) → (x.mourned q ≡ true) ↔ ((j : ℕ) × (j < mourned_count b) × StandsAt alias b (mourned_serial b j) q))
sound_says alias b x t e =
    let w = reads alias b (read_sound alias b x t e) in
    let g : got w.0 [] ≡ got x t = sym w.1 ∙ e in
    let d : w.0 ≡ x = cc in
    subst (Says alias b) d w.2
