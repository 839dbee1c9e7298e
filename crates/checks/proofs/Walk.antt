-- The walk that looks for a circle: each place of its path stands in the row of the one before. Assumes nothing.
use mathlib.Core.Path.{◌≡◌, refl, sym, ap, ◌∙◌}
use mathlib.Core.Bool.{true, false, not, ◌&&◌, ◌||◌}
use mathlib.Core.Logic.{◌⊎◌, inl, inr, ⊎_elim}
use mathlib.Core.List.{List}
use Prim.Native.Nat.{ℕ, zero, suc, ◌+◌, ◌-◌, ◌<◌, ◌≤◌}
use native.Mathlib.Omega.{arith}
use native.Mathlib.Decide.{ℕ_discrete}
use lib.Dec.{ltb, eqb}
use lib.ListN.{length, get_or, set, length-set}
use lib.Seq.{get_or-set_same, get_or-set_other}
use borrow.Author.Tests.{ltb-true, lt-ltb, ne_eqb, eqb-true}
use Rattle.sets.specs.Sets.{Places, nothing, below, intersection, with, without, any, all, count}
use Rattle.sets.specs.PlaceSets.{has, kept}
use Rattle.sets.specs.declared.PlaceSet.{PlaceSet}
use Rattle.sets.proofs.Booleans.{clash, is_false, and_intro, and_left, and_right, or_cases, or_left, or_right, not_intro, minus_elim, minus_intro, eqb_self}
use Rattle.sets.proofs.Tests.{any_elim, any_none, all_intro, last_or_below}
use Rattle.sets.proofs.Counting.{count_at_most, count_without}
use Rattle.sets.proofs.Laws.{has_below, kept_with, without_count}
use Rattle.histories.specs.Histories.{History, Before, heard, through}
use Rattle.histories.specs.Rule.{reach}
use Rattle.histories.proofs.Closure.{before_trans, reach_sound, reach_complete}
use Rattle.checks.proofs.Checks.{all_not}

-- ---- places from which no walk goes round

-- every walk from p over places below n ends
pub data Ends (n : ℕ) (H : History) : ℕ → Type 0 where
  ends : {p : ℕ} → ((q : ℕ) → q < n → H p q ≡ true → Ends n H q) → Ends n H p

-- what is before p is in its row, or before one that is in its row
nearest : {H : History} {q p : ℕ} → Before H q p → (m : ℕ) × (H p m ≡ true) × ((q ≡ m) ⊎ Before H q m)
nearest (heard {q = q} e) = (q, e, inl refl)
nearest {H} (through {q = q} {m = m} e b) = let r = nearest b in (r.0, r.1, inr (⊎_elim (λ s. heard (rw s at e)) (λ c. through e c) r.2))

module _ (n : ℕ) (H : History) (rows_on : (p q : ℕ) → H p q ≡ true → p < n) where
  before_on : {q p : ℕ} → Before H q p → p < n
  before_on (heard {q = q} {p = p} e) = rows_on p q e
  before_on (through e b) = before_on b

  ends_apart : {p : ℕ} → Ends n H p → Before H p p → ⊥
  ends_apart (ends {p = p} f) b = let r = nearest b in ends_apart (f r.0 (on r.1 r.2) r.1) (turned r.1 r.2)
    where
      on : {m : ℕ} → H p m ≡ true → (p ≡ m) ⊎ Before H p m → m < n
      on {m} e (inl s) = rw s at (rows_on p m e)
      on e (inr c) = before_on c

      turned : {m : ℕ} → H p m ≡ true → (p ≡ m) ⊎ Before H p m → Before H m m
      turned e (inl s) = rw s at b
      turned e (inr c) = before_trans (heard e) c

  -- ---- the two answers

  no_circle : ((p : ℕ) → p < n → Ends n H p) → true ≡ all n (λ p. not (reach n H p p))
  no_circle f = sym (all_intro n (λ p. not (reach n H p p)) (λ p l. not_intro (is_false (reach n H p p) (λ e. ends_apart (f p l) (reach_sound n H p p e)))))

  circle : {p : ℕ} → Before H p p → false ≡ all n (λ p. not (reach n H p p))
  circle {p} b = sym (all_not n (λ p. not (reach n H p p)) p (before_on b) (ap not (reach_complete n H rows_on b)))

-- ---- the path: `on` holds its places, the first `depth` of `path`

pub record Path (n : ℕ) (H : History) (on : Places) (path : List ℕ) (depth : ℕ) : Type 0 where
  pub stands : (i : ℕ) → i < depth → (get_or path i 0 < n) × (on (get_or path i 0) ≡ true)
  pub listed : (q : ℕ) → on q ≡ true → (i : ℕ) × (i < depth) × (get_or path i 0 ≡ q)
  pub linked : (i : ℕ) → suc i < depth → H (get_or path i 0) (get_or path (suc i) 0) ≡ true

module _ {n : ℕ} {H : History} {on : Places} {path : List ℕ} {depth : ℕ} (t : Path n H on path depth) where
  -- a place of the path is before each that stands there earlier
  before_earlier : (k i : ℕ) → i + suc k < depth → Before H (get_or path (i + suc k) 0) (get_or path i 0)
  before_earlier zero i l =
      let e : suc i ≡ i + suc zero = omega arith in
      let b : Before H (get_or path (suc i) 0) (get_or path i 0) = heard (t.linked i (omega arith)) in
      rw e at b
  before_earlier (suc k) i l =
      let e : suc (i + suc k) ≡ i + suc (suc k) = omega arith in
      let b : Before H (get_or path (suc (i + suc k)) 0) (get_or path i 0) = through (t.linked (i + suc k) (omega arith)) (before_earlier k i (omega arith)) in
      rw e at b

  -- the row of the last place meets the path: a circle
  path_circle : (d q : ℕ) → depth ≡ suc d → H (get_or path d 0) q ≡ true → on q ≡ true → Before H q q
  path_circle d q e h o = let r = t.listed q o in go r.0 r.1 r.2 (ℕ_discrete r.0 d)
    where
      go : (i : ℕ) → i < depth → get_or path i 0 ≡ q → Dec (i ≡ d) → Before H q q
      go i l s (yes z) =
          let w : get_or path d 0 ≡ q = rw z at s in
          let f : H q q ≡ true = rw w at h in
          heard f
      go i l s (no z) =
          let f : i + suc (d - suc i) ≡ d = omega arith in
          let b : Before H (get_or path d 0) (get_or path i 0) = rw f at (before_earlier (d - suc i) i (omega arith)) in
          before_trans (heard h) (rw s at b)

  -- a place of the last one's row is put behind it
  path_longer : (p : ℕ) (more : Places) → depth < length path → p < n → ((i : ℕ) → depth ≡ suc i → H (get_or path i 0) p ≡ true) → more ≡ with p on
      → Path n H more (set path depth p) (depth + 1)
  path_longer p more l m follows e = record {
    stands = λ i k. stands_at i (last_or_below i depth (omega arith));
    listed = λ q h. listed_at q (or_cases (on q) (eqb q p) (sym (at q) ∙ h));
    linked = λ i k. linked_at i (last_or_below (suc i) depth (omega arith));
  }
    where
      at : (q : ℕ) → more q ≡ on q || eqb q p
      at q = ap (λ (S : Places). S q) e

      here : get_or (set path depth p) depth 0 ≡ p
      here = get_or-set_same path depth p 0 l

      there : (i : ℕ) → i < depth → get_or (set path depth p) i 0 ≡ get_or path i 0
      there i k = get_or-set_other path depth i p 0 (omega arith)

      stands_at : (i : ℕ) → (i ≡ depth) ⊎ (i < depth) → (get_or (set path depth p) i 0 < n) × (more (get_or (set path depth p) i 0) ≡ true)
      stands_at i (inl s) = rw (s, here) (m, at p ∙ or_right (on p) (eqb_self p))
      stands_at i (inr k) = rw (there i k) ((t.stands i k).0, at (get_or path i 0) ∙ or_left (eqb (get_or path i 0) p) (t.stands i k).1)

      listed_at : (q : ℕ) → (on q ≡ true) ⊎ (eqb q p ≡ true) → (i : ℕ) × (i < depth + 1) × (get_or (set path depth p) i 0 ≡ q)
      listed_at q (inl h) = let r = t.listed q h in (r.0, omega arith, there r.0 r.1 ∙ r.2)
      listed_at q (inr h) = (depth, omega arith, here ∙ sym (eqb-true q p h))

      linked_at : (i : ℕ) → (suc i ≡ depth) ⊎ (suc i < depth) → H (get_or (set path depth p) i 0) (get_or (set path depth p) (suc i) 0) ≡ true
      linked_at i (inl s) = rw (there i (omega arith), s, here) (follows i (sym s))
      linked_at i (inr k) = rw (there i (omega arith), there (suc i) k) (t.linked i k)

-- ---- the whole walk: the places of `left` were not met yet, and no walk goes round from those that are neither left nor on the path

pub record Walk (n : ℕ) (H : History) (path : List ℕ) (depth : ℕ) (on left : PlaceSet) : Type 0 where
  pub whole : length path ≡ 128
  pub room : depth + count 128 (has left) ≤ 128
  pub along : Path n H (has on) path depth
  -- no place of the path stands in its own row or in that of a later one
  pub apart : (j i : ℕ) → j ≤ i → i < depth → H (get_or path i 0) (get_or path j 0) ≡ false
  pub unmet : (q : ℕ) → has left q ≡ true → (q < n) × (has on q ≡ false)
  pub over : (q : ℕ) → q < n → has left q ≡ false → has on q ≡ false → Ends n H q

pub walk_starts : (n : ℕ) (H : History) (path : List ℕ) (on left : PlaceSet) → n ≤ 128 → length path ≡ 128 → has on ≡ nothing → has left ≡ kept (below n)
    → Walk n H path 0 on left
walk_starts n H path on left l w eo el = record {
  whole = w;
  room = omega (arith, count_at_most 128 (has left));
  along = record { stands = λ i k. absurd (omega arith); listed = λ q h. clash h (none q); linked = λ i k. absurd (omega arith) };
  apart = λ j i _ k. absurd (omega arith);
  unmet = λ q h. (ltb-true q n (and_left (ltb q n) (ltb q 128) (sym (at q) ∙ h)), none q);
  over = λ q k h _. clash (at q ∙ and_intro (lt-ltb q n k) (lt-ltb q 128 (omega arith))) h;
}
  where
    none : (q : ℕ) → has on q ≡ false
    none q = ap (λ (S : Places). S q) eo

    at : (q : ℕ) → has left q ≡ ltb q n && ltb q 128
    at q = ap (λ (S : Places). S q) el

module _ (n : ℕ) (H : History) (path : List ℕ) (depth : ℕ) (on left : PlaceSet) (t : Walk n H path depth on left) where
  -- where the walk can go on, as the code has it
  module _ (next : PlaceSet) (start : depth ≡ 0 → has next ≡ has left)
      (go_on : 0 < depth → get_or path (depth - 1) 0 < n → has next ≡ intersection (H (get_or path (depth - 1) 0)) (has left)) where
    row_of_last : (i : ℕ) → depth ≡ suc i → (q : ℕ) → has next q ≡ H (get_or path i 0) q && has left q
    row_of_last i e q =
        let f : depth - 1 ≡ i = omega arith in
        ap (λ (S : Places). S q) (go_on (omega arith) (t.along.stands (depth - 1) (omega arith)).0) ∙ ap (λ (x : ℕ). H (get_or path x 0) q && has left q) f

    pub next_left : (q : ℕ) → has next q ≡ true → has left q ≡ true
    next_left q h = go (ℕ_discrete depth 0)
      where
        go : Dec (depth ≡ 0) → has left q ≡ true
        go (yes z) = sym (ap (λ (S : Places). S q) (start z)) ∙ h
        go (no z) = and_right (H (get_or path (depth - 1) 0) q) (has left q) (sym (row_of_last (depth - 1) (omega arith) q) ∙ h)

    pub next_follows : (q : ℕ) → has next q ≡ true → (i : ℕ) → depth ≡ suc i → H (get_or path i 0) q ≡ true
    next_follows q h i e = and_left (H (get_or path i 0) q) (has left q) (sym (row_of_last i e q) ∙ h)

    pub next_none : ((q : ℕ) → q < 128 → has next q ≡ false) → (i : ℕ) → depth ≡ suc i → (q : ℕ) → q < 128 → H (get_or path i 0) q && has left q ≡ false
    next_none none i e q l = sym (row_of_last i e q) ∙ none q l

  -- the array is long enough while a place is left
  pub walk_room : (p : ℕ) → has left p ≡ true → depth < 128
  walk_room p l = omega (arith, count_without 128 (has left) p (has_below left p l) l, t.room)

  -- a place that is left is put behind the last one
  module _ (p : ℕ) (more rest : PlaceSet) (l : has left p ≡ true) (follows : (i : ℕ) → depth ≡ suc i → H (get_or path i 0) p ≡ true)
      (em : has more ≡ kept (with p (has on))) (er : has rest ≡ without p (has left)) where
    fewer : count 128 (has left) ≡ suc (count 128 (has rest))
    fewer = without_count left rest p l er

    longer : Path n H (has more) (set path depth p) (depth + 1)
    longer =
        path_longer t.along p (has more) (omega (arith, t.whole, walk_room p l)) (t.unmet p l).0 follows (em ∙ kept_with on p (has_below left p l))

    pub walk_longer : (row : PlaceSet) → has row ≡ H p → any 128 (intersection (has row) (has more)) ≡ false → Walk n H (set path depth p) (depth + 1) more rest
    walk_longer row e none = record {
      whole = length-set path depth p ∙ t.whole;
      room = omega (arith, fewer, t.room);
      along = longer;
      apart = λ j i a k. apart_at j i a (last_or_below i depth (omega arith));
      unmet = λ q h. let m = minus_elim (has left q) (eqb q p) (sym (in_rest q) ∙ h) in
          ((t.unmet q m.0).0, in_more q ∙ rw (t.unmet q m.0).1 m.1);
      over = λ q k h o. over_at q k h o (ℕ_discrete q p);
    }
      where
        in_rest : (q : ℕ) → has rest q ≡ has left q && not (eqb q p)
        in_rest q = ap (λ (S : Places). S q) er

        in_more : (q : ℕ) → has more q ≡ has on q || eqb q p
        in_more q = ap (λ (S : Places). S q) (em ∙ kept_with on p (has_below left p l))

        apart_at : (j i : ℕ) → j ≤ i → (i ≡ depth) ⊎ (i < depth) → H (get_or (set path depth p) i 0) (get_or (set path depth p) j 0) ≡ false
        apart_at j i a (inl s) =
            let q = get_or (set path depth p) j 0 in
            let o : has more q ≡ true = (longer.stands j (omega arith)).1 in
            let here : get_or (set path depth p) i 0 ≡ p = rw s (get_or-set_same path depth p 0 (omega (arith, t.whole, walk_room p l))) in
            let free = any_none 128 (intersection (has row) (has more)) none q (has_below more q o) in
            is_false (H (get_or (set path depth p) i 0) q) (λ h. clash (and_intro (ap (λ (S : Places). S q) e ∙ (rw here at h)) o) free)
        apart_at j i a (inr k) =
            rw (get_or-set_other path depth i p 0 (omega arith), get_or-set_other path depth j p 0 (omega arith)) (t.apart j i a k)

        over_at : (q : ℕ) → q < n → has rest q ≡ false → has more q ≡ false → Dec (q ≡ p) → Ends n H q
        over_at q k h o (yes s) = clash (in_more q ∙ or_right (has on q) (rw s (eqb_self p))) o
        over_at q k h o (no d) =
            t.over q k (is_false (has left q) (λ x. clash (in_rest q ∙ minus_intro x (ne_eqb q p d)) h)) (is_false (has on q) (λ x. clash (in_more q ∙ or_left (eqb q p) x) o))

    -- or its row meets the path
    pub walk_circle : ((p q : ℕ) → H p q ≡ true → p < n) → (row : PlaceSet) → has row ≡ H p → any 128 (intersection (has row) (has more)) ≡ true
        → false ≡ all n (λ p. not (reach n H p p))
    walk_circle rows_on row e some =
        let r = any_elim 128 (intersection (has row) (has more)) some in
        let q = r.0 in
        let h : H p q ≡ true = sym (ap (λ (S : Places). S q) e) ∙ and_left (has row q) (has more q) r.2 in
        let here : get_or (set path depth p) depth 0 ≡ p = get_or-set_same path depth p 0 (omega (arith, t.whole, walk_room p l)) in
        circle n H rows_on (path_circle longer depth q (omega arith) (rw here h) (and_right (has row q) (has more q) r.2))

  -- nothing in the last one's row is left: it leaves the path
  pub walk_shorter : (d : ℕ) (less : PlaceSet) → depth ≡ suc d → ((q : ℕ) → q < 128 → H (get_or path d 0) q && has left q ≡ false) → has less ≡ without (get_or path d 0) (has on)
      → Walk n H path d less left
  walk_shorter d less e none es = record {
    whole = t.whole;
    room = omega (arith, t.room);
    along = record {
      stands = λ i k. ((t.along.stands i (omega arith)).0, in_less (get_or path i 0) ∙ minus_intro (t.along.stands i (omega arith)).1 (ne_eqb (get_or path i 0) end (other i k)));
      listed = λ q h. let m = minus_elim (has on q) (eqb q end) (sym (in_less q) ∙ h) in
          let r = t.along.listed q m.0 in
          (r.0, earlier q r.0 m.1 r.1 r.2 (ℕ_discrete r.0 d), r.2);
      linked = λ i k. t.along.linked i (omega arith);
    };
    apart = λ j i a k. t.apart j i a (omega arith);
    unmet = λ q h. ((t.unmet q h).0, is_false (has less q) (λ x. clash (minus_elim (has on q) (eqb q end) (sym (in_less q) ∙ x)).0 (t.unmet q h).1));
    over = λ q k h o. over_at q k h o (ℕ_discrete q end);
  }
    where
      end : ℕ
      end = get_or path d 0

      in_less : (q : ℕ) → has less q ≡ has on q && not (eqb q end)
      in_less q = ap (λ (S : Places). S q) es

      -- the places of the path are apart
      other : (i : ℕ) → i < d → get_or path i 0 ≡ end → ⊥
      other i k s =
          let f : suc (d - 1) ≡ d = omega arith in
          clash (rw f at (t.along.linked (d - 1) (omega arith))) (rw s at (t.apart i (d - 1) (omega arith) (omega arith)))

      earlier : (q i : ℕ) → eqb q end ≡ false → i < depth → get_or path i 0 ≡ q → Dec (i ≡ d) → i < d
      earlier q i f l s (yes z) = clash (rw (← s, z) (eqb_self end)) f
      earlier q i f l s (no z) = omega arith

      -- what stands in its row is over
      beyond : (q : ℕ) → q < n → H end q ≡ true → Ends n H q
      beyond q k h = t.over q k (is_false (has left q) (λ x. clash (and_intro h x) (none q (has_below left q x))))
          (is_false (has on q) (λ x. let r = t.along.listed q x in clash (ap (H end) r.2 ∙ h) (t.apart r.0 d (omega arith) (omega arith))))

      over_at : (q : ℕ) → q < n → has left q ≡ false → has less q ≡ false → Dec (q ≡ end) → Ends n H q
      over_at q k h o (yes s) =
          let e : Ends n H end = ends beyond in
          rw s e
      over_at q k h o (no z) = t.over q k h (is_false (has on q) (λ x. clash (in_less q ∙ minus_intro x (ne_eqb q end z)) o))

  -- nobody is left, and no path
  pub walk_ends : ((p q : ℕ) → H p q ≡ true → p < n) → n ≤ 128 → depth ≡ 0 → ((q : ℕ) → q < 128 → has left q ≡ false) → true ≡ all n (λ p. not (reach n H p p))
  walk_ends rows_on l z none =
      no_circle n H rows_on (λ p k. t.over p k (none p (omega arith)) (is_false (has on p) (λ x. let r = t.along.listed p x in absurd (omega arith))))
