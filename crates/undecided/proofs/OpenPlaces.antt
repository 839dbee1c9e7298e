-- All open places at once. Assumes nothing.
use mathlib.Core.Path.{◌≡◌, refl, sym, ap, ap₂, ◌∙◌, fun_ext, subst}
use mathlib.Core.Bool.{Bool, true, false, not, cond, ◌&&◌, ◌||◌, and-true}
use mathlib.Core.List.{List}
use Prim.Native.Nat.{ℕ, ◌<◌}
use lib.Dec.{ltb, eqb}
use borrow.Author.Tests.{eqb-true, eqb-false, ne_eqb}
use Rattle.sets.specs.Sets.{Places, nothing, below, union, intersection, difference, without, any, subset}
use Rattle.sets.specs.PlaceSets.{has}
use Rattle.sets.specs.declared.PlaceSet.{PlaceSet}
use Rattle.sets.proofs.Booleans.{clash, is_false, is_true, both_ways, and_intro, and_left, and_right, or_left, or_right, minus_elim, minus_intro}
use Rattle.sets.proofs.Tests.{any_elim, any_intro, subset_elim, subset_intro, subset_fails}
use Rattle.sets.proofs.Laws.{has_below}
use Rattle.rows.specs.Rows.{rows_of}
use Rattle.histories.specs.Histories.{Row, History, Before, heard, through, Accepted}
use Rattle.histories.specs.Rule.{recorded, reach, answer_with, open_answer}
use Rattle.histories.specs.Kept.{blockers_by, answer_by, open_by}
use Rattle.histories.proofs.Closure.{reach_sound}
use Rattle.answers.specs.Views.{size, accepted_in, recorded_in, reach_from, Sought}
use Rattle.answers.proofs.Views.{accepted_on}
use Rattle.answers.proofs.Walks.{reach_here, reach_next, before_row}
use Rattle.answers.proofs.Answers.{none_has, some_has, blockers_on, left, ruled, blocker_intro, blocker_elim, sure_ruled, open_blocked}

pub unless_stays : (b : Bool) (s : PlaceSet) (T : Places) → b ≡ true → has s ≡ cond b (has s) T
unless_stays b s T e = sym (ap (λ (x : Bool). cond x (has s) T) e)

pub unless_goes : (b : Bool) (s : PlaceSet) (r T : Places) → b ≡ false → r ≡ T → r ≡ cond b (has s) T
unless_goes b s r T e h = h ∙ sym (ap (λ (x : Bool). cond x (has s) T) e)

-- ---- those besides whom another place is left

turned : (a b : ℕ) → eqb a b ≡ false → eqb b a ≡ false
turned a b e = ne_eqb b a (λ h. eqb-false a b e (sym h))

module _ (asked rest : PlaceSet) where
  abbrev others : Row
  others = intersection (has asked) (λ i. any 128 (without i (has rest)))

  other : (i q : ℕ) → has rest q ≡ true → eqb q i ≡ false → any 128 (without i (has rest)) ≡ true
  other i q r d = any_intro 128 (without i (has rest)) q (has_below rest q r) (minus_intro r d)

  other_elim : (i : ℕ) → any 128 (without i (has rest)) ≡ true → (q : ℕ) × (has rest q ≡ true) × (eqb q i ≡ false)
  other_elim i h =
      let x = any_elim 128 (without i (has rest)) h in
      let m = minus_elim (has rest x.0) (eqb x.0 i) x.2 in
      (x.0, m.0, m.1)

  pub others_nobody : ((k : ℕ) → k < 128 → has rest k ≡ false) → (r : PlaceSet) → has r ≡ nothing → has r ≡ others
  others_nobody none r e = e ∙ fun_ext (λ i. sym (is_false (others i) (λ h. nobody i (other_elim i (and_right (has asked i) (any 128 (without i (has rest))) h)))))
    where
      nobody : (i : ℕ) → (q : ℕ) × (has rest q ≡ true) × (eqb q i ≡ false) → ⊥
      nobody i x = clash x.1 (none x.0 (has_below rest x.0 x.1))

  module _ (b : ℕ) (h : has rest b ≡ true) (more : PlaceSet) (em : has more ≡ without b (has rest)) (none : Bool) (en : none ≡ not (any 128 (has more))) where
    -- b is the only one of `rest`
    pub others_lone : none ≡ true → (r : PlaceSet) → has r ≡ without b (has asked) → has r ≡ others
    others_lone t r e = fun_ext (λ i. both_ways (has r i) (others i) (to i) (from i))
      where
        at : (i : ℕ) → has r i ≡ has asked i && not (eqb i b)
        at i = ap (λ (S : Places). S i) e

        to : (i : ℕ) → has r i ≡ true → others i ≡ true
        to i x =
            let m = minus_elim (has asked i) (eqb i b) (sym (at i) ∙ x) in
            and_intro m.0 (other i b h (turned i b m.1))

        from : (i : ℕ) → others i ≡ true → has r i ≡ true
        from i x = at i ∙ minus_intro (and_left (has asked i) (any 128 (without i (has rest))) x) (is_false (eqb i b) alone)
          where
            alone : eqb i b ≡ true → ⊥
            alone s =
                let y = other_elim i (and_right (has asked i) (any 128 (without i (has rest))) x) in
                clash (ap (λ (S : Places). S y.0) em ∙ minus_intro y.1 (ap (eqb y.0) (sym (eqb-true i b s)) ∙ y.2)) (none_has more none en t y.0)

    -- there is a second one
    pub others_more : none ≡ false → has asked ≡ others
    others_more f = fun_ext (λ i. both_ways (has asked i) (others i) (λ x. and_intro x (go i (eqb b i) refl)) (and_left (has asked i) (any 128 (without i (has rest)))))
      where
        go : (i : ℕ) (x : Bool) → eqb b i ≡ x → any 128 (without i (has rest)) ≡ true
        go i true s =
            let y = some_has more none en f in
            let m = minus_elim (has rest y.0) (eqb y.0 b) (sym (ap (λ (S : Places). S y.0) em) ∙ y.1) in
            other i y.0 m.0 (ap (eqb y.0) (sym (eqb-true b i s)) ∙ m.1)
        go i false s = other i b h s

-- ---- those before whom all of some places is

module _ (count : ℕ) (R K : PlaceSet) (w : List ℕ) (row rest start others : PlaceSet) (es : has start ≡ union (has K) (has row)) (eo : has others ≡ difference (has R) (has K))
    (holds : Bool) (seen : PlaceSet) (t : Sought (has rest) (reach_from (size count) (recorded_in count (has others) w) (has start)) holds (has seen)) where
  abbrev T : Row
  T = reach_from (size count) (recorded_in count (difference (has R) (has K)) w) (union (has K) (has row))

  both : Sought (has rest) T holds (has seen)
  both = subst (λ (T : Row). Sought (has rest) T holds (has seen)) (ap₂ (λ (S : Places) (T : Row). reach_from (size count) (recorded_in count S w) T) eo es) t

  pub known_holds : holds ≡ true → (true ≡ subset 128 (has rest) T) × (has K ≡ has K)
  known_holds h = (sym h ∙ both.told, refl)

  pub known_lacks : holds ≡ false → (holds ≡ subset 128 (has rest) T) × (has seen ≡ cond holds (has K) T)
  known_lacks h = (both.told, both.whole h ∙ sym (ap (λ (x : Bool). cond x (has K) T) h))

-- the three ways in which it is told whether all is before a row
module _ (possible certain b : Bool) where
  pub before_impossible : possible ≡ false → false ≡ possible && (certain || b)
  before_impossible e = sym (ap (λ (x : Bool). x && (certain || b)) e)

  pub before_certain : possible ≡ true → certain ≡ true → true ≡ possible && (certain || b)
  before_certain e f = sym (and_intro e (or_left b f))

  pub before_looked : possible ≡ true → certain ≡ false → (r : Bool) → r ≡ b → r ≡ possible && (certain || b)
  before_looked e f r is = is ∙ sym (ap₂ (λ (x y : Bool). x && (y || b)) e f)

-- what holds at each turn: `known` holds the rows of its members, and of `first` those that are not in `left` are told
pub record Sorting (n : ℕ) (H : History) (first rest left free known : PlaceSet) : Type 0 where
  pub closed : (p q : ℕ) → has known p ≡ true → H p q ≡ true → has known q ≡ true
  pub listed : (p : ℕ) → has left p ≡ true → has free p ≡ true
  pub within : (p : ℕ) → has free p ≡ true → has first p ≡ true
  pub told : (p : ℕ) → has first p ≡ true → has left p ≡ false → has free p ≡ subset 128 (has rest) (reach n H p)

pub sorting_starts : (n : ℕ) (H : History) (first rest known : PlaceSet) → has known ≡ nothing → Sorting n H first rest first first known
sorting_starts n H first rest known e = record {
  closed = λ p q k h. clash k (ap (λ (S : Places). S p) e);
  listed = λ p h. h;
  within = λ p h. h;
  told = λ p h l. clash h l;
}

pub sorting_ends : (n : ℕ) (H : History) (first rest left free known : PlaceSet) → Sorting n H first rest left free known → ((k : ℕ) → k < 128 → has left k ≡ false)
    → has free ≡ intersection (has first) (λ p. subset 128 (has rest) (reach n H p))
sorting_ends n H first rest left free known t none =
    fun_ext (λ p. both_ways (has free p) (has first p && subset 128 (has rest) (reach n H p)) (λ x. let f = t.within p x in and_intro f (sym (at p f) ∙ x))
    (λ x. at p (and_left (has first p) (subset 128 (has rest) (reach n H p)) x) ∙ and_right (has first p) (subset 128 (has rest) (reach n H p)) x))
  where
    at : (p : ℕ) → has first p ≡ true → has free p ≡ subset 128 (has rest) (reach n H p)
    at p f = t.told p f (is_false (has left p) (λ l. clash l (none p (has_below left p l))))

-- K holds the rows of its members: what is reached from it and from the row of p holds them too, and all that is before p
module _ (count : ℕ) (R K : PlaceSet) (w : List ℕ) (p : ℕ) (row : PlaceSet) (er : has row ≡ recorded_in count (has R) w p)
    (closed : (m q : ℕ) → has K m ≡ true → recorded_in count (has R) w m q ≡ true → has K q ≡ true) where
  abbrev Q : Row
  Q = reach_from (size count) (recorded_in count (difference (has R) (has K)) w) (union (has K) (has row))

  with_here : (q : ℕ) → has K q || has row q ≡ true → Q q ≡ true
  unfolding recorded recorded_in accepted_in
  with_here q h =
      reach_here (size count) (accepted_in count (difference (has R) (has K)) (has R) w) (accepted_on count (difference (has R) (has K)) (has R) w) (union (has K) (has row)) q h

  with_next : (m q : ℕ) → Q m ≡ true → recorded_in count (has R) w m q ≡ true → Q q ≡ true
  unfolding recorded recorded_in accepted_in
  with_next m q s r = go (has K m) refl
    where
      go : (b : Bool) → has K m ≡ b → Q q ≡ true
      go true k = with_here q (or_left (has row q) (closed m q k r))
      go false k =
          reach_next (size count) (accepted_in count (difference (has R) (has K)) (has R) w) (accepted_on count (difference (has R) (has K)) (has R) w) (union (has K) (has row)) m q s
          (ap (λ (x : Bool). ltb m (size count) && x && (ltb q (size count) && rows_of w m q)) (ap (λ (x : Bool). has R m && not x) k ∙ and-true (has R m)) ∙ r)

  with_before : {q : ℕ} → Before (recorded_in count (has R) w) q p → Q q ≡ true
  with_before (heard {q = q} r) = with_here q (or_right (has K q) (ap (λ (S : Places). S q) er ∙ r))
  with_before (through {q = q} {m = m} r b) = with_next m q (with_before b) r

  with_all : (q : ℕ) → reach (size count) (recorded_in count (has R) w) p q ≡ true → Q q ≡ true
  with_all q h = with_before (reach_sound (size count) (recorded_in count (has R) w) p q h)

module _ (count : ℕ) (R : PlaceSet) (w : List ℕ) (first rest left free known : PlaceSet) (t : Sorting (size count) (recorded_in count (has R) w) first rest left free known) (p : ℕ) (here : has left p ≡ true)
    (row : PlaceSet) (er : has row ≡ recorded_in count (has R) w p)
    (possible : Bool) (ep : possible ≡ subset 128 (has rest) (reach_from (size count) (recorded_in count (difference (has R) (has known)) w) (union (has known) (has row))))
    (alone : Bool) (ea : alone ≡ not (any 128 (has known)))
    (is_free : Bool) (ef : is_free ≡ possible && (alone || subset 128 (has rest) (reach_from (size count) (recorded_in count (has R) w) (has row))))
    (free' known' left' : PlaceSet) (ee : has free' ≡ cond is_free (has free) (without p (has free)))
    (ek : has known' ≡ cond possible (has known) (reach_from (size count) (recorded_in count (difference (has R) (has known)) w) (union (has known) (has row)))) (el : has left' ≡ without p (has left)) where
  abbrev G : History
  G = recorded_in count (has R) w

  abbrev B : Row
  B = reach (size count) (recorded_in count (has R) w) p

  own_is : reach_from (size count) G (has row) ≡ B
  own_is = ap (reach_from (size count) G) er ∙ before_row count (has R) w p

  -- where nobody is known, what is reached together is what is before p
  alone_is : alone ≡ true → reach_from (size count) (recorded_in count (difference (has R) (has known)) w) (union (has known) (has row)) ≡ B
  alone_is a = ap₂ (λ (S : Places) (T : Row). reach_from (size count) (recorded_in count S w) T) same_back same_row ∙ own_is
    where
      same_back : difference (has R) (has known) ≡ has R
      same_back = fun_ext (λ k. ap (λ (x : Bool). has R k && not x) (none_has known alone ea a k) ∙ and-true (has R k))

      same_row : union (has known) (has row) ≡ has row
      same_row = fun_ext (λ k. ap (λ (x : Bool). x || has row k) (none_has known alone ea a k))

  free_is : is_free ≡ subset 128 (has rest) B
  free_is = ef ∙ ap (λ (S : Row). possible && (alone || subset 128 (has rest) S)) own_is ∙ go alone refl
    where
      wider : subset 128 (has rest) B ≡ true → subset 128 (has rest) (Q count R known w p row er t.closed) ≡ true
      wider x = subset_intro 128 (has rest) (Q count R known w p row er t.closed) (λ k l r. with_all count R known w p row er t.closed k (subset_elim 128 (has rest) B x k l r))

      go : (b : Bool) → alone ≡ b → possible && (alone || subset 128 (has rest) B) ≡ subset 128 (has rest) B
      go true a = ap (λ (x : Bool). possible && (x || subset 128 (has rest) B)) a ∙ and-true possible ∙ ep ∙ ap (subset 128 (has rest)) (alone_is a)
      go false a =
          ap (λ (x : Bool). possible && (x || subset 128 (has rest) B)) a
          ∙ both_ways (possible && subset 128 (has rest) B) (subset 128 (has rest) B) (and_right possible (subset 128 (has rest) B)) (λ x. and_intro (ep ∙ wider x) x)

  closed' : (m q : ℕ) → has known' m ≡ true → G m q ≡ true → has known' q ≡ true
  closed' m q k r = go possible refl
    where
      go : (b : Bool) → possible ≡ b → has known' q ≡ true
      go true x =
          let old : has known' ≡ has known = ek ∙ ap (λ (b : Bool). cond b (has known) (Q count R known w p row er t.closed)) x in
          ap (λ (S : Places). S q) old ∙ t.closed m q (sym (ap (λ (S : Places). S m) old) ∙ k) r
      go false x =
          let new : has known' ≡ Q count R known w p row er t.closed = ek ∙ ap (λ (b : Bool). cond b (has known) (Q count R known w p row er t.closed)) x in
          ap (λ (S : Places). S q) new ∙ with_next count R known w p row er t.closed m q (sym (ap (λ (S : Places). S m) new) ∙ k) r

  free_at : (i : ℕ) → has free' i ≡ cond is_free (has free i) (has free i && not (eqb i p))
  free_at i = ap (λ (S : Places). S i) ee ∙ go is_free
    where
      go : (b : Bool) → cond b (has free) (without p (has free)) i ≡ cond b (has free i) (has free i && not (eqb i p))
      go true = refl
      go false = refl

  left_at : (i : ℕ) → has left' i ≡ has left i && not (eqb i p)
  left_at i = ap (λ (S : Places). S i) el

  -- f: free before, e: p itself
  stays : (b f e : Bool) → f ≡ true → e ≡ false → cond b f (f && not e) ≡ true
  stays true f e x y = x
  stays false f e x y = minus_intro x y

  was : (b f e : Bool) → cond b f (f && not e) ≡ true → f ≡ true
  was true f e x = x
  was false f e x = and_left f (not e) x

  itself : (b f e : Bool) → f ≡ true → e ≡ true → cond b f (f && not e) ≡ b
  itself true f e x y = x
  itself false f e x y = rw (x, y)

  same : (b f e : Bool) → e ≡ false → cond b f (f && not e) ≡ f
  same true f e y = refl
  same false f e y = ap (λ (x : Bool). f && not x) y ∙ and-true f

  told' : (i : ℕ) → has first i ≡ true → has left' i ≡ false → (x : Bool) → eqb i p ≡ x → has free' i ≡ subset 128 (has rest) (reach (size count) G i)
  told' i f l true x =
      let is : i ≡ p = eqb-true i p x in
      free_at i ∙ itself is_free (has free i) (eqb i p) (ap (has free) is ∙ t.listed p here) x ∙ free_is ∙ ap (λ (j : ℕ). subset 128 (has rest) (reach (size count) G j)) (sym is)
  told' i f l false x =
      free_at i ∙ same is_free (has free i) (eqb i p) x ∙ t.told i f (is_false (has left i) (λ s. clash (left_at i ∙ minus_intro s x) l))

  pub sorting_goes : Sorting (size count) (recorded_in count (has R) w) first rest left' free' known'
  sorting_goes = record {
    closed = closed';
    listed = λ i h. let m = minus_elim (has left i) (eqb i p) (sym (left_at i) ∙ h) in free_at i ∙ stays is_free (has free i) (eqb i p) (t.listed i m.0) m.1;
    within = λ i h. t.within i (was is_free (has free i) (eqb i p) (sym (free_at i) ∙ h));
    told = λ i f l. told' i f l (eqb i p) refl;
  }

-- ---- the open places

module _ (count : ℕ) (R U : Places) (w : List ℕ) (M F : Row) (asked missing opened sure : PlaceSet) (none : Bool) (ea : has asked ≡ difference (below (size count)) M)
    (em : has missing ≡ difference (difference (below (size count)) R) F) (eo : has opened ≡ intersection (has asked) (λ i. any 128 (without i (has missing))))
    (es : has sure ≡ difference (has missing) M) (en : none ≡ not (any 128 (has sure))) where
  abbrev n : ℕ
  n = size count

  abbrev A : Accepted
  A = accepted_in count R U w

  abbrev H : History
  H = recorded_in count R w

  -- nobody is before one that is not back
  absent_before : (i q : ℕ) → R i ≡ false → reach n H i q ≡ false
  unfolding recorded_in
  absent_before i q a = is_false (reach n H i q) (λ h. clash (begins (reach_sound n H i q h)) a)
    where
      begins : {q i : ℕ} → Before H q i → R i ≡ true
      begins (heard {q = q} {p = i} r) = and_right (ltb i n) (R i) (and_left (ltb i n && R i) (ltb q n && rows_of w i q) r)
      begins (through r b) = begins b

  missing_absent : (q : ℕ) → has missing q ≡ true → R q ≡ false
  missing_absent q h = (minus_elim (ltb q n) (R q) (minus_elim (ltb q n && not (R q)) (F q) (sym (ap (λ (S : Places). S q) em) ∙ h)).0).1

  -- what is ruled out
  ruled_full : (i q : ℕ) → (ltb i n && R i) && U i ≡ true → ruled count R U w M F i q ≡ false
  ruled_full i q e = ap (λ (b : Bool). cond b nothing (intersection M (reach n H i)) q) e

  ruled_free : (i q : ℕ) → reach n H i q ≡ false → ruled count R U w M F i q ≡ false
  ruled_free i q e = go ((ltb i n && R i) && U i)
    where
      off : (m x : Bool) → x ≡ false → m && x ≡ false
      off true x f = f
      off false x f = refl

      go : (b : Bool) → cond b nothing (intersection M (reach n H i)) q ≡ false
      go true = refl
      go false = off (M q) (reach n H i q) e

  ruled_elim : (i q : ℕ) → (ltb i n && R i) && U i ≡ false → M q ≡ true → ruled count R U w M F i q ≡ false → reach n H i q ≡ false
  ruled_elim i q e m u = sym (ap (λ (x : Bool). x && reach n H i q) m) ∙ sym (ap (λ (b : Bool). cond b nothing (intersection M (reach n H i)) q) e) ∙ u

  opened_elim : (i : ℕ) → has opened i ≡ true → (ltb i n ≡ true) × (M i ≡ false) × ((q : ℕ) × (has missing q ≡ true) × (eqb q i ≡ false))
  opened_elim i h =
      let b : has asked i && any 128 (without i (has missing)) ≡ true = sym (ap (λ (S : Places). S i) eo) ∙ h in
      let a = minus_elim (ltb i n) (M i) (sym (ap (λ (S : Places). S i) ea) ∙ and_left (has asked i) (any 128 (without i (has missing))) b) in
      (a.0, a.1, other_elim asked missing i (and_right (has asked i) (any 128 (without i (has missing))) b))

  -- a place with a blocker is open, and only such a one
  blocked_open : (i q : ℕ) → ltb i n ≡ true → M i ≡ false → has missing q ≡ true → eqb q i ≡ false → ruled count R U w M F i q ≡ false → open_by n A M F i ≡ true
  unfolding open_by
  blocked_open i q l m h d u =
      let b = blocker_intro count R U w M F i q (minus_intro (sym (ap (λ (S : Places). S q) em) ∙ h) d) u in
      and_intro l (open_blocked n A M F i m (any_intro n (blockers_by n A M F i) q (blockers_on n A M F i q b) b))

  open_elim : (i : ℕ) → open_by n A M F i ≡ true → (has opened i ≡ true) × ((q : ℕ) × (has missing q ≡ true) × (ruled count R U w M F i q ≡ false))
  unfolding open_by answer_by answer_with open_answer
  open_elim i h = go (M i) refl (any n (blockers_by n A M F i)) refl (and_right (ltb i n) (open_answer (answer_by n A M F i)) h)
    where
      go : (m : Bool) → M i ≡ m → (b : Bool) → any n (blockers_by n A M F i) ≡ b → open_answer (answer_with m b) ≡ true
          → (has opened i ≡ true) × ((q : ℕ) × (has missing q ≡ true) × (ruled count R U w M F i q ≡ false))
      go true _ _ _ x = clash x refl
      go false _ false _ x = clash x refl
      go false m true b _ =
          let x = any_elim n (blockers_by n A M F i) b in
          let q = x.0 in
          let y = blocker_elim count R U w M F i q x.2 in
          let z = minus_elim (difference (difference (below n) R) F q) (eqb q i) y.0 in
          let r : has missing q ≡ true = ap (λ (S : Places). S q) em ∙ z.0 in
          let a : has asked i ≡ true = ap (λ (S : Places). S i) ea ∙ minus_intro (and_left (ltb i n) (open_answer (answer_by n A M F i)) h) m in
          (ap (λ (S : Places). S i) eo ∙ and_intro a (other asked missing i q r z.1), (q, r, y.1))

  -- one that is not mourned is left: it blocks all others, and is blocked if another is left
  pub open_sure : none ≡ false → has opened ≡ open_by n A M F
  open_sure f = fun_ext (λ i. both_ways (has opened i) (open_by n A M F i) (λ h. to i (opened_elim i h)) (λ h. (open_elim i h).0))
    where
      s : (q : ℕ) × (has sure q ≡ true)
      s = some_has sure none en f

      parts : (has missing s.0 ≡ true) × (M s.0 ≡ false)
      parts = minus_elim (has missing s.0) (M s.0) (sym (ap (λ (S : Places). S s.0) es) ∙ s.1)

      to : (i : ℕ) → (ltb i n ≡ true) × (M i ≡ false) × ((q : ℕ) × (has missing q ≡ true) × (eqb q i ≡ false)) → open_by n A M F i ≡ true
      to i (l, m, (q, h, d)) = go (eqb s.0 i) refl
        where
          go : (x : Bool) → eqb s.0 i ≡ x → open_by n A M F i ≡ true
          go true x = blocked_open i q l m h d (ruled_free i q (absent_before i q (ap R (sym (eqb-true s.0 i x)) ∙ missing_absent s.0 parts.0)))
          go false x = blocked_open i s.0 l m parts.0 x (sure_ruled count R U w M F i s.0 parts.1)

  -- all that are left are mourned: who is back and short is free if they all are before it
  pub open_walked : none ≡ true → (back short free r : PlaceSet) → has back ≡ intersection (has opened) R → has short ≡ difference (has back) U
      → has free ≡ intersection (has short) (λ p. subset 128 (has missing) (reach n H p)) → has r ≡ difference (has opened) (has free) → has r ≡ open_by n A M F
  open_walked t back short free r eb ec ef er = fun_ext (λ i. both_ways (has r i) (open_by n A M F i) (to i) (from i))
    where
      r_at : (i : ℕ) → has r i ≡ has opened i && not (has free i)
      r_at i = ap (λ (S : Places). S i) er

      short_at : (i : ℕ) → has short i ≡ has opened i && R i && not (U i)
      short_at i = ap (λ (S : Places). S i) (ec ∙ ap (λ (S : Places). difference S U) eb)

      free_at : (i : ℕ) → has free i ≡ has short i && subset 128 (has missing) (reach n H i)
      free_at i = ap (λ (S : Places). S i) ef

      mourned : (q : ℕ) → has missing q ≡ true → M q ≡ true
      mourned q h = is_true (M q) (λ m. clash (ap (λ (S : Places). S q) es ∙ minus_intro h m) (none_has sure none en t q))

      to : (i : ℕ) → has r i ≡ true → open_by n A M F i ≡ true
      to i h = go (opened_elim i o) (R i) refl (U i) refl
        where
          o : has opened i ≡ true
          o = (minus_elim (has opened i) (has free i) (sym (r_at i) ∙ h)).0

          lacks : has short i ≡ true → subset 128 (has missing) (reach n H i) ≡ false
          lacks s = is_false (subset 128 (has missing) (reach n H i)) (λ x. clash (free_at i ∙ and_intro s x) (minus_elim (has opened i) (has free i) (sym (r_at i) ∙ h)).1)

          go : (ltb i n ≡ true) × (M i ≡ false) × ((q : ℕ) × (has missing q ≡ true) × (eqb q i ≡ false)) → (x : Bool) → R i ≡ x → (y : Bool) → U i ≡ y → open_by n A M F i ≡ true
          go (l, m, (q, g, d)) false x _ _ = blocked_open i q l m g d (ruled_free i q (absent_before i q x))
          go (l, m, (q, g, d)) true x true y = blocked_open i q l m g d (ruled_full i q (and_intro (and_intro l x) y))
          go (l, m, _) true x false y =
              let k = subset_fails 128 (has missing) (reach n H i) (lacks (short_at i ∙ minus_intro (and_intro o x) y)) in
              blocked_open i k.0 l m k.2 (is_false (eqb k.0 i) (λ s. clash x (ap R (sym (eqb-true k.0 i s)) ∙ missing_absent k.0 k.2))) (ruled_free i k.0 k.3)

      from : (i : ℕ) → open_by n A M F i ≡ true → has r i ≡ true
      from i h = r_at i ∙ minus_intro x.0 (is_false (has free i) bound)
        where
          x : (has opened i ≡ true) × ((q : ℕ) × (has missing q ≡ true) × (ruled count R U w M F i q ≡ false))
          x = open_elim i h

          bound : has free i ≡ true → ⊥
          bound f =
              let b = sym (free_at i) ∙ f in
              let s = minus_elim (has opened i && R i) (U i) (sym (short_at i) ∙ and_left (has short i) (subset 128 (has missing) (reach n H i)) b) in
              let q = x.1.0 in
              let g = x.1.1 in
              let off : (ltb i n && R i) && U i ≡ false = is_false ((ltb i n && R i) && U i) (λ u. clash (and_right (ltb i n && R i) (U i) u) s.1) in
              clash (subset_elim 128 (has missing) (reach n H i) (and_right (has short i) (subset 128 (has missing) (reach n H i)) b) q (has_below missing q g) g)
              (ruled_elim i q off (mourned q g) x.1.2)
