-- The walks over the returned places: each gives its row once. Assumes nothing.
use mathlib.Core.Path.{◌≡◌, refl, sym, ap, ◌∙◌, fun_ext}
use mathlib.Core.Bool.{Bool, true, false, not, ◌&&◌, ◌||◌}
use mathlib.Core.Logic.{◌⊎◌, inl, inr, ⊎_elim}
use mathlib.Core.List.{List}
use Prim.Native.Nat.{ℕ, ◌<◌}
use lib.Dec.{eqb}
use borrow.Author.Tests.{eqb-true}
use Rattle.sets.specs.Sets.{Places, nothing, below, union, intersection, difference, without, any, subset}
use Rattle.sets.specs.PlaceSets.{has}
use Rattle.sets.specs.declared.PlaceSet.{PlaceSet}
use Rattle.sets.proofs.Booleans.{clash, is_false, is_true, both_ways, and_intro, and_left, and_right, or_cases, or_left, or_right, minus_elim, minus_intro}
use Rattle.sets.proofs.Tests.{any_elim, any_intro, subset_elim, subset_intro}
use Rattle.sets.proofs.Laws.{has_below}
use Rattle.rows.specs.Rows.{rows_of}
use Rattle.histories.specs.Histories.{Row, History, Before, heard, through, Accepted}
use Rattle.histories.specs.Rule.{recorded, reach}
use Rattle.histories.proofs.Closure.{before_trans, reach_sound, reach_complete}
use Rattle.answers.specs.Views.{size, accepted_in, recorded_in, reach_from, Sought}
use Rattle.answers.proofs.Answers.{none_has, some_has}
use Rattle.answers.proofs.Views.{On, accepted_on, cut, cut_is, cut_on, recorded_back, recorded_absent, recorded_parts, recorded_intro}

-- what holds at each turn of a walk towards the set T: `seen` holds nothing else, and the rows of all returned places that
-- are not in `left`
pub record Walk (A : Accepted) (T : Row) (seen left : PlaceSet) : Type 0 where
  pub sound : (q : ℕ) → has seen q ≡ true → T q ≡ true
  pub listed : (p : ℕ) → has left p ≡ true → A.returned p ≡ true
  pub given : (p q : ℕ) → recorded A p q ≡ true → has left p ≡ false → has seen q ≡ true

walk_starts : (A : Accepted) (T : Row) (seen left : PlaceSet) → ((q : ℕ) → has seen q ≡ true → T q ≡ true) → has left ≡ A.returned → Walk A T seen left
walk_starts A T seen left s e = record {
  sound = s;
  listed = λ p h. sym (ap (λ (S : Places). S p) e) ∙ h;
  given = λ p q r h. clash (recorded_parts A p q r).0 (sym (ap (λ (S : Places). S p) e) ∙ h);
}

-- the row of a place of `left` is taken in
walk_goes : (A : Accepted) (T : Row) (seen left : PlaceSet) → Walk A T seen left → (p : ℕ) → ((q : ℕ) → recorded A p q ≡ true → T q ≡ true) → has left p ≡ true
    → (row more rest : PlaceSet) → has row ≡ A.row p → has more ≡ union (has seen) (has row) → has rest ≡ without p (has left) → Walk A T more rest
walk_goes A T seen left t p good m row more rest er eu ew = record {
  sound = λ q e. ⊎_elim (t.sound q) (λ h. good q (recorded_intro A p q (t.listed p m) (sym (in_row q) ∙ h))) (or_cases (has seen q) (has row q) (sym (in_more q) ∙ e));
  listed = λ k e. t.listed k (and_left (has left k) (not (eqb k p)) (sym (in_rest k) ∙ e));
  given = gives;
}
  where
    in_row : (q : ℕ) → has row q ≡ A.row p q
    in_row q = ap (λ (S : Places). S q) er

    in_more : (q : ℕ) → has more q ≡ has seen q || has row q
    in_more q = ap (λ (S : Places). S q) eu

    in_rest : (k : ℕ) → has rest k ≡ has left k && not (eqb k p)
    in_rest k = ap (λ (S : Places). S k) ew

    gives : (k q : ℕ) → recorded A k q ≡ true → has rest k ≡ false → has more q ≡ true
    gives k q r h = go (eqb k p) refl
      where
        go : (b : Bool) → eqb k p ≡ b → has more q ≡ true
        go true e = in_more q ∙ or_right (has seen q) (in_row q ∙ ap (λ (x : ℕ). A.row x q) (sym (eqb-true k p e)) ∙ (recorded_parts A k q r).1)
        go false e =
            in_more q ∙ or_left (has row q) (t.given k q r (is_false (has left k) (λ l. clash (in_rest k ∙ minus_intro l e) h)))

-- what holds at each turn of the walk from S to all that is reached from it: besides, S is seen
pub record Reaching (n : ℕ) (A : Accepted) (S seen left : PlaceSet) : Type 0 where
  pub walk : Walk A (reach_from n (recorded A) (has S)) seen left
  pub begun : (q : ℕ) → has S q ≡ true → has seen q ≡ true

-- the same where the walk looks for `first`: besides, `lacking` is what of that was not seen
pub record Seeking (n : ℕ) (A : Accepted) (S first seen left lacking : PlaceSet) : Type 0 where
  pub reaching : Reaching n A S seen left
  pub lacks : has lacking ≡ difference (has first) (has seen)

-- ---- what is before

module _ (n : ℕ) (A : Accepted) (on : On n A) where
  rows_on : (p q : ℕ) → recorded A p q ≡ true → p < n
  rows_on p q r = on.back_on p (recorded_parts A p q r).0

  before_sound : (p q : ℕ) → reach n (recorded A) p q ≡ true → Before (recorded A) q p
  before_sound p q e = reach_sound n (recorded A) p q e

  before_complete : (p q : ℕ) → Before (recorded A) q p → reach n (recorded A) p q ≡ true
  before_complete p q b = reach_complete n (recorded A) rows_on b

  -- what is before something is before it by a row of the roster
  before_on : {q p : ℕ} → Before (recorded A) q p → p < n
  before_on (heard {q = q} {p = p} e) = rows_on p q e
  before_on (through e b) = before_on b

  module _ (S : Row) where
    pub reach_here : (q : ℕ) → S q ≡ true → reach_from n (recorded A) S q ≡ true
    unfolding reach_from
    reach_here q e = or_left (any n (λ m. S m && reach n (recorded A) m q)) e

    reach_before : (m q : ℕ) → S m ≡ true → Before (recorded A) q m → reach_from n (recorded A) S q ≡ true
    unfolding reach_from
    reach_before m q e b = or_right (S q) (any_intro n (λ m. S m && reach n (recorded A) m q) m (before_on b) (and_intro e (before_complete m q b)))

    pub reach_elim : (q : ℕ) → reach_from n (recorded A) S q ≡ true → (S q ≡ true) ⊎ ((m : ℕ) × (S m ≡ true) × Before (recorded A) q m)
    unfolding reach_from
    reach_elim q e = go (or_cases (S q) (any n (λ m. S m && reach n (recorded A) m q)) e)
      where
        go : (S q ≡ true) ⊎ (any n (λ m. S m && reach n (recorded A) m q) ≡ true) → (S q ≡ true) ⊎ ((m : ℕ) × (S m ≡ true) × Before (recorded A) q m)
        go (inl h) = inl h
        go (inr h) =
            let r = any_elim n (λ m. S m && reach n (recorded A) m q) h in
            inr (r.0, and_left (S r.0) (reach n (recorded A) r.0 q) r.2, before_sound r.0 q (and_right (S r.0) (reach n (recorded A) r.0 q) r.2))

    -- what stands in the row of one that is reached is reached
    pub reach_next : (p q : ℕ) → reach_from n (recorded A) S p ≡ true → recorded A p q ≡ true → reach_from n (recorded A) S q ≡ true
    reach_next p q e r = ⊎_elim (λ h. reach_before p q h (heard r)) (λ h. reach_before h.0 q h.1 (through r h.2)) (reach_elim p e)

    -- a set that holds S and the rows of its members holds all that is reached
    reach_within : (T : Row) → ((q : ℕ) → S q ≡ true → T q ≡ true) → ((p q : ℕ) → T p ≡ true → recorded A p q ≡ true → T q ≡ true)
        → (q : ℕ) → reach_from n (recorded A) S q ≡ true → T q ≡ true
    reach_within T here next q e = ⊎_elim (here q) (λ h. along (here h.0 h.1) h.2) (reach_elim q e)
      where
        along : {q m : ℕ} → T m ≡ true → Before (recorded A) q m → T q ≡ true
        along {q} {m} t (heard r) = next m q t r
        along t (through {q = q} {m = m} r b) = next m q (along t b) r

  reaching_starts : (S left : PlaceSet) → has left ≡ A.returned → Reaching n A S S left
  reaching_starts S left e = record { walk = walk_starts A (reach_from n (recorded A) (has S)) S left (reach_here (has S)) e; begun = λ q h. h }

  module _ (S seen left : PlaceSet) (t : Reaching n A S seen left) (todo : PlaceSet) (e : has todo ≡ intersection (has seen) (has left)) where
    todo_parts : (p : ℕ) → has todo p ≡ true → (has seen p ≡ true) × (has left p ≡ true)
    todo_parts p h =
        let b = sym (ap (λ (S : Places). S p) e) ∙ h in
        (and_left (has seen p) (has left p) b, and_right (has seen p) (has left p) b)

    reaching_goes : (p : ℕ) → has todo p ≡ true → (row more rest : PlaceSet) → has row ≡ A.row p → has more ≡ union (has seen) (has row) → has rest ≡ without p (has left)
        → Reaching n A S more rest
    reaching_goes p h row more rest er eu ew = record {
      walk = walk_goes A (reach_from n (recorded A) (has S)) seen left t.walk p (λ q r. reach_next (has S) p q (t.walk.sound p (todo_parts p h).0) r) (todo_parts p h).1 row more rest er eu ew;
      begun = λ q b. ap (λ (S : Places). S q) eu ∙ or_left (has row q) (t.begun q b);
    }

    -- no place of `left` is seen: all that is reached was seen
    reaching_ends : ((k : ℕ) → k < 128 → has todo k ≡ false) → has seen ≡ reach_from n (recorded A) (has S)
    reaching_ends none =
        fun_ext (λ q. both_ways (has seen q) (reach_from n (recorded A) (has S) q) (t.walk.sound q) (reach_within (has S) (has seen) t.begun next q))
      where
        next : (p q : ℕ) → has seen p ≡ true → recorded A p q ≡ true → has seen q ≡ true
        next p q s r =
            t.walk.given p q r (is_false (has left p) (λ l. clash (ap (λ (S : Places). S p) e ∙ and_intro s l) (none p (has_below seen p s))))

  -- from the row of a place: what is before it
  pub reach_row : (i : ℕ) → reach_from n (recorded A) (recorded A i) ≡ reach n (recorded A) i
  reach_row i = fun_ext (λ q. both_ways (reach_from n (recorded A) (recorded A i) q) (reach n (recorded A) i q) (λ e. before_complete i q (to q e)) (λ e. from q (before_sound i q e)))
    where
      to : (q : ℕ) → reach_from n (recorded A) (recorded A i) q ≡ true → Before (recorded A) q i
      to q e = ⊎_elim (λ h. heard h) (λ h. before_trans h.2 (heard h.1)) (reach_elim (recorded A i) q e)

      from : (q : ℕ) → Before (recorded A) q i → reach_from n (recorded A) (recorded A i) q ≡ true
      from q (heard r) = reach_here (recorded A i) q r
      from q (through {m = m} r b) = reach_next (recorded A i) m q (from m b) r

-- ---- as the code goes: `all` is the roster, `back` who of s is on it

module _ (count : ℕ) (w : List ℕ) (all s back : PlaceSet) (ea : has all ≡ below (size count)) (eb : has back ≡ intersection (has all) (has s)) where
  whole : recorded (cut all back w) ≡ recorded_in count (has s) w
  whole = cut_is count w all s back ea eb

  on : On (size count) (cut all back w)
  on = cut_on count w all s back ea eb

  pub recorded_row : (p : ℕ) (row : PlaceSet) → has back p ≡ true → has row ≡ intersection (has all) (rows_of w p) → has row ≡ recorded_in count (has s) w p
  recorded_row p row b e = e ∙ recorded_back (cut all back w) p b ∙ ap (λ (H : History). H p) whole

  pub recorded_none : (p : ℕ) (row : PlaceSet) → has back p ≡ false → has row ≡ nothing → has row ≡ recorded_in count (has s) w p
  recorded_none p row b e = e ∙ recorded_absent (cut all back w) p b ∙ ap (λ (H : History). H p) whole

  pub reached_starts : (S : PlaceSet) → Reaching (size count) (cut all back w) S S back
  reached_starts S = reaching_starts (size count) (cut all back w) on S back refl

  module _ (S seen left : PlaceSet) (t : Reaching (size count) (cut all back w) S seen left) (next : PlaceSet) (e : has next ≡ intersection (has seen) (has left)) where
    pub reached_left : (p : ℕ) → has next p ≡ true → has left p ≡ true
    reached_left p h = and_right (has seen p) (has left p) (sym (ap (λ (S : Places). S p) e) ∙ h)

    pub reached_goes : (p : ℕ) → has next p ≡ true → (row more rest : PlaceSet) → has row ≡ intersection (has all) (rows_of w p) → has more ≡ union (has seen) (has row)
        → has rest ≡ without p (has left) → Reaching (size count) (cut all back w) S more rest
    reached_goes = reaching_goes (size count) (cut all back w) on S seen left t next e

    pub reached_ends : ((k : ℕ) → k < 128 → has next k ≡ false) → has seen ≡ reach_from (size count) (recorded_in count (has s) w) (has S)
    reached_ends none =
        reaching_ends (size count) (cut all back w) on S seen left t next e none ∙ ap (λ (H : History). reach_from (size count) H (has S)) whole

  -- a walk that looks for `rest`: `first` is what of it is not in S
  module _ (S rest first : PlaceSet) (ef : has first ≡ difference (has rest) (has S)) where
    pub sought_starts : Seeking (size count) (cut all back w) S first S back first
    sought_starts = record { reaching = reached_starts S; lacks = ef ∙ fun_ext (λ q. at (has rest q) (has S q)) ∙ ap (λ (X : Places). difference X (has S)) (sym ef) }
      where
        at : (a b : Bool) → a && not b ≡ a && not b && not b
        at false b = refl
        at true true = refl
        at true false = refl

    lacks_of : (seen left lacking : PlaceSet) → Seeking (size count) (cut all back w) S first seen left lacking → has lacking ≡ difference (has rest) (has seen)
    lacks_of seen left lacking t =
        t.lacks ∙ ap (λ (X : Places). difference X (has seen)) ef ∙ fun_ext (λ q. at (has rest q) (has S q) (has seen q) (t.reaching.begun q))
      where
        at : (a b : Bool) (c : Bool) → (b ≡ true → c ≡ true) → a && not b && not c ≡ a && not c
        at false b c h = refl
        at true false c h = refl
        at true true true h = refl
        at true true false h = h refl

    module _ (seen left lacking : PlaceSet) (t : Seeking (size count) (cut all back w) S first seen left lacking)
        (none : Bool) (en : none ≡ not (any 128 (has lacking))) where
      -- all of it was seen
      pub sought_holds : none ≡ true → Sought (has rest) (reach_from (size count) (recorded_in count (has s) w) (has S)) true (has seen)
      sought_holds h = record {
        told = sym (ap (λ (H : History). subset 128 (has rest) (reach_from (size count) H (has S))) (sym whole) ∙ subset_intro 128 (has rest) (reach_from (size count) (recorded (cut all back w)) (has S)) (λ k l r. t.reaching.walk.sound k (met k r)));
        whole = λ f. clash refl f;
      }
        where
          met : (k : ℕ) → has rest k ≡ true → has seen k ≡ true
          met k r = is_true (has seen k) (λ f. clash (ap (λ (X : Places). X k) (lacks_of seen left lacking t) ∙ minus_intro r f) (none_has lacking none en h k))

      -- the walk ended before
      pub sought_lacks : none ≡ false → has seen ≡ reach_from (size count) (recorded_in count (has s) w) (has S)
          → Sought (has rest) (reach_from (size count) (recorded_in count (has s) w) (has S)) false (has seen)
      sought_lacks f e = record { told = sym (ap (subset 128 (has rest)) (sym e) ∙ is_false (subset 128 (has rest) (has seen)) one); whole = λ _. e }
        where
          one : subset 128 (has rest) (has seen) ≡ true → ⊥
          one h =
              let q = some_has lacking none en f in
              let m = minus_elim (has rest q.0) (has seen q.0) (sym (ap (λ (X : Places). X q.0) (lacks_of seen left lacking t)) ∙ q.1) in
              clash (subset_elim 128 (has rest) (has seen) h q.0 (has_below rest q.0 m.0) m.0) m.1

-- what is lacking, after a row was taken in
pub lacks_less : (rest seen row lacking more less : PlaceSet) → has lacking ≡ difference (has rest) (has seen) → has more ≡ union (has seen) (has row) → has less ≡ difference (has lacking) (has row)
    → has less ≡ difference (has rest) (has more)
lacks_less rest seen row lacking more less e eu ed =
    ed ∙ ap (λ (S : Places). difference S (has row)) e ∙ fun_ext (λ q. at (has rest q) (has seen q) (has row q)) ∙ ap (difference (has rest)) (sym eu)
  where
    at : (a b c : Bool) → a && not b && not c ≡ a && not (b || c)
    at false b c = refl
    at true true true = refl
    at true true false = refl
    at true false true = refl
    at true false false = refl

-- from the recorded row of a place: what is before it
pub before_row : (count : ℕ) (R : Places) (w : List ℕ) (i : ℕ) → reach_from (size count) (recorded_in count R w) (recorded_in count R w i) ≡ reach (size count) (recorded_in count R w) i
unfolding recorded recorded_in accepted_in
before_row count R w i = reach_row (size count) (accepted_in count R R w) (accepted_on count R R w) i
