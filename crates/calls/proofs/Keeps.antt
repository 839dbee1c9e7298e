-- Which records a recovery has accepted, and what it keeps beside them: a fresh one has none, and keeping a record lays it on the others.
-- Assumes nothing.
use Rattle.refusals.specs.declared.Refusal.{Refusal}
use Rattle.refusals.specs.declared.Refusal.TheVariants as R
use Rattle.std.specs.Prelude.{Option, Some, None, Result, Ok, Err}
use mathlib.Core.Path.{◌≡◌, refl, sym, ap, ap₂, ◌∙◌, fun_ext}
use mathlib.Core.Bool.{Bool, true, false, cond, ◌&&◌, ◌||◌, and-false}
use mathlib.Core.List.{List, ◌++◌}
use Prim.Native.Nat.{ℕ, ◌+◌, ◌-◌, ◌*◌, ◌<◌, ◌≤◌}
use native.Mathlib.Omega.{arith}
use native.Mathlib.Decide.{dec_lt}
use lib.ListN.{length, set, take, replicate, length-set, length-replicate, replicate-append-replicate}
use lib.Seq.{take-append_seam, take_at, take-set-lt, set-append_left}
use lib.Dec.{eqb, ltb, leb}
use borrow.Author.Tests.{eqb-true, eqb-false, lt-ltb, le-leb, ltb-true, leb-true, ne_eqb}
use Rattle.sets.specs.Sets.{Places, nothing, below, union, difference, with, any, count, lowest}
use Rattle.sets.specs.PlaceSets.{has, packed}
use Rattle.sets.specs.declared.PlaceSet.{PlaceSet}
use Rattle.sets.proofs.Booleans.{clash, is_false, and_left, and_right}
use Rattle.sets.proofs.Tests.{none_any, any_elim}
use Rattle.sets.proofs.Laws.{kept_all, kept_with, has_packed}
use Rattle.histories.specs.declared.Kind.{Kind}
use Rattle.histories.specs.declared.Kind.TheVariants.{Full, Short}
use Rattle.histories.specs.Histories.{Row, History, Before, heard, through, Accepted, none, lay, Fits}
use Rattle.histories.specs.Rule.{is_open, recorded, mourned, before, is_full, full_back, before_full, answer, settled, unmourned, unmourned_absent, grown, second}
use Rattle.histories.specs.Kept.{blockers_by, answer_by, settled_by}
use Rattle.histories.proofs.Exact.{before_full_out}
use Rattle.histories.proofs.Accepts.{laid_recorded, laid_mourned}
use Rattle.histories.proofs.Kept.{blockers_kept, answer_kept, settled_kept, full_lay, before_full_lay}
use Rattle.rows.specs.Rows.{no_rows, rows_of, with_row, table_of, laid}
use Rattle.rows.proofs.Laws.{rows_of_lem, rows_with, rows_other}
use Rattle.rows.proofs.Tables.{no_table, table_length, table_rows, table_past, with_table}
use Rattle.answers.specs.Views.{size, kind_in, accepted_in}
use Rattle.answers.proofs.Views.{recorded_parts}
use Rattle.answers.specs.Fetches.{blocking, blocking_by}
use Rattle.answers.proofs.Fetches.{blocking_kept}
use Rattle.answers.specs.Shows.{replaced}
use Rattle.answers.specs.declared.Showing.TheVariants as S
use Rattle.calls.specs.declared.Recovery.{Recovery}
use Rattle.calls.specs.Promises.{size_of, roster_of, seconds_of, accepted_of, holding, fresh, keeping_full, keeping_row, keeping, shown, blocking_of, unmourned_of, unmourned_absent_of, unmourned_count_of, with_second}
use Rattle.calls.proofs.Calls.{shown_both, blocking_is, unmourned_is}

-- ---- any recovery

pub size_few : (r : Recovery) → size_of r ≤ 128
unfolding size_of size
size_few r = go (leb r.count 128) refl
  where
    go : (t : Bool) → leb r.count 128 ≡ t → cond t r.count 128 ≤ 128
    go true e = leb-true r.count 128 e
    go false e = omega arith

-- a returned place is on the roster, and so is what stands in a row
pub returned_on : (r : Recovery) (p : ℕ) → (accepted_of r).returned p ≡ true → p < size_of r
unfolding accepted_of accepted_in size_of
returned_on r p e = ltb-true p (size r.count) (and_left (ltb p (size r.count)) (has r.returned p) e)

pub row_on : (r : Recovery) (p q : ℕ) → (accepted_of r).row p q ≡ true → q < size_of r
unfolding accepted_of accepted_in size_of
row_on r p q e = ltb-true q (size r.count) (and_left (ltb q (size r.count)) (rows_of r.rows p q) e)

-- ---- a fresh one

module _ (s : List ℕ) where
  -- nobody is back
  pub fresh_accepted : accepted_of (fresh s) ≡ none
  unfolding accepted_of accepted_in kind_in fresh
  fresh_accepted = λ i. record { returned = λ p. no_returned p i; kind = λ p. no_kind p i; row = λ p q. no_row p q i }
    where
      n : ℕ
      n = size (length s)

      no_returned : (p : ℕ) → ltb p n && has (packed nothing) p ≡ false
      no_returned p = ap (λ (S : Places). ltb p n && S p) (has_packed nothing) ∙ and-false (ltb p n)

      no_kind : (p : ℕ) → cond (has (packed nothing) p) Full Short ≡ Short
      no_kind p = ap (λ (S : Places). cond (S p) Full Short) (has_packed nothing)

      no_row : (p q : ℕ) → ltb q n && rows_of no_rows p q ≡ false
      no_row p q = ap (λ (S : Places). ltb q n && S q) (rows_of_lem p) ∙ and-false (ltb q n)

  module _ (few : length s ≤ 128) where
    -- no place has a second serial
    pub fresh_seconds : seconds_of (fresh s) ≡ replicate (length s) 0
    unfolding seconds_of size_of size fresh
    fresh_seconds =
        let e : length s + (128 - length s) ≡ 128 = omega arith in
        ap (λ (b : Bool). take (cond b (length s) 128) (replicate 128 0)) (le-leb (length s) 128 few)
        ∙ ap (λ (n : ℕ). take (length s) (replicate n 0)) (sym e)
        ∙ ap (take (length s)) (sym (replicate-append-replicate (length s) (128 - length s) 0))
        ∙ take_at (replicate (length s) 0) (replicate (128 - length s) 0) (length s) (length-replicate (length s) 0)

    -- and it holds no record
    pub fresh_holds : fresh s ≡ holding s (replicate (length s) 0) none
    unfolding fresh holding mourned recorded full_back before_full
    fresh_holds = λ i. record {
      count = length s;
      serials = s ++ replicate (128 - length s) 0;
      seconds = zeros i;
      returned = packed nothing;
      full = packed nothing;
      mourned = packed (λ q. sym (none_any (length s) (λ p. recorded none p q) (λ p l. refl)) i);
      earlier = packed (λ q. sym (none_any (length s) (λ p. full_back none p && before (length s) none p q) (λ p l. refl)) i);
      rows = sym no_table i;
    }
      where
        zeros : replicate {A = ℕ} 128 0 ≡ replicate (length s) 0 ++ replicate (128 - length (replicate {A = ℕ} (length s) 0)) 0
        zeros =
            let e : length s + (128 - length (replicate {A = ℕ} (length s) 0)) ≡ 128 = omega (arith, length-replicate {A = ℕ} (length s) 0) in
            sym (replicate-append-replicate (length s) (128 - length (replicate {A = ℕ} (length s) 0)) 0 ∙ ap (λ (n : ℕ). replicate n 0) e)

-- ---- one that keeps a record

module _ (n p : ℕ) (few : n ≤ 128) (on : p < n) where
  kept_returned : (s : PlaceSet) (x : ℕ) → ltb x n && has (packed (with p (has s))) x ≡ (ltb x n && has s x) || eqb x p
  kept_returned s x =
      ap (λ (S : Places). ltb x n && S x) (has_packed (with p (has s)) ∙ kept_with s p (omega arith)) ∙ go (ltb x n) refl
    where
      go : (t : Bool) → ltb x n ≡ t → t && (has s x || eqb x p) ≡ (t && has s x) || eqb x p
      go true e = refl
      go false e = sym (ne_eqb x p (λ q. clash (lt-ltb x n (omega arith)) e))

  module _ (M : Row) (m_on : (q : ℕ) → M q ≡ true → q < n) (rows : List ℕ) (all : length rows ≡ 2048) where
    kept_row : (x q : ℕ) → ltb q n && rows_of (with_row rows p (packed M)) x q ≡ cond (eqb x p) M (λ q. ltb q n && rows_of rows x q) q
    kept_row x q = go (eqb x p) refl
      where
        new : ltb q n && has (packed M) q ≡ M q
        new =
            ap (λ (S : Places). ltb q n && S q) (has_packed M ∙ kept_all M (λ k e. omega (arith, m_on k e))) ∙ inside (M q) refl
          where
            inside : (t : Bool) → M q ≡ t → ltb q n && M q ≡ M q
            inside true e = ap (λ (b : Bool). b && M q) (lt-ltb q n (m_on q e))
            inside false e = ap (λ (b : Bool). ltb q n && b) e ∙ and-false (ltb q n) ∙ sym e

        go : (t : Bool) → eqb x p ≡ t → ltb q n && rows_of (with_row rows p (packed M)) x q ≡ cond t M (λ q. ltb q n && rows_of rows x q) q
        go true e =
            ap (λ (y : ℕ). ltb q n && rows_of (with_row rows p (packed M)) y q) (eqb-true x p e)
            ∙ ap (λ (S : Places). ltb q n && S q) (rows_with rows p (packed M) all (omega arith)) ∙ new
        go false e = ap (λ (S : Places). ltb q n && S q) (rows_other rows p x (packed M) (eqb-false x p e))

-- the kinds with one more full place, and with one more short one, which is not full yet
full_kind : (s : PlaceSet) (p : ℕ) → p < 128 → (x : ℕ) → kind_in (has (packed (with p (has s)))) x ≡ cond (eqb x p) Full (kind_in (has s) x)
unfolding kind_in
full_kind s p small x = ap (λ (S : Places). cond (S x) Full Short) (has_packed (with p (has s)) ∙ kept_with s p small) ∙ go (has s x) (eqb x p)
  where
    go : (a b : Bool) → cond (a || b) Full Short ≡ cond b Full (cond a Full Short)
    go true true = refl
    go true false = refl
    go false true = refl
    go false false = refl

short_kind : (s : PlaceSet) (p : ℕ) → has s p ≡ false → (x : ℕ) → kind_in (has s) x ≡ cond (eqb x p) Short (kind_in (has s) x)
unfolding kind_in
short_kind s p e x = go (eqb x p) refl
  where
    go : (t : Bool) → eqb x p ≡ t → cond (has s x) Full Short ≡ cond t Short (cond (has s x) Full Short)
    go true h = ap (λ (y : ℕ). cond (has s y) Full Short) (eqb-true x p h) ∙ ap (λ (b : Bool). cond b Full Short) e
    go false h = refl

-- the record of p lies on the others, its kind is k and its mourned set is M
pub kept_accepted : (r : Recovery) (p : ℕ) (k : Kind) (M : Row) → length r.rows ≡ 2048 → p < size_of r → has r.full p ≡ false → ((q : ℕ) → M q ≡ true → q < size_of r)
    → accepted_of (keeping r p k M) ≡ lay (accepted_of r) p k M
unfolding accepted_of accepted_in keeping keeping_full keeping_row size_of
kept_accepted r p Full M all on new m_on = λ i. record {
  returned = λ x. kept_returned (size_of r) p (size_few r) on r.returned x i;
  kind = λ x. full_kind r.full p (omega (arith, size_few r)) x i;
  row = λ x q. kept_row (size_of r) p (size_few r) on M m_on r.rows all x q i;
}
kept_accepted r p Short M all on new m_on = λ i. record {
  returned = λ x. kept_returned (size_of r) p (size_few r) on r.returned x i;
  kind = λ x. short_kind r.full p new x i;
  row = λ x q. kept_row (size_of r) p (size_few r) on M m_on r.rows all x q i;
}

-- a record brings no second serial
pub kept_seconds : (r : Recovery) (p : ℕ) (k : Kind) (M : Row) → seconds_of (keeping r p k M) ≡ seconds_of r
unfolding seconds_of size_of keeping keeping_full keeping_row
kept_seconds r p Full M = refl
kept_seconds r p Short M = refl

-- ---- one that holds its records, and nothing else

pub record Held (roster : List ℕ) (r : Recovery) : Type 0 where
  pub few : length roster ≤ 128
  pub long : length (seconds_of r) ≡ length roster
  pub is : r ≡ holding roster (seconds_of r) (accepted_of r)

module _ {roster : List ℕ} {r : Recovery} (h : Held roster r) where
  pub held_count : r.count ≡ length roster
  unfolding holding
  held_count = ap (λ (r : Recovery). r.count) h.is

  pub held_size : size_of r ≡ length roster
  unfolding size_of size
  held_size = ap size held_count ∙ rw (le-leb (length roster) 128 h.few)

  pub held_roster : roster_of r ≡ roster
  unfolding roster_of holding
  held_roster = ap₂ take held_size (ap (λ (r : Recovery). r.serials) h.is) ∙ take-append_seam roster (replicate (128 - length roster) 0)

  pub held_table : length r.rows ≡ 2048
  unfolding holding
  held_table = ap (λ (r : Recovery). length r.rows) h.is ∙ table_length (recorded (accepted_of r))

  -- who is back
  pub held_returned : has r.returned ≡ (accepted_of r).returned
  unfolding holding
  held_returned = ap (λ (r : Recovery). has r.returned) h.is ∙ has_packed (accepted_of r).returned ∙ kept_all (accepted_of r).returned (λ p e. omega (arith, returned_on r p e, size_few r))

  -- who is back with a full record
  pub held_full : has r.full ≡ full_back (accepted_of r)
  unfolding holding full_back
  held_full = ap (λ (r : Recovery). has r.full) h.is ∙ has_packed (full_back (accepted_of r)) ∙ kept_all (full_back (accepted_of r)) (λ p e. omega (arith, returned_on r p (and_left ((accepted_of r).returned p) (is_full ((accepted_of r).kind p)) e), size_few r))

  pub not_full : (p : ℕ) → (accepted_of r).returned p ≡ false → has r.full p ≡ false
  unfolding full_back
  not_full p e = ap (λ (S : Places). S p) held_full ∙ ap (λ (b : Bool). b && is_full ((accepted_of r).kind p)) e

  -- the mourned places are those that the records name
  pub held_mourned : has r.mourned ≡ mourned (length roster) (accepted_of r)
  unfolding holding mourned recorded
  held_mourned = ap (λ (r : Recovery). has r.mourned) h.is ∙ has_packed (mourned n A) ∙ kept_all (mourned n A) small
    where
      n : ℕ
      n = length roster

      A : Accepted
      A = accepted_of r

      small : (q : ℕ) → any n (λ p. A.returned p && A.row p q) ≡ true → q < 128
      small q e =
          let w = any_elim n (λ p. A.returned p && A.row p q) e in
          omega (arith, row_on r w.0 q (and_right (A.returned w.0) (A.row w.0 q) w.2), size_few r)

  -- the earlier ones are those before a returned full place
  pub held_earlier : has r.earlier ≡ before_full (length roster) (accepted_of r)
  unfolding holding
  held_earlier = ap (λ (r : Recovery). has r.earlier) h.is ∙ has_packed (before_full n A) ∙ kept_all (before_full n A) (λ q e. small (before_full_out n A q e).2)
    where
      n : ℕ
      n = length roster

      A : Accepted
      A = accepted_of r

      on : (p q : ℕ) → recorded A p q ≡ true → q < 128
      on p q e = omega (arith, row_on r p q (recorded_parts A p q e).1, size_few r)

      small : {q p : ℕ} → Before (recorded A) q p → q < 128
      small (heard {q = q} {p = p} e) = on p q e
      small (through {q = q} {m = m} e b) = on m q e

  -- and the rows are the recorded ones
  pub held_rows : rows_of r.rows ≡ recorded (accepted_of r)
  unfolding holding recorded
  held_rows = ap (λ (r : Recovery). rows_of r.rows) h.is ∙ fun_ext (λ p. go p (dec_lt p 128))
    where
      A : Accepted
      A = accepted_of r

      small : (p q : ℕ) → recorded A p q ≡ true → (p < 128) × (q < 128)
      small p q e = (omega (arith, returned_on r p (and_left (A.returned p) (A.row p q) e), size_few r), omega (arith, row_on r p q (and_right (A.returned p) (A.row p q) e), size_few r))

      go : (p : ℕ) → Dec (p < 128) → rows_of (table_of (recorded A)) p ≡ recorded A p
      go p (yes l) = table_rows (recorded A) p l ∙ kept_all (recorded A p) (λ q e. (small p q e).1)
      go p (no l) = table_past (recorded A) p (omega arith) ∙ fun_ext (λ q. sym (is_false (recorded A p q) (λ e. l (small p q e).0)))

  -- a new record that may be taken joins the others
  module _ (p : ℕ) (M : Row) (absent : (accepted_of r).returned p ≡ false) (on : p < length roster) where
    named : (k : Kind) → packed (union (has r.mourned) M) ≡ packed (mourned (length roster) (lay (accepted_of r) p k M))
    named k = ap (λ (S : Places). packed (union S M)) held_mourned ∙ ap packed (sym (laid_mourned (length roster) (accepted_of r) p k M absent on))

    table : (k : Kind) → with_row r.rows p (packed M) ≡ table_of (recorded (lay (accepted_of r) p k M))
    unfolding holding
    table k = ap (λ (r : Recovery). with_row r.rows p (packed M)) h.is ∙ with_table (recorded (accepted_of r)) p M (omega (arith, h.few)) ∙ ap table_of (sym (fun_ext (laid_recorded (accepted_of r) p k M)))

    pub keeping_holds : (k : Kind) {H : History} → Fits (length roster) (lay (accepted_of r) p k M) H → keeping r p k M ≡ holding roster (seconds_of r) (lay (accepted_of r) p k M)
    unfolding keeping keeping_full keeping_row holding is_full
    keeping_holds Full f = λ i. record {
      count = held_count i;
      serials = (h.is i).serials;
      seconds = (h.is i).seconds;
      returned = packed (with p (held_returned i));
      full = marked i;
      mourned = named Full i;
      earlier = known i;
      rows = table Full i;
    }
      where
        marked : packed (with p (has r.full)) ≡ packed (full_back (lay (accepted_of r) p Full M))
        marked = ap (λ (S : Places). packed (with p S)) held_full ∙ ap packed (sym (full_lay (accepted_of r) p Full M absent))

        known : packed (union (has r.earlier) M) ≡ packed (before_full (length roster) (lay (accepted_of r) p Full M))
        known = ap (λ (S : Places). packed (union S M)) held_earlier ∙ ap packed (sym (before_full_lay (accepted_of r) p Full M absent f))
    keeping_holds Short f = λ i. record {
      count = held_count i;
      serials = (h.is i).serials;
      seconds = (h.is i).seconds;
      returned = packed (with p (held_returned i));
      full = marked i;
      mourned = named Short i;
      earlier = known i;
      rows = table Short i;
    }
      where
        marked : r.full ≡ packed (full_back (lay (accepted_of r) p Short M))
        marked = ap (λ (r : Recovery). r.full) h.is ∙ ap packed (sym (full_lay (accepted_of r) p Short M absent))

        known : r.earlier ≡ packed (before_full (length roster) (lay (accepted_of r) p Short M))
        known = ap (λ (r : Recovery). r.earlier) h.is ∙ ap packed (sym (before_full_lay (accepted_of r) p Short M absent f))

  -- so does a second serial
  module _ (p x : ℕ) (on : p < length roster) where
    pub second_given : seconds_of (with_second r p x) ≡ set (seconds_of r) p x
    unfolding seconds_of size_of with_second
    second_given = take-set-lt (size_of r) r.seconds p x (rw held_size on)

    pub second_holds : with_second r p x ≡ holding roster (set (seconds_of r) p x) (accepted_of r)
    unfolding with_second holding
    second_holds = λ i. record {
      count = held_count i;
      serials = (h.is i).serials;
      seconds = joined i;
      returned = (h.is i).returned;
      full = (h.is i).full;
      mourned = (h.is i).mourned;
      earlier = (h.is i).earlier;
      rows = (h.is i).rows;
    }
      where
        S : List ℕ
        S = seconds_of r

        joined : set r.seconds p x ≡ set S p x ++ replicate (128 - length (set S p x)) 0
        joined =
            ap (λ (r : Recovery). set r.seconds p x) h.is ∙ set-append_left S (replicate (128 - length S) 0) p x (omega (arith, h.long))
            ∙ ap (λ (n : ℕ). set S p x ++ replicate (128 - n) 0) (sym (length-set S p x))

  -- ---- its calls: what they give is the rule's

  abbrev n : ℕ
  n = length roster

  module _ {G : History} (f : Fits n (accepted_of r) G) where
    pub kept_answer : (i : ℕ) → answer_by n (accepted_of r) (has r.mourned) (has r.earlier) i ≡ answer n (accepted_of r) i
    kept_answer i = ap₂ (λ (M F : Row). answer_by n (accepted_of r) M F i) held_mourned held_earlier ∙ answer_kept f i

    pub kept_settled : settled_by n (accepted_of r) (has r.mourned) (has r.earlier) ≡ settled n (accepted_of r)
    kept_settled = ap₂ (settled_by n (accepted_of r)) held_mourned held_earlier ∙ settled_kept f

    pub kept_blocking : blocking_of r ≡ blocking n (accepted_of r)
    kept_blocking = blocking_is r held_size ∙ ap₂ (blocking_by n (accepted_of r)) held_mourned held_earlier ∙ blocking_kept f

    kept_second : (i : ℕ) → replaced (rows_of r.rows) (lowest n (blockers_by n (accepted_of r) (has r.mourned) (has r.earlier) i)) (with i (before n (accepted_of r) i)) ≡ second n (accepted_of r) i
    unfolding replaced second grown
    kept_second i =
        ap₂ (λ (H : History) (S : Row). replaced H (lowest n S) (with i (before n (accepted_of r) i))) held_rows (ap₂ (λ (M F : Row). blockers_by n (accepted_of r) M F i) held_mourned held_earlier ∙ blockers_kept f i)

    pub kept_shown : (i : ℕ) (a b : List ℕ) → i < n → answer n (accepted_of r) i ≡ is_open → 16 * n ≤ length a → 16 * n ≤ length b
        → shown r i a b ≡ record { answer = Ok S.Shown; first = laid n (recorded (accepted_of r)) a; second = laid n (second n (accepted_of r) i) b }
    kept_shown i a b l e u v =
        shown_both r held_size i a b l (kept_answer i ∙ e) u v
        ∙ ap₂ (λ (F G : History). record { answer = Ok S.Shown; first = laid n F a; second = laid n G b }) held_rows (kept_second i)

  pub kept_unmourned : unmourned_of r ≡ unmourned n (accepted_of r)
  unfolding unmourned
  kept_unmourned = unmourned_is r held_size ∙ ap (difference (below n)) held_mourned

  pub kept_absent : unmourned_absent_of r ≡ unmourned_absent n (accepted_of r)
  unfolding unmourned_absent_of unmourned_absent
  kept_absent = ap (λ (S : Row). difference S (accepted_of r).returned) kept_unmourned

  pub kept_count : unmourned_count_of r ≡ count n (unmourned n (accepted_of r))
  unfolding unmourned_count_of
  kept_count = ap₂ count held_size kept_unmourned
