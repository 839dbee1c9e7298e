-- Rows in which places note one more, as tables. Assumes nothing.
use mathlib.Core.Path.{◌≡◌, refl, sym, ap, ◌∙◌, subst}
use mathlib.Core.Bool.{Bool, true, false, not, cond, ◌&&◌, ◌||◌, and-true}
use mathlib.Core.List.{List}
use Prim.Native.Nat.{ℕ, ◌+◌, ◌<◌, ◌≤◌}
use native.Mathlib.Omega.{arith}
use lib.ListN.{length}
use lib.Dec.{eqb, ltb}
use borrow.Author.Tests.{eqb-true, eqb-false, ne_eqb, ltb-true, ltb-false, lt-ltb, le-ltb}
use Rattle.sets.specs.Sets.{Places, only, below, with, difference}
use Rattle.sets.specs.PlaceSets.{has, kept, Words, packed}
use Rattle.sets.specs.declared.PlaceSet.{PlaceSet}
use Rattle.sets.proofs.Laws.{packed_is}
use Rattle.histories.specs.declared.Kind.{Kind}
use Rattle.histories.specs.declared.Kind.TheVariants.{Full, Short}
use Rattle.histories.specs.Histories.{History}
use Rattle.rows.specs.Rows.{row_at, rows_of, with_row, table_of}
use Rattle.rows.proofs.Laws.{has_row, with_past}
use Rattle.rows.proofs.Tables.{table_length, table_rows, table_same, with_table}
use Rattle.executions.specs.Executions.{listeners, noting}
use Rattle.executions.specs.Parts.{stops_of}

-- ---- a table of given rows holds those rows

table_row : (H : History) (x y : ℕ) → x < 128 → y < 128 → rows_of (table_of H) x y ≡ H x y
table_row H x y l k = ap (λ (R : Places). R y) (table_rows H x l) ∙ ap (λ (t : Bool). H x y && t) (lt-ltb y 128 k) ∙ and-true (H x y)

pub table_again : (w : List ℕ) (H : History) → w ≡ table_of H → table_of (rows_of w) ≡ w
table_again w H e = rw e (table_same (rows_of (table_of H)) H (λ x y l k. table_row H x y l k))

-- ---- one place notes q

module _ (w : List ℕ) (table : table_of (rows_of w) ≡ w) (p q : ℕ) where
  noted : p < 128 → with_row w p (packed (with q (rows_of w p))) ≡ table_of (noting (only p) q (rows_of w))
  unfolding noting
  noted l =
      subst (λ (v : List ℕ). with_row v p (packed (with q (rows_of w p))) ≡ table_of (noting (only p) q (rows_of w))) table
      (with_table (rows_of w) p (with q (rows_of w p)) l
      ∙ table_same (λ x. cond (eqb x p) (with q (rows_of w p)) (rows_of w x)) (noting (only p) q (rows_of w)) (λ x y _ _. go x y (eqb x p) refl))
    where
      go : (x y : ℕ) (t : Bool) → eqb x p ≡ t → cond t (with q (rows_of w p)) (rows_of w x) y ≡ cond t (with q (rows_of w x)) (rows_of w x) y
      go x y true e = ap (λ (z : ℕ). rows_of w z y || eqb y q) (sym (eqb-true x p e))
      go x y false e = refl

  -- a place that no table has
  noted_past : (s : PlaceSet) → 128 ≤ p → with_row w p s ≡ table_of (noting (only p) q (rows_of w))
  unfolding noting
  noted_past s l =
      with_past w p s (sym (ap length table) ∙ table_length (rows_of w)) l ∙ sym table
      ∙ table_same (rows_of w) (noting (only p) q (rows_of w)) (λ x y h _. sym (ap (λ (t : Bool). cond t (with q (rows_of w x)) (rows_of w x) y) (ne_eqb x p (λ e. omega arith))))

  pub note_is : (s t : PlaceSet) → s ≡ row_at w p → Words t → has t ≡ kept (with q (has s)) → with_row w p t ≡ table_of (noting (only p) q (rows_of w))
  note_is s t e wt h = go (ltb p 128) refl
    where
      new : t ≡ packed (with q (rows_of w p))
      new = packed_is t (with q (rows_of w p)) wt (h ∙ ap (λ (R : Places). kept (with q R)) (ap has e ∙ has_row w p))

      go : (b : Bool) → ltb p 128 ≡ b → with_row w p t ≡ table_of (noting (only p) q (rows_of w))
      go true l = ap (with_row w p) new ∙ noted (ltb-true p 128 l)
      go false l = noted_past t (ltb-false p 128 l)

-- ---- some places note q

module _ (q : ℕ) (H : History) where
  -- nobody does
  pub noting_none : (who : Places) → ((x : ℕ) → who x ≡ false) → table_of (noting who q H) ≡ table_of H
  unfolding noting
  noting_none who none = table_same (noting who q H) H (λ x y _ _. ap (λ (t : Bool). cond t (with q (H x)) (H x) y) (none x))

  pub noting_same : (A B : Places) → ((x : ℕ) → A x ≡ B x) → table_of (noting A q H) ≡ table_of (noting B q H)
  unfolding noting
  noting_same A B e = table_same (noting A q H) (noting B q H) (λ x y _ _. ap (λ (t : Bool). cond t (with q (H x)) (H x) y) (e x))

  -- some, and then others
  pub noting_more : (A B C : Places) → ((x : ℕ) → A x || B x ≡ C x) → table_of (noting A q (rows_of (table_of (noting B q H)))) ≡ table_of (noting C q H)
  unfolding noting
  noting_more A B C e =
      table_same (noting A q (rows_of T)) (noting C q H) (λ x y l k.
      inner x y (A x) (rows_of T x) (table_row (noting B q H) x y l k) ∙ go x y (A x) (B x) ∙ ap (λ (t : Bool). cond t (with q (H x)) (H x) y) (e x))
    where
      T : List ℕ
      T = table_of (noting B q H)

      inner : (x y : ℕ) (a : Bool) (R : Places) → R y ≡ noting B q H x y → cond a (with q R) R y ≡ cond a (with q (noting B q H x)) (noting B q H x) y
      inner x y true R r = ap (λ (t : Bool). t || eqb y q) r
      inner x y false R r = r

      both : (h b : Bool) → (h || b) || b ≡ h || b
      both true b = refl
      both false true = refl
      both false false = refl

      go : (x y : ℕ) (a b : Bool) → cond a (with q (cond b (with q (H x)) (H x))) (cond b (with q (H x)) (H x)) y ≡ cond (a || b) (with q (H x)) (H x) y
      go x y true true = both (H x y) (eqb y q)
      go x y true false = refl
      go x y false b = refl

-- ---- a place notes q unless it has stopped

below_next : (x i : ℕ) → eqb x i || ltb x i ≡ ltb x (i + 1)
below_next x i = go (eqb x i) refl (ltb x i) refl
  where
    go : (a : Bool) → eqb x i ≡ a → (b : Bool) → ltb x i ≡ b → a || b ≡ ltb x (i + 1)
    go true h b k = let e : x ≡ i = eqb-true x i h in sym (lt-ltb x (i + 1) (omega arith))
    go false h true k = let l : x < i = ltb-true x i k in sym (lt-ltb x (i + 1) (omega arith))
    go false h false k =
        let d : x ≡ i → ⊥ = eqb-false x i h in
        let l : i ≤ x = ltb-false x i k in
        sym (le-ltb x (i + 1) (omega arith))

either_and : (a b v : Bool) → (a && v) || (b && v) ≡ (a || b) && v
either_and true b true = refl
either_and true true false = refl
either_and true false false = refl
either_and false b v = refl

module _ (S : Places) (q : ℕ) where
  pub unless_stopped : (p : ℕ) (w : List ℕ) → table_of (rows_of w) ≡ w → S p ≡ true → w ≡ table_of (noting (difference (only p) S) q (rows_of w))
  unless_stopped p w table e = sym table ∙ sym (noting_none q (rows_of w) (difference (only p) S) (λ x. go x (eqb x p) refl))
    where
      go : (x : ℕ) (t : Bool) → eqb x p ≡ t → t && not (S x) ≡ false
      go x true h = ap (λ (z : ℕ). not (S z)) (eqb-true x p h) ∙ ap not e
      go x false h = refl

  pub unless_runs : (p : ℕ) (H : History) → S p ≡ false → table_of (noting (only p) q H) ≡ table_of (noting (difference (only p) S) q H)
  unless_runs p H e = noting_same q H (only p) (difference (only p) S) (λ x. go x (eqb x p) refl)
    where
      go : (x : ℕ) (t : Bool) → eqb x p ≡ t → t ≡ t && not (S x)
      go x true h = sym (ap (λ (z : ℕ). not (S z)) (eqb-true x p h) ∙ ap not e)
      go x false h = refl

  -- every place below i, one after the other
  pub running_start : (w : List ℕ) → table_of (rows_of w) ≡ w → w ≡ table_of (noting (difference (below 0) S) q (rows_of w))
  running_start w table =
      sym table ∙ sym (noting_none q (rows_of w) (difference (below 0) S) (λ x. ap (λ (t : Bool). t && not (S x)) (le-ltb x 0 (omega arith))))

  pub running_next : (i : ℕ) (H : History) (v : List ℕ) → v ≡ table_of (noting (difference (below i) S) q H)
      → table_of (noting (difference (only i) S) q (rows_of v)) ≡ table_of (noting (difference (below (i + 1)) S) q H)
  running_next i H v e =
      ap (λ (t : List ℕ). table_of (noting (difference (only i) S) q (rows_of t))) e
      ∙ noting_more q H (difference (only i) S) (difference (below i) S) (difference (below (i + 1)) S) (λ x.
      either_and (eqb x i) (ltb x i) (not (S x)) ∙ ap (λ (t : Bool). t && not (S x)) (below_next x i))

-- ---- those who listen

-- who has stopped is seen as far as the roster goes
seen_stopped : (b s : Bool) → b && not s ≡ b && not (b && s)
seen_stopped true s = refl
seen_stopped false s = refl

pub heard_full : (k : Kind) (n : ℕ) (S : Places) (p q : ℕ) (H : History) → k ≡ Full
    → table_of (noting (difference (below n) S) q H) ≡ table_of (noting (listeners k n (stops_of n S) p) q H)
unfolding listeners stops_of
heard_full k n S p q H e = rw e (noting_same q H (difference (below n) S) (λ x. ltb x n && not (ltb x n && S x)) (λ x. seen_stopped (ltb x n) (S x)))

pub heard_short : (k : Kind) (n : ℕ) (S : Places) (p q : ℕ) (H : History) → k ≡ Short
    → table_of (noting (only p) q H) ≡ table_of (noting (listeners k n (stops_of n S) p) q H)
unfolding listeners
heard_short k n S p q H e = rw e
