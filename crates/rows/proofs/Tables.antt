-- Tables made from rows: what crates above this one cite of `table_of`. Assumes nothing.
use mathlib.Core.Path.{◌≡◌, refl, sym, ap, ap₂, ◌∙◌}
use mathlib.Core.Bool.{Bool, cond, ◌&&◌, and-true}
use mathlib.Core.List.{List, [], ◌++◌, append-nil}
use Prim.Native.Nat.{ℕ, zero, suc, ◌+◌, ◌-◌, ◌*◌, ◌<◌, ◌≤◌}
use native.Mathlib.Omega.{arith}
use lib.Dec.{eqb}
use lib.ListN.{length, get_or, drop, length-append}
use lib.Seq.{take_all, drop_at}
use borrow.Author.Tests.{eq-eqb, ne_eqb, lt-ltb}
use Rattle.sets.specs.Sets.{Places, nothing}
use Rattle.sets.specs.PlaceSets.{has, kept, word, packed}
use Rattle.sets.proofs.Laws.{has_packed}
use Rattle.rows.specs.Rows.{bytes_from, row_bytes, row_in, rows_from, put_row, no_rows, rows_of, with_row, table_of}
use Rattle.rows.proofs.Bytes.{bytes_same}
use Rattle.rows.proofs.Laws.{row_length, rows_length, rows_in, rows_cut, rows_bytes, rows_past, put_behind}

-- ---- the table of given rows

pub table_length : (H : ℕ → Places) → length (table_of H) ≡ 2048
unfolding table_of
table_length H = rows_length 128 0 H

-- its row for a place that it has, and from 128 on
pub table_rows : (H : ℕ → Places) (p : ℕ) → p < 128 → rows_of (table_of H) p ≡ kept (H p)
unfolding rows_of table_of
table_rows H p l = ap (λ (w : List ℕ). row_in w (16 * p)) (sym (append-nil (rows_from 128 0 H))) ∙ rows_in 128 p H [] l

pub table_past : (H : ℕ → Places) (p : ℕ) → 128 ≤ p → rows_of (table_of H) p ≡ nothing
table_past H p l = rows_past (table_of H) p (table_length H) l

-- ---- tables of rows that are alike

-- places of 128 or more are not looked at
row_same : (S T : Places) → ((q : ℕ) → q < 128 → S q ≡ T q) → row_bytes S ≡ row_bytes T
unfolding row_bytes
row_same S T h = bytes_same 16 0 0 S T (λ q l. h (8 * 0 + q) (omega arith))

rows_same : (m p : ℕ) (F G : ℕ → Places) → ((r q : ℕ) → p ≤ r → r < p + m → q < 128 → F r q ≡ G r q) → rows_from m p F ≡ rows_from m p G
unfolding rows_from
rows_same zero p F G h = refl
rows_same (suc m) p F G h =
    ap₂ (λ (x y : List ℕ). x ++ y) (row_same (F p) (G p) (λ q l. h p q (omega arith) (omega arith) l))
    (rows_same m (suc p) F G (λ r q a b l. h r q (omega arith) (omega arith) l))

pub table_same : (F G : ℕ → Places) → ((p q : ℕ) → p < 128 → q < 128 → F p q ≡ G p q) → table_of F ≡ table_of G
unfolding table_of
table_same F G h = rows_same 128 0 F G (λ r q a b l. h r q (omega arith) l)

-- the table of empty rows
pub no_table : table_of (λ p. nothing) ≡ no_rows
unfolding table_of rows_from row_bytes bytes_from word no_rows
no_table = refl

-- ---- a table with another row for p

-- the row p among others
row_among : (p n : ℕ) (H : ℕ → Places) → rows_from (p + suc n) 0 H ≡ rows_from p 0 H ++ (row_bytes (H p) ++ rows_from n (suc p) H)
unfolding rows_from
row_among p n H = let z : 0 + p ≡ p = omega arith in rows_cut p (suc n) 0 H ∙ rw z

-- in its place a row with the members of G p is put, and elsewhere H is G
rows_put : (p n : ℕ) (H G : ℕ → Places) (S : Places) → ((q : ℕ) → q < 128 → S q ≡ G p q) → ((r q : ℕ) → (r ≡ p → ⊥) → H r q ≡ G r q)
    → put_row (rows_from (p + suc n) 0 H) (16 * p) S ≡ rows_from (p + suc n) 0 G
rows_put p n H G S new old =
    let back = row_bytes (H p) ++ rows_from n (suc p) H in
    let l : 16 ≤ length back = rw (length-append, row_length) (omega arith) in
    let d : drop 16 back ≡ rows_from n (suc p) G
    = drop_at (row_bytes (H p)) (rows_from n (suc p) H) 16 (row_length (H p)) ∙ rows_same n (suc p) H G (λ r q a b k. old r q (λ e. omega arith)) in
    let f : rows_from p 0 H ≡ rows_from p 0 G = rows_same p 0 H G (λ r q a b k. old r q (λ e. omega arith)) in
    ap (λ (w : List ℕ). put_row w (16 * p) S) (row_among p n H) ∙ put_behind (rows_from p 0 H) back (16 * p) S (rows_length p 0 H) l ∙ rw (d, f, row_same S (G p) new, ← row_among p n G)

pub with_table : (H : ℕ → Places) (p : ℕ) (S : Places) → p < 128 → with_row (table_of H) p (packed S) ≡ table_of (λ x. cond (eqb x p) S (H x))
unfolding with_row table_of
with_table H p S l =
    let m : 128 ≡ p + suc (127 - p) = omega arith in
    ap (λ (k : ℕ). put_row (rows_from k 0 H) (16 * p) (has (packed S))) m ∙ rows_put p (127 - p) H rows (has (packed S)) new old ∙ sym (ap (λ (k : ℕ). rows_from k 0 rows) m)
  where
    rows : ℕ → Places
    rows x = cond (eqb x p) S (H x)

    new : (q : ℕ) → q < 128 → has (packed S) q ≡ rows p q
    new q h =
        ap (λ (R : Places). R q) (has_packed S) ∙ ap (λ (t : Bool). S q && t) (lt-ltb q 128 h) ∙ and-true (S q) ∙ sym (ap (λ (t : Bool). cond t S (H p) q) (eq-eqb p p refl))

    old : (r q : ℕ) → (r ≡ p → ⊥) → H r q ≡ rows r q
    old r q d = sym (ap (λ (t : Bool). cond t S (H r) q) (ne_eqb r p d))

-- ---- a table of bytes is the table of its rows

module _ (w : List ℕ) (all : length w ≡ 2048) (bytes : (i : ℕ) → i < length w → get_or w i 0 < 256) where
  pub table_of_rows : table_of (rows_of w) ≡ w
  unfolding table_of
  table_of_rows = rows_bytes w bytes 128 (omega arith) ∙ take_all (16 * 128) w (omega arith)
