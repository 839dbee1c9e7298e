-- Rows in bytes, in a table and one after another: what crates above this one cite. Assumes nothing.
use mathlib.Core.Path.{◌≡◌, refl, sym, ap, ap₂, ◌∙◌, subst, fun_ext}
use mathlib.Core.Logic.{◌⊎◌, inl, inr}
use mathlib.Core.Bool.{Bool, true, false, cond, ◌&&◌, and-true, and-false, and_comm}
use mathlib.Core.List.{List, ◌++◌, append_assoc}
use Prim.Native.Nat.{ℕ, zero, suc, ◌+◌, ◌-◌, ◌*◌, ◌/◌, ◌%◌, ◌<◌, ◌≤◌}
use native.Mathlib.Omega.{arith}
use native.Mathlib.Nat.{mod-eq_of_lt}
use lib.Dec.{eqb, ltb, leb}
use lib.ListN.{length, get_or, take, drop, replicate, length-append, length-drop, length-take, length-replicate, take-append-drop, get_or-append}
use lib.Seq.{length-take-le, take_at, drop_at, drop-drop, take-add, get_or-take, get_or-drop, get_or-append-add, ext_get_or}
use borrow.Author.Tests.{eq-eqb, ne_eqb, ltb-true, ltb-false, leb-true, lt-ltb, le-leb}
use Rattle.sets.specs.Sets.{Places, nothing}
use Rattle.sets.specs.PlaceSets.{bit, has, kept, word, Words}
use Rattle.sets.specs.declared.PlaceSet.{PlaceSet}
use Rattle.sets.proofs.Booleans.{and_left, and_right}
use Rattle.sets.proofs.Digits.{bit_zero, bit_word}
use Rattle.sets.proofs.Laws.{kept_all, kept_has, has_packed, packed_is}
use Rattle.rows.specs.Rows.{no_rows, row_at, rows_of, with_row, bytes_from, row_bytes, put_row, row_in, history_in, rows_from, laid}
use Rattle.rows.proofs.Bytes.{length_bytes, word_rest, row_out, put_misfits}

-- ---- the bytes of a row

pub row_length : (S : Places) → length (row_bytes S) ≡ 16
unfolding row_bytes
row_length S = length_bytes 16 0 S

bytes_at : (m j i : ℕ) (S : Places) → i < m → get_or (bytes_from m j S) i 0 ≡ word 8 (λ b. S (8 * (j + i) + b))
unfolding bytes_from
bytes_at zero j i S l = absurd (omega arith)
bytes_at (suc m) j zero S l =
    let e : j ≡ j + 0 = omega arith in
    ap (λ (x : ℕ). word 8 (λ b. S (8 * x + b))) e
bytes_at (suc m) j (suc i) S l =
    let e : suc j + i ≡ j + suc i = omega arith in
    bytes_at m (suc j) i S (omega arith) ∙ ap (λ (x : ℕ). word 8 (λ b. S (8 * x + b))) e

-- each place's bit
row_bit : (S : Places) (q : ℕ) → q < 128 → bit (get_or (row_bytes S) (q / 8) 0) (q % 8) ≡ S q
unfolding row_bytes
row_bit S q l =
    let e : 8 * (0 + q / 8) + q % 8 ≡ q = omega arith in
    ap (λ (x : ℕ). bit x (q % 8)) (bytes_at 16 0 (q / 8) S (omega arith)) ∙ bit_word 8 (λ b. S (8 * (0 + q / 8) + b)) (q % 8) (omega arith) ∙ ap S e

-- ---- a row in bytes

-- no row has a place of 128 or more
in_below : (b : List ℕ) (at q : ℕ) → row_in b at q ≡ true → q < 128
unfolding row_in
in_below b at q e = ltb-true q 128 (and_left _ _ (and_right (leb (at + 16) (length b)) _ e))

-- where the bytes of S stand, the row is S
row_is : (b : List ℕ) (at : ℕ) (S : Places) → at + 16 ≤ length b → ((j : ℕ) → j < 16 → get_or b (at + j) 0 ≡ get_or (row_bytes S) j 0) → row_in b at ≡ kept S
unfolding row_in
row_is b at S fits same = fun_ext (λ q. ap (λ (t : Bool). t && (ltb q 128 && bit (get_or b (at + q / 8) 0) (q % 8))) (le-leb (at + 16) (length b) fits) ∙ go q (ltb q 128) refl)
  where
    go : (q : ℕ) (t : Bool) → ltb q 128 ≡ t → t && bit (get_or b (at + q / 8) 0) (q % 8) ≡ S q && t
    go q true e =
        let l : q < 128 = ltb-true q 128 e in
        ap (λ (x : ℕ). bit x (q % 8)) (same (q / 8) (omega arith)) ∙ row_bit S q l ∙ sym (and-true (S q))
    go q false e = sym (and-false (S q))

-- where the same bytes stand, the row is the same
in_same : (b c : List ℕ) (at : ℕ) → length b ≡ length c → ((j : ℕ) → j < 16 → get_or b (at + j) 0 ≡ get_or c (at + j) 0) → row_in b at ≡ row_in c at
unfolding row_in
in_same b c at n same = fun_ext (λ q. ap₂ (λ (m : ℕ) (t : Bool). leb (at + 16) m && t) n (go q (ltb q 128) refl))
  where
    go : (q : ℕ) (t : Bool) → ltb q 128 ≡ t → t && bit (get_or b (at + q / 8) 0) (q % 8) ≡ t && bit (get_or c (at + q / 8) 0) (q % 8)
    go q true e =
        let l : q < 128 = ltb-true q 128 e in
        ap (λ (x : ℕ). bit x (q % 8)) (same (q / 8) (omega arith))
    go q false e = refl

-- the bytes of the row that stands there are those that stand there
row_back : (b : List ℕ) (at : ℕ) → at + 16 ≤ length b → ((i : ℕ) → i < length b → get_or b i 0 < 256) → row_bytes (row_in b at) ≡ take 16 (drop at b)
unfolding row_in row_bytes
row_back b at fits bytes =
    let n : length (take 16 (drop at b)) ≡ 16 = length-take-le 16 (drop at b) (rw length-drop (omega arith)) in
    ext_get_or 0 (bytes_from 16 0 (row_in b at)) (take 16 (drop at b)) (length_bytes 16 0 (row_in b at) ∙ sym n) (λ i h. at_byte i (omega (arith, h, length_bytes 16 0 (row_in b at))))
  where
    digit : (i k : ℕ) → i < 16 → k < 8 → row_in b at (8 * (0 + i) + k) ≡ bit (get_or b (at + i) 0) k
    digit i k l h =
        let q = 8 * (0 + i) + k in
        let x : at + q / 8 ≡ at + i = omega arith in
        let y : q % 8 ≡ k = omega arith in
        ap₂ (λ (s t : Bool). s && (t && bit (get_or b (at + q / 8) 0) (q % 8))) (le-leb (at + 16) (length b) fits) (lt-ltb q 128 (omega arith))
        ∙ ap₂ (λ (u v : ℕ). bit (get_or b u 0) v) x y

    at_byte : (i : ℕ) → i < 16 → get_or (bytes_from 16 0 (row_in b at)) i 0 ≡ get_or (take 16 (drop at b)) i 0
    at_byte i l =
        bytes_at 16 0 i (row_in b at) l ∙ word_rest 8 (get_or b (at + i) 0) (λ k. row_in b at (8 * (0 + i) + k)) (λ k h. digit i k l h)
        ∙ mod-eq_of_lt (bytes (at + i) (omega arith)) ∙ sym (get_or-take 16 (drop at b) i 0 l ∙ get_or-drop at b i 0)

-- ---- a row put into bytes

pub put_length : (out : List ℕ) (at : ℕ) (S : Places) → length (put_row out at S) ≡ length out
unfolding put_row
put_length out at S = go (leb (at + 16) (length out)) refl
  where
    go : (t : Bool) → leb (at + 16) (length out) ≡ t → length (cond t (take at out ++ (row_bytes S ++ drop (at + 16) out)) out) ≡ length out
    go true e =
        let l : at + 16 ≤ length out = leb-true (at + 16) (length out) e in
        simp (length-append, row_length, length-take, length-drop) (omega arith)
    go false e = refl

-- its bytes stand where it was put, and elsewhere what stood there
put_in : (out : List ℕ) (at j : ℕ) (S : Places) → at + 16 ≤ length out → j < 16 → get_or (put_row out at S) (at + j) 0 ≡ get_or (row_bytes S) j 0
unfolding put_row
put_in out at j S fits l =
    let n : length (take at out) ≡ at = length-take-le at out (omega arith) in
    let e : at + j ≡ length (take at out) + j = omega arith in
    rw (le-leb (at + 16) (length out) fits, e) (get_or-append-add (take at out) (row_bytes S ++ drop (at + 16) out) j 0 ∙ get_or-append (row_bytes S) (drop (at + 16) out) 0 j (omega (arith, l, row_length S)))

put_out : (out : List ℕ) (at i : ℕ) (S : Places) → (i < at) ⊎ (at + 16 ≤ i) → get_or (put_row out at S) i 0 ≡ get_or out i 0
unfolding put_row
put_out out at i S d = go (leb (at + 16) (length out)) refl d
  where
    go : (t : Bool) → leb (at + 16) (length out) ≡ t → (i < at) ⊎ (at + 16 ≤ i) → get_or (cond t (take at out ++ (row_bytes S ++ drop (at + 16) out)) out) i 0 ≡ get_or out i 0
    go false e d = refl
    go true e (inl l) =
        let fits : at + 16 ≤ length out = leb-true (at + 16) (length out) e in
        get_or-append (take at out) (row_bytes S ++ drop (at + 16) out) 0 i (rw (length-take-le at out (omega arith)) l) ∙ get_or-take at out i 0 l
    go true e (inr l) =
        let fits : at + 16 ≤ length out = leb-true (at + 16) (length out) e in
        let front = take at out ++ row_bytes S in
        let n : length front ≡ at + 16 = length-append (take at out) (row_bytes S) ∙ omega (arith, length-take-le at out (omega arith), row_length S) in
        let k : i ≡ length front + (i - (at + 16)) = omega arith in
        let m : at + 16 + (i - (at + 16)) ≡ i = omega arith in
        ap₂ (λ (w : List ℕ) (x : ℕ). get_or w x 0) (sym (append_assoc (take at out) (row_bytes S) (drop (at + 16) out))) k
        ∙ get_or-append-add front (drop (at + 16) out) (i - (at + 16)) 0 ∙ get_or-drop (at + 16) out (i - (at + 16)) 0 ∙ ap (λ (x : ℕ). get_or out x 0) m

-- behind a front
pub put_behind : (front back : List ℕ) (at : ℕ) (S : Places) → length front ≡ at → 16 ≤ length back → put_row (front ++ back) at S ≡ front ++ (row_bytes S ++ drop 16 back)
unfolding put_row
put_behind front back at S n h =
    let d : drop (at + 16) (front ++ back) ≡ drop 16 back = sym (drop-drop 16 at (front ++ back)) ∙ ap (drop 16) (drop_at front back at n) in
    let f : at + 16 ≤ length (front ++ back) = rw length-append (omega arith) in
    rw (le-leb (at + 16) (length (front ++ back)) f, take_at front back at n, d)

-- ---- tables

-- a row by its members
pub has_row : (w : List ℕ) (p : ℕ) → has (row_at w p) ≡ rows_of w p
unfolding rows_of row_at
has_row w p = has_packed (row_in w (16 * p)) ∙ kept_all (row_in w (16 * p)) (in_below w (16 * p))

-- the row of a set whose members are those of the row
pub row_at_lem : (w : List ℕ) (p : ℕ) (s : PlaceSet) → Words s → has s ≡ rows_of w p → s ≡ row_at w p
unfolding rows_of row_at
row_at_lem w p s h e = packed_is s (row_in w (16 * p)) h (e ∙ sym (kept_all (row_in w (16 * p)) (in_below w (16 * p))))

zeros : (n i : ℕ) → ◌≡◌ {A = ℕ} (get_or (replicate n 0) i 0) 0
zeros zero i = refl
zeros (suc n) zero = refl
zeros (suc n) (suc i) = zeros n i

-- every row of the table of empty rows is empty
pub rows_of_lem : (p : ℕ) → rows_of no_rows p ≡ nothing
unfolding rows_of row_in no_rows
rows_of_lem p = fun_ext (λ q. rw (zeros 2048 (16 * p + q / 8), bit_zero (q % 8), and-false, and-false))

pub no_rows_length : length no_rows ≡ 2048
unfolding no_rows
no_rows_length = length-replicate {A = ℕ} 2048 0

-- a place that no table has
pub rows_past : (w : List ℕ) (p : ℕ) → length w ≡ 2048 → 128 ≤ p → rows_of w p ≡ nothing
unfolding rows_of
rows_past w p n l = row_out w (16 * p) (omega arith)

-- the table with another row for p has that row at p, and elsewhere what it had
pub rows_with : (w : List ℕ) (p : ℕ) (s : PlaceSet) → length w ≡ 2048 → p < 128 → rows_of (with_row w p s) p ≡ has s
unfolding rows_of with_row
rows_with w p s n l =
    row_is (put_row w (16 * p) (has s)) (16 * p) (has s) (omega (arith, n, l, put_length w (16 * p) (has s))) (λ j h. put_in w (16 * p) j (has s) (omega arith) h) ∙ kept_has s

pub rows_other : (w : List ℕ) (p q : ℕ) (s : PlaceSet) → (q ≡ p → ⊥) → rows_of (with_row w p s) q ≡ rows_of w q
unfolding rows_of with_row
rows_other w p q s d =
    in_same (put_row w (16 * p) (has s)) w (16 * q) (put_length w (16 * p) (has s))
    (λ j h. put_out w (16 * p) (16 * q + j) (has s) (go j h (ltb q p) (ltb p q) refl refl))
  where
    go : (j : ℕ) → j < 16 → (t u : Bool) → ltb q p ≡ t → ltb p q ≡ u → (16 * q + j < 16 * p) ⊎ (16 * p + 16 ≤ 16 * q + j)
    go j h true u e f =
        let l : q < p = ltb-true q p e in
        inl (omega arith)
    go j h false true e f =
        let l : p < q = ltb-true p q f in
        inr (omega arith)
    go j h false false e f =
        let l : p ≤ q = ltb-false q p e in
        let m : q ≤ p = ltb-false p q f in
        absurd (d (omega arith))

pub with_past : (w : List ℕ) (p : ℕ) (s : PlaceSet) → length w ≡ 2048 → 128 ≤ p → with_row w p s ≡ w
unfolding with_row
with_past w p s n l = sym (put_misfits w (16 * p) (has s) (omega arith))

-- ---- rows one after another

pub rows_length : (m p : ℕ) (H : ℕ → Places) → length (rows_from m p H) ≡ 16 * m
unfolding rows_from
rows_length zero p H = refl
rows_length (suc m) p H =
    let r : length (rows_from m (suc p) H) ≡ 16 * m = rows_length m (suc p) H in
    length-append (row_bytes (H p)) (rows_from m (suc p) H) ∙ omega (arith, row_length (H p))

-- a byte of a row, in the rows one after another
rows_at : (m p i j : ℕ) (H : ℕ → Places) (rest : List ℕ) → i < m → j < 16 → get_or (rows_from m p H ++ rest) (16 * i + j) 0 ≡ get_or (row_bytes (H (p + i))) j 0
unfolding rows_from
rows_at zero p i j H rest l k = absurd (omega arith)
rows_at (suc m) p zero j H rest l k =
    let n : length (row_bytes (H p)) ≡ 16 = row_length (H p) in
    let e : 16 * 0 + j ≡ j = omega arith in
    let z : p ≡ p + 0 = omega arith in
    ap₂ (λ (l : List ℕ) (x : ℕ). get_or l x 0) (append_assoc (row_bytes (H p)) (rows_from m (suc p) H) rest) e
    ∙ get_or-append (row_bytes (H p)) (rows_from m (suc p) H ++ rest) 0 j (omega arith) ∙ ap (λ (x : ℕ). get_or (row_bytes (H x)) j 0) z
rows_at (suc m) p (suc i) j H rest l k =
    let n : length (row_bytes (H p)) ≡ 16 = row_length (H p) in
    let e : 16 * suc i + j ≡ length (row_bytes (H p)) + (16 * i + j) = omega arith in
    let z : suc p + i ≡ p + suc i = omega arith in
    ap₂ (λ (l : List ℕ) (x : ℕ). get_or l x 0) (append_assoc (row_bytes (H p)) (rows_from m (suc p) H) rest) e
    ∙ get_or-append-add (row_bytes (H p)) (rows_from m (suc p) H ++ rest) (16 * i + j) 0 ∙ rows_at m (suc p) i j H rest (omega arith) k
    ∙ ap (λ (x : ℕ). get_or (row_bytes (H x)) j 0) z

-- each of them
pub rows_in : (n p : ℕ) (H : ℕ → Places) (rest : List ℕ) → p < n → row_in (rows_from n 0 H ++ rest) (16 * p) ≡ kept (H p)
rows_in n p H rest l =
    let m : 16 * p + 16 ≤ length (rows_from n 0 H ++ rest) = rw length-append (omega (arith, l, rows_length n 0 H)) in
    let z : 0 + p ≡ p = omega arith in
    row_is (rows_from n 0 H ++ rest) (16 * p) (H p) m (λ j h. rows_at n 0 p j H rest l h ∙ ap (λ (x : ℕ). get_or (row_bytes (H x)) j 0) z)

-- some of them, and the others
pub rows_cut : (m n p : ℕ) (H : ℕ → Places) → rows_from (m + n) p H ≡ rows_from m p H ++ rows_from n (p + m) H
unfolding rows_from
rows_cut zero n p H =
    let e : 0 + n ≡ n = omega arith in
    let f : p ≡ p + 0 = omega arith in
    ap₂ (λ (x y : ℕ). rows_from x y H) e f
rows_cut (suc m) n p H =
    let e : suc m + n ≡ suc (m + n) = omega arith in
    let f : suc p + m ≡ p + suc m = omega arith in
    ap (λ (x : ℕ). rows_from x p H) e
    ∙ ap (λ (l : List ℕ). row_bytes (H p) ++ l) (rows_cut m n (suc p) H ∙ ap (λ (x : ℕ). rows_from m (suc p) H ++ rows_from n x H) f)
    ∙ sym (append_assoc (row_bytes (H p)) (rows_from m (suc p) H) (rows_from n (p + suc m) H))

-- the rows that stand in some bytes are those bytes
module _ (b : List ℕ) (bytes : (i : ℕ) → i < length b → get_or b i 0 < 256) where
  rows_back : (m p : ℕ) → 16 * (p + m) ≤ length b → rows_from m p (rows_of b) ≡ take (16 * m) (drop (16 * p) b)
  unfolding rows_from rows_of
  rows_back zero p h = refl
  rows_back (suc m) p h =
      let e : 16 * suc m ≡ 16 + 16 * m = omega arith in
      let f : 16 * p + 16 ≡ 16 * suc p = omega arith in
      ap₂ (λ (x y : List ℕ). x ++ y) (row_back b (16 * p) (omega arith) bytes) (rows_back m (suc p) (omega arith) ∙ sym (ap (take (16 * m)) (drop-drop 16 (16 * p) b ∙ ap (λ (x : ℕ). drop x b) f)))
      ∙ sym (take-add 16 (16 * m) (drop (16 * p) b)) ∙ sym (ap (λ (x : ℕ). take x (drop (16 * p) b)) e)

  pub rows_bytes : (n : ℕ) → 16 * n ≤ length b → rows_from n 0 (rows_of b) ≡ take (16 * n) b
  rows_bytes n h = rows_back n 0 (let z : 0 + n ≡ n = omega arith in rw z h)

-- ---- rows laid into the front of a buffer

module _ (n : ℕ) (H : ℕ → Places) (out : List ℕ) (fits : 16 * n ≤ length out) where
  pub laid_length : length (laid n H out) ≡ length out
  unfolding laid
  laid_length =
      length-append (rows_from n 0 H) (drop (16 * n) out) ∙ omega (arith, rows_length n 0 H, length-drop (16 * n) out)

  -- what stands behind the rows is left as it was
  pub laid_rest : drop (16 * n) (laid n H out) ≡ drop (16 * n) out
  unfolding laid
  laid_rest = drop_at (rows_from n 0 H) (drop (16 * n) out) (16 * n) (rows_length n 0 H)

  -- the history that the bytes hold is the one that was laid
  pub laid_history : (p q : ℕ) → history_in n (laid n H out) p q ≡ ltb p n && (ltb q 128 && H p q)
  unfolding history_in laid
  laid_history p q = go (ltb p n) refl
    where
      go : (b : Bool) → ltb p n ≡ b → b && row_in (laid n H out) (16 * p) q ≡ b && (ltb q 128 && H p q)
      go true e = ap (λ (R : Places). R q) (rows_in n p H (drop (16 * n) out) (ltb-true p n e)) ∙ and_comm (H p q) (ltb q 128)
      go false e = refl

-- a table's rows are its bytes
pub laid_table : (n : ℕ) (w out : List ℕ) → ((i : ℕ) → i < length w → get_or w i 0 < 256) → 16 * n ≤ length w → laid n (rows_of w) out ≡ take (16 * n) w ++ drop (16 * n) out
unfolding laid
laid_table n w out bytes h = ap (λ (l : List ℕ). l ++ drop (16 * n) out) (rows_bytes w bytes n h)

-- ---- a row put over one that is laid

rows_agree : (m p : ℕ) (F G : ℕ → Places) → ((x : ℕ) → p ≤ x → x < p + m → F x ≡ G x) → rows_from m p F ≡ rows_from m p G
unfolding rows_from
rows_agree zero p F G h = refl
rows_agree (suc m) p F G h =
    ap₂ (λ (S : Places) (l : List ℕ). row_bytes S ++ l) (h p (omega arith) (omega arith)) (rows_agree m (suc p) F G (λ x a b. h x (omega arith) (omega arith)))

-- the rows with another one for c
module _ (c m : ℕ) (H : ℕ → Places) (S : Places) (out : List ℕ) where
  abbrev changed : ℕ → Places
  changed x = cond (eqb x c) S (H x)

  other : (x : ℕ) → (x ≡ c → ⊥) → H x ≡ changed x
  other x d = sym (ap (λ (b : Bool). cond b S (H x)) (ne_eqb x c d))

  -- what stands behind the row of c
  behind : List ℕ
  behind = rows_from m (suc c) H ++ drop (16 * (c + suc m)) out

  -- all of it, for rows that differ from H at c alone
  around : (G : ℕ → Places) → ((x : ℕ) → (x ≡ c → ⊥) → H x ≡ G x) → laid (c + suc m) G out ≡ rows_from c 0 H ++ (row_bytes (G c) ++ behind)
  unfolding laid rows_from behind
  around G d =
      let z : 0 + c ≡ c = omega arith in
      let front = rows_from c 0 H in
      let back = rows_from m (suc c) H in
      let rest = drop (16 * (c + suc m)) out in
      ap (λ (l : List ℕ). l ++ rest)
      (rows_cut c (suc m) 0 G ∙ ap (λ (x : ℕ). rows_from c 0 G ++ rows_from (suc m) x G) z
      ∙ ap₂ (λ (l r : List ℕ). l ++ (row_bytes (G c) ++ r)) (sym (rows_agree c 0 H G (λ x a b. d x (λ e. omega arith)))) (sym (rows_agree m (suc c) H G (λ x a b. d x (λ e. omega arith)))))
      ∙ append_assoc front (row_bytes (G c) ++ back) rest ∙ ap (λ (l : List ℕ). front ++ l) (append_assoc (row_bytes (G c)) back rest)

  put_there : put_row (laid (c + suc m) H out) (16 * c) S ≡ laid (c + suc m) changed out
  put_there =
      let few : 16 ≤ length (row_bytes (H c) ++ behind) = rw length-append (omega (arith, row_length (H c))) in
      let same : changed c ≡ S = ap (λ (b : Bool). cond b S (H c)) (eq-eqb c c refl) in
      ap (λ (l : List ℕ). put_row l (16 * c) S) (around H (λ x d. refl)) ∙ put_behind (rows_from c 0 H) (row_bytes (H c) ++ behind) (16 * c) S (rows_length c 0 H) few
      ∙ ap₂ (λ (R : Places) (l : List ℕ). rows_from c 0 H ++ (row_bytes R ++ l)) (sym same) (drop_at (row_bytes (H c)) behind 16 (row_length (H c))) ∙ sym (around changed other)

pub laid_put : (n c : ℕ) (H : ℕ → Places) (S : Places) (out : List ℕ) → c < n → put_row (laid n H out) (16 * c) S ≡ laid n (λ x. cond (eqb x c) S (H x)) out
laid_put n c H S out l =
    let e : c + suc (n - suc c) ≡ n = omega arith in
    subst (λ (x : ℕ). put_row (laid x H out) (16 * c) S ≡ laid x (λ x. cond (eqb x c) S (H x)) out) e (put_there c (n - suc c) H S out)

-- ---- bytes are told by the rows that they hold and by what stands behind these

pub rows_tell : (n : ℕ) (a b : List ℕ) → ((i : ℕ) → i < length a → get_or a i 0 < 256) → ((i : ℕ) → i < length b → get_or b i 0 < 256) → 16 * n ≤ length a → 16 * n ≤ length b
    → ((p q : ℕ) → history_in n a p q ≡ history_in n b p q) → drop (16 * n) a ≡ drop (16 * n) b → a ≡ b
unfolding history_in rows_of
rows_tell n a b ba bb u v h d =
    sym (take-append-drop (16 * n) a)
    ∙ ap₂ (λ (x y : List ℕ). x ++ y) (sym (rows_bytes a ba n u) ∙ rows_agree n 0 (rows_of a) (rows_of b) (λ x _ l. row x (omega arith)) ∙ rows_bytes b bb n v) d
    ∙ take-append-drop (16 * n) b
  where
    row : (x : ℕ) → x < n → row_in a (16 * x) ≡ row_in b (16 * x)
    row x l = λ i q. (ap (λ (t : Bool). t && row_in a (16 * x) q) (sym (lt-ltb x n l)) ∙ h x q ∙ ap (λ (t : Bool). t && row_in b (16 * x) q) (lt-ltb x n l)) i
