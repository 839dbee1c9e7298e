-- The bytes of a word and of a row: what the proofs of this crate's functions cite. Assumes nothing.
use mathlib.Core.Path.{◌≡◌, refl, sym, ap, ap₂, ◌∙◌, fun_ext}
use mathlib.Core.Bool.{Bool, true, false, cond, ◌&&◌}
use mathlib.Core.List.{List, [], ◌∷◌, ◌++◌, append_assoc, append-nil}
use Prim.Native.Nat.{ℕ, zero, suc, ◌+◌, ◌-◌, ◌*◌, ◌/◌, ◌%◌, ◌^◌, ◌<◌, ◌≤◌}
use native.Mathlib.Omega.{arith}
use native.Mathlib.Nat.{mod-lt, zero-lt-suc, le_of_suc-le-suc, div-one}
use native.Mathlib.Numerals.{add-one}
use lib.Arith.{mod-mul}
use lib.Bits.{block_half, block_odd}
use lib.Pow.{pow_pos, shr-shr, high}
use lib.Dec.{eqb, ltb}
use lib.ListN.{length, get_or, set, take, drop, length-append, length-take, length-drop}
use lib.Seq.{sets, sets-eq, take_all, take_at, drop_at, drop-drop, drop-length, get_or-drop, paste-suc}
use borrow.Author.Tests.{ltb-true, ltb-false, lt-ltb, le-leb, lt-leb}
use borrow.Rule.Slice.PartMut.{put_mid, mid_of, post_of, Post-is}
use Rattle.sets.specs.Sets.{Places, nothing}
use Rattle.sets.specs.PlaceSets.{bit, has, word}
use Rattle.sets.specs.declared.PlaceSet.{PlaceSet}
use Rattle.sets.proofs.Digits.{below_two, bit_low, bit_next}
use Rattle.sets.proofs.Words.{has_low, has_high, has_upper, has_past}
use Rattle.rows.specs.Rows.{bytes_from, row_bytes, put_row, row_in}

-- ---- digits

-- the digits from j on are those of the quotient
pub bit_shift : (x j k : ℕ) → bit x (j + k) ≡ bit (x / 2 ^ j) k
unfolding bit
bit_shift x j k = ap (λ (y : ℕ). eqb (y % 2) 1) (sym (shr-shr x j k))

-- the digits below m do not see what stands from m on
pub bit_under : (m k x b : ℕ) → k < m → bit (x * 2 ^ m + b) k ≡ bit b k
bit_under zero k x b l = absurd (omega arith)
bit_under (suc m) zero x b l = bit_low (x * 2 ^ suc m + b) ∙ ap (λ (y : ℕ). eqb y 1) (block_odd x m b) ∙ sym (bit_low b)
bit_under (suc m) (suc k) x b l =
    bit_next (x * 2 ^ suc m + b) k ∙ ap (λ (y : ℕ). bit y k) (block_half x m b) ∙ bit_under m k x (b / 2) (le_of_suc-le-suc l) ∙ sym (bit_next b k)

digit : (x : ℕ) → cond (bit x 0) 1 0 ≡ x % 2
digit x = ap (λ (b : Bool). cond b 1 0) (bit_low x) ∙ below_two (λ (y : ℕ). cond (eqb y 1) 1 0 ≡ y) refl refl (x % 2) (mod-lt x (zero-lt-suc 1))

-- the number made of the n lowest digits of x
pub word_rest : (n x : ℕ) (S : Places) → ((k : ℕ) → k < n → S k ≡ bit x k) → word n S ≡ x % 2 ^ n
unfolding word
word_rest zero x S h = omega arith
word_rest (suc n) x S h =
    let e : 2 ^ n * 2 ≡ 2 ^ suc n = omega arith in
    ap₂ (λ (a b : ℕ). a * 2 + b) (word_rest n (x / 2) (λ k. S (suc k)) (λ k l. h (suc k) (omega arith) ∙ bit_next x k)) (ap (λ (b : Bool). cond b 1 0) (h 0 (omega arith)) ∙ digit x)
    ∙ sym (mod-mul x {m = 2 ^ n} {c = 2} (pow_pos n) (zero-lt-suc 1)) ∙ ap (λ (m : ℕ). x % m) e

-- ---- bytes

pub length_bytes : (m j : ℕ) (S : Places) → length (bytes_from m j S) ≡ m
unfolding bytes_from
length_bytes zero j S = refl
length_bytes (suc m) j S = ap suc (length_bytes m (suc j) S)

word_same : (n : ℕ) (S T : Places) → ((k : ℕ) → k < n → S k ≡ T k) → word n S ≡ word n T
unfolding word
word_same zero S T h = refl
word_same (suc n) S T h =
    ap₂ (λ (a : ℕ) (b : Bool). a * 2 + cond b 1 0) (word_same n (λ k. S (suc k)) (λ k. T (suc k)) (λ k l. h (suc k) (omega arith))) (h 0 (omega arith))

pub bytes_same : (m i j : ℕ) (S T : Places) → ((k : ℕ) → k < 8 * m → S (8 * i + k) ≡ T (8 * j + k)) → bytes_from m i S ≡ bytes_from m j T
unfolding bytes_from
bytes_same zero i j S T h = refl
bytes_same (suc m) i j S T h =
    ap₂ (λ (x : ℕ) (l : List ℕ). x ∷ l) (word_same 8 (λ b. S (8 * i + b)) (λ b. T (8 * j + b)) (λ k l. h k (omega arith)))
    (bytes_same m (suc i) (suc j) S T (λ k l.
    let a : 8 * suc i + k ≡ 8 * i + (8 + k) = omega arith in
    let b : 8 * suc j + k ≡ 8 * j + (8 + k) = omega arith in
    ap S a ∙ h (8 + k) (omega arith) ∙ sym (ap T b)))

bytes_split : (a b j : ℕ) (S : Places) → bytes_from (a + b) j S ≡ bytes_from a j S ++ bytes_from b (j + a) S
unfolding bytes_from
bytes_split zero b j S =
    let e : 0 + b ≡ b = omega arith in
    let f : j ≡ j + 0 = omega arith in
    ap₂ (λ (m i : ℕ). bytes_from m i S) e f
bytes_split (suc a) b j S =
    let e : suc a + b ≡ suc (a + b) = omega arith in
    let f : suc j + a ≡ j + suc a = omega arith in
    ap (λ (m : ℕ). bytes_from m j S) e
    ∙ ap (λ (l : List ℕ). word 8 (λ b. S (8 * j + b)) ∷ l) (bytes_split a b (suc j) S ∙ ap (λ (i : ℕ). bytes_from a (suc j) S ++ bytes_from b i S) f)

-- the bytes of the two words are the bytes of the row
pub row_words : (s : PlaceSet) → bytes_from 8 0 (bit s.low) ++ bytes_from 8 0 (bit s.high) ≡ row_bytes (has s)
unfolding row_bytes
row_words s =
    ap₂ (λ (x y : List ℕ). x ++ y)
    (bytes_same 8 0 0 (bit s.low) (has s) (λ k l.
    let e : 8 * 0 + k ≡ k = omega arith in
    ap (bit s.low) e ∙ sym (has_low s k (omega arith)) ∙ sym (ap (has s) e)))
    (bytes_same 8 0 8 (bit s.high) (has s) (λ k l.
    let e : 8 * 0 + k ≡ k = omega arith in
    let f : 8 * 8 + k ≡ 64 + k = omega arith in
    ap (bit s.high) e ∙ sym (has_high s k (omega arith)) ∙ sym (ap (has s) f)))
    ∙ sym (bytes_split 8 8 0 (has s))

-- ---- a word laid into a buffer

-- m bytes of x, from byte j on, as they are computed
unfoldable shifted : ℕ → ℕ → ℕ → List ℕ
shifted zero j x = []
shifted (suc m) j x = x / 2 ^ (8 * j) % 256 ∷ shifted m (suc j) x

bytes_shifted : (m j x : ℕ) → shifted m j x ≡ bytes_from m j (bit x)
unfolding bytes_from shifted
bytes_shifted zero j x = refl
bytes_shifted (suc m) j x =
    ap₂ (λ (y : ℕ) (l : List ℕ). y ∷ l) (sym (word_rest 8 (x / 2 ^ (8 * j)) (λ b. bit x (8 * j + b)) (λ k l. bit_shift x (8 * j) k))) (bytes_shifted m (suc j) x)

pub word_laid : (out : List ℕ) (x : ℕ) → 8 ≤ length out
    → sets out 0 (x % 256 ∷ x / 2 ^ 8 % 256 ∷ x / 2 ^ 16 % 256 ∷ x / 2 ^ 24 % 256 ∷ x / 2 ^ 32 % 256 ∷ x / 2 ^ 40 % 256 ∷ x / 2 ^ 48 % 256 ∷ x / 2 ^ 56 % 256 ∷ [])
    ≡ bytes_from 8 0 (bit x) ++ drop 8 out
unfolding shifted
word_laid out x l =
    sets-eq (x % 256 ∷ shifted 7 1 x) out 0 l ∙ ap (λ (y : ℕ). (y % 256 ∷ shifted 7 1 x) ++ drop 8 out) (sym (div-one x)) ∙ ap (λ (l : List ℕ). l ++ drop 8 out) (bytes_shifted 8 0 x)

-- a part from a to the end was lent, and its front was written
pub lent : (xs ys last : List ℕ) (a k : ℕ) → a + k ≤ length xs → last ≡ ys ++ drop k (mid_of a (length xs - a) xs)
    → put_mid a (length xs - a) xs last ≡ take a xs ++ (ys ++ drop (a + k) xs)
lent xs ys last a k h e =
    let p : post_of a (length xs - a) xs ≡ [] = Post-is a (length xs) xs (omega arith) ∙ drop-length xs in
    let m : mid_of a (length xs - a) xs ≡ drop a xs = take_all (length xs - a) (drop a xs) (simp length-drop (omega arith)) in
    rw (e, p, m, append-nil, drop-drop)

-- ---- a row laid into a buffer

pub put_misfits : (out : List ℕ) (at : ℕ) (S : Places) → length out < at + 16 → out ≡ put_row out at S
unfolding put_row
put_misfits out at S h = rw (lt-leb (at + 16) (length out) h)

-- two words, one after the other
pub put_fits : (out : List ℕ) (at : ℕ) (s : PlaceSet) (one two : List ℕ) → at + 16 ≤ length out
    → one ≡ bytes_from 8 0 (bit s.low) ++ drop 8 (mid_of at (length out - at) out)
    → two ≡ bytes_from 8 0 (bit s.high) ++ drop 8 (mid_of (at + 8) (length (put_mid at (length out - at) out one) - (at + 8)) (put_mid at (length out - at) out one))
    → put_mid (at + 8) (length (put_mid at (length out - at) out one) - (at + 8)) (put_mid at (length out - at) out one) two ≡ put_row out at (has s)
unfolding put_row
put_fits out at s one two h e f =
    let low = bytes_from 8 0 (bit s.low) in
    let high = bytes_from 8 0 (bit s.high) in
    let mid = put_mid at (length out - at) out one in
    let q : mid ≡ (take at out ++ low) ++ drop (at + 8) out = lent out low one at 8 (omega arith) e ∙ sym (append_assoc (take at out) low (drop (at + 8) out)) in
    let n : length (take at out ++ low) ≡ at + 8 = simp (length-append, length_bytes, length-take) (omega arith) in
    let t : take (at + 8) mid ≡ take at out ++ low = rw q (take_at (take at out ++ low) (drop (at + 8) out) (at + 8) n) in
    let d : drop (at + 8) mid ≡ drop (at + 8) out = rw q (drop_at (take at out ++ low) (drop (at + 8) out) (at + 8) n) in
    let r : at + 8 + 8 ≡ at + 16 = omega arith in
    let dd : drop (at + 8 + 8) mid ≡ drop (at + 16) out
    = sym (drop-drop 8 (at + 8) mid) ∙ ap (drop 8) d ∙ drop-drop 8 (at + 8) out ∙ ap (λ (k : ℕ). drop k out) r in
    let l : length mid ≡ length out = rw q (simp (length-append, length_bytes, length-take, length-drop) (omega arith)) in
    lent mid high two (at + 8) 8 (omega arith) f ∙ rw (t, dd, le-leb (at + 16) (length out) h, ← row_words s, append_assoc, append_assoc)

-- ---- a word and a row read

-- the number whose m bytes, lowest first, are those of l from byte j on
unfoldable joined : ℕ → ℕ → List ℕ → ℕ
joined zero j l = 0
joined (suc m) j l = joined m (suc j) l * 2 ^ 8 + get_or l j 0

module _ (l : List ℕ) (bytes : (i : ℕ) → get_or l i 0 < 256) where
  bit_joined : (m j k : ℕ) → k < 8 * m → bit (joined m j l) k ≡ bit (get_or l (j + k / 8) 0) (k % 8)
  unfolding joined
  bit_joined zero j k h = absurd (omega arith)
  bit_joined (suc m) j k h = go (ltb k 8) refl (bit_joined m (suc j) (k - 8))
    where
      go : (t : Bool) → ltb k 8 ≡ t → (k - 8 < 8 * m → bit (joined m (suc j) l) (k - 8) ≡ bit (get_or l (suc j + (k - 8) / 8) 0) ((k - 8) % 8))
          → bit (joined m (suc j) l * 2 ^ 8 + get_or l j 0) k ≡ bit (get_or l (j + k / 8) 0) (k % 8)
      go true e rest =
          let h : k < 8 = ltb-true k 8 e in
          let i : j ≡ j + k / 8 = omega arith in
          let r : k ≡ k % 8 = omega arith in
          bit_under 8 k (joined m (suc j) l) (get_or l j 0) h ∙ ap₂ (λ (x y : ℕ). bit (get_or l x 0) y) i r
      go false e rest =
          let g : 8 ≤ k = ltb-false k 8 e in
          let i : suc j + (k - 8) / 8 ≡ j + k / 8 = omega arith in
          let r : (k - 8) % 8 ≡ k % 8 = omega arith in
          let s : k ≡ 8 + (k - 8) = omega arith in
          ap (bit (joined m (suc j) l * 2 ^ 8 + get_or l j 0)) s ∙ bit_shift (joined m (suc j) l * 2 ^ 8 + get_or l j 0) 8 (k - 8)
          ∙ ap (λ (x : ℕ). bit x (k - 8)) (high (joined m (suc j) l) 8 (bytes j)) ∙ rest (omega arith) ∙ ap₂ (λ (x y : ℕ). bit (get_or l x 0) y) i r

  pub word_read : (x : ℕ)
      → x ≡ ((((((get_or l 7 0 * 256 + get_or l 6 0) * 256 + get_or l 5 0) * 256 + get_or l 4 0) * 256 + get_or l 3 0) * 256 + get_or l 2 0) * 256 + get_or l 1 0) * 256 + get_or l 0 0
      → (k : ℕ) → k < 64 → bit x k ≡ bit (get_or l (k / 8) 0) (k % 8)
  unfolding joined
  word_read x e k h =
      let s : x ≡ joined 8 0 l = omega arith in
      let i : 0 + k / 8 ≡ k / 8 = omega arith in
      ap (λ (y : ℕ). bit y k) s ∙ bit_joined 8 0 k h ∙ ap (λ (y : ℕ). bit (get_or l y 0) (k % 8)) i

pub row_out : (b : List ℕ) (at : ℕ) → length b < at + 16 → row_in b at ≡ nothing
unfolding row_in
row_out b at h = fun_ext (λ q. ap (λ (t : Bool). t && (ltb q 128 && bit (get_or b (at + q / 8) 0) (q % 8))) (lt-leb (at + 16) (length b) h))

-- a digit of a word that was read from a part
part_bit : (b : List ℕ) (a i k : ℕ) → bit (get_or (mid_of a (length b - a) b) i 0) k ≡ bit (get_or b (a + i) 0) k
part_bit b a i k =
    ap (λ (l : List ℕ). bit (get_or l i 0) k) (take_all (length b - a) (drop a b) (simp length-drop (omega arith))) ∙ ap (λ (x : ℕ). bit x k) (get_or-drop a b i 0)

pub row_fits : (s : PlaceSet) (b : List ℕ) (at : ℕ) → at + 16 ≤ length b
    → ((k : ℕ) → k < 64 → bit s.low k ≡ bit (get_or (mid_of at (length b - at) b) (k / 8) 0) (k % 8))
    → ((k : ℕ) → k < 64 → bit s.high k ≡ bit (get_or (mid_of (at + 8) (length b - (at + 8)) b) (k / 8) 0) (k % 8)) → has s ≡ row_in b at
unfolding row_in
row_fits s b at h low high =
    fun_ext (λ q. go q (ltb q 64) (ltb q 128) refl refl ∙ sym (ap (λ (t : Bool). t && (ltb q 128 && bit (get_or b (at + q / 8) 0) (q % 8))) (le-leb (at + 16) (length b) h)))
  where
    go : (q : ℕ) (x y : Bool) → ltb q 64 ≡ x → ltb q 128 ≡ y → has s q ≡ ltb q 128 && bit (get_or b (at + q / 8) 0) (q % 8)
    go q true y e f =
        let l : q < 64 = ltb-true q 64 e in
        let m : q < 128 = omega arith in
        has_low s q l ∙ low q l ∙ part_bit b at (q / 8) (q % 8) ∙ sym (ap (λ (t : Bool). t && bit (get_or b (at + q / 8) 0) (q % 8)) (lt-ltb q 128 m))
    go q false true e f =
        let l : 64 ≤ q = ltb-false q 64 e in
        let m : q < 128 = ltb-true q 128 f in
        let i : at + 8 + (q - 64) / 8 ≡ at + q / 8 = omega arith in
        let r : (q - 64) % 8 ≡ q % 8 = omega arith in
        has_upper s q l m ∙ high (q - 64) (omega arith) ∙ part_bit b (at + 8) ((q - 64) / 8) ((q - 64) % 8) ∙ ap₂ (λ (x y : ℕ). bit (get_or b x 0) y) i r
        ∙ sym (ap (λ (t : Bool). t && bit (get_or b (at + q / 8) 0) (q % 8)) f)
    go q false false e f = has_past s q (ltb-false q 128 f) ∙ sym (ap (λ (t : Bool). t && bit (get_or b (at + q / 8) 0) (q % 8)) f)

-- ---- bytes copied

-- one byte more is in its place
pub copied : (out b : List ℕ) (i : ℕ) → i < length out → i < length b → set (take i b ++ drop i out) i (get_or b i 0) ≡ take (i + 1) b ++ drop (i + 1) out
copied out b i h k =
    let z : 0 + i ≡ i = omega arith in
    let y : 0 + suc i ≡ i + 1 = omega arith in
    rw (z, y, ← add-one) at (paste-suc out 0 b i 0 (rw z h) k)
