-- One byte a place, laid into a buffer: part behind part, and eight in a word. Assumes nothing.
use mathlib.Core.Path.{◌≡◌, refl, sym, ap, ap₂, ◌∙◌}
use mathlib.Core.Bool.{Bool, true, false, cond}
use mathlib.Core.List.{List, [], ◌∷◌, ◌++◌, append_assoc}
use Prim.Native.Nat.{ℕ, zero, suc, ◌+◌, ◌-◌, ◌*◌, ◌/◌, ◌%◌, ◌^◌, ◌<◌, ◌≤◌}
use native.Mathlib.Omega.{arith}
use native.Mathlib.Nat.{mod-lt, zero-lt-suc}
use native.Mathlib.Numerals.{add-one}
use lib.Pow.{pow-add, shr-shr}
use lib.Dec.{eqb}
use lib.ListN.{length, set, take, drop, get_or, length-append, length-drop}
use lib.Seq.{take_at, drop_at, drop-drop, drop-cons, set_at, append_snoc}
use borrow.Rule.Slice.PartMut.{put_mid, mid_of}
use Rattle.sets.specs.Sets.{Places}
use Rattle.sets.specs.PlaceSets.{bit, has}
use Rattle.sets.specs.declared.PlaceSet.{PlaceSet}
use Rattle.sets.proofs.Digits.{below_two}
use Rattle.sets.proofs.Words.{has_low, has_high}
use Rattle.rows.proofs.Bytes.{bit_shift, bit_under, lent}
use Rattle.answers.specs.Lists.{bytes_from, laid, byte_by, joined}

-- ---- bytes

pub length_bytes : (m p : ℕ) (f : ℕ → ℕ) → length (bytes_from m p f) ≡ m
unfolding bytes_from
length_bytes zero p f = refl
length_bytes (suc m) p f = ap suc (length_bytes m (suc p) f)

bytes_cut : (a b p : ℕ) (f : ℕ → ℕ) → bytes_from (a + b) p f ≡ bytes_from a p f ++ bytes_from b (p + a) f
unfolding bytes_from
bytes_cut zero b p f =
    let e : 0 + b ≡ b = omega arith in
    let q : p ≡ p + 0 = omega arith in
    ap₂ (λ (m i : ℕ). bytes_from m i f) e q
bytes_cut (suc a) b p f =
    let e : suc a + b ≡ suc (a + b) = omega arith in
    let q : suc p + a ≡ p + suc a = omega arith in
    ap (λ (m : ℕ). bytes_from m p f) e
    ∙ ap (λ (l : List ℕ). f p ∷ l) (bytes_cut a b (suc p) f ∙ ap (λ (i : ℕ). bytes_from a (suc p) f ++ bytes_from b i f) q)

bytes_same : (m p q : ℕ) (f g : ℕ → ℕ) → ((k : ℕ) → k < m → f (p + k) ≡ g (q + k)) → bytes_from m p f ≡ bytes_from m q g
unfolding bytes_from
bytes_same zero p q f g h = refl
bytes_same (suc m) p q f g h =
    let a : p ≡ p + 0 = omega arith in
    let b : q + 0 ≡ q = omega arith in
    ap₂ (λ (x : ℕ) (l : List ℕ). x ∷ l) (ap f a ∙ h 0 (omega arith) ∙ ap g b)
    (bytes_same m (suc p) (suc q) f g (λ k l.
    let c : suc p + k ≡ p + suc k = omega arith in
    let d : q + suc k ≡ suc q + k = omega arith in
    ap f c ∙ h (suc k) (omega arith) ∙ ap g d))

-- ---- bytes laid into a buffer

pub laid_length : (n : ℕ) (f : ℕ → ℕ) (out : List ℕ) → n ≤ length out → length (laid n f out) ≡ length out
unfolding laid
laid_length n f out h = simp (length-append, length_bytes, length-drop) (omega arith)

pub laid_none : (f : ℕ → ℕ) (out : List ℕ) → laid 0 f out ≡ out
unfolding laid bytes_from
laid_none f out = refl

-- the same bytes by another name
pub laid_same : (n : ℕ) (f g : ℕ → ℕ) (first out : List ℕ) → ((k : ℕ) → k < n → f k ≡ g k) → out ≡ laid n f first → out ≡ laid n g first
unfolding laid
laid_same n f g first out h e =
    e ∙ ap (λ (l : List ℕ). l ++ drop n first) (bytes_same n 0 0 f g (λ k l. let z : 0 + k ≡ k = omega arith in ap f z ∙ h k l ∙ sym (ap g z)))

-- one byte more
pub laid_next : (i x : ℕ) (f : ℕ → ℕ) (out : List ℕ) → i < length out → x ≡ f i → set (laid i f out) i x ≡ laid (i + 1) f out
unfolding laid bytes_from
laid_next i x f out h e =
    let z : 0 + i ≡ i = omega arith in
    let c : bytes_from (i + 1) 0 f ≡ bytes_from i 0 f ++ (f i ∷ []) = bytes_cut i 1 0 f ∙ ap (λ (k : ℕ). bytes_from i 0 f ++ (f k ∷ [])) z in
    ap₂ (λ (l : List ℕ) (y : ℕ). set (bytes_from i 0 f ++ l) i y) (drop-cons out i 0 h) e
    ∙ set_at (bytes_from i 0 f) (get_or out i 0) (drop (suc i) out) (f i) i (length_bytes i 0 f)
    ∙ sym (ap₂ (λ (l : List ℕ) (k : ℕ). l ++ drop k out) c (add-one i) ∙ append_snoc (bytes_from i 0 f) (f i) (drop (suc i) out))

-- k bytes more, laid into the part behind those that are laid
pub laid_on : (a k : ℕ) (f g : ℕ → ℕ) (first out last : List ℕ) → a + k ≤ length first → out ≡ laid a f first → last ≡ laid k g (mid_of a (length out - a) out)
    → ((j : ℕ) → j < k → g j ≡ f (a + j)) → put_mid a (length out - a) out last ≡ laid (a + k) f first
unfolding laid
laid_on a k f g first out last h e s same =
    let n : length out ≡ length first = ap length e ∙ laid_length a f first (omega arith) in
    let l : length (bytes_from a 0 f) ≡ a = length_bytes a 0 f in
    let t : take a out ≡ bytes_from a 0 f = rw e (take_at (bytes_from a 0 f) (drop a first) a l) in
    let d : drop (a + k) out ≡ drop (a + k) first
    = sym (drop-drop k a out) ∙ ap (λ (w : List ℕ). drop k (drop a w)) e ∙ ap (drop k) (drop_at (bytes_from a 0 f) (drop a first) a l) ∙ drop-drop k a first in
    let b : bytes_from k 0 g ≡ bytes_from k (0 + a) f
    = bytes_same k 0 (0 + a) g f (λ j m. let x : 0 + j ≡ j = omega arith in let y : a + j ≡ 0 + a + j = omega arith in ap g x ∙ same j m ∙ ap f y) in
    lent out (bytes_from k 0 g) last a k (omega arith) s ∙ rw (t, d, b, bytes_cut a k 0 f, append_assoc)

-- ---- eight bytes in a word

byte_small : (L O : Places) (i : ℕ) → byte_by L O i < 256
unfolding byte_by
byte_small L O i = go (L i) (O i)
  where
    go : (x y : Bool) → cond x 1 0 + 2 * cond y 1 0 < 256
    go true true = omega arith
    go true false = omega arith
    go false true = omega arith
    go false false = omega arith

joined_byte : (m : ℕ) (c : ℕ → ℕ) → ((j : ℕ) → c j < 256) → (j : ℕ) → j < m → joined m c / 2 ^ (8 * j) % 256 ≡ c j
unfolding joined
joined_byte zero c h j l = absurd (omega arith)
joined_byte (suc m) c h zero l = let s : c 0 < 256 = h 0 in omega arith
joined_byte (suc m) c h (suc j) l =
    let s : c 0 < 256 = h 0 in
    let e : 8 * suc j ≡ 8 + 8 * j = omega arith in
    let d : (c 0 + 256 * joined m (λ j. c (suc j))) / 2 ^ 8 ≡ joined m (λ j. c (suc j)) = omega arith in
    ap (λ (k : ℕ). (c 0 + 256 * joined m (λ j. c (suc j))) / 2 ^ k % 256) e
    ∙ ap (λ (x : ℕ). x % 256) (sym (shr-shr (c 0 + 256 * joined m (λ j. c (suc j))) 8 (8 * j)))
    ∙ ap (λ (x : ℕ). x / 2 ^ (8 * j) % 256) d ∙ joined_byte m (λ j. c (suc j)) (λ j. h (suc j)) j (omega arith)

joined_less : (m : ℕ) (c : ℕ → ℕ) → ((j : ℕ) → c j < 256) → joined m c < 2 ^ (8 * m)
unfolding joined
joined_less zero c h = omega arith
joined_less (suc m) c h =
    let s : c 0 < 256 = h 0 in
    let r : joined m (λ j. c (suc j)) < 2 ^ (8 * m) = joined_less m (λ j. c (suc j)) (λ j. h (suc j)) in
    let e : 8 * suc m ≡ 8 + 8 * m = omega arith in
    let p : 2 ^ (8 * suc m) ≡ 256 * 2 ^ (8 * m) = ap (λ (k : ℕ). 2 ^ k) e ∙ pow-add 2 8 (8 * m) in
    omega arith

joined_sum : (m : ℕ) (a b : ℕ → ℕ) → joined m a + 2 * joined m b ≡ joined m (λ j. a j + 2 * b j)
unfolding joined
joined_sum zero a b = refl
joined_sum (suc m) a b =
    let r : joined m (λ j. a (suc j)) + 2 * joined m (λ j. b (suc j)) ≡ joined m (λ j. a (suc j) + 2 * b (suc j)) = joined_sum m (λ j. a (suc j)) (λ j. b (suc j)) in
    omega arith

-- the digits of a word's lowest eight
bit_eight : (x j : ℕ) → j < 8 → bit (x % 256) j ≡ bit x j
bit_eight x j l =
    let e : x / 256 * 2 ^ 8 + x % 256 ≡ x = omega arith in sym (bit_under 8 j (x / 256) (x % 256) l) ∙ ap (λ (y : ℕ). bit y j) e

module _ (l o a b : ℕ) (last : a ≡ joined 8 (λ j. cond (bit (l % 256) j) 1 0)) («open» : b ≡ joined 8 (λ j. cond (bit (o % 256) j) 1 0)) where
  eight_is : a + 2 * b ≡ joined 8 (byte_by (bit (l % 256)) (bit (o % 256)))
  unfolding byte_by
  eight_is = ap₂ (λ (x y : ℕ). x + 2 * y) last «open» ∙ joined_sum 8 (λ j. cond (bit (l % 256) j) 1 0) (λ j. cond (bit (o % 256) j) 1 0)

  -- two words of spread digits make one of bytes, and it fits
  pub eight_fits : a + 2 * b < 2 ^ 64
  eight_fits = rw eight_is (joined_less 8 (byte_by (bit (l % 256)) (bit (o % 256))) (byte_small (bit (l % 256)) (bit (o % 256))))

  pub eight_bytes : (j : ℕ) → j < 8 → (a + 2 * b) / 2 ^ (8 * j) % 256 ≡ byte_by (bit l) (bit o) j
  unfolding byte_by
  eight_bytes j h =
      ap (λ (x : ℕ). x / 2 ^ (8 * j) % 256) eight_is ∙ joined_byte 8 (byte_by (bit (l % 256)) (bit (o % 256))) (byte_small (bit (l % 256)) (bit (o % 256))) j h
      ∙ ap₂ (λ (x y : Bool). cond x 1 0 + 2 * cond y 1 0) (bit_eight l j h) (bit_eight o j h)

-- ---- words that are shifted

pub shifted : (x l i k : ℕ) → l ≡ x / 2 ^ i → l / 2 ^ k ≡ x / 2 ^ (i + k)
shifted x l i k e = ap (λ (y : ℕ). y / 2 ^ k) e ∙ shr-shr x i k

digit : (x i : ℕ) → x / 2 ^ i % 2 ≡ cond (bit x i) 1 0
unfolding bit
digit x i = below_two (λ (y : ℕ). y ≡ cond (eqb y 1) 1 0) refl refl (x / 2 ^ i % 2) (mod-lt (x / 2 ^ i) (zero-lt-suc 1))

module _ (last «open» i l o : ℕ) (p : l ≡ last / 2 ^ i) (q : o ≡ «open» / 2 ^ i) where
  pub byte_first : l % 2 + 2 * (o % 2) ≡ byte_by (bit last) (bit «open») i
  unfolding byte_by
  byte_first = ap₂ (λ (x y : ℕ). x % 2 + 2 * (y % 2)) p q ∙ ap₂ (λ (x y : ℕ). x + 2 * y) (digit last i) (digit «open» i)

  pub byte_shift : (j : ℕ) → byte_by (bit l) (bit o) j ≡ byte_by (bit last) (bit «open») (i + j)
  unfolding byte_by
  byte_shift j =
      ap₂ (λ (x y : Bool). cond x 1 0 + 2 * cond y 1 0)
      (ap (λ (x : ℕ). bit x j) p ∙ sym (bit_shift last i j)) (ap (λ (x : ℕ). bit x j) q ∙ sym (bit_shift «open» i j))

-- ---- the two words of a set

module _ (last «open» : PlaceSet) where
  pub byte_low : (k : ℕ) → k < 64 → byte_by (bit last.low) (bit «open».low) k ≡ byte_by (has last) (has «open») k
  unfolding byte_by
  byte_low k l = sym (ap₂ (λ (x y : Bool). cond x 1 0 + 2 * cond y 1 0) (has_low last k l) (has_low «open» k l))

  pub byte_high : (k : ℕ) → k < 64 → byte_by (bit last.high) (bit «open».high) k ≡ byte_by (has last) (has «open») (64 + k)
  unfolding byte_by
  byte_high k l = sym (ap₂ (λ (x y : Bool). cond x 1 0 + 2 * cond y 1 0) (has_high last k l) (has_high «open» k l))
