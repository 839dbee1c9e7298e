-- The binary digits of a number of any length: what the operators do to them, that they determine the number, and how
-- `ones`, `count_trailing_zeros` and `word` read or make them. Assumes nothing.
use mathlib.Core.Path.{◌≡◌, refl, sym, ap, ap₂, ◌∙◌, subst}
use mathlib.Core.Bool.{Bool, true, false, not, cond, ◌&&◌, ◌||◌, true≢false, false≢true}
use Prim.Native.Nat.{ℕ, zero, suc, ◌+◌, ◌-◌, ◌*◌, ◌/◌, ◌%◌, ◌^◌, ◌≤◌, ◌<◌, suc-le-suc}
use native.Mathlib.Nat.{le_of_suc-le-suc, not-suc-le-zero, zero-lt-suc, zero-div, div-one, div-eq_of_lt, div-add-mod', mod-lt, lt_of_lt_of_le, one-mul, le_refl}
use native.Mathlib.Numerals.{one-add, add-one}
use native.Mathlib.Omega.{arith}
use lib.Dec.{eqb, ltb, lit<, eqb-zero-suc, eqb-suc-zero, eqb-suc-suc, leb-suc-suc, leb-suc-zero, leb-zero}
use lib.Arith.{bin_ind, digits_div, digits_mod, le-zero}
use lib.Pow.{shr-shr, pow_mono, ones_split, shr_lt, shl_exact}
use lib.Bits.{bit_and, bit_or, bit_xor, and_shr, or_shr, xor_shr, and_mod, or_mod, xor_mod, and_mask, shifted_half, shifted_even}
use lib.Count.{ones, ones-le, ones_step, count_trailing_zeros, under}
use Rattle.sets.specs.Sets.{Places, count}
use Rattle.sets.specs.PlaceSets.{bit, word}
use Rattle.sets.proofs.Counting.{count_first, count_same}

-- ---- one digit

pub below_two : (P : ℕ → Type 0) → P 0 → P 1 → (x : ℕ) → x < 2 → P x
below_two P p q zero h = p
below_two P p q (suc zero) h = q
below_two P p q (suc (suc x)) h = absurd (not-suc-le-zero (le_of_suc-le-suc (le_of_suc-le-suc h)))

two_pos : 0 < 2
two_pos = zero-lt-suc 1

-- the lowest digit, and the others
pub bit_low : (n : ℕ) → bit n 0 ≡ eqb (n % 2) 1
unfolding bit
bit_low n = ap (λ (x : ℕ). eqb (x % 2) 1) (div-one n)

pub bit_next : (n k : ℕ) → bit n (suc k) ≡ bit (n / 2) k
unfolding bit
bit_next n k = ap (λ (x : ℕ). eqb (x % 2) 1) (ap (λ (j : ℕ). n / 2 ^ j) (sym (one-add k)) ∙ sym (shr-shr n 1 k))

pub bit_zero : (k : ℕ) → bit 0 k ≡ false
unfolding bit
bit_zero k = ap (λ (x : ℕ). eqb (x % 2) 1) (zero-div (2 ^ k))

-- no digit from the number's length on
pub bit_high : (n w k : ℕ) → n < 2 ^ w → w ≤ k → bit n k ≡ false
unfolding bit
bit_high n w k h l = ap (λ (x : ℕ). eqb (x % 2) 1) (div-eq_of_lt (lt_of_lt_of_le h (pow_mono l)))

-- as `(n >> k) & 1 == 1` has it
pub bit_tested : (n k : ℕ) → eqb (bit_and (n / 2 ^ k) 1) 1 ≡ bit n k
unfolding bit
bit_tested n k = ap (λ (x : ℕ). eqb x 1) (and_mask (n / 2 ^ k) 1)

-- ---- an operation that goes digit by digit
module _ (op : ℕ → ℕ → ℕ) (g : Bool → Bool → Bool)
    (shr : (a b k : ℕ) → op a b / 2 ^ k ≡ op (a / 2 ^ k) (b / 2 ^ k))
    (cut : (a b k : ℕ) → op a b % 2 ^ k ≡ op (a % 2 ^ k) (b % 2 ^ k))
    (table : (x y : ℕ) → x < 2 → y < 2 → eqb (op x y) 1 ≡ g (eqb x 1) (eqb y 1)) where
  bit_op : (a b k : ℕ) → bit (op a b) k ≡ g (bit a k) (bit b k)
  unfolding bit
  bit_op a b k =
      ap (λ (x : ℕ). eqb (x % 2) 1) (shr a b k) ∙ ap (λ (x : ℕ). eqb x 1) (cut (a / 2 ^ k) (b / 2 ^ k) 1)
      ∙ table (a / 2 ^ k % 2) (b / 2 ^ k % 2) (mod-lt (a / 2 ^ k) two_pos) (mod-lt (b / 2 ^ k) two_pos)

module _ (op : ℕ → ℕ → ℕ) (g : Bool → Bool → Bool)
    (p : eqb (op 0 0) 1 ≡ g false false) (q : eqb (op 0 1) 1 ≡ g false true)
    (r : eqb (op 1 0) 1 ≡ g true false) (s : eqb (op 1 1) 1 ≡ g true true) where
  four : (x y : ℕ) → x < 2 → y < 2 → eqb (op x y) 1 ≡ g (eqb x 1) (eqb y 1)
  four x y hx hy =
      below_two (λ (x : ℕ). eqb (op x y) 1 ≡ g (eqb x 1) (eqb y 1))
      (below_two (λ (y : ℕ). eqb (op 0 y) 1 ≡ g false (eqb y 1)) p q y hy)
      (below_two (λ (y : ℕ). eqb (op 1 y) 1 ≡ g true (eqb y 1)) r s y hy) x hx

-- the digits differ
abbrev pub differ : Bool → Bool → Bool
differ true b = not b
differ false b = b

pub bit_of_and : (a b k : ℕ) → bit (bit_and a b) k ≡ (bit a k && bit b k)
bit_of_and = bit_op bit_and (λ x y. x && y) and_shr and_mod (four bit_and (λ x y. x && y) refl refl refl refl)

pub bit_of_or : (a b k : ℕ) → bit (bit_or a b) k ≡ (bit a k || bit b k)
bit_of_or = bit_op bit_or (λ x y. x || y) or_shr or_mod (four bit_or (λ x y. x || y) refl refl refl refl)

pub bit_of_xor : (a b k : ℕ) → bit (bit_xor a b) k ≡ differ (bit a k) (bit b k)
bit_of_xor = bit_op bit_xor differ xor_shr xor_mod (four bit_xor differ refl refl refl refl)

and_differ : (x y : Bool) → (x && differ x y) ≡ (x && not y)
and_differ true y = refl
and_differ false y = refl

-- `a & (a ^ b)`: the digits of a that are not b's
pub bit_minus : (a b k : ℕ) → bit (bit_and a (bit_xor a b)) k ≡ (bit a k && not (bit b k))
bit_minus a b k = bit_of_and a (bit_xor a b) k ∙ ap (λ (x : Bool). bit a k && x) (bit_of_xor a b k) ∙ and_differ (bit a k) (bit b k)

-- ---- one digit set, and all below n set

pow_half : (j : ℕ) → 2 ^ suc j / 2 ≡ 2 ^ j
pow_half j = ap (λ (x : ℕ). x / 2) (sym (one-mul (2 ^ suc j))) ∙ shifted_half 1 j ∙ one-mul (2 ^ j)

pow_even : (j : ℕ) → 2 ^ suc j % 2 ≡ 0
pow_even j = ap (λ (x : ℕ). x % 2) (sym (one-mul (2 ^ suc j))) ∙ shifted_even 1 j

pub bit_pow : (j k : ℕ) → bit (2 ^ j) k ≡ eqb k j
bit_pow zero zero = bit_low 1
bit_pow zero (suc k) = bit_next 1 k ∙ bit_zero k ∙ sym (eqb-suc-zero k)
bit_pow (suc j) zero = bit_low (2 ^ suc j) ∙ ap (λ (x : ℕ). eqb x 1) (pow_even j) ∙ sym (eqb-zero-suc j)
bit_pow (suc j) (suc k) =
    bit_next (2 ^ suc j) k ∙ ap (λ (x : ℕ). bit x k) (pow_half j) ∙ bit_pow j k ∙ sym (eqb-suc-suc k j)

-- `1 << j`, whose digits above the width are cut off
pub one_shl : (w j : ℕ) → j < w → (1 * 2 ^ j) % 2 ^ w ≡ 2 ^ j
one_shl w j h = shl_exact {a = 1} 1 j w (lit< tt) (subst (λ (x : ℕ). x ≤ w) (sym (one-add j)) h) ∙ one-mul (2 ^ j)

ones_form : (j : ℕ) → 2 ^ suc j - 1 ≡ (2 ^ j - 1) * 2 + 1
ones_form j = ap (λ (x : ℕ). 2 ^ x - 1) (sym (add-one j)) ∙ ones_split j 1

pub bit_ones : (n k : ℕ) → bit (2 ^ n - 1) k ≡ ltb k n
bit_ones zero k = bit_zero k ∙ sym (leb-suc-zero k)
bit_ones (suc n) zero =
    bit_low (2 ^ suc n - 1) ∙ ap (λ (x : ℕ). eqb (x % 2) 1) (ones_form n) ∙ ap (λ (x : ℕ). eqb x 1) (digits_mod (2 ^ n - 1) (le_refl 2))
    ∙ sym (leb-zero n) ∙ sym (leb-suc-suc zero n)
bit_ones (suc n) (suc k) =
    bit_next (2 ^ suc n - 1) k ∙ ap (λ (x : ℕ). bit (x / 2) k) (ones_form n) ∙ ap (λ (x : ℕ). bit x k) (digits_div (2 ^ n - 1) (le_refl 2))
    ∙ bit_ones n k ∙ sym (leb-suc-suc (suc k) n)

-- ---- the digits determine the number

digit_of : (x y : ℕ) → x < 2 → y < 2 → eqb x 1 ≡ eqb y 1 → x ≡ y
digit_of x y hx hy =
    below_two (λ (x : ℕ). eqb x 1 ≡ eqb y 1 → x ≡ y)
    (below_two (λ (y : ℕ). false ≡ eqb y 1 → 0 ≡ y) (λ e. refl) (λ e. absurd (false≢true e)) y hy)
    (below_two (λ (y : ℕ). true ≡ eqb y 1 → 1 ≡ y) (λ e. absurd (true≢false e)) (λ e. refl) y hy) x hx

SameBits : ℕ → ℕ → Type 0
SameBits a b = (k : ℕ) → bit a k ≡ bit b k

same_low : (a b : ℕ) → SameBits a b → a % 2 ≡ b % 2
unfolding SameBits
same_low a b h = digit_of (a % 2) (b % 2) (mod-lt a two_pos) (mod-lt b two_pos) (sym (bit_low a) ∙ h 0 ∙ bit_low b)

same_next : (a b : ℕ) → SameBits a b → SameBits (a / 2) (b / 2)
unfolding SameBits
same_next a b h k = sym (bit_next a k) ∙ h (suc k) ∙ bit_next b k

rejoin : (a b : ℕ) → a / 2 ≡ b / 2 → a % 2 ≡ b % 2 → a ≡ b
rejoin a b p q = sym (div-add-mod' a 2) ∙ ap₂ (λ (x y : ℕ). x * 2 + y) p q ∙ div-add-mod' b 2

none_set : (b : ℕ) → SameBits 0 b → 0 ≡ b
none_set = bin_ind (λ (b : ℕ). SameBits 0 b → 0 ≡ b) (λ h. refl) (λ b ih h. rejoin 0 b (ih (same_next 0 b h)) (same_low 0 b h))

pub bit_ext : (a b : ℕ) → ((k : ℕ) → bit a k ≡ bit b k) → a ≡ b
unfolding SameBits
bit_ext a =
    bin_ind (λ (a : ℕ). (b : ℕ) → SameBits a b → a ≡ b) none_set
    (λ a ih b h. rejoin a b (ih (b / 2) (same_next a b h)) (same_low a b h)) a

-- a number that is not 0 has a digit set
pub bit_some : (n : ℕ) → 0 < n → (k : ℕ) × (bit n k ≡ true)
bit_some =
    bin_ind (λ (n : ℕ). 0 < n → (k : ℕ) × (bit n k ≡ true)) (λ h. absurd (not-suc-le-zero h))
    (λ n ih h. go n ih h (n % 2) (mod-lt n two_pos) refl)
  where
    go : (n : ℕ) → (0 < n / 2 → (k : ℕ) × (bit (n / 2) k ≡ true)) → 0 < n → (d : ℕ) → d < 2 → n % 2 ≡ d → (k : ℕ) × (bit n k ≡ true)
    go n ih h zero hd e = let r = ih (omega arith) in (suc r.0, bit_next n r.0 ∙ r.1)
    go n ih h (suc zero) hd e = (0, bit_low n ∙ ap (λ (x : ℕ). eqb x 1) e)
    go n ih h (suc (suc d)) hd e = absurd (not-suc-le-zero (le_of_suc-le-suc (le_of_suc-le-suc hd)))

-- ---- a number made from its digits

pub bit_word : (n : ℕ) (S : Places) (k : ℕ) → k < n → bit (word n S) k ≡ S k
unfolding word
bit_word zero S k h = absurd (not-suc-le-zero h)
bit_word (suc n) S zero h = bit_low (word n (λ k. S (suc k)) * 2 + cond (S 0) 1 0) ∙ go (S 0)
  where
    go : (b : Bool) → eqb ((word n (λ k. S (suc k)) * 2 + cond b 1 0) % 2) 1 ≡ b
    go true = ap (λ (x : ℕ). eqb x 1) (digits_mod (word n (λ k. S (suc k))) (le_refl 2))
    go false = ap (λ (x : ℕ). eqb x 1) (digits_mod (word n (λ k. S (suc k))) two_pos)
bit_word (suc n) S (suc k) h =
    bit_next (word n (λ k. S (suc k)) * 2 + cond (S 0) 1 0) k ∙ ap (λ (x : ℕ). bit x k) (go (S 0)) ∙ bit_word n (λ k. S (suc k)) k (le_of_suc-le-suc h)
  where
    go : (b : Bool) → (word n (λ k. S (suc k)) * 2 + cond b 1 0) / 2 ≡ word n (λ k. S (suc k))
    go true = digits_div (word n (λ k. S (suc k))) (le_refl 2)
    go false = digits_div (word n (λ k. S (suc k))) two_pos

pub word_less : (n : ℕ) (S : Places) → word n S < 2 ^ n
unfolding word
word_less zero S = omega arith
word_less (suc n) S = go (S 0) (word_less n (λ k. S (suc k)))
  where
    go : (b : Bool) → word n (λ k. S (suc k)) < 2 ^ n → word n (λ k. S (suc k)) * 2 + cond b 1 0 < 2 ^ suc n
    go true h = omega arith
    go false h = omega arith

-- ---- counts

digit_count : (x : ℕ) → x < 2 → x ≡ cond (eqb x 1) 1 0
digit_count = below_two (λ (x : ℕ). x ≡ cond (eqb x 1) 1 0) refl refl

half_below : (d n : ℕ) → n < 2 ^ suc d → n / 2 < 2 ^ d
half_below d n h = shr_lt d 1 (subst (λ (x : ℕ). n < 2 ^ x) (sym (add-one d)) h)

-- the set digits of a number of d digits
pub ones_count : (d n : ℕ) → n < 2 ^ d → ones n ≡ count d (bit n)
unfolding count
ones_count zero n h = le-zero (ones-le 0 n h)
ones_count (suc d) n h =
    ones_step n
    ∙ ap₂ (λ (x y : ℕ). x + y)
    (digit_count (n % 2) (mod-lt n two_pos) ∙ ap (λ (b : Bool). cond b 1 0) (sym (bit_low n)))
    (ones_count d (n / 2) (half_below d n h) ∙ count_same d (bit (n / 2)) (λ k. bit n (suc k)) (λ k l. sym (bit_next n k)))
    ∙ sym (count_first d (bit n))

-- ---- the lowest digit that is set

pub trailing_below : (k n j : ℕ) → j < count_trailing_zeros k n → bit n j ≡ false
unfolding count_trailing_zeros
trailing_below zero n j h = absurd (not-suc-le-zero h)
trailing_below (suc k) n j h = go (trailing_below k (n / 2)) (n % 2) refl j h
  where
    go : ((i : ℕ) → i < count_trailing_zeros k (n / 2) → bit (n / 2) i ≡ false) → (d : ℕ) → n % 2 ≡ d
        → (j : ℕ) → j < under d (count_trailing_zeros k (n / 2)) → bit n j ≡ false
    go rest zero e zero l = bit_low n ∙ ap (λ (x : ℕ). eqb x 1) e
    go rest zero e (suc j) l = bit_next n j ∙ rest j (le_of_suc-le-suc l)
    go rest (suc d) e j l = absurd (not-suc-le-zero l)

pub trailing_at : (k n : ℕ) → 0 < n → n < 2 ^ k → (count_trailing_zeros k n < k) × (bit n (count_trailing_zeros k n) ≡ true)
unfolding count_trailing_zeros
trailing_at zero n p h = absurd (omega arith)
trailing_at (suc k) n p h = go (λ q. trailing_at k (n / 2) q (half_below k n h)) (n % 2) refl
  where
    go : (0 < n / 2 → (count_trailing_zeros k (n / 2) < k) × (bit (n / 2) (count_trailing_zeros k (n / 2)) ≡ true)) → (d : ℕ) → n % 2 ≡ d
        → (under d (count_trailing_zeros k (n / 2)) < suc k) × (bit n (under d (count_trailing_zeros k (n / 2))) ≡ true)
    go rest zero e = let r = rest (omega arith) in (suc-le-suc r.0, bit_next n (count_trailing_zeros k (n / 2)) ∙ r.1)
    go rest (suc d) e =
        let one : n % 2 ≡ 1 = omega arith in (zero-lt-suc k, bit_low n ∙ ap (λ (x : ℕ). eqb x 1) one)
