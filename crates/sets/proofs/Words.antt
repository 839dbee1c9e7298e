-- `has` by the two words: what the proofs of this crate's functions cite. Whoever uses a set cites `Laws`, and no word. Assumes nothing.
use mathlib.Core.Path.{◌≡◌, refl, sym, ap, ap₂, ◌∙◌, subst, fun_ext}
use Rattle.std.specs.Prelude.{Some, None}
use mathlib.Core.Bool.{Bool, true, false, not, cond, ◌&&◌, ◌||◌, and-true, and-false}
use Prim.Native.Nat.{ℕ, ◌+◌, ◌-◌, ◌*◌, ◌%◌, ◌^◌, ◌≤◌, ◌<◌}
use native.Mathlib.Omega.{arith}
use native.Mathlib.Nat.{add-sub_cancel_left}
use borrow.Author.Tests.{eqb-true, eqb-false, eq-eqb, ne_eqb, lt-ltb, le-ltb, ltb-true, ltb-false}
use lib.Dec.{eqb, ltb}
use lib.Count.{ones, count_trailing_zeros}
use lib.Bits.{bit_and, bit_or, bit_xor}
use Rattle.sets.specs.Sets.{Places, nothing, only, below, union, intersection, difference, any, same, count, lowest}
use Rattle.sets.specs.PlaceSets.{bit, has, kept, Words, packed, found}
use Rattle.sets.specs.declared.PlaceSet.{PlaceSet}
use Rattle.sets.proofs.Booleans.{clash, is_false, both_ways}
use Rattle.sets.proofs.Tests.{any_intro, none_any, same_elim, same_intro, lowest_is, lowest_none}
use Rattle.sets.proofs.Counting.{count_same, count_add}
use Rattle.sets.proofs.Digits.{bit_high, bit_ext, bit_some, bit_zero, bit_of_and, bit_of_or, bit_minus, bit_pow, bit_ones, bit_word, word_less, one_shl, trailing_below, trailing_at, ones_count}

-- ---- where a place lies

pub has_low : (s : PlaceSet) (k : ℕ) → k < 64 → has s k ≡ bit s.low k
unfolding has
has_low s k h = simp (lt-ltb k 64 h)

pub has_upper : (s : PlaceSet) (k : ℕ) → 64 ≤ k → k < 128 → has s k ≡ bit s.high (k - 64)
unfolding has
has_upper s k l h = simp (le-ltb k 64 l, lt-ltb k 128 h)

pub has_high : (s : PlaceSet) (j : ℕ) → j < 64 → has s (64 + j) ≡ bit s.high j
has_high s j h = has_upper s (64 + j) (omega arith) (omega arith) ∙ ap (bit s.high) (add-sub_cancel_left 64 j)

pub has_past : (s : PlaceSet) (k : ℕ) → 128 ≤ k → has s k ≡ false
unfolding has
has_past s k h =
    let l : 64 ≤ k = omega arith in
    simp (le-ltb k 64 l, le-ltb k 128 h)

-- a claim about every place, by the three parts
by_part : (P : ℕ → Type 0) → ((k : ℕ) → k < 64 → P k) → ((j : ℕ) → j < 64 → P (64 + j)) → ((k : ℕ) → 128 ≤ k → P k) → (k : ℕ) → P k
by_part P low high past k = go (ltb k 64) (ltb k 128) refl refl
  where
    go : (a b : Bool) → ltb k 64 ≡ a → ltb k 128 ≡ b → P k
    go true b p q = low k (ltb-true k 64 p)
    go false true p q =
        let l : 64 ≤ k = ltb-false k 64 p in
        let h : k < 128 = ltb-true k 128 q in
        let e : 64 + (k - 64) ≡ k = omega arith in
        subst P e (high (k - 64) (omega arith))
    go false false p q = past k (ltb-false k 128 q)

-- the members are those of S, where the digits of each word are
has_is : (s : PlaceSet) (S : Places) → ((k : ℕ) → k < 64 → bit s.low k ≡ S k) → ((j : ℕ) → j < 64 → bit s.high j ≡ S (64 + j)) → ((k : ℕ) → 128 ≤ k → S k ≡ false)
    → has s ≡ S
has_is s S low high past =
    fun_ext (by_part (λ (k : ℕ). has s k ≡ S k) (λ k h. has_low s k h ∙ low k h) (λ j h. has_high s j h ∙ high j h) (λ k h. has_past s k h ∙ sym (past k h)))

-- an operation that goes digit by digit on the words goes member by member on the sets
has_each : (g : Bool → Bool → Bool) → g false false ≡ false → (a b r : PlaceSet) → ((j : ℕ) → bit r.low j ≡ g (bit a.low j) (bit b.low j))
    → ((j : ℕ) → bit r.high j ≡ g (bit a.high j) (bit b.high j)) → (k : ℕ) → has r k ≡ g (has a k) (has b k)
unfolding has
has_each g none a b r low high k = go (ltb k 64) (ltb k 128)
  where
    go : (p q : Bool) → cond p (bit r.low k) (cond q (bit r.high (k - 64)) false)
        ≡ g (cond p (bit a.low k) (cond q (bit a.high (k - 64)) false)) (cond p (bit b.low k) (cond q (bit b.high (k - 64)) false))
    go true q = low k
    go false true = high (k - 64)
    go false false = sym none

pub has_union : (a b : PlaceSet) → has (record { low = bit_or a.low b.low; high = bit_or a.high b.high }) ≡ union (has a) (has b)
has_union a b = fun_ext (has_each (λ x y. x || y) refl a b _ (bit_of_or a.low b.low) (bit_of_or a.high b.high))

pub has_intersection : (a b : PlaceSet) → has (record { low = bit_and a.low b.low; high = bit_and a.high b.high }) ≡ intersection (has a) (has b)
has_intersection a b = fun_ext (has_each (λ x y. x && y) refl a b _ (bit_of_and a.low b.low) (bit_of_and a.high b.high))

pub has_difference : (a b : PlaceSet)
    → has (record { low = bit_and a.low (bit_xor a.low b.low); high = bit_and a.high (bit_xor a.high b.high) }) ≡ difference (has a) (has b)
has_difference a b = fun_ext (has_each (λ x y. x && not y) refl a b _ (bit_minus a.low b.low) (bit_minus a.high b.high))

-- ---- no member, and some member

pub has_none : (s : PlaceSet) → s.low ≡ 0 → s.high ≡ 0 → has s ≡ nothing
has_none s p q =
    has_is s nothing (λ k h. ap (λ (x : ℕ). bit x k) p ∙ bit_zero k) (λ j h. ap (λ (x : ℕ). bit x j) q ∙ bit_zero j) (λ k h. refl)

in_word : (n k : ℕ) → n < 2 ^ 64 → bit n k ≡ true → k < 64
in_word n k h e = go (ltb k 64) refl
  where
    go : (b : Bool) → ltb k 64 ≡ b → k < 64
    go true t = ltb-true k 64 t
    go false t = clash e (bit_high n 64 k h (ltb-false k 64 t))

-- a word that is not 0 has a digit, so the set a member
pub any_low : (s : PlaceSet) → Words s → (s.low ≡ 0 → ⊥) → any 128 (has s) ≡ true
any_low s w h =
    let r = bit_some s.low (omega arith) in
    let l = in_word s.low r.0 w.0 r.1 in
    any_intro 128 (has s) r.0 (omega arith) (has_low s r.0 l ∙ r.1)

pub any_high : (s : PlaceSet) → Words s → (s.high ≡ 0 → ⊥) → any 128 (has s) ≡ true
any_high s w h =
    let r = bit_some s.high (omega arith) in
    let l = in_word s.high r.0 w.1 r.1 in
    any_intro 128 (has s) (64 + r.0) (omega arith) (has_high s r.0 l ∙ r.1)

pub any_words : (s : PlaceSet) → Words s → s.low ≡ 0 → eqb s.high 0 ≡ not (any 128 (has s))
any_words s w p = go (eqb s.high 0) refl
  where
    go : (b : Bool) → eqb s.high 0 ≡ b → b ≡ not (any 128 (has s))
    go true e = sym (ap not (none_any 128 (has s) (λ k l. ap (λ (S : Places). S k) (has_none s p (eqb-true s.high 0 e)))))
    go false e = sym (ap not (any_high s w (eqb-false s.high 0 e)))

-- ---- two sets with the same members are equal

pub words_equal : (a b : PlaceSet) → a.low ≡ b.low → a.high ≡ b.high → a ≡ b
words_equal a b p q = λ i. record { low = p i; high = q i }

word_ext : (x y : ℕ) → x < 2 ^ 64 → y < 2 ^ 64 → ((k : ℕ) → k < 64 → bit x k ≡ bit y k) → x ≡ y
word_ext x y hx hy h = bit_ext x y (λ k. go k (ltb k 64) refl)
  where
    go : (k : ℕ) (b : Bool) → ltb k 64 ≡ b → bit x k ≡ bit y k
    go k true e = h k (ltb-true k 64 e)
    go k false e = bit_high x 64 k hx (ltb-false k 64 e) ∙ sym (bit_high y 64 k hy (ltb-false k 64 e))

pub low_equal : (a b : PlaceSet) → Words a → Words b → ((k : ℕ) → k < 128 → has a k ≡ has b k) → a.low ≡ b.low
low_equal a b wa wb h =
    word_ext a.low b.low wa.0 wb.0 (λ k l. sym (has_low a k l) ∙ h k (omega arith) ∙ has_low b k l)

pub high_equal : (a b : PlaceSet) → Words a → Words b → ((k : ℕ) → k < 128 → has a k ≡ has b k) → a.high ≡ b.high
high_equal a b wa wb h =
    word_ext a.high b.high wa.1 wb.1 (λ j l. sym (has_high a j l) ∙ h (64 + j) (omega arith) ∙ has_high b j l)

-- the test of both words is the test of all members
pub same_words : (a b : PlaceSet) → Words a → Words b → a.low ≡ b.low → eqb a.high b.high ≡ same 128 (has a) (has b)
same_words a b wa wb p =
    both_ways (eqb a.high b.high) (same 128 (has a) (has b))
    (λ e. same_intro 128 (has a) (has b) (λ k l. ap (λ (s : PlaceSet). has s k) (words_equal a b p (eqb-true a.high b.high e))))
    (λ e. eq-eqb a.high b.high (high_equal a b wa wb (same_elim 128 (has a) (has b) e)))

pub differ_words : (a b : PlaceSet) → Words a → Words b → (a.low ≡ b.low → ⊥) → same 128 (has a) (has b) ≡ false
differ_words a b wa wb h = is_false (same 128 (has a) (has b)) (λ e. h (low_equal a b wa wb (same_elim 128 (has a) (has b) e)))

-- ---- how many

pub has_count : (s : PlaceSet) → Words s → ones s.low + ones s.high ≡ count 128 (has s)
has_count s w =
    ap₂ (λ (x y : ℕ). x + y)
    (ones_count 64 s.low w.0 ∙ count_same 64 (bit s.low) (has s) (λ k h. sym (has_low s k h)))
    (ones_count 64 s.high w.1 ∙ count_same 64 (bit s.high) (λ k. has s (64 + k)) (λ k h. sym (has_high s k h)))
    ∙ sym (count_add 64 64 (has s))

-- ---- one place

-- a place that is not p, and one that no set holds
away : (k p : ℕ) → (k ≡ p → ⊥) → kept (only p) k ≡ false
away k p h = ap (λ (x : Bool). x && ltb k 128) (ne_eqb k p h)

past : (S : Places) (k : ℕ) → 128 ≤ k → kept S k ≡ false
past S k h = ap (λ (x : Bool). S k && x) (le-ltb k 128 h) ∙ and-false (S k)

within : (S : Places) (k : ℕ) → k < 128 → kept S k ≡ S k
within S k h = ap (λ (x : Bool). S k && x) (lt-ltb k 128 h) ∙ and-true (S k)

eqb_iff : (a b c d : ℕ) → (a ≡ b → c ≡ d) → (c ≡ d → a ≡ b) → eqb a b ≡ eqb c d
eqb_iff a b c d f g = both_ways (eqb a b) (eqb c d) (λ e. eq-eqb c d (f (eqb-true a b e))) (λ e. eq-eqb a b (g (eqb-true c d e)))

pub only_low : (p : ℕ) → p < 64 → has (record { low = (1 * 2 ^ p) % 2 ^ 64; high = 0 }) ≡ kept (only p)
only_low p h =
    has_is _ (kept (only p))
    (λ k l. ap (λ (x : ℕ). bit x k) (one_shl 64 p h) ∙ bit_pow p k ∙ sym (within (only p) k (omega arith)))
    (λ j l. bit_zero j ∙ sym (away (64 + j) p (λ e. omega arith)))
    (past (only p))

pub only_high : (p : ℕ) → 64 ≤ p → p < 128 → has (record { low = 0; high = (1 * 2 ^ (p - 64)) % 2 ^ 64 }) ≡ kept (only p)
only_high p g h =
    has_is _ (kept (only p))
    (λ k l. bit_zero k ∙ sym (away k p (λ e. omega arith)))
    (λ j l.
    ap (λ (x : ℕ). bit x j) (one_shl 64 (p - 64) (omega arith)) ∙ bit_pow (p - 64) j
    ∙ eqb_iff j (p - 64) (64 + j) p (λ e. omega arith) (λ e. omega arith) ∙ sym (within (only p) (64 + j) (omega arith)))
    (past (only p))

pub only_none : (s : PlaceSet) (p : ℕ) → 128 ≤ p → has s ≡ nothing → has s ≡ kept (only p)
only_none s p h e = e ∙ fun_ext (λ k. sym (go k (ltb k 128) refl))
  where
    go : (k : ℕ) (b : Bool) → ltb k 128 ≡ b → kept (only p) k ≡ false
    go k true e = away k p (λ q. omega (arith, ltb-true k 128 e))
    go k false e = past (only p) k (ltb-false k 128 e)

-- ---- the places below n

ltb_iff : (a b c d : ℕ) → (a < b → c < d) → (c < d → a < b) → ltb a b ≡ ltb c d
ltb_iff a b c d f g = both_ways (ltb a b) (ltb c d) (λ e. lt-ltb c d (f (ltb-true a b e))) (λ e. lt-ltb a b (g (ltb-true c d e)))

-- a word whose digits, of 64, are those below n
pub word_some : (n : ℕ) → n < 64 → (k : ℕ) → k < 64 → bit ((1 * 2 ^ n) % 2 ^ 64 - 1) k ≡ ltb k n
word_some n h k l = ap (λ (x : ℕ). bit (x - 1) k) (one_shl 64 n h) ∙ bit_ones n k

pub word_all : (n : ℕ) → 64 ≤ n → (k : ℕ) → k < 64 → bit (2 ^ 64 - 1) k ≡ ltb k n
word_all n h k l = bit_ones 64 k ∙ ltb_iff k 64 k n (λ e. omega arith) (λ e. l)

pub below_low : (n r : ℕ) → n < 64 → ((k : ℕ) → k < 64 → bit r k ≡ ltb k n) → has (record { low = r; high = 0 }) ≡ kept (below n)
below_low n r h e =
    has_is _ (kept (below n))
    (λ k l. e k l ∙ sym (within (below n) k (omega arith)))
    (λ j l. bit_zero j ∙ sym (within (below n) (64 + j) (omega arith) ∙ le-ltb (64 + j) n (omega arith)))
    (past (below n))

pub below_high : (n r : ℕ) → 64 ≤ n → ((k : ℕ) → k < 64 → bit r k ≡ ltb k (n - 64)) → has (record { low = 2 ^ 64 - 1; high = r }) ≡ kept (below n)
below_high n r h e =
    has_is _ (kept (below n))
    (λ k l. word_all n h k l ∙ sym (within (below n) k (omega arith)))
    (λ j l. e j l ∙ ltb_iff j (n - 64) (64 + j) n (λ b. omega arith) (λ b. omega arith) ∙ sym (within (below n) (64 + j) (omega arith)))
    (past (below n))

-- ---- the lowest member

pub found_at : (n p q : ℕ) → p ≡ q → q < n → Some (record { 0 = q }) ≡ found n p
unfolding found
found_at n p q e h = rw (e, lt-ltb q n h)

pub found_none : (n : ℕ) → None ≡ found n n
unfolding found
found_none n =
    let l : n ≤ n = omega arith in
    rw (le-ltb n n l)

pub lowest_low : (s : PlaceSet) → Words s → (s.low ≡ 0 → ⊥) → Some (record { 0 = count_trailing_zeros 64 s.low }) ≡ found 128 (lowest 128 (has s))
lowest_low s w h =
    let t : ℕ = count_trailing_zeros 64 s.low in
    let r = trailing_at 64 s.low (omega arith) w.0 in
    found_at 128 (lowest 128 (has s)) t
    (lowest_is 128 (has s) t (omega (arith, r.0)) (has_low s t r.0 ∙ r.1) (λ j l. has_low s j (omega (arith, r.0)) ∙ trailing_below 64 s.low j l))
    (omega (arith, r.0))

pub lowest_high : (s : PlaceSet) → Words s → s.low ≡ 0 → (s.high ≡ 0 → ⊥) → Some (record { 0 = 64 + count_trailing_zeros 64 s.high }) ≡ found 128 (lowest 128 (has s))
lowest_high s w p h =
    let t : ℕ = count_trailing_zeros 64 s.high in
    let r = trailing_at 64 s.high (omega arith) w.1 in
    found_at 128 (lowest 128 (has s)) (64 + t)
    (lowest_is 128 (has s) (64 + t) (omega (arith, r.0)) (has_high s t r.0 ∙ r.1)
    (by_part (λ (j : ℕ). j < 64 + t → has s j ≡ false)
    (λ j l b. has_low s j l ∙ ap (λ (x : ℕ). bit x j) p ∙ bit_zero j)
    (λ j l b. has_high s j l ∙ trailing_below 64 s.high j (omega arith))
    (λ j l b. has_past s j l)))
    (omega (arith, r.0))

pub lowest_neither : (s : PlaceSet) → s.low ≡ 0 → s.high ≡ 0 → None ≡ found 128 (lowest 128 (has s))
lowest_neither s p q =
    found_none 128 ∙ ap (found 128) (sym (lowest_none 128 (has s) (λ k l. ap (λ (S : Places). S k) (has_none s p q))))

-- ---- a set made from its members

pub packed_words : (S : Places) → Words (packed S)
unfolding packed
packed_words S = (word_less 64 S, word_less 64 (λ k. S (64 + k)))

pub has_packed : (S : Places) → has (packed S) ≡ kept S
unfolding packed
has_packed S =
    has_is _ (kept S)
    (λ k l. bit_word 64 S k l ∙ sym (within S k (omega arith)))
    (λ j l. bit_word 64 (λ k. S (64 + k)) j l ∙ sym (within S (64 + j) (omega arith)))
    (past S)
