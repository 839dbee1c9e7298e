-- The laws of counting, for every set and every n. Assumes nothing.
use mathlib.Core.Path.{◌≡◌, refl, sym, ap, ap₂, ◌∙◌}
use mathlib.Core.Logic.{◌⊎◌, inl, inr}
use mathlib.Core.Bool.{Bool, true, false, not, cond, ◌&&◌, ◌||◌, or-true, or-false, and-true, and-false}
use Prim.Native.Nat.{ℕ, zero, suc, ◌+◌, ◌-◌, ◌≤◌, ◌<◌, zero-le}
use native.Mathlib.Nat.{le_refl, not-suc-le-zero, add_comm, add_assoc, add-zero}
use native.Mathlib.Omega.{arith}
use lib.Dec.{eqb}
use borrow.Author.Tests.{ne_eqb, lt-ltb}
use Rattle.sets.specs.Sets.{Places, nothing, below, with, without, count}
use Rattle.sets.proofs.Booleans.{clash, is_false, eqb_self}
use Rattle.sets.proofs.Tests.{last_or_below}

-- a count depends on nothing but the members below n
pub count_same : (n : ℕ) (A B : Places) → ((k : ℕ) → k < n → A k ≡ B k) → count n A ≡ count n B
unfolding count
count_same zero A B h = refl
count_same (suc n) A B h =
    ap₂ (λ (x : ℕ) (b : Bool). x + cond b 1 0) (count_same n A B (λ k l. h k (omega arith))) (h n (le_refl (suc n)))

-- it may start with the lowest place
pub count_first : (n : ℕ) (S : Places) → count (suc n) S ≡ cond (S 0) 1 0 + count n (λ k. S (suc k))
unfolding count
count_first zero S = add_comm 0 (cond (S 0) 1 0)
count_first (suc n) S = ap (λ (x : ℕ). x + cond (S (suc n)) 1 0) (count_first n S) ∙ add_assoc (cond (S 0) 1 0) (count n (λ k. S (suc k))) (cond (S (suc n)) 1 0)

-- and go in two parts
pub count_add : (m n : ℕ) (S : Places) → count (n + m) S ≡ count n S + count m (λ k. S (n + k))
unfolding count
count_add zero n S = ap (λ (x : ℕ). count x S) (add-zero n) ∙ sym (add-zero (count n S))
count_add (suc m) n S =
    let e : n + suc m ≡ suc (n + m) = omega arith in
    ap (λ (x : ℕ). count x S) e ∙ ap (λ (x : ℕ). x + cond (S (n + m)) 1 0) (count_add m n S)
    ∙ add_assoc (count n S) (count m (λ k. S (n + k))) (cond (S (n + m)) 1 0)

pub count_at_most : (n : ℕ) (S : Places) → count n S ≤ n
unfolding count
count_at_most zero S = zero-le
count_at_most (suc n) S = go (count_at_most n S) (S n)
  where
    go : count n S ≤ n → (b : Bool) → count n S + cond b 1 0 ≤ suc n
    go h true = omega arith
    go h false = omega arith

-- the set with no member counts 0, the places below n count n
pub count_nothing : (n : ℕ) → count n nothing ≡ 0
unfolding count
count_nothing zero = refl
count_nothing (suc n) = ap (λ (x : ℕ). x + 0) (count_nothing n)

pub count_all : (n : ℕ) (S : Places) → ((k : ℕ) → k < n → S k ≡ true) → count n S ≡ n
unfolding count
count_all zero S h = refl
count_all (suc n) S h =
    let e : n + 1 ≡ suc n = omega arith in
    ap₂ (λ (x : ℕ) (b : Bool). x + cond b 1 0) (count_all n S (λ k l. h k (omega arith))) (h n (le_refl (suc n))) ∙ e

pub count_below : (n : ℕ) → count n (below n) ≡ n
count_below n = count_all n (below n) (λ k l. lt-ltb k n l)

-- a subset counts no more
pub count_subset : (n : ℕ) (A B : Places) → ((k : ℕ) → k < n → A k ≡ true → B k ≡ true) → count n A ≤ count n B
unfolding count
count_subset zero A B h = zero-le
count_subset (suc n) A B h = go (count_subset n A B (λ k l. h k (omega arith))) (A n) (B n) (h n (le_refl (suc n)))
  where
    go : count n A ≤ count n B → (a b : Bool) → (a ≡ true → b ≡ true) → count n A + cond a 1 0 ≤ count n B + cond b 1 0
    go l true true p = omega arith
    go l true false p = clash (p refl) refl
    go l false true p = omega arith
    go l false false p = omega arith

-- two sets that differ at p alone: the one with p counts one more
pub count_one_more : (n : ℕ) (A B : Places) (p : ℕ) → p < n → A p ≡ true → B p ≡ false → ((k : ℕ) → (k ≡ p → ⊥) → B k ≡ A k) → count n A ≡ suc (count n B)
unfolding count
count_one_more zero A B p l ea eb h = absurd (not-suc-le-zero l)
count_one_more (suc n) A B p l ea eb h = go (λ m. count_one_more n A B p m ea eb h) (last_or_below p n l)
  where
    go : (p < n → count n A ≡ suc (count n B)) → (p ≡ n) ⊎ (p < n) → count n A + cond (A n) 1 0 ≡ suc (count n B + cond (B n) 1 0)
    go rest (inl e) =
        let a : ◌≡◌ {A = ℕ} (cond (A n) 1 0) 1 = ap (λ (k : ℕ). cond (A k) 1 0) (sym e) ∙ ap (λ (b : Bool). cond b 1 0) ea in
        let b : ◌≡◌ {A = ℕ} (cond (B n) 1 0) 0 = ap (λ (k : ℕ). cond (B k) 1 0) (sym e) ∙ ap (λ (b : Bool). cond b 1 0) eb in
        let s : count n A ≡ count n B = count_same n A B (λ k m. sym (h k (λ q. omega arith))) in
        omega arith
    go rest (inr m) =
        let r : count n A ≡ suc (count n B) = rest m in
        let s : ◌≡◌ {A = ℕ} (cond (B n) 1 0) (cond (A n) 1 0) = ap (λ (b : Bool). cond b 1 0) (h n (λ q. omega arith)) in
        omega arith

-- one member more, one member less
pub count_with : (n : ℕ) (S : Places) (p : ℕ) → p < n → S p ≡ false → count n (with p S) ≡ suc (count n S)
count_with n S p l e =
    count_one_more n (with p S) S p l (ap (λ (b : Bool). S p || b) (eqb_self p) ∙ or-true (S p)) e (λ k d. sym (ap (λ (b : Bool). S k || b) (ne_eqb k p d) ∙ or-false (S k)))

pub count_without : (n : ℕ) (S : Places) (p : ℕ) → p < n → S p ≡ true → count n S ≡ suc (count n (without p S))
count_without n S p l e =
    count_one_more n S (without p S) p l e (ap (λ (b : Bool). S p && not b) (eqb_self p) ∙ and-false (S p)) (λ k d. ap (λ (b : Bool). S k && not b) (ne_eqb k p d) ∙ and-true (S k))

-- a subset that lacks a member counts less
pub count_less : (n : ℕ) (A B : Places) (p : ℕ) → p < n → ((k : ℕ) → k < n → A k ≡ true → B k ≡ true) → A p ≡ false → B p ≡ true → count n A < count n B
count_less n A B p l h ea eb = omega (arith, count_without n B p l eb, count_subset n A (without p B) fewer)
  where
    fewer : (k : ℕ) → k < n → A k ≡ true → B k && not (eqb k p) ≡ true
    fewer k m e =
        ap (λ (b : Bool). B k && not b) (ne_eqb k p (λ q. clash (rw (← q) e) ea)) ∙ and-true (B k) ∙ h k m e

-- a set that counts more than 0 has a member; one that counts more than another has a member of its own
pub count_some : (n : ℕ) (S : Places) → 0 < count n S → (k : ℕ) × (k < n) × (S k ≡ true)
unfolding count
count_some zero S h = absurd (not-suc-le-zero h)
count_some (suc n) S h = go (count_some n S) (S n) refl h
  where
    go : (0 < count n S → (k : ℕ) × (k < n) × (S k ≡ true)) → (b : Bool) → S n ≡ b → 0 < count n S + cond b 1 0 → (k : ℕ) × (k < suc n) × (S k ≡ true)
    go rest true e l = (n, le_refl (suc n), e)
    go rest false e l = let r = rest (omega arith) in (r.0, omega (arith, r.1), r.2)

pub count_more : (n : ℕ) (A B : Places) → count n B < count n A → (k : ℕ) × (k < n) × (A k ≡ true) × (B k ≡ false)
unfolding count
count_more zero A B h = absurd (not-suc-le-zero h)
count_more (suc n) A B h = go (count_more n A B) (A n) (B n) refl refl h
  where
    go : (count n B < count n A → (k : ℕ) × (k < n) × (A k ≡ true) × (B k ≡ false)) → (a b : Bool) → A n ≡ a → B n ≡ b
        → count n B + cond b 1 0 < count n A + cond a 1 0 → (k : ℕ) × (k < suc n) × (A k ≡ true) × (B k ≡ false)
    go rest true false p q l = (n, le_refl (suc n), p, q)
    go rest true true p q l = let r = rest (omega arith) in (r.0, omega (arith, r.1), r.2, r.3)
    go rest false true p q l = let r = rest (omega arith) in (r.0, omega (arith, r.1), r.2, r.3)
    go rest false false p q l = let r = rest (omega arith) in (r.0, omega (arith, r.1), r.2, r.3)

-- a set whose members are below n counts the same up to any larger bound
pub count_within : (n m : ℕ) (S : Places) → n ≤ m → ((k : ℕ) → S k ≡ true → k < n) → count m S ≡ count n S
count_within n m S l h =
    let e : n + (m - n) ≡ m = omega arith in
    let none : count (m - n) (λ k. S (n + k)) ≡ 0 =
    count_same (m - n) (λ k. S (n + k)) nothing (λ k i. is_false (S (n + k)) (λ t. absurd (omega (arith, h (n + k) t)))) ∙ count_nothing (m - n) in
    ap (λ (x : ℕ). count x S) (sym e) ∙ count_add (m - n) n S ∙ ap (λ (x : ℕ). count n S + x) none ∙ add-zero (count n S)
