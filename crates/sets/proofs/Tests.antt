-- The laws of any, all, subset, same and lowest, for every set and every n. Assumes nothing.
use mathlib.Core.Path.{◌≡◌, refl}
use mathlib.Core.Bool.{Bool, true, false, not, cond, ◌&&◌, ◌||◌, beq, false≢true}
use mathlib.Core.Logic.{◌⊎◌, inl, inr}
use Prim.Native.Nat.{ℕ, zero, suc, ◌<◌, ◌≤◌}
use native.Mathlib.Omega.{arith}
use native.Mathlib.Nat.{le_of_suc-le-suc}
use native.Mathlib.Decide.{ℕ_discrete, dec_lt}
use Rattle.sets.specs.Sets.{Places, any, all, subset, same, lowest}
use Rattle.sets.proofs.Booleans.{clash, is_false, is_true, and_intro, and_left, and_right, or_cases, or_left, or_right, implies_elim, implies_intro, beq_elim, beq_intro}

-- the last of n + 1, or one before it
pub last_or_below : (p n : ℕ) → p < suc n → (p ≡ n) ⊎ (p < n)
last_or_below p n h = go (ℕ_discrete p n)
  where
    go : Dec (p ≡ n) → (p ≡ n) ⊎ (p < n)
    go (yes e) = inl e
    go (no e) = inr (omega arith)

-- ---- any

pub any_elim : (n : ℕ) (S : Places) → any n S ≡ true → (p : ℕ) × (p < n) × (S p ≡ true)
unfolding any
any_elim zero S e = absurd (false≢true e)
any_elim (suc n) S e = go (or_cases (S n) (any n S) e) (any_elim n S)
  where
    go : (S n ≡ true) ⊎ (any n S ≡ true) → (any n S ≡ true → (p : ℕ) × (p < n) × (S p ≡ true)) → (p : ℕ) × (p < suc n) × (S p ≡ true)
    go (inl h) below = (n, omega arith, h)
    go (inr h) below = let r = below h in (r.0, omega arith, r.2)

pub any_intro : (n : ℕ) (S : Places) (p : ℕ) → p < n → S p ≡ true → any n S ≡ true
unfolding any
any_intro zero S p h e = absurd (omega arith)
any_intro (suc n) S p h e = go (last_or_below p n h) (any_intro n S p)
  where
    go : (p ≡ n) ⊎ (p < n) → (p < n → S p ≡ true → any n S ≡ true) → S n || any n S ≡ true
    go (inl q) below = or_left (any n S) (rw q at e)
    go (inr q) below = or_right (S n) (below q e)

pub any_none : (n : ℕ) (S : Places) → any n S ≡ false → (p : ℕ) → p < n → S p ≡ false
any_none n S e p h = is_false (S p) (λ t. clash (any_intro n S p h t) e)

pub none_any : (n : ℕ) (S : Places) → ((p : ℕ) → p < n → S p ≡ false) → any n S ≡ false
none_any n S h = is_false (any n S) (λ e. let r = any_elim n S e in clash r.2 (h r.0 r.1))

-- ---- all

pub all_elim : (n : ℕ) (S : Places) → all n S ≡ true → (p : ℕ) → p < n → S p ≡ true
unfolding all
all_elim zero S e p h = absurd (omega arith)
all_elim (suc n) S e p h = go (last_or_below p n h) (all_elim n S (and_right (S n) (all n S) e) p)
  where
    go : (p ≡ n) ⊎ (p < n) → (p < n → S p ≡ true) → S p ≡ true
    go (inl q) below = rw q (and_left (S n) (all n S) e)
    go (inr q) below = below q

pub all_intro : (n : ℕ) (S : Places) → ((p : ℕ) → p < n → S p ≡ true) → all n S ≡ true
unfolding all
all_intro zero S h = refl
all_intro (suc n) S h = and_intro (h n (omega arith)) (all_intro n S (λ p q. h p (omega arith)))

-- where not all are members, one that is not
pub all_fails : (n : ℕ) (S : Places) → all n S ≡ false → (p : ℕ) × (p < n) × (S p ≡ false)
unfolding all
all_fails zero S e = clash refl e
all_fails (suc n) S e = go (S n) refl e (all_fails n S)
  where
    go : (b : Bool) → S n ≡ b → b && all n S ≡ false → (all n S ≡ false → (p : ℕ) × (p < n) × (S p ≡ false)) → (p : ℕ) × (p < suc n) × (S p ≡ false)
    go true h f below = let r = below f in (r.0, omega arith, r.2)
    go false h f below = (n, omega arith, h)

-- ---- subset

pub subset_elim : (n : ℕ) (A B : Places) → subset n A B ≡ true → (k : ℕ) → k < n → A k ≡ true → B k ≡ true
unfolding subset
subset_elim n A B e k l = implies_elim (A k) (B k) (all_elim n (λ k. not (A k) || B k) e k l)

pub subset_intro : (n : ℕ) (A B : Places) → ((k : ℕ) → k < n → A k ≡ true → B k ≡ true) → subset n A B ≡ true
unfolding subset
subset_intro n A B h = all_intro n (λ k. not (A k) || B k) (λ k l. implies_intro (A k) (B k) (h k l))

pub subset_fails : (n : ℕ) (A B : Places) → subset n A B ≡ false → (k : ℕ) × (k < n) × (A k ≡ true) × (B k ≡ false)
unfolding subset
subset_fails n A B e =
    let r = all_fails n (λ k. not (A k) || B k) e in
    let k = r.0 in
    (k, r.1, is_true (A k) (λ a. clash (implies_intro (A k) (B k) (λ t. clash t a)) r.2), is_false (B k) (λ b. clash (implies_intro (A k) (B k) (λ t. b)) r.2))

-- ---- same

pub same_elim : (n : ℕ) (A B : Places) → same n A B ≡ true → (k : ℕ) → k < n → A k ≡ B k
unfolding same
same_elim n A B e k l = beq_elim (A k) (B k) (all_elim n (λ k. beq (A k) (B k)) e k l)

pub same_intro : (n : ℕ) (A B : Places) → ((k : ℕ) → k < n → A k ≡ B k) → same n A B ≡ true
unfolding same
same_intro n A B h = all_intro n (λ k. beq (A k) (B k)) (λ k l. beq_intro (A k) (B k) (h k l))

-- ---- lowest

pub lowest_at_most : (n : ℕ) (S : Places) → lowest n S ≤ n
unfolding lowest
lowest_at_most zero S = omega arith
lowest_at_most (suc n) S = go (S 0) (lowest_at_most n (λ k. S (suc k)))
  where
    go : (b : Bool) → lowest n (λ k. S (suc k)) ≤ n → cond b 0 (suc (lowest n (λ k. S (suc k)))) ≤ suc n
    go true h = omega arith
    go false h = omega arith

-- what is found is a member
pub lowest_member : (n : ℕ) (S : Places) → lowest n S < n → S (lowest n S) ≡ true
unfolding lowest
lowest_member zero S h = absurd (omega arith)
lowest_member (suc n) S h = go (S 0) refl (lowest_member n (λ k. S (suc k))) h
  where
    go : (b : Bool) → S 0 ≡ b → (lowest n (λ k. S (suc k)) < n → S (suc (lowest n (λ k. S (suc k)))) ≡ true)
        → cond b 0 (suc (lowest n (λ k. S (suc k)))) < suc n → S (cond b 0 (suc (lowest n (λ k. S (suc k))))) ≡ true
    go true e rest l = e
    go false e rest l = rest (omega arith)

-- and nothing below it is
pub lowest_least : (n : ℕ) (S : Places) (j : ℕ) → j < lowest n S → S j ≡ false
unfolding lowest
lowest_least zero S j h = absurd (omega arith)
lowest_least (suc n) S j h = go (S 0) refl (lowest_least n (λ k. S (suc k))) j h
  where
    go : (b : Bool) → S 0 ≡ b → ((j : ℕ) → j < lowest n (λ k. S (suc k)) → S (suc j) ≡ false)
        → (j : ℕ) → j < cond b 0 (suc (lowest n (λ k. S (suc k)))) → S j ≡ false
    go true e rest j l = absurd (omega arith)
    go false e rest zero l = e
    go false e rest (suc j) l = rest j (le_of_suc-le-suc l)

-- where there is a member below n, one is found
pub lowest_below : (n : ℕ) (S : Places) (p : ℕ) → p < n → S p ≡ true → lowest n S < n
lowest_below n S p l e = go (last_or_below (lowest n S) n (omega (arith, lowest_at_most n S)))
  where
    go : (lowest n S ≡ n) ⊎ (lowest n S < n) → lowest n S < n
    go (inl q) = clash e (lowest_least n S p (omega arith))
    go (inr q) = q

-- a member with none below it is the lowest
pub lowest_is : (n : ℕ) (S : Places) (p : ℕ) → p < n → S p ≡ true → ((j : ℕ) → j < p → S j ≡ false) → lowest n S ≡ p
lowest_is n S p l e h = go (ℕ_discrete (lowest n S) p)
  where
    found : S (lowest n S) ≡ true
    found = lowest_member n S (lowest_below n S p l e)

    go : Dec (lowest n S ≡ p) → lowest n S ≡ p
    go (yes q) = q
    go (no q) = differs (dec_lt (lowest n S) p)
      where
        differs : Dec (lowest n S < p) → lowest n S ≡ p
        differs (yes x) = clash found (h (lowest n S) x)
        differs (no x) = clash e (lowest_least n S p (omega arith))

pub lowest_none : (n : ℕ) (S : Places) → ((p : ℕ) → p < n → S p ≡ false) → lowest n S ≡ n
lowest_none n S h = go (last_or_below (lowest n S) n (omega (arith, lowest_at_most n S)))
  where
    go : (lowest n S ≡ n) ⊎ (lowest n S < n) → lowest n S ≡ n
    go (inl q) = q
    go (inr q) = clash (lowest_member n S q) (h (lowest n S) q)
