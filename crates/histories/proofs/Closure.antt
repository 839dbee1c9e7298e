-- What is reached through places below n is just what is before. Assumes nothing.
use mathlib.Core.Path.{◌≡◌}
use mathlib.Core.Bool.{true, ◌&&◌, ◌||◌}
use mathlib.Core.Logic.{◌⊎◌, inl, inr}
use Prim.Native.Nat.{ℕ, zero, suc, ◌<◌}
use native.Mathlib.Omega.{arith}
use Rattle.sets.proofs.Booleans.{and_intro, and_left, and_right, or_cases, or_left, or_right}
use Rattle.sets.proofs.Tests.{last_or_below}
use Rattle.histories.specs.Histories.{History, Before, heard, through}
use Rattle.histories.specs.Rule.{reach}

pub before_trans : {H : History} {q m p : ℕ} → Before H q m → Before H m p → Before H q p
before_trans (heard e) b = through e b
before_trans (through e c) b = through e (before_trans c b)

-- more in the rows, more before
pub before_mono : {G H : History} → ((p q : ℕ) → G p q ≡ true → H p q ≡ true) → {q p : ℕ} → Before G q p → Before H q p
before_mono s (heard {q = q} {p = p} e) = heard (s p q e)
before_mono s (through {q = q} {m = m} e b) = through (s m q e) (before_mono s b)

-- where rows hold the rows of their members, what is before a place stands in its row
pub before_closed : {H : History} → ((p m q : ℕ) → H p m ≡ true → H m q ≡ true → H p q ≡ true) → {q p : ℕ} → Before H q p → H p q ≡ true
before_closed c (heard e) = e
before_closed c (through {q = q} {m = m} {p = p} e b) = c p m q (before_closed c b) e

pub reach_heard : (k : ℕ) (H : History) (p q : ℕ) → H p q ≡ true → reach k H p q ≡ true
unfolding reach
reach_heard zero H p q e = e
reach_heard (suc k) H p q e = or_left (reach k H p k && reach k H k q) (reach_heard k H p q e)

-- more in the rows, more reached
pub reach_mono : (k : ℕ) (G H : History) → ((p q : ℕ) → G p q ≡ true → H p q ≡ true) → (p q : ℕ) → reach k G p q ≡ true → reach k H p q ≡ true
unfolding reach
reach_mono zero G H s p q e = s p q e
reach_mono (suc k) G H s p q e = go (or_cases (reach k G p q) (reach k G p k && reach k G k q) e) (reach_mono k G H s)
  where
    go : (reach k G p q ≡ true) ⊎ (reach k G p k && reach k G k q ≡ true) → ((p q : ℕ) → reach k G p q ≡ true → reach k H p q ≡ true) → reach k H p q || reach k H p k && reach k H k q ≡ true
    go (inl h) less = or_left (reach k H p k && reach k H k q) (less p q h)
    go (inr h) less = or_right (reach k H p q) (and_intro (less p k (and_left (reach k G p k) (reach k G k q) h)) (less k q (and_right (reach k G p k) (reach k G k q) h)))

pub reach_sound : (k : ℕ) (H : History) (p q : ℕ) → reach k H p q ≡ true → Before H q p
unfolding reach
reach_sound zero H p q e = heard e
reach_sound (suc k) H p q e = go (or_cases (reach k H p q) (reach k H p k && reach k H k q) e) (reach_sound k H)
  where
    go : (reach k H p q ≡ true) ⊎ (reach k H p k && reach k H k q ≡ true) → ((p q : ℕ) → reach k H p q ≡ true → Before H q p) → Before H q p
    go (inl h) less = less p q h
    go (inr h) less = before_trans (less k q (and_right (reach k H p k) (reach k H k q) h)) (less p k (and_left (reach k H p k) (reach k H k q) h))

-- two reaches that meet at a place below k make one
pub reach_trans : (k : ℕ) (H : History) (p m q : ℕ) → m < k → reach k H p m ≡ true → reach k H m q ≡ true → reach k H p q ≡ true
unfolding reach
reach_trans zero H p m q l a b = absurd (omega arith)
reach_trans (suc k) H p m q l a b = go (last_or_below m k l) (or_cases (R p m) (R p k && R k m) a) (or_cases (R m q) (R m k && R k q) b) (reach_trans k H)
  where
    R : History
    R = reach k H

    joined : R p k ≡ true → R k q ≡ true → R p q || R p k && R k q ≡ true
    joined x y = or_right (R p q) (and_intro x y)

    to_k : (R p k ≡ true) ⊎ (R p k && R k k ≡ true) → R p k ≡ true
    to_k (inl x) = x
    to_k (inr x) = and_left (R p k) (R k k) x

    from_k : (R k q ≡ true) ⊎ (R k k && R k q ≡ true) → R k q ≡ true
    from_k (inl x) = x
    from_k (inr x) = and_right (R k k) (R k q) x

    go : (m ≡ k) ⊎ (m < k) → (R p m ≡ true) ⊎ (R p k && R k m ≡ true) → (R m q ≡ true) ⊎ (R m k && R k q ≡ true)
        → ((p m q : ℕ) → m < k → R p m ≡ true → R m q ≡ true → R p q ≡ true) → R p q || R p k && R k q ≡ true
    go (inl e) x y less = joined (to_k (rw e at x)) (from_k (rw e at y))
    go (inr h) (inl x) (inl y) less = or_left (R p k && R k q) (less p m q h x y)
    go (inr h) (inl x) (inr y) less = joined (less p m k h x (and_left (R m k) (R k q) y)) (and_right (R m k) (R k q) y)
    go (inr h) (inr x) (inl y) less = joined (and_left (R p k) (R k m) x) (less k m q h (and_right (R p k) (R k m) x) y)
    go (inr h) (inr x) (inr y) less = joined (and_left (R p k) (R k m) x) (and_right (R m k) (R k q) y)

-- where every row that holds anything is of a place below n
pub reach_complete : (n : ℕ) (H : History) → ((p q : ℕ) → H p q ≡ true → p < n) → {q p : ℕ} → Before H q p → reach n H p q ≡ true
reach_complete n H s (heard {q = q} {p = p} e) = reach_heard n H p q e
reach_complete n H s (through {q = q} {m = m} {p = p} e b) = reach_trans n H p m q (s m q e) (reach_complete n H s b) (reach_heard n H m q e)
