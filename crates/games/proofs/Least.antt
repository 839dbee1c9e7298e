-- The least and the greatest of some numbers, one number after another. Assumes nothing.
use mathlib.Core.Path.{◌≡◌, refl, sym, ap, ap₂, ◌∙◌}
use mathlib.Core.Bool.{Bool, true, false, not, cond, ◌&&◌, and-true, and-false}
use mathlib.Core.Logic.{◌⊎◌, inl, inr}
use Prim.Native.Nat.{ℕ, zero, suc, ◌+◌, ◌≤◌, ◌<◌, min, max}
use native.Mathlib.Numerals.{add-one}
use native.Mathlib.Omega.{arith}
use lib.Dec.{eqb, leb}
use borrow.Author.Tests.{ne_eqb, eq-eqb, leb-true, leb-false}
use Rattle.sets.specs.Sets.{Places, without, lowest}
use Rattle.sets.proofs.Booleans.{minus_elim}
use Rattle.sets.proofs.Tests.{last_or_below, lowest_below, lowest_member, lowest_is}
use Rattle.games.specs.Games.{least_with, least, greatest}
use Rattle.games.specs.Choices.{IsLeast, IsGreatest}

-- ---- the least

-- it depends on nothing but the members below n
least_same : (n : ℕ) (A B : Places) (f : ℕ → ℕ) (m : ℕ) → ((k : ℕ) → k < n → A k ≡ B k) → least_with n A f m ≡ least_with n B f m
unfolding least_with
least_same zero A B f m h = refl
least_same (suc n) A B f m h =
    ap₂ (λ (b : Bool) (x : ℕ). cond b (min (f n) x) x) (h n (omega arith)) (least_same n A B f m (λ k l. h k (omega arith)))

-- the number that it starts with may be looked at last
least_start : (n : ℕ) (S : Places) (f : ℕ → ℕ) (m x : ℕ) → least_with n S f (min m x) ≡ min (least_with n S f m) x
unfolding least_with
least_start zero S f m x = refl
least_start (suc n) S f m x = go (S n) (least_start n S f m x)
  where
    go : (b : Bool) → least_with n S f (min m x) ≡ min (least_with n S f m) x
        → cond b (min (f n) (least_with n S f (min m x))) (least_with n S f (min m x)) ≡ min (cond b (min (f n) (least_with n S f m)) (least_with n S f m)) x
    go true e = omega arith
    go false e = e

-- without p, another place is a member exactly if it was one, and p is none
rest_other : (S : Places) (p k : ℕ) → (k ≡ p → ⊥) → S k ≡ without p S k
rest_other S p k d = sym (ap (λ (b : Bool). S k && not b) (ne_eqb k p d) ∙ and-true (S k))

rest_own : (S : Places) (p k : ℕ) → p ≡ k → without p S k ≡ false
rest_own S p k e = ap (λ (b : Bool). S k && not b) (eq-eqb k p (sym e)) ∙ and-false (S k)

-- a member may be looked at first
least_taken : (n : ℕ) (S : Places) (f : ℕ → ℕ) (m p : ℕ) → p < n → S p ≡ true → least_with n S f m ≡ least_with n (without p S) f (min m (f p))
unfolding least_with
least_taken zero S f m p l e = absurd (omega arith)
least_taken (suc n) S f m p l e = go (last_or_below p n l) (λ q. least_taken n S f m p q e)
  where
    go : (p ≡ n) ⊎ (p < n) → (p < n → least_with n S f m ≡ least_with n (without p S) f (min m (f p)))
        → cond (S n) (min (f n) (least_with n S f m)) (least_with n S f m)
        ≡ cond (without p S n) (min (f n) (least_with n (without p S) f (min m (f p)))) (least_with n (without p S) f (min m (f p)))
    go (inl q) below =
        let here : S n ≡ true = ap S (sym q) ∙ e in
        let gone : without p S n ≡ false = rest_own S p n q in
        let same : least_with n (without p S) f (min m (f p)) ≡ min (least_with n S f m) (f p) =
        sym (least_same n S (without p S) f (min m (f p)) (λ k b. rest_other S p k (λ d. omega arith))) ∙ least_start n S f m (f p) in
        let at : f p ≡ f n = ap f q in
        let swapped : min (f n) (least_with n S f m) ≡ min (least_with n S f m) (f p) = omega arith in
        ap (λ (b : Bool). cond b (min (f n) (least_with n S f m)) (least_with n S f m)) here ∙ swapped ∙ sym same
        ∙ sym (ap (λ (b : Bool). cond b (min (f n) (least_with n (without p S) f (min m (f p)))) (least_with n (without p S) f (min m (f p)))) gone)
    go (inr q) below =
        ap₂ (λ (b : Bool) (x : ℕ). cond b (min (f n) x) x) (rest_other S p n (λ d. omega arith)) (below q)

-- with no member it is the number that it starts with
least_none : (n : ℕ) (S : Places) (f : ℕ → ℕ) (m : ℕ) → ((k : ℕ) → k < n → S k ≡ false) → least_with n S f m ≡ m
unfolding least_with
least_none zero S f m h = refl
least_none (suc n) S f m h =
    ap₂ (λ (b : Bool) (x : ℕ). cond b (min (f n) x) x) (h n (omega arith)) (least_none n S f m (λ k l. h k (omega arith)))

-- it is at most that number
least_below : (n : ℕ) (S : Places) (f : ℕ → ℕ) (m : ℕ) → least_with n S f m ≤ m
unfolding least_with
least_below zero S f m = omega arith
least_below (suc n) S f m = go (S n) (least_below n S f m)
  where
    go : (b : Bool) → least_with n S f m ≤ m → cond b (min (f n) (least_with n S f m)) (least_with n S f m) ≤ m
    go true l = omega arith
    go false l = l

-- so where none of the numbers is above k, neither is the least
pub least_bound : (n : ℕ) (S : Places) (f : ℕ → ℕ) (k : ℕ) → ((p : ℕ) → f p ≤ k) → least n S f ≤ k
unfolding least
least_bound n S f k h = omega (arith, least_below n S f (f (lowest n S)), h (lowest n S))

-- it is at most the number of each member
least_member : (n : ℕ) (S : Places) (f : ℕ → ℕ) (m p : ℕ) → p < n → S p ≡ true → least_with n S f m ≤ f p
least_member n S f m p l e = omega (arith, least_taken n S f m p l e, least_below n (without p S) f (min m (f p)))

-- and at least what they all are at least
least_above : (n : ℕ) (S : Places) (f : ℕ → ℕ) (m v : ℕ) → v ≤ m → ((q : ℕ) → q < n → S q ≡ true → v ≤ f q) → v ≤ least_with n S f m
unfolding least_with
least_above zero S f m v l h = l
least_above (suc n) S f m v l h = go (S n) refl (least_above n S f m v l (λ q b. h q (omega arith)))
  where
    go : (b : Bool) → S n ≡ b → v ≤ least_with n S f m → v ≤ cond b (min (f n) (least_with n S f m)) (least_with n S f m)
    go true e x = omega (arith, h n (omega arith) e)
    go false e x = x

-- so it is the number of one member that is not above that of any
pub least_is : (n : ℕ) (S : Places) (f : ℕ → ℕ) (p v : ℕ) → p < n → S p ≡ true → f p ≡ v → ((q : ℕ) → q < n → S q ≡ true → v ≤ f q) → least n S f ≡ v
unfolding least
least_is n S f p v l e is h =
    let low = lowest_below n S p l e in
    omega (arith, least_member n S f (f (lowest n S)) p l e, least_above n S f (f (lowest n S)) v (h (lowest n S) low (lowest_member n S low)) h)

-- what holds at each turn: the places of `left` are still to be looked at, and the least of the others is `best`
pub record Looking (n : ℕ) (S : Places) (f : ℕ → ℕ) (left : Places) (best : ℕ) : Type 0 where
  pub listed : (q : ℕ) → left q ≡ true → S q ≡ true
  pub rest : least n S f ≡ least_with n left f best

-- the lowest member is looked at first
pub looking_first : (n : ℕ) (S : Places) (f : ℕ → ℕ) (p : ℕ) → p < n → S p ≡ true → ((j : ℕ) → j < p → S j ≡ false)
    → (left : Places) → left ≡ without p S → (best : ℕ) → best ≡ f p → Looking n S f left best
unfolding least
looking_first n S f p l e none left is best b = record {
  listed = λ q h. (minus_elim (S q) (eqb q p) (sym (ap (λ (T : Places). T q) is) ∙ h)).0;
  rest =
      let twice : min (f p) (f p) ≡ best = omega arith in
      ap (λ (q : ℕ). least_with n S f (f q)) (lowest_is n S p l e none) ∙ least_taken n S f (f p) p l e
      ∙ ap₂ (λ (T : Places) (m : ℕ). least_with n T f m) (sym is) twice;
}

-- and any other after it
pub looking_next : (n : ℕ) (S : Places) (f : ℕ → ℕ) (left : Places) (best : ℕ) → Looking n S f left best → (p : ℕ) → p < n → left p ≡ true
    → (after : Places) → after ≡ without p left → (x y : ℕ) → x ≡ f p → y ≡ min best x → Looking n S f after y
looking_next n S f left best g p l e after is x y b c = record {
  listed = λ q h. g.listed q (minus_elim (left q) (eqb q p) (sym (ap (λ (T : Places). T q) is) ∙ h)).0;
  rest =
      g.rest ∙ least_taken n left f best p l e
      ∙ ap₂ (λ (T : Places) (m : ℕ). least_with n T f m) (sym is) (sym (c ∙ ap (min best) b));
}

-- with none left the least is known
pub looking_done : (n : ℕ) (S : Places) (f : ℕ → ℕ) (left : Places) (best : ℕ) → Looking n S f left best → ((k : ℕ) → k < n → left k ≡ false) → least n S f ≡ best
looking_done n S f left best g none = g.rest ∙ least_none n left f best none

-- ---- the greatest

pub greatest_none : (f : ℕ → ℕ) → 0 ≡ greatest 0 f
unfolding greatest
greatest_none f = refl

-- the next number is looked at
pub greatest_next : (f : ℕ → ℕ) (j m x y : ℕ) → m ≡ greatest j f → x ≡ f j → y ≡ max m x → y ≡ greatest (j + 1) f
unfolding greatest
greatest_next f j m x y e g h = rw (add-one j) (h ∙ ap₂ max e g)

-- where it is 0 the greatest stays
pub greatest_stays : (f : ℕ → ℕ) (j m : ℕ) → m ≡ greatest j f → f j ≡ 0 → m ≡ greatest (j + 1) f
greatest_stays f j m e z = greatest_next f j m 0 m e (sym z) (omega arith)

-- where none of the numbers is above k, neither is the greatest
pub greatest_bound : (n : ℕ) (f : ℕ → ℕ) (k : ℕ) → ((j : ℕ) → j < n → f j ≤ k) → greatest n f ≤ k
unfolding greatest
greatest_bound zero f k h = omega arith
greatest_bound (suc n) f k h = omega (arith, greatest_bound n f k (λ j l. h j (omega arith)), h n (omega arith))

-- it is at least each of the numbers
greatest_above : (n : ℕ) (f : ℕ → ℕ) (i : ℕ) → i < n → f i ≤ greatest n f
unfolding greatest
greatest_above zero f i l = absurd (omega arith)
greatest_above (suc n) f i l = go (last_or_below i n l) (greatest_above n f i)
  where
    go : (i ≡ n) ⊎ (i < n) → (i < n → f i ≤ greatest n f) → f i ≤ max (greatest n f) (f n)
    go (inl e) below = let g : f i ≡ f n = ap f e in omega arith
    go (inr b) below = omega (arith, below b)

-- so it is one of them that none is above
pub greatest_is : (n : ℕ) (f : ℕ → ℕ) (i v : ℕ) → i < n → f i ≡ v → ((j : ℕ) → j < n → f j ≤ v) → greatest n f ≡ v
greatest_is n f i v l e h = omega (arith, greatest_above n f i l, greatest_bound n f v h)

-- ---- both are what they are called

le_cases : (a b : ℕ) → (a ≤ b) ⊎ (b ≤ a)
le_cases a b = go (leb a b) refl
  where
    go : (t : Bool) → leb a b ≡ t → (a ≤ b) ⊎ (b ≤ a)
    go true e = inl (leb-true a b e)
    go false e = let z : b < a = leb-false a b e in inr (omega arith)

least_reached : (n : ℕ) (S : Places) (f : ℕ → ℕ) (m : ℕ) → (least_with n S f m ≡ m) ⊎ ((p : ℕ) × (p < n) × (S p ≡ true) × (f p ≡ least_with n S f m))
unfolding least_with
least_reached zero S f m = inl refl
least_reached (suc n) S f m = go (S n) refl (least_reached n S f m)
  where
    x : ℕ
    x = least_with n S f m

    go : (b : Bool) → S n ≡ b → (x ≡ m) ⊎ ((p : ℕ) × (p < n) × (S p ≡ true) × (f p ≡ x))
        → (cond b (min (f n) x) x ≡ m) ⊎ ((p : ℕ) × (p < suc n) × (S p ≡ true) × (f p ≡ cond b (min (f n) x) x))
    go true e (inl h) = either (le_cases (f n) x)
      where
        either : (f n ≤ x) ⊎ (x ≤ f n) → (min (f n) x ≡ m) ⊎ ((p : ℕ) × (p < suc n) × (S p ≡ true) × (f p ≡ min (f n) x))
        either (inl l) = inr (n, omega arith, e, omega arith)
        either (inr l) = inl (omega arith)
    go true e (inr (p, l, s, h)) = either (le_cases (f n) x)
      where
        either : (f n ≤ x) ⊎ (x ≤ f n) → (min (f n) x ≡ m) ⊎ ((p : ℕ) × (p < suc n) × (S p ≡ true) × (f p ≡ min (f n) x))
        either (inl d) = inr (n, omega arith, e, omega arith)
        either (inr d) = inr (p, omega arith, s, omega arith)
    go false e (inl h) = inl h
    go false e (inr (p, l, s, h)) = inr (p, omega arith, s, h)

pub least_least : (n : ℕ) (S : Places) (f : ℕ → ℕ) (p : ℕ) → p < n → S p ≡ true → IsLeast n S f (least n S f)
unfolding least
least_least n S f p l e = go (least_reached n S f (f (lowest n S)))
  where
    low : lowest n S < n
    low = lowest_below n S p l e

    each : (q : ℕ) → q < n → S q ≡ true → least_with n S f (f (lowest n S)) ≤ f q
    each q = least_member n S f (f (lowest n S)) q

    go : (least_with n S f (f (lowest n S)) ≡ f (lowest n S)) ⊎ ((p : ℕ) × (p < n) × (S p ≡ true) × (f p ≡ least_with n S f (f (lowest n S))))
        → IsLeast n S f (least_with n S f (f (lowest n S)))
    go (inl h) = record { no_less = each; place = lowest n S; on = low; member = lowest_member n S low; reached = sym h }
    go (inr (q, a, b, c)) = record { no_less = each; place = q; on = a; member = b; reached = c }

pub greatest_greatest : (n : ℕ) (f : ℕ → ℕ) → IsGreatest (suc n) f (greatest (suc n) f)
unfolding greatest
greatest_greatest zero f = record { no_greater = λ j l. let z : j ≡ 0 = omega arith in rw z (omega arith); number = 0; on = omega arith; reached = omega arith }
greatest_greatest (suc n) f = go (greatest_greatest n f)
  where
    x : ℕ
    x = max (greatest n f) (f n)

    go : IsGreatest (suc n) f x → IsGreatest (suc (suc n)) f (max x (f (suc n)))
    go w = either (le_cases x (f (suc n)))
      where
        each : (j : ℕ) → j < suc (suc n) → f j ≤ max x (f (suc n))
        each j l = which (last_or_below j (suc n) l)
          where
            which : (j ≡ suc n) ⊎ (j < suc n) → f j ≤ max x (f (suc n))
            which (inl z) = rw z (omega arith)
            which (inr z) = omega (arith, w.no_greater j z)

        either : (x ≤ f (suc n)) ⊎ (f (suc n) ≤ x) → IsGreatest (suc (suc n)) f (max x (f (suc n)))
        either (inl l) = record { no_greater = each; number = suc n; on = omega arith; reached = omega arith }
        either (inr l) = record { no_greater = each; number = w.number; on = omega (arith, w.on); reached = w.reached ∙ omega arith }
