-- Facts about truth values. Assumes nothing.
use mathlib.Core.Path.{◌≡◌, refl, sym, ◌∙◌}
use mathlib.Core.Logic.{◌⊎◌, inl, inr}
use mathlib.Core.Bool.{Bool, true, false, not, ◌&&◌, ◌||◌, beq, true≢false, false≢true}
use Prim.Native.Nat.{ℕ}
use lib.Dec.{eqb}
use borrow.Author.Tests.{eq-eqb}

-- one of two ways
pub split : (b : Bool) → (b ≡ true) ⊎ (b ≡ false)
split true = inl refl
split false = inr refl

-- never both, so anything follows
pub clash : {A : Type 0} {b : Bool} → b ≡ true → b ≡ false → A
clash p q = absurd (true≢false (sym p ∙ q))

pub is_false : (b : Bool) → (b ≡ true → ⊥) → b ≡ false
is_false true h = absurd (h refl)
is_false false h = refl

pub is_true : (b : Bool) → (b ≡ false → ⊥) → b ≡ true
is_true true h = refl
is_true false h = absurd (h refl)

-- two truth values, each true where the other is
pub both_ways : (a b : Bool) → (a ≡ true → b ≡ true) → (b ≡ true → a ≡ true) → a ≡ b
both_ways true b f g = sym (f refl)
both_ways false true f g = g refl
both_ways false false f g = refl

pub and_intro : {a b : Bool} → a ≡ true → b ≡ true → a && b ≡ true
and_intro p q = rw (p, q)

pub and_left : (a b : Bool) → a && b ≡ true → a ≡ true
and_left true b e = refl
and_left false b e = e

pub and_right : (a b : Bool) → a && b ≡ true → b ≡ true
and_right true b e = e
and_right false b e = absurd (false≢true e)

pub or_cases : (a b : Bool) → a || b ≡ true → (a ≡ true) ⊎ (b ≡ true)
or_cases true b e = inl refl
or_cases false b e = inr e

pub or_left : {a : Bool} (b : Bool) → a ≡ true → a || b ≡ true
or_left b p = rw p

pub or_right : (a : Bool) {b : Bool} → b ≡ true → a || b ≡ true
or_right true q = refl
or_right false q = q

pub not_true : (a : Bool) → not a ≡ true → a ≡ false
not_true true e = sym e
not_true false e = refl

pub not_intro : {a : Bool} → a ≡ false → not a ≡ true
not_intro p = rw p

-- `not a || b`: a implies b
pub implies_elim : (a b : Bool) → not a || b ≡ true → a ≡ true → b ≡ true
implies_elim true b e h = e
implies_elim false b e h = absurd (false≢true h)

pub implies_intro : (a b : Bool) → (a ≡ true → b ≡ true) → not a || b ≡ true
implies_intro true b h = h refl
implies_intro false b h = refl

-- `a && not b`: a and not b
pub minus_elim : (a b : Bool) → a && not b ≡ true → (a ≡ true) × (b ≡ false)
minus_elim true true e = absurd (false≢true e)
minus_elim true false e = (refl, refl)
minus_elim false b e = absurd (false≢true e)

pub minus_intro : {a b : Bool} → a ≡ true → b ≡ false → a && not b ≡ true
minus_intro p q = rw (p, q)

pub beq_elim : (a b : Bool) → beq a b ≡ true → a ≡ b
beq_elim true true e = refl
beq_elim true false e = sym e
beq_elim false true e = e
beq_elim false false e = refl

pub beq_intro : (a b : Bool) → a ≡ b → beq a b ≡ true
beq_intro true true e = refl
beq_intro true false e = sym e
beq_intro false true e = e
beq_intro false false e = refl

pub eqb_self : (a : ℕ) → eqb a a ≡ true
eqb_self a = eq-eqb a a refl
