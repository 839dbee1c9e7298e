-- Laws of lists of serials: where a serial stands, and lists in which none is 0 and no two are alike. Assumes nothing.
use mathlib.Core.Path.{◌≡◌, refl, sym, ap, ◌∙◌}
use mathlib.Core.Bool.{Bool, true, false, cond}
use mathlib.Core.List.{List, [], ◌∷◌, ◌++◌}
use Prim.Native.Nat.{ℕ, zero, suc, ◌+◌, ◌≤◌, ◌<◌}
use native.Mathlib.Nat.{le_of_suc-le-suc}
use native.Mathlib.Omega.{arith}
use native.Mathlib.Decide.{dec_lt}
use lib.ListN.{length, get_or, length-append, get_or-append}
use lib.Seq.{get_or_at, get_or-append_seam}
use lib.Dec.{eqb, ltb}
use borrow.Author.Tests.{ltb-true, ltb-false, lt-ltb, le-ltb, eqb-true, ne_eqb}
use Rattle.sets.proofs.Booleans.{eqb_self}
use Rattle.serials.specs.Rosters.{place_of, holds, IsRoster}

-- ---- the place of a serial

-- a place that is on the list holds the serial
pub place_at_lem : (x : ℕ) (s : List ℕ) → place_of x s < length s → get_or s (place_of x s) 0 ≡ x
unfolding place_of
place_at_lem x [] l = absurd (omega arith)
place_at_lem x (y ∷ ys) l = go (eqb y x) refl (place_at_lem x ys) l
  where
    go : (b : Bool) → eqb y x ≡ b → (place_of x ys < length ys → get_or ys (place_of x ys) 0 ≡ x)
        → cond b 0 (suc (place_of x ys)) < suc (length ys) → get_or (y ∷ ys) (cond b 0 (suc (place_of x ys))) 0 ≡ x
    go true e rest l = eqb-true y x e
    go false e rest l = rest (le_of_suc-le-suc l)

-- it is the first one
pub place_first : (x : ℕ) (s : List ℕ) (p : ℕ) → p < length s → get_or s p 0 ≡ x → place_of x s ≤ p
unfolding place_of
place_first x [] p l e = absurd (omega arith)
place_first x (y ∷ ys) zero l e = rw (e, eqb_self x) (omega arith)
place_first x (y ∷ ys) (suc p) l e = go (eqb y x) (place_first x ys p (omega arith) e)
  where
    go : (b : Bool) → place_of x ys ≤ p → cond b 0 (suc (place_of x ys)) ≤ suc p
    go true h = omega arith
    go false h = omega arith

-- where no two are alike, it is the only one
pub place_own : (s : List ℕ) → ((p q : ℕ) → p < q → q < length s → ¬ (get_or s p 0 ≡ get_or s q 0)) → (p : ℕ) → p < length s → place_of (get_or s p 0) s ≡ p
unfolding place_of
place_own [] d p l = absurd (omega arith)
place_own (y ∷ ys) d zero l = rw (eqb_self y)
place_own (y ∷ ys) d (suc p) l =
    rw (ne_eqb y (get_or ys p 0) (d 0 (suc p) (omega arith) l)) (ap suc (place_own ys (λ a b m n. d (suc a) (suc b) (omega arith) (omega arith)) p (omega arith)))

-- ---- whether a serial stands in a list

pub holds_below : (x : ℕ) (s : List ℕ) → holds x s ≡ true → place_of x s < length s
unfolding holds
holds_below x s e = ltb-true (place_of x s) (length s) e

pub below_holds : (x : ℕ) (s : List ℕ) → place_of x s < length s → holds x s ≡ true
unfolding holds
below_holds x s l = lt-ltb (place_of x s) (length s) l

-- at no position where it does not
pub holds_nowhere : (x : ℕ) (s : List ℕ) → holds x s ≡ false → (p : ℕ) → p < length s → ¬ (get_or s p 0 ≡ x)
unfolding holds
holds_nowhere x s h p l e = omega (arith, ltb-false (place_of x s) (length s) h, place_first x s p l e)

pub nowhere_holds : (x : ℕ) (s : List ℕ) → ((p : ℕ) → p < length s → ¬ (get_or s p 0 ≡ x)) → holds x s ≡ false
unfolding holds
nowhere_holds x s h = go (dec_lt (place_of x s) (length s))
  where
    go : Dec (place_of x s < length s) → ltb (place_of x s) (length s) ≡ false
    go (yes l) = absurd (h (place_of x s) l (place_at_lem x s l))
    go (no l) = le-ltb (place_of x s) (length s) (omega arith)

-- ---- no serial is 0, no two are alike

pub record Apart (s : List ℕ) : Type 0 where
  pub no_zero : (p : ℕ) → p < length s → ¬ (get_or s p 0 ≡ 0)
  pub no_repeat : (p q : ℕ) → p < q → q < length s → ¬ (get_or s p 0 ≡ get_or s q 0)

pub apart_nil : Apart []
apart_nil = record { no_zero = λ p l. absurd (omega arith); no_repeat = λ p q l m. absurd (omega arith) }

-- one more at the end
pub apart_more : (s : List ℕ) (x : ℕ) → Apart s → ¬ (x ≡ 0) → holds x s ≡ false → Apart (s ++ (x ∷ []))
apart_more s x a z h = record { no_zero = no_zero; no_repeat = no_repeat }
  where
    all : length (s ++ (x ∷ [])) ≡ length s + 1
    all = length-append s (x ∷ [])

    early : (p : ℕ) → p < length s → get_or (s ++ (x ∷ [])) p 0 ≡ get_or s p 0
    early p l = get_or-append s (x ∷ []) 0 p l

    last : (p : ℕ) → length s ≡ p → get_or (s ++ (x ∷ [])) p 0 ≡ x
    last p e = get_or_at s x [] 0 p e

    no_zero : (p : ℕ) → p < length (s ++ (x ∷ [])) → ¬ (get_or (s ++ (x ∷ [])) p 0 ≡ 0)
    no_zero p l e = go (dec_lt p (length s))
      where
        go : Dec (p < length s) → ⊥
        go (yes m) = a.no_zero p m (sym (early p m) ∙ e)
        go (no m) = z (sym (last p (omega (arith, all))) ∙ e)

    no_repeat : (p q : ℕ) → p < q → q < length (s ++ (x ∷ [])) → ¬ (get_or (s ++ (x ∷ [])) p 0 ≡ get_or (s ++ (x ∷ [])) q 0)
    no_repeat p q l m e = go (dec_lt q (length s))
      where
        front : p < length s
        front = omega (arith, all)

        go : Dec (q < length s) → ⊥
        go (yes n) = a.no_repeat p q l n (sym (early p front) ∙ e ∙ early q n)
        go (no n) = holds_nowhere x s h p front (sym (early p front) ∙ e ∙ last q (omega (arith, all)))

-- one that stands at a seam is not before it
pub apart_seam : (s : List ℕ) (x : ℕ) (t : List ℕ) → Apart (s ++ (x ∷ t)) → holds x s ≡ false
apart_seam s x t a = nowhere_holds x s (λ p l e. a.no_repeat p (length s) l (omega (arith, length-append s (x ∷ t))) (get_or-append s (x ∷ t) 0 p l ∙ e ∙ sym (get_or-append_seam s x t 0)))

pub roster_apart : (s : List ℕ) → IsRoster s → Apart s
roster_apart s r = record { no_zero = r.no_zero; no_repeat = r.no_repeat }
