-- The parser at a position of the bytes: what a section finds there, and what it leaves. Nothing else looks at bytes.
-- Assumes nothing.
use Rattle.refusals.specs.declared.Refusal.{Refusal}
use Rattle.refusals.specs.declared.Refusal.TheVariants as R
use Rattle.std.specs.Prelude.{Result, Ok, Err}
use mathlib.Core.Path.{◌≡◌, refl, sym, ap, ◌∙◌}
use mathlib.Core.Bool.{Bool, true, false, not}
use mathlib.Core.List.{List, [], ◌∷◌, ◌++◌}
use Prim.Native.Nat.{ℕ, zero, suc, ◌+◌, ◌*◌, ◌≤◌, ◌<◌}
use native.Mathlib.Nat.{add-zero}
use native.Mathlib.Numerals.{add-one}
use native.Mathlib.Omega.{arith}
use lib.Dec.{eqb, leb}
use lib.ListN.{length, get_or, drop, length-drop, drop_of_length-le}
use lib.Seq.{drop-cons, drop-drop, get_or-drop}
use borrow.Author.Tests.{le-leb, lt-leb, eq-eqb, ne_eqb}
use Rattle.layouts.specs.Layout.{Parsed, refused, then, check, byte, word_at, serial}
use Rattle.layouts.specs.Records.{serials}

pub check_yes : {A : Type 0} (b : Bool) (j : Refusal) (p : Parsed A) → b ≡ true → check b j p ≡ p
unfolding check
check_yes true j p e = refl
check_yes false j p e = cc

pub check_no : {A : Type 0} (b : Bool) (j : Refusal) (p : Parsed A) → b ≡ false → check b j p ≡ refused j
unfolding check
check_no true j p e = cc
check_no false j p e = refl

pub word_drop : (s : List ℕ) (p : ℕ) → word_at (drop p s) 0 ≡ word_at s p
word_drop s p = simp (get_or-drop, add-zero)

-- the section at position p of s, and what follows it
module _ {A : Type 0} (s : List ℕ) (p : ℕ) (next : ℕ → List ℕ → Parsed A) where
  pub byte_early : length s ≤ p → then (byte (drop p s)) next ≡ refused R.EndsEarly
  unfolding then byte
  byte_early h = rw (drop_of_length-le s h)

  pub byte_got : p < length s → then (byte (drop p s)) next ≡ next (get_or s p 0) (drop (p + 1) s)
  unfolding then byte
  byte_got h = rw (add-one, drop-cons s p 0 h)

  pub serial_early : length s < p + 4 → then (serial (drop p s)) next ≡ refused R.EndsEarly
  unfolding then serial
  serial_early h =
      rw (check_no (leb 4 (length (drop p s))) R.EndsEarly _ (lt-leb 4 (length (drop p s)) (simp length-drop (omega arith))))

  -- x is the serial there
  module _ (h : p + 4 ≤ length s) (x : ℕ) (w : x ≡ word_at s p) where
    long : leb 4 (length (drop p s)) ≡ true
    long = le-leb 4 (length (drop p s)) (simp length-drop (omega arith))

    pub serial_zero : x ≡ 0 → then (serial (drop p s)) next ≡ refused R.ZeroSerial
    unfolding then serial
    serial_zero z =
        let e : not (eqb (word_at (drop p s) 0) 0) ≡ false = ap not (eq-eqb (word_at (drop p s) 0) 0 (word_drop s p ∙ sym w ∙ z)) in
        rw (check_yes (leb 4 (length (drop p s))) R.EndsEarly _ long, check_no (not (eqb (word_at (drop p s) 0) 0)) R.ZeroSerial _ e)

    pub serial_got : (x ≡ 0 → ⊥) → then (serial (drop p s)) next ≡ next x (drop (p + 4) s)
    unfolding then serial
    serial_got z =
        let e : not (eqb (word_at (drop p s) 0) 0) ≡ true = ap not (ne_eqb (word_at (drop p s) 0) 0 (λ q. z (w ∙ sym (word_drop s p) ∙ q))) in
        rw (check_yes (leb 4 (length (drop p s))) R.EndsEarly _ long, check_yes (not (eqb (word_at (drop p s) 0) 0)) R.ZeroSerial _ e)
        (rw drop-drop (ap (λ (v : ℕ). next v (drop (p + 4) s)) (word_drop s p ∙ sym w)))

-- ---- serials in a row

pub length_serials : (n : ℕ) (s : List ℕ) → length (serials n s) ≡ n
unfolding serials
length_serials zero s = refl
length_serials (suc n) s = ap suc (length_serials n (drop 4 s))

serials_last : (i : ℕ) (s : List ℕ) → serials (suc i) s ≡ serials i s ++ (word_at (drop (i * 4) s) 0 ∷ [])
unfolding serials
serials_last zero s = refl
serials_last (suc i) s =
    let q : 4 + i * 4 ≡ suc i * 4 = omega arith in
    ap (λ (l : List ℕ). word_at s 0 ∷ l)
    (serials_last i (drop 4 s) ∙ ap (λ (t : List ℕ). serials i (drop 4 s) ++ (word_at t 0 ∷ [])) (drop-drop (i * 4) 4 s ∙ ap (λ (k : ℕ). drop k s) q))

-- one more
pub serials_more : (s : List ℕ) (at i : ℕ) → serials (i + 1) (drop at s) ≡ serials i (drop at s) ++ (word_at s (at + i * 4) ∷ [])
serials_more s at i =
    rw (add-one i) (serials_last i (drop at s) ∙ ap (λ (w : ℕ). serials i (drop at s) ++ (w ∷ []))
    (ap (λ (t : List ℕ). word_at t 0) (drop-drop (i * 4) at s) ∙ word_drop s (at + i * 4)))
