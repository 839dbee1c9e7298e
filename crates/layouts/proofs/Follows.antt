-- A section that has all its bytes gives the same where more follow: they are only added to what it leaves. Assumes nothing.
use Rattle.refusals.specs.declared.Refusal.{Refusal}
use Rattle.refusals.specs.declared.Refusal.TheVariants as R
use Rattle.std.specs.Prelude.{Result, Ok, Err}
use mathlib.Core.Path.{◌≡◌, refl, sym, ap, ◌∙◌}
use mathlib.Core.Bool.{Bool, true, false, not}
use mathlib.Core.List.{List, [], ◌∷◌, ◌++◌}
use Prim.Native.Nat.{ℕ, suc, ◌≤◌}
use native.Mathlib.Omega.{arith}
use lib.ListN.{length}
use lib.Dec.{eqb}
use borrow.Author.Tests.{le-leb}
use Rattle.layouts.specs.Layout.{Parsed, got, refused, then, check, byte, word_at, serial}
use Rattle.layouts.proofs.Layouts.{check_yes}

-- what a section gives where more bytes follow
abbrev pub onto : {A : Type 0} → List ℕ → Parsed A → Parsed A
onto more (got a rest) = got a (rest ++ more)
onto more (refused j) = refused j

pub check_onto : {A : Type 0} (b : Bool) (j : Refusal) (more : List ℕ) (p q : Parsed A) → p ≡ onto more q → check b j p ≡ onto more (check b j q)
unfolding check
check_onto true j more p q e = e
check_onto false j more p q e = refl

pub then_onto : {A B : Type 0} (more : List ℕ) (p q : Parsed A) (next : A → List ℕ → Parsed B) → p ≡ onto more q
    → ((a : A) (s : List ℕ) → q ≡ got a s → next a (s ++ more) ≡ onto more (next a s)) → then p next ≡ onto more (then q next)
unfolding then
then_onto more p (got a s) next e h = rw e (h a s refl)
then_onto more p (refused j) next e h = rw e

pub byte_onto : (s more : List ℕ) → 1 ≤ length s → byte (s ++ more) ≡ onto more (byte s)
unfolding byte
byte_onto [] more h = absurd (omega arith)
byte_onto (x ∷ s) more h = refl

-- four bytes that are there, as a number
pub serial_four : (a b c d : ℕ) (t : List ℕ) → serial (a ∷ b ∷ c ∷ d ∷ t) ≡ check (not (eqb (word_at (a ∷ b ∷ c ∷ d ∷ []) 0) 0)) R.ZeroSerial (got (word_at (a ∷ b ∷ c ∷ d ∷ []) 0) t)
unfolding serial
serial_four a b c d t = check_yes _ R.EndsEarly _ (le-leb 4 (suc (suc (suc (suc (length t))))) (omega arith))

pub serial_onto : (s more : List ℕ) → 4 ≤ length s → serial (s ++ more) ≡ onto more (serial s)
serial_onto [] more h = absurd (omega arith)
serial_onto (a ∷ []) more h = absurd (omega arith)
serial_onto (a ∷ b ∷ []) more h = absurd (omega arith)
serial_onto (a ∷ b ∷ c ∷ []) more h = absurd (omega arith)
serial_onto (a ∷ b ∷ c ∷ d ∷ t) more h =
    let w : ℕ = word_at (a ∷ b ∷ c ∷ d ∷ []) 0 in
    serial_four a b c d (t ++ more) ∙ check_onto (not (eqb w 0)) R.ZeroSerial more (got w (t ++ more)) (got w t) refl ∙ ap (onto more) (sym (serial_four a b c d t))
