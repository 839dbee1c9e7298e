-- The records of a place by their numbers: every kind and every set of the roster's places has one. Assumes nothing.
use mathlib.Core.Path.{◌≡◌, sym, ap, ◌∙◌, fun_ext}
use mathlib.Core.Bool.{true}
use Prim.Native.Nat.{ℕ, ◌+◌, ◌*◌, ◌/◌, ◌%◌, ◌^◌, ◌<◌}
use native.Mathlib.Omega.{arith}
use native.Mathlib.Decide.{dec_lt}
use borrow.Author.Tests.{eq-eqb, ne_eqb}
use Rattle.sets.specs.Sets.{nothing}
use Rattle.sets.specs.PlaceSets.{bit, word}
use Rattle.sets.proofs.Booleans.{is_false}
use Rattle.sets.proofs.Digits.{bit_high, bit_word, word_less}
use Rattle.histories.specs.declared.Kind.{Kind}
use Rattle.histories.specs.declared.Kind.TheVariants.{Full, Short}
use Rattle.histories.specs.Histories.{Row}
use Rattle.calls.specs.declared.Recovery.{Recovery}
use Rattle.calls.specs.Promises.{size_of}
use Rattle.games.specs.Games.{kind_numbered, record_count}

pub kind_even : (j : ℕ) → j % 2 ≡ 0 → Full ≡ kind_numbered j
unfolding kind_numbered
kind_even j e = rw (eq-eqb (j % 2) 0 e)

pub kind_odd : (j : ℕ) → (j % 2 ≡ 0 → ⊥) → Short ≡ kind_numbered j
unfolding kind_numbered
kind_odd j e = rw (ne_eqb (j % 2) 0 e)

-- the record of a place with this kind and this mourned set has a number
pub record HasNumber (r : Recovery) (k : Kind) (M : Row) : Type 0 where
  pub number : ℕ
  pub less : number < record_count r
  pub kind : kind_numbered number ≡ k
  pub mourned : bit (number / 2) ≡ M

-- the digits of the number of a set of a roster's places are its members
word_digits : (n : ℕ) (M : Row) → ((q : ℕ) → M q ≡ true → q < n) → bit (word n M) ≡ M
word_digits n M inside = fun_ext (λ q. go q (dec_lt q n))
  where
    go : (q : ℕ) → Dec (q < n) → bit (word n M) q ≡ M q
    go q (yes l) = bit_word n M q l
    go q (no l) = bit_high (word n M) n q (word_less n M) (omega arith) ∙ sym (is_false (M q) (λ e. l (inside q e)))

pub has_number : (r : Recovery) (k : Kind) (M : Row) → ((q : ℕ) → M q ≡ true → q < size_of r) → HasNumber r k M
unfolding record_count
has_number r k M inside = go k
  where
    w : ℕ
    w = word (size_of r) M

    go : (k : Kind) → HasNumber r k M
    go Full =
        let half : 2 * w / 2 ≡ w = omega arith in
        record { number = 2 * w; less = omega (arith, word_less (size_of r) M); kind = sym (kind_even (2 * w) (omega arith)); mourned = ap bit half ∙ word_digits (size_of r) M inside }
    go Short =
        let half : (2 * w + 1) / 2 ≡ w = omega arith in
        record { number = 2 * w + 1; less = omega (arith, word_less (size_of r) M); kind = sym (kind_odd (2 * w + 1) (λ e. omega arith)); mourned = ap bit half ∙ word_digits (size_of r) M inside }

-- half of a number has no digit past the roster
pub half_less : (r : Recovery) (j : ℕ) → j < record_count r → j / 2 < 2 ^ size_of r
unfolding record_count
half_less r j l = omega arith

pub some_numbers : (r : Recovery) → 0 < record_count r
unfolding record_count
some_numbers r = omega (arith, word_less (size_of r) nothing)
