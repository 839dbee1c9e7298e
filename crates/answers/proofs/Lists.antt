-- Result (Unit {0}) Refusal: what bytes laid into the front of a buffer leave, both cases, and the byte of an answer by two sets. Assumes nothing.
use Rattle.refusals.specs.declared.Refusal.{Refusal}
use Rattle.refusals.specs.declared.Refusal.TheVariants as R
use Rattle.std.specs.Prelude.{Result, Ok, Err}
use mathlib.Core.Path.{◌≡◌, refl, sym, ap, ◌∙◌}
use mathlib.Core.Bool.{Bool, true, false, not, cond, ◌&&◌}
use mathlib.Core.List.{List}
use Prim.Native.Nat.{ℕ, zero, suc, ◌+◌, ◌*◌, ◌<◌, ◌≤◌}
use native.Mathlib.Omega.{arith}
use native.Mathlib.Nat.{le_of_suc-le-suc}
use lib.ListN.{length, get_or, drop, get_or-append}
use lib.Seq.{drop_at}
use borrow.Author.Tests.{lt-ltb, lt-leb, le-leb}
use Rattle.sets.specs.Sets.{below, difference, any}
use Rattle.sets.specs.PlaceSets.{has}
use Rattle.sets.specs.declared.PlaceSet.{PlaceSet}
use Rattle.histories.specs.Histories.{Row, Accepted}
use Rattle.histories.specs.Rule.{answer_with, open_answer}
use Rattle.histories.specs.Kept.{blockers_by, answer_by, open_by}
use Rattle.answers.specs.Lists.{answer_byte, bytes_from, laid, ListedAll, listed_in, byte_by}
use Rattle.answers.proofs.Laying.{length_bytes, laid_same}

-- ---- what is laid

byte_from : (m p i : ℕ) (byte : ℕ → ℕ) → i < m → get_or (bytes_from m p byte) i 0 ≡ byte (p + i)
unfolding bytes_from
byte_from zero p i byte l = absurd (omega arith)
byte_from (suc m) p zero byte l = ap byte (omega arith)
byte_from (suc m) p (suc i) byte l = byte_from m (suc p) i byte (le_of_suc-le-suc l) ∙ ap byte (omega arith)

module _ (n : ℕ) (byte : ℕ → ℕ) (out : List ℕ) where
  pub laid_byte : (i : ℕ) → i < n → get_or (laid n byte out) i 0 ≡ byte i
  unfolding laid
  laid_byte i l =
      let m : i < length (bytes_from n 0 byte) = rw (length_bytes n 0 byte) l in
      get_or-append (bytes_from n 0 byte) (drop n out) 0 i m ∙ byte_from n 0 i byte l ∙ ap byte (omega arith)

  pub laid_rest : drop n (laid n byte out) ≡ drop n out
  unfolding laid
  laid_rest = drop_at (bytes_from n 0 byte) (drop n out) n (length_bytes n 0 byte)

-- ---- both cases

module _ (n : ℕ) (A : Accepted) (M F : Row) (out : List ℕ) where
  byte : ℕ → ℕ
  byte i = answer_byte (answer_by n A M F i)

  listed : Bool → ListedAll
  listed t = cond t (record { answer = Ok tt; buffer = laid n byte out }) (record { answer = Err R.TooShort; buffer = out })

  pub listed_short : length out < n → listed_in n A M F out ≡ record { answer = Err R.TooShort; buffer = out }
  unfolding listed_in listed byte
  listed_short l = ap listed (lt-leb n (length out) l)

  pub listed_laid : n ≤ length out → listed_in n A M F out ≡ record { answer = Ok tt; buffer = laid n (λ i. answer_byte (answer_by n A M F i)) out }
  unfolding listed_in listed byte
  listed_laid l = ap listed (le-leb n (length out) l)

  -- ---- what the code gives

  abbrev pub Gives : Result (Unit {0}) Refusal → List ℕ → Type 0
  Gives a after = (a ≡ (listed_in n A M F out).answer) × (after ≡ (listed_in n A M F out).buffer)

  said : {x : ListedAll} → listed_in n A M F out ≡ x → Gives x.answer x.buffer
  said e = (ap (λ (y : ListedAll). y.answer) (sym e), ap (λ (y : ListedAll). y.buffer) (sym e))

  pub list_short : length out < n → Gives (Err R.TooShort) out
  list_short l = said (listed_short l)

  -- the byte of a place by the open ones, and by those that are neither mourned nor open
  byte_by_lem : (O U L : PlaceSet) → has O ≡ open_by n A M F → has U ≡ difference (below n) M → has L ≡ difference (has U) (has O) → (i : ℕ) → i < n → byte_by (has L) (has O) i ≡ byte i
  unfolding byte_by byte open_by answer_by answer_with open_answer answer_byte
  byte_by_lem O U L o u l i h = rw (l, o, u, lt-ltb i n h) (go (M i) (any n (blockers_by n A M F i)))
    where
      go : (m b : Bool)
          → cond (not m && not (open_answer (answer_with m b))) 1 0 + 2 * cond (open_answer (answer_with m b)) 1 0 ≡ answer_byte (answer_with m b)
      go true b = refl
      go false true = refl
      go false false = refl

  pub list_done : (O U L : PlaceSet) → has O ≡ open_by n A M F → has U ≡ difference (below n) M → has L ≡ difference (has U) (has O)
      → (m : ℕ) → m ≡ n → m ≤ length out → (after : List ℕ) → after ≡ laid m (byte_by (has L) (has O)) out → Gives (Ok tt) after
  unfolding byte
  list_done O U L o u l m is h after e =
      let g = said (listed_laid (rw is at h)) in
      (g.0, laid_same n (byte_by (has L) (has O)) byte out after (byte_by_lem O U L o u l) (e ∙ ap (λ (k : ℕ). laid k (byte_by (has L) (has O)) out) is) ∙ g.1)
