-- A line is laid whole where there is room. Assumes nothing.
use Rattle.refusals.specs.declared.Refusal.{Refusal}
use Rattle.std.specs.Prelude.{Result, Ok, Err}
use mathlib.Core.Path.{◌≡◌, refl, ap, ◌∙◌, subst}
use mathlib.Core.Logic.{◌⊎◌}
use mathlib.Core.List.{List}
use Prim.Native.Nat.{ℕ, ◌+◌, ◌<◌, ◌≤◌}
use native.Mathlib.Omega.{arith}
use lib.ListN.{length, get_or, length-append}
use borrow.Author.Tests.{le-leb, ne_eqb}
use Rattle.refusals.specs.Numbers.{numbered}
use Rattle.layouts.specs.Records.{written_at}
use Rattle.answers.specs.declared.Answer as declared
use Rattle.answers.specs.declared.Answer.TheVariants as A
use Rattle.answers.specs.declared.Reply.{Reply}
use Rattle.answers.specs.declared.Reply.TheVariants as O
use Rattle.calls.specs.declared.Recovery.{Recovery}
use Rattle.calls.specs.Promises.{size_of, asked, listed_of, AskedByte, not_byte, last_byte, open_byte}
use Rattle.calls.proofs.Keeps.{size_few}
use Rattle.calls.proofs.Lists.{each_as_asked}
use Rattle.transcripts.specs.Lines.{ascii, offer_words, record_line, answer_words, place_line}
use Rattle.transcripts.proofs.Laws.{length_decimal, length_line}
use Rattle.recover.specs.Gathered.{answer_in, end_of, Said}

-- 64 bytes hold a line, whatever its numbers are
words_short : (o : Result Reply ℕ) → length (offer_words o) ≤ 28
unfolding offer_words ascii
words_short (Ok O.Taken) = omega arith
words_short (Ok O.Repeated) = omega arith
words_short (Err j) = omega (arith, length_decimal j)

pub record_short : (n : ℕ) (o : Result Reply ℕ) → length (record_line n o) ≤ 64
unfolding record_line ascii
record_short n o = simp (length_line, length-append) (omega (arith, length_decimal n, words_short o))

answer_short : (a : Result declared.Answer ℕ) → length (answer_words a) ≤ 28
unfolding answer_words ascii
answer_short (Ok A.Last) = omega arith
answer_short (Ok A.NotLast) = omega arith
answer_short (Ok A.Open) = omega arith
answer_short (Err j) = omega (arith, length_decimal j)

pub place_short : (n : ℕ) (a : Result declared.Answer ℕ) → length (place_line n a) ≤ 64
unfolding place_line ascii
place_short n a = simp (length_line, length-append) (omega (arith, length_decimal n, answer_short a))

-- a line that was laid where 64 bytes are left
pub said : (line : List ℕ) → length line ≤ 64 → (used from : ℕ) (before after : List ℕ) (w : Result ℕ Refusal) (end : ℕ)
    → from + 64 ≤ length before → (from ≡ used) ⊎ (from ≡ 0) → w ≡ (written_at line before from).answer → after ≡ (written_at line before from).buffer → end ≡ end_of w
    → Said line used before after end
unfolding written_at end_of
said line i used from before after w end h s a b e =
    let l : from + length line ≤ length before = omega arith in
    let f = le-leb (from + length line) (length before) l in
    let n : w ≡ Ok (from + length line) = a ∙ rw f in
    let g : end ≡ from + length line = e ∙ ap end_of n in
    record { from = from; start = s; ends = g; inside = omega arith; laid = b ∙ rw f }

-- ---- the byte of a place in the list of all

pub says_not : (b : ℕ) → b ≡ 0 → (Ok A.NotLast) ≡ answer_in b
unfolding answer_in
says_not b e = rw e

pub says_last : (b : ℕ) → b ≡ 1 → (Ok A.Last) ≡ answer_in b
unfolding answer_in
says_last b e = rw e

pub says_open : (b : ℕ) → ¬ (b ≡ 0) → ¬ (b ≡ 1) → (Ok A.Open) ≡ answer_in b
unfolding answer_in
says_open b x y = rw (ne_eqb b 0 x, ne_eqb b 1 y)

-- it says what asking says
listed_says : {a : Result declared.Answer Refusal} {b : ℕ} → AskedByte a b → answer_in b ≡ a
unfolding answer_in
listed_says not_byte = refl
listed_says last_byte = refl
listed_says open_byte = refl

-- so its line is the one that asking gives
pub line_says : (serial : ℕ) (b : ℕ) {used end : ℕ} {old new : List ℕ} {x a : Result declared.Answer Refusal} → x ≡ answer_in b → AskedByte a b → Said (place_line serial (numbered x)) used old new end → Said (place_line serial (numbered a)) used old new end
line_says serial b {used} {end} {old} {new} e h s = subst (λ (y : Result declared.Answer Refusal). Said (place_line serial (numbered y)) used old new end) (e ∙ listed_says h) s

-- in a list of all places, each byte is that of its place
pub each_says : (r : Recovery) (out listed : List ℕ) → length out ≡ 128 → listed ≡ (listed_of r out).buffer → (p : ℕ) → p < size_of r → AskedByte (asked r p) (get_or listed p 0)
each_says r out listed l e p h = rw e (each_as_asked r out (omega (arith, l, size_few r)) p h)
