-- `lines::put_refused` meets its contract. The tail's front holds the words and the refusal's digits. Assumes nothing.
use mathlib.Core.Path.{◌≡◌, refl, sym, ap, ◌∙◌}
use mathlib.Core.List.{List, ◌++◌}
use Prim.Native.Nat.{ℕ, ◌+◌, ◌<◌, ◌≤◌}
use native.Mathlib.Omega.{arith}
use lib.ListN.{length, take, length-take}
use borrow.Rule.Slice.PartMut.{put_mid}
use borrow.Author.Rules.{rules}
use Rattle.layouts.specs.Fronts.{front}
use Rattle.transcripts.specs.Lines.{ascii, decimal}
use Rattle.transcripts.proofs.Laws.{front_parted, decimal_byte}
use Rattle.lines.proofs.put_refused.Goals as goal

-- a byte has at most three digits
few : (j k : ℕ) → j < 256 → k ≡ length (decimal j) → k ≤ 3
few j k h e = let l : length (decimal j) ≤ 3 = decimal_byte j h in omega arith

-- the bytes that the tail's front holds, and how many they are
tail_is : (j k : ℕ) (d : List ℕ) → k ≡ length (decimal j) → d ≡ front (decimal j) (ascii "000") → take (9 + k) (put_mid 9 3 (ascii " refused 000") d) ≡ ascii " refused " ++ decimal j
unfolding ascii front
tail_is j k d e put =
    ap (λ (z : ℕ). take (9 + z) (put_mid 9 3 (ascii " refused 000") d)) e ∙ front_parted (ascii " refused ") (ascii " refused 000") (ascii " refused 000") 9 3 refl refl refl (decimal j) d put

tail_length : (j k : ℕ) (d : List ℕ) → k ≡ length (decimal j) → d ≡ front (decimal j) (ascii "000") → length (take (9 + k) (put_mid 9 3 (ascii " refused 000") d)) ≡ 9 + k
unfolding ascii
tail_length j k d e put = ap length (tail_is j k d e put) ∙ omega (arith, e)

pub lay_decimal-requires-clause-count_in_bounds : goal.lay_decimal-requires-clause-count_in_bounds
lay_decimal-requires-clause-count_in_bounds c = few _ _ (search rules) c.count_digits-count.ensures.value

pub slice_bounds-tail-end-2 : goal.slice_bounds-tail-end-2
unfolding ascii
slice_bounds-tail-end-2 c =
    omega (arith, tail_length _ _ _ c.count_digits-count.ensures.value c.lay_decimal.ensures, length-take (9 + c.count_digits-count.result) (put_mid 9 3 (ascii " refused 000") c.lay_decimal.new.out))

pub slice_bounds-put_numbered-end : goal.slice_bounds-put_numbered-end
unfolding ascii
slice_bounds-put_numbered-end c = sym (tail_length _ _ _ c.count_digits-count.ensures.value c.lay_decimal.ensures)

pub returns : goal.returns
unfolding ascii
returns c =
    let t = tail_is _ _ _ c.count_digits-count.ensures.value c.lay_decimal.ensures in
    record { value = rw t at c.put_numbered.ensures.value; out_after = rw t at c.put_numbered.ensures.out_after }
