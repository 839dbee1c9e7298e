-- `lists::lay_word` meets its contract. The invariant: k times eight bytes are laid, and the words are shifted by as many. Assumes nothing.
use mathlib.Core.Path.{◌≡◌, sym, ◌∙◌}
use Prim.Native.Nat.{◌+◌, ◌*◌, ◌/◌, ◌%◌}
use native.Mathlib.Omega.{arith}
use native.Mathlib.Nat.{div-one}
use Rattle.sets.specs.PlaceSets.{bit}
use Rattle.answers.specs.Lists.{byte_by}
use Rattle.answers.proofs.Laying.{laid_none, laid_on, shifted, eight_fits, eight_bytes, byte_shift}
use Rattle.lists.proofs.lay_word.Goals as goal

pub loop-k-init : goal.loop-k-init
loop-k-init c = (sym (div-one _), sym (div-one _), sym (laid_none _ _))

pub overflow_mul-bytes : goal.overflow_mul-bytes
overflow_mul-bytes c = omega (arith, eight_fits _ _ _ _ c.spread.ensures c.spread-in-loop-k.ensures)

pub overflow_add-bytes : goal.overflow_add-bytes
overflow_add-bytes c = omega (arith, eight_fits _ _ _ _ c.spread.ensures c.spread-in-loop-k.ensures)

pub loop-k-preserved : goal.loop-k-preserved
loop-k-preserved c =
    let a = c.args in
    let l = c.loop-k in
    let i = 8 * l.k in
    let e : i + 8 ≡ 8 * (l.k + 1) = omega arith in
    let w =
    laid_on i 8 (byte_by (bit a.last) (bit a.«open»)) _ a.out.now l.out _ (omega arith) l.invariant.2 c.put_eight.ensures
    (λ j h. eight_bytes l.l l.o _ _ c.spread.ensures c.spread-in-loop-k.ensures j h ∙ byte_shift a.last a.«open» i l.l l.o l.invariant.0 l.invariant.1 j) in
    rw (← e) (shifted a.last l.l i 8 l.invariant.0, shifted a.«open» l.o i 8 l.invariant.1, w)

pub returns : goal.returns
returns c =
    let a = c.args in
    let l = c.loop-k in
    let k : l.k ≡ a.n / 8 = omega arith in
    let i : 8 * l.k ≡ a.n / 8 * 8 = omega arith in
    let n : a.n / 8 * 8 + a.n % 8 ≡ a.n = omega arith in
    rw n at
    (laid_on (a.n / 8 * 8) (a.n % 8) (byte_by (bit a.last) (bit a.«open»)) _ a.out.now l.out _ (omega arith) (rw i at l.invariant.2) c.lay_few.ensures
    (λ j h. byte_shift a.last a.«open» (a.n / 8 * 8) l.l l.o (rw i at l.invariant.0) (rw i at l.invariant.1) j))
