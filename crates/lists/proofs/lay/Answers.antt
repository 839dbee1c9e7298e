-- `lists::lay` meets its contract. Assumes nothing.
use mathlib.Core.Path.{◌≡◌}
use Prim.Native.Nat.{◌+◌, ◌-◌}
use native.Mathlib.Omega.{arith}
use Rattle.sets.specs.PlaceSets.{bit, has}
use Rattle.answers.specs.Lists.{byte_by}
use Rattle.answers.proofs.Laying.{laid_same, laid_on, byte_low, byte_high}
use Rattle.lists.proofs.lay.Goals as goal

pub returns-then-n-le64 : goal.returns-then-n-le64
returns-then-n-le64 c =
    let a = c.args in
    laid_same a.n (byte_by (bit a.last.low) (bit a.«open».low)) (byte_by (has a.last) (has a.«open»)) a.out.now _ (λ k h. byte_low a.last a.«open» k (omega arith))
    c.lay_word.ensures

pub returns : goal.returns
returns c =
    let a = c.args in
    let all = byte_by (has a.last) (has a.«open») in
    let n : 64 + (a.n - 64) ≡ a.n = omega arith in
    rw n at
    (laid_on 64 (a.n - 64) all _ a.out.now _ _ (omega arith)
    (laid_same 64 (byte_by (bit a.last.low) (bit a.«open».low)) all a.out.now _ (byte_low a.last a.«open») c.lay_word-2.ensures) c.lay_word-3.ensures
    (λ j h. byte_high a.last a.«open» j (omega arith)))
