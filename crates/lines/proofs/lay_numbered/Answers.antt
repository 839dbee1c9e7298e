-- `lines::lay_numbered` meets its contract. Each part starts where the one before it ends. Assumes nothing.
use mathlib.Core.Path.{◌≡◌, refl, ap, ◌∙◌}
use mathlib.Core.List.{List, ◌++◌}
use Prim.Native.Nat.{ℕ, ◌+◌}
use native.Mathlib.Omega.{arith}
use lib.ListN.{length, drop, length-append}
use Rattle.transcripts.specs.Lines.{decimal, line}
use Rattle.layouts.specs.Fronts.{front}
use Rattle.layouts.proofs.Fronts.{front_part}
use Rattle.transcripts.proofs.Laws.{line_last}
use Rattle.lines.proofs.lay_numbered.Goals as goal

pub returns : goal.returns
unfolding front
returns c =
    let a = c.args in
    let number = decimal a.number in
    let seam : length (a.head.now ++ number) ≡ length a.head.now + a.count = omega (arith, length-append a.head.now number) in
    let head = ap (λ (z : List ℕ). z ++ drop (length a.head.now) a.out.now) c.copy_from_slice.ensures.after in
    let first = front_part a.head.now a.out.now _ (length a.head.now) head refl number c.lay_decimal.new.out c.lay_decimal.ensures in
    front_part _ _ _ _ first seam (line a.tail.now) c.lay_last.new.out c.lay_last.ensures
    ∙ ap (λ (z : List ℕ). front z a.out.now) (line_last a.head.now number a.tail.now)
