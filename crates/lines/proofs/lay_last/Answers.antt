-- `lines::lay_last` meets its contract. The last byte stands right behind the text. Assumes nothing.
use mathlib.Core.Path.{refl, ap}
use mathlib.Core.List.{List, ◌++◌}
use Prim.Native.Nat.{ℕ}
use native.Mathlib.Omega.{arith}
use lib.ListN.{length, drop}
use Rattle.transcripts.specs.Lines.{line}
use Rattle.layouts.specs.Fronts.{front}
use Rattle.layouts.proofs.Fronts.{front_byte}
use Rattle.lines.proofs.lay_last.Goals as goal

pub returns : goal.returns
unfolding line front
returns c =
    let a = c.args in
    front_byte a.text.now a.out.now _ (length a.text.now) (ap (λ (z : List ℕ). z ++ drop (length a.text.now) a.out.now) c.copy_from_slice.ensures.after) refl 10 (omega arith)
