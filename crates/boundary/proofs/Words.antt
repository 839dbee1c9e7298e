-- Where a written record ends, as two words. Assumes nothing.
use Rattle.refusals.specs.declared.Refusal.{Refusal}
use Rattle.std.specs.Prelude.{Result}
use mathlib.Core.Path.{◌≡◌, ap, ◌∙◌}
use mathlib.Core.List.{List}
use Prim.Native.Nat.{ℕ}
use Rattle.layouts.specs.Records.{Written}
use Rattle.boundary.specs.declared.End.{End}
use Rattle.refusals.specs.Numbers.{numbered}
use Rattle.boundary.specs.Words.{end_of}

-- the end and the buffer are those of a writing
abbrev pub Ends : Written → End → List ℕ → Type 0
Ends w e after = (e ≡ end_of (numbered w.answer)) × (after ≡ w.buffer)

pub ends : (w : Written) (a : Result ℕ Refusal) (e : End) (after : List ℕ) → e ≡ end_of (numbered a) → (a ≡ w.answer) × (after ≡ w.buffer) → Ends w e after
ends w a e after is (f, g) = (is ∙ ap (λ (r : Result ℕ Refusal). end_of (numbered r)) f, g)
