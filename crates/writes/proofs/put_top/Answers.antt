-- `writes::put_top` meets its contract. Assumes nothing.
use mathlib.Core.Path.{ap, ◌∙◌}
use mathlib.Core.List.{◌∷◌}
use Prim.Native.Nat.{ℕ}
use native.Mathlib.Omega.{arith}
use Rattle.layouts.specs.Layout.{serial_bytes}
use Rattle.layouts.specs.Fronts.{front}
use Rattle.writes.proofs.Laying.{section_long, section_laid}
use Rattle.writes.proofs.put_top.Goals as goal

pub put_serial-requires : goal.put_serial-requires
put_serial-requires c = rw (section_long c.args.out.now c.kind_byte.result (omega arith)) (omega arith)

pub returns : goal.returns
returns c =
    let a = c.args in
    section_laid a.out.now c.kind_byte.result (omega arith) _ _ c.put_serial.ensures ∙ ap (λ (b : ℕ). front (b ∷ serial_bytes a.own) a.out.now) c.kind_byte.ensures
