-- `writes::put_serial` meets its contract: four bytes at the front. Assumes nothing.
use mathlib.Core.Path.{ap, ◌∙◌}
use mathlib.Core.List.{List, ◌++◌}
use Prim.Native.Nat.{ℕ}
use lib.ListN.{drop}
use Rattle.layouts.specs.Layout.{serial_bytes}
use Rattle.layouts.specs.Fronts.{front}
use Rattle.writes.proofs.put_serial.Goals as goal

pub returns : goal.returns
unfolding front serial_bytes
returns c =
    ap (λ (l : List ℕ). l ++ drop 4 c.args.out.now) (c.copy_from_slice.ensures.after ∙ c.to_be_bytes.ensures)
