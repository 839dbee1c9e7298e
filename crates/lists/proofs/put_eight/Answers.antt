-- `lists::put_eight` meets its contract: eight bytes at the front. Assumes nothing.
use mathlib.Core.Path.{ap, ◌∙◌}
use mathlib.Core.List.{List, ◌++◌}
use Prim.Native.Nat.{ℕ}
use native.Mathlib.Nat.{div-one}
use lib.ListN.{drop}
use Rattle.answers.specs.Lists.{bytes_from, laid}
use Rattle.lists.proofs.put_eight.Goals as goal

pub returns : goal.returns
unfolding laid bytes_from
returns c =
    rw (div-one c.args.bytes) (ap (λ (l : List ℕ). l ++ drop 8 c.args.out.now) (c.copy_from_slice.ensures.after ∙ c.to_le_bytes.ensures))
