-- `checks::ahead` meets its contract. Assumes nothing.
use mathlib.Core.Path.{refl, ap, ◌∙◌}
use Prim.Native.Nat.{◌-◌}
use native.Mathlib.Omega.{arith}
use Rattle.sets.specs.Sets.{Places, intersection}
use Rattle.sets.specs.PlaceSets.{has}
use Rattle.checks.proofs.ahead.Goals as goal

pub returns-then-depth-eq0 : goal.returns-then-depth-eq0
returns-then-depth-eq0 c = record { result_value = λ z. refl; by_index = λ n l m. absurd (omega arith) }

pub overflow_cast-end : goal.overflow_cast-end
overflow_cast-end c =
    let l = c.requires.1 (c.args.depth - 1) (omega arith) in
    record { fits = omega arith }

pub lent_row-row-requires : goal.lent_row-row-requires
lent_row-row-requires c = c.requires.1 (c.args.depth - 1) (omega arith)

pub returns : goal.returns
returns c =
    let left = has c.args.left in
    record { result_value = λ z. absurd (omega arith); by_index = λ n l m. c.intersection.ensures ∙ ap (λ (S : Places). intersection S left) (c.lent_row-row.ensures n m) }
