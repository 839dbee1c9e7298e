-- `answers::agrees` meets its contract. Assumes nothing.
use mathlib.Core.Path.{sym, ap, ◌∙◌}
use mathlib.Core.Bool.{Bool, not, ◌||◌}
use Rattle.sets.specs.Sets.{subset}
use Rattle.sets.specs.PlaceSets.{has}
use Rattle.acceptance.proofs.agrees.Goals as goal

pub returns-then-contains : goal.returns-then-contains
returns-then-contains c =
    let s = c.args in
    c.is_subset.ensures ∙ sym (ap (λ (x : Bool). not x || subset 128 (has s.known) (has s.row)) (sym c.contains.ensures ∙ c.if-contains.true))

pub returns : goal.returns
returns c =
    let s = c.args in
    sym (ap (λ (x : Bool). not x || subset 128 (has s.known) (has s.row)) (sym c.contains.ensures ∙ c.if-contains.false))
