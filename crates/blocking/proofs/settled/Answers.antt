-- `blocking::settled` meets its contract. Assumes nothing.
use mathlib.Core.Path.{◌∙◌, ap}
use mathlib.Core.Bool.{not}
use borrow.Author.Tests.{tests}
use borrow.Author.Rules.{rules}
use Rattle.sets.specs.Sets.{any}
use Rattle.sets.specs.PlaceSets.{has}
use Rattle.sets.proofs.Members.{pass, all_members}
use Rattle.histories.specs.Kept.{blockers_by}
use Rattle.answers.specs.Views.{size, accepted_in}
use Rattle.answers.proofs.Answers.{settled_each}
use Rattle.blocking.proofs.settled.Goals as goal

pub returns : goal.returns
returns c =
    let s = c.args in
    let test = λ (i : _). not (any (size s.count) (blockers_by (size s.count) (accepted_in s.count (has s.returned) (has s.full) s.rows.now) (has s.mourned) (has s.earlier) i)) in
    all_members (λ s. s.left) _ _ test (λ x b q h. search (rules, tests)) _ _ _ c.all.ensures.ran
    ∙ ap (pass test) c.members.ensures
    ∙ settled_each _ _ _ _ _ c.unmourned-unasked.ensures
