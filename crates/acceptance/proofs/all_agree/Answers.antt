-- `acceptance::all_agree` meets its contract. Assumes nothing.
use mathlib.Core.Path.{◌∙◌, ap}
use borrow.Author.Tests.{tests}
use borrow.Author.Rules.{rules}
use Rattle.sets.specs.Sets.{intersection}
use Rattle.sets.specs.PlaceSets.{has}
use Rattle.sets.proofs.Members.{pass, all_members}
use Rattle.rows.specs.Rows.{rows_of}
use Rattle.acceptance.proofs.Acceptance.{agreeing, each_agrees}
use Rattle.acceptance.proofs.all_agree.Goals as goal

pub returns : goal.returns
returns c =
    let test = λ (m : _). agreeing (intersection (has c.roster-all.result) (rows_of c.args.rows.now m)) c.args.place.0 c.intersection-known.result in
    all_members (λ s. s.left) _ _ test (λ x b q h. search (rules, tests)) _ _ _ c.all.ensures.ran
    ∙ ap (pass test) c.members.ensures
    ∙ each_agrees _ _ _ _ _ _ _ _ _ _ c.roster-all.ensures c.intersection-known.ensures c.intersection-back.ensures c.intersection-asked.ensures
