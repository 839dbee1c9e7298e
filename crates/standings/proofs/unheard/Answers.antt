-- `standings::unheard` meets its contract. Assumes nothing.
use Rattle.answers.proofs.Answers.{unheard_is}
use Rattle.sets.specs.PlaceSets.{has}
use Rattle.standings.proofs.unheard.Goals as goal

pub returns : goal.returns
returns c =
    let s = c.args in
    unheard_is _ (has s.returned) (has s.earlier) _ _ _ c.roster-all.ensures c.difference-absent.ensures c.difference.ensures
