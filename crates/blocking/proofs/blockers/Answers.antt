-- `blocking::blockers` meets its contract. Assumes nothing.
use Rattle.answers.proofs.Answers.{blockers_are}
use Rattle.blocking.proofs.blockers.Goals as goal

pub returns : goal.returns
returns c = blockers_are _ _ _ _ _ _ _ _ c.unheard_others-rest.ensures _ c.narrowed.ensures
