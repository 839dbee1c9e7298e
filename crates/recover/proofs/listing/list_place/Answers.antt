-- `listing::list_place` meets its contract. Assumes nothing.
use Rattle.std.proofs.lemmas.Result.{IfOk-weaker}
use Rattle.recover.proofs.Gathered.{line_says}
use Rattle.recover.proofs.listing.list_place.Goals as goal

pub returns-clause-ok : goal.returns-clause-ok
returns-clause-ok c =
    IfOk-weaker c.say_place.result _ _ (λ end s a h. line_says _ _ c.answer_of-answer.ensures h s) c.say_place.ensures.ok
