-- `answers::known_with` meets its contract. Assumes nothing.
use Rattle.undecided.proofs.OpenPlaces.{known_holds, known_lacks}
use Rattle.undecided.proofs.known_with.Goals as goal

pub returns-then-walked : goal.returns-then-walked
returns-then-walked c = record { holds_value = (known_holds _ _ _ _ _ _ _ _ c.union-start.ensures c.difference-others.ensures _ _ c.reached_until-walked.ensures c.if-walked.true).0; seen_value = (known_holds _ _ _ _ _ _ _ _ c.union-start.ensures c.difference-others.ensures _ _ c.reached_until-walked.ensures c.if-walked.true).1 }

pub returns : goal.returns
returns c = record { holds_value = (known_lacks _ _ _ _ _ _ _ _ c.union-start.ensures c.difference-others.ensures _ _ c.reached_until-walked.ensures c.if-walked.false).0; seen_value = (known_lacks _ _ _ _ _ _ _ _ c.union-start.ensures c.difference-others.ensures _ _ c.reached_until-walked.ensures c.if-walked.false).1 }
