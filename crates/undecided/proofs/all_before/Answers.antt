-- `answers::all_before` meets its contract. Assumes nothing.
use Rattle.undecided.proofs.OpenPlaces.{before_impossible, before_certain, before_looked}
use Rattle.undecided.proofs.all_before.Goals as goal

pub returns-then-not-possible : goal.returns-then-not-possible
returns-then-not-possible c =
    let s = c.args in
    before_impossible s.possible s.certain _ (c.if-not-possible.true)

pub returns-then-certain : goal.returns-then-certain
returns-then-certain c =
    let s = c.args in
    before_certain s.possible s.certain _ (c.if-not-possible.false) c.if-certain.true

pub returns : goal.returns
returns c =
    let s = c.args in
    before_looked s.possible s.certain _ (c.if-not-possible.false) c.if-certain.false _ c.reached_until-own.ensures.told
