-- `next` of a walk takes the lowest member that is left. Assumes nothing.
use mathlib.Core.Path.{refl, sym}
use native.Mathlib.Omega.{arith}
use Rattle.sets.proofs.Laws.{lowest_found, nothing_found, without_count}
use Rattle.places.proofs.WalkIterator.next.Goals as goal

pub returns-in_default-clause-steps : goal.returns-in_default-clause-steps
returns-in_default-clause-steps c = (nothing_found _ (sym c.in_default.ensures), refl)

pub returns-clause-steps : goal.returns-clause-steps
returns-clause-steps c =
    let low = lowest_found 128 _ _ (sym c.in-Some.ensures) in
    (low.0, low.2, c.without-self.ensures)

pub returns-clause-goes : goal.returns-clause-goes
returns-clause-goes c =
    let low = lowest_found 128 _ _ (sym c.in-Some.ensures) in
    record {
      on = λ _. (tt, tt, omega (arith, without_count _ _ _ low.0 c.without-self.ensures));
      keeps = tt;
      rests = λ _. tt;
    }
