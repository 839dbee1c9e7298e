-- `acceptance::accepts` meets its contract. Assumes nothing.
use mathlib.Core.Path.{sym, ◌∙◌}
use Rattle.acceptance.proofs.Acceptance.{preceding_is, accepts_circle, accepts_lacks, accepts_rest}
use Rattle.acceptance.proofs.accepts.Goals as goal

pub returns-then-contains : goal.returns-then-contains
returns-then-contains c =
    accepts_circle _ _ _ _ _ _ (preceding_is _ _ _ _ _ _ _ _ _ c.without-others.ensures c.reached-preceding.ensures) (sym c.contains.ensures ∙ c.if-contains.true)

pub returns-then-not-names_all : goal.returns-then-not-names_all
returns-then-not-names_all c =
    accepts_lacks _ _ _ _ _ _ (preceding_is _ _ _ _ _ _ _ _ _ c.without-others.ensures c.reached-preceding.ensures) (sym c.contains.ensures ∙ c.if-contains.false) _ c.names_all.ensures (c.if-not-names_all.true)

pub returns : goal.returns
returns c =
    accepts_rest _ _ _ _ _ _ (preceding_is _ _ _ _ _ _ _ _ _ c.without-others.ensures c.reached-preceding.ensures) (sym c.contains.ensures ∙ c.if-contains.false) _ c.names_all.ensures (c.if-not-names_all.false) _ c.all_agree.ensures
