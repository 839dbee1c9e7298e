-- `roster_bytes::roster_is` meets its contract: one law for each answer. Assumes nothing.
use mathlib.Core.Path.{sym, ◌∙◌}
use native.Mathlib.Omega.{arith}
use Rattle.layouts.proofs.Lists.{there_fits, is_not_there, is_not_long, is_same}
use Rattle.roster_bytes.proofs.roster_is.Goals as goal

pub returns-then-not-all_there : goal.returns-then-not-all_there
returns-then-not-all_there c = sym (is_not_there _ _ _ _ (sym c.all_there.ensures ∙ c.if-not-all_there.true))

pub returns-then-list-count : goal.returns-then-list-count
returns-then-list-count c = sym (is_not_long _ _ _ _ c.if-list-count.true)

pub same_serials-requires : goal.same_serials-requires
same_serials-requires c =
    let t = there_fits _ _ _ (sym c.all_there.ensures ∙ c.if-not-all_there.false) in
    omega arith

pub returns : goal.returns
returns c = is_same _ _ _ _ (sym c.all_there.ensures ∙ c.if-not-all_there.false) c.if-list-count.false _ c.same_serials.ensures
