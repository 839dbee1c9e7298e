-- `checks::row_closed` meets its contract: members that are not left are covered. Assumes nothing.
use mathlib.Core.Path.{refl, sym, ◌∙◌}
use mathlib.Core.Bool.{true≢false, false≢true}
use native.Mathlib.Omega.{arith}
use Rattle.sets.proofs.Laws.{lowest_found, lowest_nothing}
use Rattle.checks.proofs.Checks.{turns_start, turns_end, subset_is}
use Rattle.checks.proofs.Closed.{row_open, row_less, row_goes}
use Rattle.checks.proofs.row_closed.Goals as goal

pub lent_row-row-requires : goal.lent_row-row-requires
lent_row-row-requires c = omega arith

pub loop-m-init : goal.loop-m-init
loop-m-init c =
    turns_start _ _ _ _ _ _ (omega arith) (c.lent_row-row.ensures c.args.n (omega arith)) c.below-roster.ensures c.intersection-left.ensures

pub returns-in_default : goal.returns-in_default
returns-in_default c = record { covered = λ e. turns_end _ _ _ _ c.loop-m.invariant (omega arith) (lowest_nothing 128 _ (sym c.lowest-found.ensures ∙ c.in_default.is)); p_value = λ e. absurd (true≢false e) }

pub lent_row-requires : goal.lent_row-requires
lent_row-requires c = (lowest_found 128 _ _ (sym c.lowest-found.ensures ∙ c.in-Some.is)).1

pub returns-then-not-is_subset : goal.returns-then-not-is_subset
returns-then-not-is_subset c =
    let low = (lowest_found 128 _ _ (sym c.lowest-found.ensures ∙ c.in-Some.is)).0 in
    let row = c.lent_row-row.ensures c.args.n (omega arith) in
    let other = c.lent_row.ensures c.args.n (c.loop-m.invariant.on _ low).0 in
    let held = subset_is _ (omega arith) _ _ _ c.below-roster.ensures _ _ _ _ _ other row refl c.intersection-inner.ensures c.is_subset.ensures in
    record { covered = λ e. absurd (false≢true e); p_value = λ e. row_open _ _ _ _ _ c.loop-m.invariant _ low (sym held ∙ c.if-not-is_subset.true) }

pub loop-m-smaller : goal.loop-m-smaller
loop-m-smaller c =
    let low = (lowest_found 128 _ _ (sym c.lowest-found.ensures ∙ c.in-Some.is)).0 in
    row_less _ _ _ _ _ c.loop-m.invariant _ low _ _ _ c.difference.ensures c.without-left.ensures

pub loop-m-preserved : goal.loop-m-preserved
loop-m-preserved c =
    let low = (lowest_found 128 _ _ (sym c.lowest-found.ensures ∙ c.in-Some.is)).0 in
    let row = c.lent_row-row.ensures c.args.n c.requires.1 in
    let other = c.lent_row.ensures c.args.n (c.loop-m.invariant.on _ low).0 in
    let held = subset_is _ c.requires.0 _ _ _ c.below-roster.ensures _ _ _ _ _ other row refl c.intersection-inner.ensures c.is_subset.ensures in
    row_goes _ _ _ _ _ c.loop-m.invariant _ low _ _ _ c.difference.ensures c.without-left.ensures _ _ _ c.requires.0 other c.below-roster.ensures
    c.intersection-inner.ensures c.spared_by-spared.ensures (sym held ∙ c.if-not-is_subset.false)
