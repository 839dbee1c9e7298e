-- `checks::no_circle` meets its contract: the walk goes on, or it is over. Assumes nothing.
use mathlib.Core.Path.{refl, sym, ap, ◌∙◌}
use Prim.Native.Nat.{◌-◌}
use native.Mathlib.Omega.{arith}
use borrow.Author.Rules.{rules}
use Rattle.sets.specs.Sets.{Places}
use Rattle.sets.proofs.Laws.{lowest_found, lowest_nothing, without_count}
use Rattle.checks.proofs.Checks.{lent_on}
use Rattle.checks.proofs.Walk.{walk_starts, next_left, next_follows, next_none, walk_room, walk_longer, walk_circle, walk_shorter, walk_ends}
use Rattle.checks.proofs.no_circle.Goals as goal

pub loop-p-init : goal.loop-p-init
loop-p-init c = walk_starts _ _ _ _ _ (omega arith) refl c.empty-on.ensures c.below-left.ensures

pub ahead-requires : goal.ahead-requires
ahead-requires c =
    let t = c.loop-p.invariant in
    (omega (arith, t.room), λ i l. omega (arith, (t.along.stands i l).0))

pub returns-then-depth-eq0 : goal.returns-then-depth-eq0
returns-then-depth-eq0 c =
    walk_ends _ _ _ _ _ _ c.loop-p.invariant (lent_on _ _) (omega arith) c.if-depth-eq0.true (λ q l.
    sym (ap (λ (S : Places). S q) (c.ahead.ensures.result_value c.if-depth-eq0.true)) ∙ lowest_nothing 128 _ (sym c.lowest-found.ensures ∙ c.in_default.is) q l)

pub overflow_cast-end : goal.overflow_cast-end
overflow_cast-end c =
    let l = (c.loop-p.invariant.along.stands (c.loop-p.depth - 1) (omega arith)).0 in
    record { fits = omega arith }

pub loop-p-smaller-in_default : goal.loop-p-smaller-in_default
loop-p-smaller-in_default c = omega arith

pub loop-p-preserved-in_default : goal.loop-p-preserved-in_default
loop-p-preserved-in_default c =
    let t = c.loop-p.invariant in
    let nothing = lowest_nothing 128 _ (sym c.lowest-found.ensures ∙ c.in_default.is) in
    let none = next_none _ _ _ _ _ _ t _ c.ahead.ensures.result_value (c.ahead.ensures.by_index c.args.n) nothing (c.loop-p.depth - 1) (omega arith) in
    walk_shorter _ _ _ _ _ _ t _ _ (omega arith) none c.without-on.ensures

pub overflow_cast-path : goal.overflow_cast-path
overflow_cast-path c =
    let l = (lowest_found 128 _ _ (sym c.lowest-found.ensures ∙ c.in-Some.is)).1 in
    record { fits = omega arith }

pub bounds-path-depth-in-loop-p : goal.bounds-path-depth-in-loop-p
bounds-path-depth-in-loop-p c =
    let t = c.loop-p.invariant in
    let m = (lowest_found 128 _ _ (sym c.lowest-found.ensures ∙ c.in-Some.is)).0 in
    let l = next_left _ _ _ _ _ _ t _ c.ahead.ensures.result_value (c.ahead.ensures.by_index c.args.n) _ m in
    let room = walk_room _ _ _ _ _ _ t _ l in
    search (rules, room)

pub lent_row-requires : goal.lent_row-requires
lent_row-requires c =
    (lowest_found 128 _ _ (sym c.lowest-found.ensures ∙ c.in-Some.is)).1

pub returns-then-meets : goal.returns-then-meets
returns-then-meets c =
    let t = c.loop-p.invariant in
    let m = (lowest_found 128 _ _ (sym c.lowest-found.ensures ∙ c.in-Some.is)).0 in
    let l = next_left _ _ _ _ _ _ t _ c.ahead.ensures.result_value (c.ahead.ensures.by_index c.args.n) _ m in
    let f = next_follows _ _ _ _ _ _ t _ c.ahead.ensures.result_value (c.ahead.ensures.by_index c.args.n) _ m in
    let row = c.lent_row.ensures c.args.n (t.unmet _ l).0 in
    walk_circle _ _ _ _ _ _ t _ _ _ l f c.with-on.ensures c.without-left.ensures (lent_on _ _) _ row (sym c.meets.ensures ∙ c.if-meets.true)

pub loop-p-smaller : goal.loop-p-smaller
loop-p-smaller c =
    let t = c.loop-p.invariant in
    let m = (lowest_found 128 _ _ (sym c.lowest-found.ensures ∙ c.in-Some.is)).0 in
    let l = next_left _ _ _ _ _ _ t _ c.ahead.ensures.result_value (c.ahead.ensures.by_index c.args.n) _ m in
    omega (arith, without_count _ _ _ l c.without-left.ensures)

pub loop-p-preserved : goal.loop-p-preserved
loop-p-preserved c =
    let t = c.loop-p.invariant in
    let m = (lowest_found 128 _ _ (sym c.lowest-found.ensures ∙ c.in-Some.is)).0 in
    let l = next_left _ _ _ _ _ _ t _ c.ahead.ensures.result_value (c.ahead.ensures.by_index c.args.n) _ m in
    let f = next_follows _ _ _ _ _ _ t _ c.ahead.ensures.result_value (c.ahead.ensures.by_index c.args.n) _ m in
    let row = c.lent_row.ensures c.args.n (t.unmet _ l).0 in
    walk_longer _ _ _ _ _ _ t _ _ _ l f c.with-on.ensures c.without-left.ensures _ row (sym c.meets.ensures ∙ c.if-meets.false)
