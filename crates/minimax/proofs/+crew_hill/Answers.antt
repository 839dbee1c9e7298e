-- `minimax::crew` and `minimax::hill` meet their contracts: one law for each step of the game. Assumes nothing.
use mathlib.Core.Path.{sym, ◌∙◌}
use native.Mathlib.Omega.{arith}
use Rattle.calls.specs.Promises.{size_of}
use Rattle.games.proofs.Least.{greatest_none}
use Rattle.games.proofs.Turns.{absent_on, absent_some, turn_settled, turn_nobody, first_absent, fetching_first, next_absent, fetching_next, turn_done, turn_small, hill_done, taken_size, taken_one, hill_taken, hill_refused}
use Rattle.minimax.proofs.+crew_hill.Goals as goal
use Rattle.minimax.proofs.+crew_hill.Goals.{hill-then-is_taken, hill-else-is_taken}

pub crew-returns-then-settled : goal.crew-returns-then-settled
crew-returns-then-settled t c = turn_settled _ (sym c.settled.ensures ∙ c.if-settled.true)

pub crew-returns-in_default : goal.crew-returns-in_default
crew-returns-in_default t c = turn_nobody _ c.members-members.result.left (cc) c.requires c.in_default.ensures.steps.0

pub crew-hill-best-requires : goal.crew-hill-best-requires
crew-hill-best-requires t c =
    let on = first_absent c.args.r c.members-members.result.left (cc) _ c.in-Some.ensures.steps.0 in
    (omega (arith, c.decreases, absent_some c.args.r _ on), (c.requires, on))

pub crew-loop-p-init : goal.crew-loop-p-init
crew-loop-p-init t c =
    let s = c.in-Some.ensures.steps in
    fetching_first _ c.members-members.result.left (cc) _ s.0 s.1 c.into_iter-p-iterator.result.left (cc s.2) _ c.hill-best.ensures

pub crew-overflow_add-result : goal.crew-overflow_add-result
crew-overflow_add-result t c =
    let on = first_absent c.args.r c.members-members.result.left (cc) _ c.in-Some.ensures.steps.0 in
    omega (arith, turn_small c.args.r _ _ c.loop-p.invariant c.requires (absent_some c.args.r _ on) (sym c.settled.ensures ∙ c.if-settled.false) c.in-None.ensures.steps.0)

pub crew-returns : goal.crew-returns
crew-returns t c =
    let on = first_absent c.args.r c.members-members.result.left (cc) _ c.in-Some.ensures.steps.0 in
    turn_done c.args.r _ _ c.loop-p.invariant c.requires (absent_some c.args.r _ on) (sym c.settled.ensures ∙ c.if-settled.false) c.in-None.ensures.steps.0

pub crew-hill-lasts-requires : goal.crew-hill-lasts-requires
crew-hill-lasts-requires t c =
    let on = next_absent c.args.r _ _ c.loop-p.invariant _ c.in-Some-p.ensures.steps.0 in
    (omega (arith, c.decreases, absent_some c.args.r _ on), (c.requires, on))

pub crew-loop-p-preserved : goal.crew-loop-p-preserved
crew-loop-p-preserved t c =
    let s = c.in-Some-p.ensures.steps in
    fetching_next _ _ _ c.loop-p.invariant _ s.0 _ s.2 _ _ c.hill-lasts.ensures c.min-best.ensures

pub hill-overflow_shl-numbers : goal.hill-overflow_shl-numbers
unfolding size_of
hill-overflow_shl-numbers t c = omega (arith, c.size-n.ensures.value, c.requires.r_bound)

pub hill-loop-number-init : goal.hill-loop-number-init
hill-loop-number-init t c = greatest_none _

pub hill-hand_over-got-requires-clause-place_bound : goal.hill-hand_over-got-requires-clause-place_bound
hill-hand_over-got-requires-clause-place_bound t c = absent_on _ _ c.requires.place_value

pub hill-crew-lasts-requires : goal.hill-crew-lasts-requires
hill-crew-lasts-requires t c =
    let e = taken_size c.args.r _ _ _ c.hand_over-got.ensures _ c.is_taken.ensures c.if-is_taken.true in
    let one = taken_one c.args.r _ _ _ c.hand_over-got.ensures _ c.is_taken.ensures c.if-is_taken.true in
    (omega (arith, c.decreases, one), omega (arith, e, c.requires.r_bound))

pub hill-loop-number-preserved : goal.hill-loop-number-preserved
hill-loop-number-preserved t c =
    let r = c.args.r in
    elim c.if-is_taken.branch [
      | hill-then-is_taken w ↦
          w.most-is ∙ hill_taken r _ _ _ c.hand_over-got.ensures _ c.is_taken.ensures w.if-is_taken.true _ _ _ c.loop-number.invariant w.crew-lasts.ensures w.max-most.ensures
      | hill-else-is_taken w ↦ w.most-is ∙ hill_refused r _ _ _ c.hand_over-got.ensures _ c.is_taken.ensures w.if-is_taken.false _ c.loop-number.invariant
    ]

pub hill-returns : goal.hill-returns
unfolding size_of
hill-returns t c = hill_done c.args.r _ _ _ _ c.requires.r_bound c.size-n.ensures.value c.loop-number.invariant (omega arith) (omega arith)
