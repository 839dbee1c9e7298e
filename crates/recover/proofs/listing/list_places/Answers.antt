-- `listing::list_places` stays in the buffer and ends. Assumes nothing.
use mathlib.Core.Path.{refl, subst}
use Prim.Native.Nat.{◌≤◌}
use native.Mathlib.Omega.{arith}
use borrow.Author.Rules.{rules}
use Rattle.calls.specs.Promises.{size_of}
use Rattle.recover.proofs.Gathered.{each_says}
use Rattle.recover.proofs.listing.list_places.Goals as goal

pub list_place-requires : goal.list_place-requires
list_place-requires c =
    record { used_in_bounds = search rules; in_bounds = search rules; p_bound = omega (arith, c.size-count.ensures.upper_bound) }

pub loop-p-preserved : goal.loop-p-preserved
unfolding size_of
loop-p-preserved c =
    let b = each_says _ _ _ refl c.list.ensures.out_after c.loop-p.p (omega (arith, c.size-count.ensures.value)) in
    (subst (λ n. c.in_ok-end.end ≤ n) c.loop-p.invariant.1 (c.in_ok-end.ensures.ok _ b).inside, search rules)
