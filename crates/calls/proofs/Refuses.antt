-- What the listing gives is all that demand 3 lets those calls give: a release that gives anything else is refused. Assumes nothing.
use mathlib.Core.Path.{◌≡◌, refl, subst}
use mathlib.Core.Bool.{Bool, true, ◌&&◌}
use mathlib.Core.List.{List, [], ◌∷◌, map}
use Prim.Native.Nat.{ℕ, zero, suc, ◌^◌}
use native.Mathlib.Omega.{arith}
use lib.ListN.{length, get_or}
use lib.Dec.{ltb}
use borrow.Author.Tests.{ltb-true}
use Rattle.sets.specs.Sets.{all}
use Rattle.sets.proofs.Booleans.{and_left, and_right}
use Rattle.sets.proofs.Tests.{all_elim}
use Rattle.serials.specs.Rosters.{place_of, holds, first_repeat, listed}
use Rattle.serials.proofs.Rosters.{listed_sound}
use Rattle.layouts.proofs.Layouts.{AllBytes}
use Rattle.calls.specs.Demand.{Free, begun, Outcome, says, lent, lent_one, places, number, Whole}
use Rattle.calls.proofs.Acceptance.{serials, group, record_101, record_104, record_102, full_103, row, first_rows, second_rows, outcome_of, call_of, lines, listing}
use Rattle.calls.proofs.Demand.{demand_3}
use Rattle.calls.proofs.Single.{plain, InBytes, AllInBytes, single_whole}

-- ---- the listing's group

free : Free serials
unfolding serials listed place_of holds first_repeat all
free = record {
  sound = (listed_sound serials).0 refl;
  serials = λ p l. ltb-true (get_or serials p 0) (2 ^ 32) (all_elim 4 (λ p. ltb (get_or serials p 0) (2 ^ 32)) refl p l);
}

-- ---- its outcomes lend bytes

bytes : List ℕ → Bool
bytes [] = true
bytes (x ∷ s) = ltb x 256 && bytes s

bytes_all : (s : List ℕ) → bytes s ≡ true → AllBytes s
unfolding bytes
bytes_all [] e i = omega arith
bytes_all (x ∷ s) e zero = ltb-true x 256 (and_left (ltb x 256) (bytes s) e)
bytes_all (x ∷ s) e (suc i) = bytes_all s (and_right (ltb x 256) (bytes s) e) i

lends : Outcome → Bool
lends (says s) = true
lends (lent s a b) = bytes a && bytes b
lends (lent_one s b) = bytes b
lends (places S) = true
lends (number m) = true

lends_in : (o : Outcome) → lends o ≡ true → InBytes o
unfolding lends
lends_in (says s) e = tt
lends_in (lent s a b) e = (bytes_all a (and_left (bytes a) (bytes b) e), bytes_all b (and_right (bytes a) (bytes b) e))
lends_in (lent_one s b) e = bytes_all b e
lends_in (places S) e = tt
lends_in (number m) e = tt

all_lend : List Outcome → Bool
all_lend [] = true
all_lend (o ∷ os) = lends o && all_lend os

all_in : (os : List Outcome) → all_lend os ≡ true → AllInBytes os
unfolding all_lend
all_in [] e = tt
all_in (o ∷ os) e = (lends_in o (and_left (lends o) (all_lend os) e), all_in os (and_right (lends o) (all_lend os) e))

listing_in : AllInBytes (map outcome_of lines)
unfolding lines outcome_of group record_101 record_104 record_102 full_103 row first_rows second_rows all_lend lends bytes
listing_in = all_in (map outcome_of lines) refl

-- ---- and no others are dictated

listing_dictated : Whole serials (begun serials) (map call_of lines) (map outcome_of lines)
listing_dictated = subst (Whole serials (begun serials) (map call_of lines)) listing (demand_3 serials free (map call_of lines)).1

pub listing_only : {os : List Outcome} → Whole serials (begun serials) (map call_of lines) os → AllInBytes os
    → map (plain (length serials)) os ≡ map (plain (length serials)) (map outcome_of lines)
listing_only w c = single_whole free.sound w listing_dictated c listing_in
