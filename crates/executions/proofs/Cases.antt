-- Two small days and each refusal, computed: the definitions of an event, held to their values. Assumes nothing.
use mathlib.Core.Path.{◌≡◌, refl}
use mathlib.Core.Bool.{cond}
use Rattle.std.specs.Prelude.{Result, Ok, Err, is_ok}
use Rattle.refusals.specs.declared.Refusal.{Refusal}
use Rattle.refusals.specs.Numbers.{number}
use mathlib.Core.List.{List, [], ◌∷◌}
use Prim.Native.Nat.{ℕ, zero, suc}
use Rattle.sets.specs.Sets.{Places}
use Rattle.histories.specs.declared.Kind.{Kind}
use Rattle.histories.specs.declared.Kind.TheVariants.{Full, Short}
use Rattle.executions.specs.declared.Event.{Event}
use Rattle.executions.specs.Executions.{Execution, morning, stop_fault, hear_fault, fault, listeners, noting, happening}

-- an event by its kind and its two places
abbrev event : ℕ → ℕ → ℕ → Event
event k p q = record { kind = k; place = record { 0 = p }; other = record { 0 = q } }

-- a stop, its other place on no roster, and a hearing
abbrev stop : ℕ → Event
stop p = event 1 p 900

abbrev hear : ℕ → ℕ → Event
hear p q = event 2 p q

-- the number of a refusal, or 0
numbered : Result (Unit {0}) Refusal → ℕ
numbered (Ok u) = 0
numbered (Err j) = number j

-- the execution behind an event, which a refused one leaves as it was
behind : Kind → ℕ → Execution → Event → Execution
behind k n D e = cond (is_ok (fault n D e)) (happening k n D e) D

-- the number of each event's refusal in turn; a refused one is passed over
refusals : Kind → ℕ → Execution → List Event → List ℕ
refusals k n D [] = []
refusals k n D (e ∷ es) = numbered (fault n D e) ∷ refusals k n (behind k n D e) es

-- the execution after them
after : Kind → ℕ → Execution → List Event → Execution
after k n D [] = D
after k n D (e ∷ es) = after k n (behind k n D e) es

-- the members of a set below p + m, from p on
members : ℕ → ℕ → Places → List ℕ
members zero p S = []
members (suc m) p S = cond (S p) (p ∷ members m (suc p) S) (members m (suc p) S)

-- the rows of m places, from p on, on a roster of n
rows_from : ℕ → ℕ → ℕ → Execution → List (List ℕ)
rows_from zero p n D = []
rows_from (suc m) p n D = members n 0 (D.row p) ∷ rows_from m (suc p) n D

-- what was refused on a day of n places, who has stopped, and the rows
pub record Told : Type 0 where
  pub refused : List ℕ
  pub stopped : List ℕ
  pub rows : List (List ℕ)

told : Kind → ℕ → List Event → Told
told k n es = record { refused = refusals k n morning es; stopped = members n 0 (after k n morning es).stopped; rows = rows_from n 0 n (after k n morning es) }

-- of three places 1 hears 0, and 2 hears 1
abbrev day : List Event
day = stop 0 ∷ hear 1 0 ∷ stop 1 ∷ hear 2 1 ∷ hear 2 1 ∷ stop 2 ∷ []

-- in the short kind 2 has not heard 0
short_day : told Short 3 day ≡ record {
  refused = 0 ∷ 0 ∷ 0 ∷ 0 ∷ 0 ∷ 0 ∷ [];
  stopped = 0 ∷ 1 ∷ 2 ∷ [];
  rows = [] ∷ (0 ∷ []) ∷ (1 ∷ []) ∷ [];
}
unfolding told numbered behind refusals after members rows_from fault stop_fault hear_fault listeners noting happening
short_day = refl

-- in the full kind 2 noted it with 1
full_day : told Full 3 day ≡ record {
  refused = 0 ∷ 0 ∷ 0 ∷ 0 ∷ 0 ∷ 0 ∷ [];
  stopped = 0 ∷ 1 ∷ 2 ∷ [];
  rows = [] ∷ (0 ∷ []) ∷ (0 ∷ 1 ∷ []) ∷ [];
}
unfolding told numbered behind refusals after members rows_from fault stop_fault hear_fault listeners noting happening
full_day = refl

-- of five places 3 hears 0 and 4 hears 1 and 2: in the short kind each alone, in the full kind with all who run then
abbrev day_of_five : List Event
day_of_five = stop 0 ∷ hear 3 0 ∷ stop 1 ∷ stop 2 ∷ hear 4 2 ∷ hear 4 1 ∷ stop 3 ∷ hear 4 3 ∷ stop 4 ∷ []

short_five : (told Short 5 day_of_five).rows ≡ [] ∷ [] ∷ [] ∷ (0 ∷ []) ∷ (1 ∷ 2 ∷ 3 ∷ []) ∷ []
unfolding told numbered behind refusals after members rows_from fault stop_fault hear_fault listeners noting happening
short_five = refl

full_five : (told Full 5 day_of_five).rows ≡ [] ∷ (0 ∷ []) ∷ (0 ∷ []) ∷ (0 ∷ 1 ∷ 2 ∷ []) ∷ (0 ∷ 1 ∷ 2 ∷ 3 ∷ []) ∷ []
unfolding told numbered behind refusals after members rows_from fault stop_fault hear_fault listeners noting happening
full_five = refl

-- off the roster; hearing of one that runs, and of itself; a second stop, and hearing after it; kinds that no event has
refused_day : told Full 2 (stop 2 ∷ hear 2 0 ∷ hear 0 2 ∷ hear 0 1 ∷ hear 0 0 ∷ stop 1 ∷ stop 1 ∷ hear 1 1 ∷ event 0 0 1 ∷ event 3 0 1 ∷ hear 0 1 ∷ []) ≡ record {
  refused = 12 ∷ 12 ∷ 12 ∷ 14 ∷ 14 ∷ 0 ∷ 14 ∷ 14 ∷ 14 ∷ 14 ∷ 0 ∷ [];
  stopped = 1 ∷ [];
  rows = (1 ∷ []) ∷ [] ∷ [];
}
unfolding told numbered behind refusals after members rows_from fault stop_fault hear_fault listeners noting happening
refused_day = refl
