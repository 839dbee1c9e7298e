-- The game of document 02, [6], played out on a recovery: a crew fetches an absent place, the hill hands over a record of it that is not
-- refused, and so on until the whole is settled. Assumes nothing.
use Rattle.refusals.specs.declared.Refusal.{Refusal}
use Rattle.refusals.specs.declared.Refusal.TheVariants as R
use Rattle.std.specs.Prelude.{Option, Some, None, Result, Ok, Err}
use Rattle.std.specs.Prelude.{Bool, true, false, cond, ℕ, zero, suc, ◌*◌, ◌/◌, ◌%◌, ◌^◌, min, max, eqb, leb}
use Rattle.sets.specs.Sets.{Places, below, difference, count, lowest}
use Rattle.sets.specs.PlaceSets.{bit}
use Rattle.histories.specs.declared.Kind.{Kind}
use Rattle.histories.specs.declared.Kind.TheVariants.{Full, Short}
use Rattle.histories.specs.Histories.{Row}
use Rattle.layouts.specs.Layout.{Stored, layout}
use Rattle.answers.specs.declared.Reply.{Reply}
use Rattle.answers.specs.declared.Reply.TheVariants as O
use Rattle.calls.specs.declared.Recovery.{Recovery}
use Rattle.calls.specs.declared.Offered.{Offered}
use Rattle.calls.specs.Promises.{size_of, roster_of, accepted_of, offered, settled_of}

-- the absent places
unfoldable pub absent_of : Recovery → Row
absent_of r = difference (below (size_of r)) (accepted_of r).returned

unfoldable pub absent_count : Recovery → ℕ
absent_count r = count (size_of r) (absent_of r)

-- ---- the least and the greatest

-- the least of m, and of f p for the places p of S below n
unfoldable pub least_with : ℕ → Places → (ℕ → ℕ) → ℕ → ℕ
least_with zero S f m = m
least_with (suc p) S f m = cond (S p) (min (f p) (least_with p S f m)) (least_with p S f m)

-- the least f p for the places p of S below n; S has one
unfoldable pub least : ℕ → Places → (ℕ → ℕ) → ℕ
least n S f = least_with n S f (f (lowest n S))

-- the greatest f j for the numbers j below m, and 0 where there is none
unfoldable pub greatest : ℕ → (ℕ → ℕ) → ℕ
greatest zero f = 0
greatest (suc j) f = max (greatest j f) (f j)

-- ---- the records of a place

-- the records of a place have numbers below `record_count`: an even one is full and an odd one short, and the binary digits of its half are
-- the mourned places
unfoldable pub kind_numbered : ℕ → Kind
kind_numbered j = cond (eqb (j % 2) 0) Full Short

unfoldable pub record_numbered : Recovery → ℕ → ℕ → Stored
record_numbered r p j = record { kind = kind_numbered j; own = p; roster = roster_of r; mourned = bit (j / 2) }

unfoldable pub record_count : Recovery → ℕ
record_count r = 2 * 2 ^ size_of r

-- what handing it over gives
unfoldable pub handed : Recovery → ℕ → ℕ → Offered
handed r p j = offered r (layout (record_numbered r p j))

-- ---- the two turns

unfoldable pub is_taken : Result Reply Refusal → Bool
is_taken (Ok O.Taken) = true
is_taken (Ok O.Repeated) = false
is_taken (Err j) = false

-- how long the rest of the game lasts after a record, where `turn` says how long it lasts from the crew's next turn on: a refused record is
-- not handed over
unfoldable pub lasting : (Recovery → ℕ) → Offered → ℕ
lasting turn o = cond (is_taken o.answer) (turn o.recovery) 0

-- the hill's turn after a fetch of p: it makes the rest of the game last as long as any record of p can
unfoldable pub hills_turn : (Recovery → ℕ) → Recovery → ℕ → ℕ
hills_turn turn r p = greatest (record_count r) (λ j. lasting turn (handed r p j))

-- the crew's turn with k places absent: how many fetches are left where both play as well as can be. A settled whole needs none, and
-- with nobody absent it is settled; otherwise the crew fetches a place that makes the rest shortest
unfoldable pub crews_turn : ℕ → Recovery → ℕ
crews_turn zero r = 0
crews_turn (suc k) r = cond (settled_of r) 0 (suc (least (size_of r) (absent_of r) (hills_turn (crews_turn k) r)))

-- how many fetches the game lasts from r on
unfoldable pub fetches_from : Recovery → ℕ
fetches_from r = crews_turn (absent_count r) r

-- the game from r on: 17 for a roster of more than four
unfoldable pub played : Recovery → Result ℕ Refusal
played r = cond (leb (size_of r) 4) (Ok (crews_turn (absent_count r) r)) (Err R.TooMany)
