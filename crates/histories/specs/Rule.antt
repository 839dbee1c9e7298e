-- The rule: document 01, 'The answer for a place', and the tests for 11 and for a lent history, with the kinds of document 02, [3],
-- as they are computed from the accepted records of a roster of length n. That it is the meaning is proved in proofs/. Assumes nothing.
use Rattle.std.specs.Prelude.{Bool, true, false, not, cond, ◌&&◌, ◌||◌, ℕ, zero, suc}
use Rattle.sets.specs.Sets.{only, below, difference, with, any, all, subset, same, count, lowest}
use Rattle.histories.specs.declared.Kind.{Kind}
use Rattle.histories.specs.declared.Kind.TheVariants.{Full, Short}
use Rattle.histories.specs.Histories.{Row, History, Accepted, lay}

-- the recorded rows, and empty rows for the places that have not returned: also 01's first shown history
unfoldable pub recorded : Accepted → History
recorded A p q = A.returned p && A.row p q

-- mourned: some returned record names it
unfoldable pub mourned : ℕ → Accepted → Row
mourned n A q = any n (λ p. recorded A p q)

-- `reach k H p q`: q is before p in H by a chain whose inner places are all below k. Each turn lets a row that holds k
-- take in k's row
unfoldable pub reach : ℕ → History → History
reach zero H = H
reach (suc k) H = λ p q. reach k H p q || reach k H p k && reach k H k q

-- the places before p by returned records only (000's closure)
unfoldable pub before : ℕ → Accepted → History
before n A = reach n (recorded A)

unfoldable pub is_full : Kind → Bool
is_full Full = true
is_full Short = false

-- the returned places whose record is full
unfoldable pub full_back : Accepted → Row
full_back A p = A.returned p && is_full (A.kind p)

-- the places before some returned full one
unfoldable pub before_full : ℕ → Accepted → Row
before_full n A q = any n (λ p. full_back A p && before n A p q)

-- the blockers of i: other places that have not returned and are neither before i nor before any returned full place
unfoldable pub blockers : ℕ → Accepted → ℕ → Row
blockers n A i = difference (difference (difference (difference (below n) (only i)) A.returned) (before n A i)) (before_full n A)

pub data Answer : Type 0 where
  is_last not_last is_open : Answer

-- for an unmourned place, whether it is open
unfoldable pub answer_with : Bool → Bool → Answer
answer_with isMourned isBlocked = cond isMourned not_last (cond isBlocked is_open is_last)

unfoldable pub answer : ℕ → Accepted → ℕ → Answer
answer n A i = answer_with (mourned n A i) (any n (blockers n A i))

unfoldable pub open_answer : Answer → Bool
open_answer is_last = false
open_answer not_last = false
open_answer is_open = true

-- settled: no place is open
unfoldable pub none_open : ℕ → (ℕ → Answer) → Bool
none_open n answers = not (any n (λ i. open_answer (answers i)))

unfoldable pub settled : ℕ → Accepted → Bool
settled n A = none_open n (answer n A)

-- all unmourned places, those of them that are absent, and how many the former are
unfoldable pub unmourned : ℕ → Accepted → Row
unmourned n A = difference (below n) (mourned n A)

unfoldable pub unmourned_absent : ℕ → Accepted → Row
unmourned_absent n A = difference (unmourned n A) A.returned

unfoldable pub unmourned_count : ℕ → Accepted → ℕ
unmourned_count n A = count n (unmourned n A)

-- the second shown history: the first, but for the row of the lowest blocker b, which holds i and everyone before i
unfoldable pub grown : ℕ → Accepted → ℕ → ℕ → History
grown n A i b p = cond (only b p) (with i (before n A i)) (recorded A p)

unfoldable pub second : ℕ → Accepted → ℕ → History
second n A i = grown n A i (lowest n (blockers n A i))

-- the row of f, if it is back and full and names p, holds E
unfoldable pub agrees : ℕ → Accepted → ℕ → Row → Row
agrees n A p E f = not (full_back A f && recorded A f p) || subset n E (recorded A f)

-- the test for 11: whether the record of p, which is not back, with kind k and mourned set M, may be taken. Of those before p
-- once it is there none is p; if it is full, M holds them; and the row of each returned full place that names p holds them
unfoldable pub accepts : ℕ → Accepted → ℕ → Kind → Row → Bool
accepts n A p k M =
    let E = before n (lay A p k M) p in
    not (E p) && (not (is_full k) || subset n E M) && all n (agrees n A p E)

-- the test whether a history with no place off the roster fits: nobody is before itself, the row of each returned full place
-- holds everyone before it, and each returned row is the recorded one
unfoldable pub duty_met : ℕ → Accepted → History → Row
duty_met n A H p = not (full_back A p) || subset n (reach n H p) (H p)

unfoldable pub fits_test : ℕ → Accepted → History → Bool
fits_test n A H = all n (λ p. not (reach n H p p)) && all n (duty_met n A H) && all n (λ p. not (A.returned p) || same n (H p) (A.row p))
