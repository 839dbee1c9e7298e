-- Document 01's cases P1 to P12, and some of both kinds, as one table. Members are numbered 1, 2, and so on in roster order, as there.
-- Assumes nothing.
use Rattle.std.specs.Prelude.{Bool, true, false, cond, ◌&&◌, ◌||◌, List, [], ◌∷◌, ℕ, zero, suc, pred, eqb}
use Rattle.std.specs.Bool.{beq}
use Rattle.sets.specs.Sets.{same}
use Rattle.histories.specs.declared.Kind.{Kind}
use Rattle.histories.specs.declared.Kind.TheVariants.{Full, Short}
use Rattle.histories.specs.Histories.{Row, Accepted, none, lay}
use Rattle.histories.specs.Rule.{Answer, is_last, not_last, is_open, is_full, answer, settled, accepts}

-- the places of some members
unfoldable pub members : List ℕ → Row
members [] q = false
members (x ∷ xs) q = eqb (suc q) x || members xs q

-- a record: its kind, its member and whom it mourns
infix 70 ◌of◌mourns◌
pub data Record : Type 0 where
  ◌of◌mourns◌ : Kind → ℕ → List ℕ → Record

pub data Outcome : Type 0 where
  taken repeated : Outcome
  refused : ℕ → Outcome

-- a record offered, and what is said to it
infix 60 ◌▸◌
pub data Offered : Type 0 where
  ◌▸◌ : Record → Outcome → Offered

-- roster length, the records in order with their outcomes, the answer for each place, settled or not
pub data Case : Type 0 where
  case : ℕ → List Offered → List Answer → Bool → Case

-- what is said to a sound record of the group, and what is accepted after it
unfoldable pub said : ℕ → Accepted → ℕ → Kind → Row → Outcome
said n A p k M =
    cond (A.returned p) (cond (beq (is_full k) (is_full (A.kind p)) && same n M (A.row p)) repeated (refused 10)) (cond (accepts n A p k M) taken (refused 11))

unfoldable pub then : ℕ → Accepted → ℕ → Kind → Row → Accepted
then n A p k M = cond (A.returned p) A (cond (accepts n A p k M) (lay A p k M) A)

-- the same offers with the outcomes that the rule gives
unfoldable pub offers : ℕ → Accepted → List Offered → List Offered
offers n A [] = []
offers n A ((k of p mourns m ▸ o) ∷ rest) = (k of p mourns m ▸ said n A (pred p) k (members m)) ∷ offers n (then n A (pred p) k (members m)) rest

unfoldable pub accepted_after : ℕ → Accepted → List Offered → Accepted
accepted_after n A [] = A
accepted_after n A ((k of p mourns m ▸ o) ∷ rest) = accepted_after n (then n A (pred p) k (members m)) rest

-- the answers for m places from i on
unfoldable pub answers_from : ℕ → ℕ → Accepted → ℕ → List Answer
answers_from zero n A i = []
answers_from (suc m) n A i = answer n A i ∷ answers_from m n A (suc i)

-- a case with all that the rule says in the place of what is expected
unfoldable pub reckoned : Case → Case
reckoned (case n os answers s) =
    let A = accepted_after n none os in
    case n (offers n none os) (answers_from n n A 0) (settled n A)

unfoldable pub cases : List Case
cases =
    -- P1
    case 1 [] (is_last ∷ []) true
    -- P2
    ∷ case 2 [] (is_open ∷ is_open ∷ []) false
    -- P3
    ∷ case 4 ((Short of 1 mourns [] ▸ taken) ∷ (Short of 4 mourns (2 ∷ 3 ∷ []) ▸ taken) ∷ []) (is_open ∷ not_last ∷ not_last ∷ is_last ∷ []) false
    -- P4
    ∷ case 4 ((Full of 1 mourns [] ▸ taken) ∷ (Full of 4 mourns (2 ∷ 3 ∷ []) ▸ taken) ∷ []) (is_last ∷ not_last ∷ not_last ∷ is_last ∷ []) true
    -- P5
    ∷ case 4 ((Full of 1 mourns [] ▸ taken) ∷ (Full of 4 mourns (2 ∷ 3 ∷ []) ▸ taken) ∷ (Full of 2 mourns (1 ∷ []) ▸ refused 11) ∷ [])
    (is_last ∷ not_last ∷ not_last ∷ is_last ∷ []) true
    -- P6
    ∷ case 4 ((Short of 1 mourns [] ▸ taken) ∷ (Short of 4 mourns (2 ∷ 3 ∷ []) ▸ taken) ∷ (Short of 2 mourns (1 ∷ []) ▸ taken) ∷ [])
    (not_last ∷ not_last ∷ not_last ∷ is_last ∷ []) true
    -- P7
    ∷ case 3 ((Full of 1 mourns [] ▸ taken) ∷ (Full of 2 mourns [] ▸ taken) ∷ []) (is_open ∷ is_open ∷ is_last ∷ []) false
    ∷ case 3 ((Short of 1 mourns [] ▸ taken) ∷ (Short of 2 mourns [] ▸ taken) ∷ []) (is_open ∷ is_open ∷ is_last ∷ []) false
    -- P8
    ∷ case 6 ((Full of 1 mourns (4 ∷ 6 ∷ []) ▸ taken) ∷ (Full of 2 mourns (3 ∷ 5 ∷ []) ▸ taken) ∷ [])
    (is_last ∷ is_last ∷ not_last ∷ not_last ∷ not_last ∷ not_last ∷ []) true
    -- P9
    ∷ case 6 ((Short of 1 mourns (4 ∷ 6 ∷ []) ▸ taken) ∷ (Short of 2 mourns (3 ∷ 5 ∷ []) ▸ taken) ∷ [])
    (is_open ∷ is_open ∷ not_last ∷ not_last ∷ not_last ∷ not_last ∷ []) false
    -- P10
    ∷ case 2 ((Short of 1 mourns (2 ∷ []) ▸ taken) ∷ (Short of 2 mourns (1 ∷ []) ▸ refused 11) ∷ []) (is_last ∷ not_last ∷ []) true
    -- P11
    ∷ case 3 ((Full of 1 mourns (2 ∷ []) ▸ taken) ∷ (Full of 2 mourns (3 ∷ []) ▸ refused 11) ∷ []) (is_open ∷ not_last ∷ is_last ∷ []) false
    ∷ case 3 ((Full of 1 mourns (2 ∷ 3 ∷ []) ▸ taken) ∷ (Full of 2 mourns (3 ∷ []) ▸ taken) ∷ []) (is_last ∷ not_last ∷ not_last ∷ []) true
    -- P12
    ∷ case 2 ((Full of 1 mourns (1 ∷ []) ▸ refused 11) ∷ []) (is_open ∷ is_open ∷ []) false
    ∷ case 2 ((Short of 1 mourns (1 ∷ []) ▸ refused 11) ∷ []) (is_open ∷ is_open ∷ []) false
    -- both kinds: a full row lacks whom a short one, named there, has heard, in either order
    ∷ case 3 ((Full of 1 mourns (2 ∷ []) ▸ taken) ∷ (Short of 2 mourns (3 ∷ []) ▸ refused 11) ∷ []) (is_open ∷ not_last ∷ is_last ∷ []) false
    ∷ case 3 ((Short of 2 mourns (3 ∷ []) ▸ taken) ∷ (Full of 1 mourns (2 ∷ []) ▸ refused 11) ∷ []) (is_open ∷ is_open ∷ not_last ∷ []) false
    -- a short row need not hold what a full one, named there, has heard
    ∷ case 3 ((Full of 1 mourns (2 ∷ []) ▸ taken) ∷ (Short of 3 mourns (1 ∷ []) ▸ taken) ∷ []) (not_last ∷ not_last ∷ is_last ∷ []) true
    -- the same mourned set in another kind is another record
    ∷ case 2 ((Full of 1 mourns (2 ∷ []) ▸ taken) ∷ (Short of 1 mourns (2 ∷ []) ▸ refused 10) ∷ (Full of 1 mourns (2 ∷ []) ▸ repeated) ∷ [])
    (is_last ∷ not_last ∷ []) true
    -- P3 with the record of 1 full changes nothing; with that of 4 full its mourned no longer block 1
    ∷ case 4 ((Full of 1 mourns [] ▸ taken) ∷ (Short of 4 mourns (2 ∷ 3 ∷ []) ▸ taken) ∷ []) (is_open ∷ not_last ∷ not_last ∷ is_last ∷ []) false
    ∷ case 4 ((Short of 1 mourns [] ▸ taken) ∷ (Full of 4 mourns (2 ∷ 3 ∷ []) ▸ taken) ∷ []) (is_last ∷ not_last ∷ not_last ∷ is_last ∷ []) true
    ∷ []
