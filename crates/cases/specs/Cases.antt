-- Document 01's cases P1 to P12, and some of both kinds, as one table: each record with what is said to it, the answer for each place, the whole, and what a crew is told to fetch (document 02,
-- [6]). Members are numbered 1, 2, and so on in roster order, as there; their serials are these numbers. Assumes nothing.
use Rattle.std.specs.Prelude.{false, ◌||◌, List, [], ◌∷◌, ◌++◌, map, ℕ, zero, suc, pred, eqb}
use Rattle.histories.specs.declared.Kind.{Kind}
use Rattle.histories.specs.declared.Kind.TheVariants.{Full, Short}
use Rattle.histories.specs.Histories.{Row}
use Rattle.layouts.specs.Layout.{layout}
use Rattle.calls.specs.Demand.{Said, taken, repeated, is_last, not_last, is_open, settled, unsettled, fetches, refused, Call, offer, ask, whole, to_fetch, Outcome, says}

-- the places of some members
unfoldable pub members : List ℕ → Row
members [] q = false
members (x ∷ xs) q = eqb (suc q) x || members xs q

-- a record: its kind, its member and whom it mourns
infix 70 ◌of◌mourns◌
pub data Record : Type 0 where
  ◌of◌mourns◌ : Kind → ℕ → List ℕ → Record

-- a record offered, and what is said to it
infix 60 ◌▸◌
pub data Offered : Type 0 where
  ◌▸◌ : Record → Said → Offered

-- roster length, the records in order, then what is said of each place, of the whole, and of what to fetch
pub data Case : Type 0 where
  case : ℕ → List Offered → List Said → Said → Said → Case

-- ---- a case in bytes

-- the numbers from m on, n of them
unfoldable pub numbers : ℕ → ℕ → List ℕ
numbers zero m = []
numbers (suc n) m = m ∷ numbers n (suc m)

unfoldable pub bytes_of : ℕ → Record → List ℕ
bytes_of n (k of p mourns m) = layout (record { kind = k; own = pred p; roster = numbers n 1; mourned = members m })

unfoldable pub offer_of : ℕ → Offered → Call
offer_of n (x ▸ o) = offer (bytes_of n x)

unfoldable pub reply_of : Offered → Outcome
reply_of (x ▸ o) = says o

unfoldable pub roster_of : Case → List ℕ
roster_of (case n os answers w f) = numbers n 1

unfoldable pub calls_of : Case → List Call
calls_of (case n os answers w f) = map (offer_of n) os ++ map ask (numbers n 0) ++ (whole ∷ to_fetch ∷ [])

unfoldable pub outcomes_of : Case → List Outcome
outcomes_of (case n os answers w f) = map reply_of os ++ map says answers ++ (says w ∷ says f ∷ [])

-- ---- the table

unfoldable pub cases : List Case
cases =
    -- P1
    case 1 [] (is_last ∷ []) settled settled
    -- P2
    ∷ case 2 [] (is_open ∷ is_open ∷ []) unsettled (fetches 2 0)
    -- P3
    ∷ case 4 ((Short of 1 mourns [] ▸ taken) ∷ (Short of 4 mourns (2 ∷ 3 ∷ []) ▸ taken) ∷ []) (is_open ∷ not_last ∷ not_last ∷ is_last ∷ []) unsettled (fetches 2 1)
    -- P4
    ∷ case 4 ((Full of 1 mourns [] ▸ taken) ∷ (Full of 4 mourns (2 ∷ 3 ∷ []) ▸ taken) ∷ []) (is_last ∷ not_last ∷ not_last ∷ is_last ∷ []) settled settled
    -- P5
    ∷ case 4 ((Full of 1 mourns [] ▸ taken) ∷ (Full of 4 mourns (2 ∷ 3 ∷ []) ▸ taken) ∷ (Full of 2 mourns (1 ∷ []) ▸ refused 11) ∷ [])
    (is_last ∷ not_last ∷ not_last ∷ is_last ∷ []) settled settled
    -- P6
    ∷ case 4 ((Short of 1 mourns [] ▸ taken) ∷ (Short of 4 mourns (2 ∷ 3 ∷ []) ▸ taken) ∷ (Short of 2 mourns (1 ∷ []) ▸ taken) ∷ [])
    (not_last ∷ not_last ∷ not_last ∷ is_last ∷ []) settled settled
    -- P7
    ∷ case 3 ((Full of 1 mourns [] ▸ taken) ∷ (Full of 2 mourns [] ▸ taken) ∷ []) (is_open ∷ is_open ∷ is_last ∷ []) unsettled (fetches 1 2)
    ∷ case 3 ((Short of 1 mourns [] ▸ taken) ∷ (Short of 2 mourns [] ▸ taken) ∷ []) (is_open ∷ is_open ∷ is_last ∷ []) unsettled (fetches 1 2)
    -- P8
    ∷ case 6 ((Full of 1 mourns (4 ∷ 6 ∷ []) ▸ taken) ∷ (Full of 2 mourns (3 ∷ 5 ∷ []) ▸ taken) ∷ [])
    (is_last ∷ is_last ∷ not_last ∷ not_last ∷ not_last ∷ not_last ∷ []) settled settled
    -- P9
    ∷ case 6 ((Short of 1 mourns (4 ∷ 6 ∷ []) ▸ taken) ∷ (Short of 2 mourns (3 ∷ 5 ∷ []) ▸ taken) ∷ [])
    (is_open ∷ is_open ∷ not_last ∷ not_last ∷ not_last ∷ not_last ∷ []) unsettled (fetches 4 2)
    -- P10
    ∷ case 2 ((Short of 1 mourns (2 ∷ []) ▸ taken) ∷ (Short of 2 mourns (1 ∷ []) ▸ refused 11) ∷ []) (is_last ∷ not_last ∷ []) settled settled
    -- P11
    ∷ case 3 ((Full of 1 mourns (2 ∷ []) ▸ taken) ∷ (Full of 2 mourns (3 ∷ []) ▸ refused 11) ∷ []) (is_open ∷ not_last ∷ is_last ∷ []) unsettled (fetches 1 2)
    ∷ case 3 ((Full of 1 mourns (2 ∷ 3 ∷ []) ▸ taken) ∷ (Full of 2 mourns (3 ∷ []) ▸ taken) ∷ []) (is_last ∷ not_last ∷ not_last ∷ []) settled settled
    -- P12
    ∷ case 2 ((Full of 1 mourns (1 ∷ []) ▸ refused 11) ∷ []) (is_open ∷ is_open ∷ []) unsettled (fetches 2 0)
    ∷ case 2 ((Short of 1 mourns (1 ∷ []) ▸ refused 11) ∷ []) (is_open ∷ is_open ∷ []) unsettled (fetches 2 0)
    -- both kinds: a full row lacks whom a short one, named there, has heard, in either order
    ∷ case 3 ((Full of 1 mourns (2 ∷ []) ▸ taken) ∷ (Short of 2 mourns (3 ∷ []) ▸ refused 11) ∷ []) (is_open ∷ not_last ∷ is_last ∷ []) unsettled (fetches 1 2)
    ∷ case 3 ((Short of 2 mourns (3 ∷ []) ▸ taken) ∷ (Full of 1 mourns (2 ∷ []) ▸ refused 11) ∷ []) (is_open ∷ is_open ∷ not_last ∷ []) unsettled (fetches 2 0)
    -- a short row need not hold what a full one, named there, has heard
    ∷ case 3 ((Full of 1 mourns (2 ∷ []) ▸ taken) ∷ (Short of 3 mourns (1 ∷ []) ▸ taken) ∷ []) (not_last ∷ not_last ∷ is_last ∷ []) settled settled
    -- the same mourned set in another kind is another record
    ∷ case 2 ((Full of 1 mourns (2 ∷ []) ▸ taken) ∷ (Short of 1 mourns (2 ∷ []) ▸ refused 10) ∷ (Full of 1 mourns (2 ∷ []) ▸ repeated) ∷ [])
    (is_last ∷ not_last ∷ []) settled settled
    -- P3 with the record of 1 full changes nothing; with that of 4 full its mourned no longer block 1
    ∷ case 4 ((Full of 1 mourns [] ▸ taken) ∷ (Short of 4 mourns (2 ∷ 3 ∷ []) ▸ taken) ∷ []) (is_open ∷ not_last ∷ not_last ∷ is_last ∷ []) unsettled (fetches 2 1)
    ∷ case 4 ((Short of 1 mourns [] ▸ taken) ∷ (Full of 4 mourns (2 ∷ 3 ∷ []) ▸ taken) ∷ []) (is_last ∷ not_last ∷ not_last ∷ is_last ∷ []) settled settled
    ∷ []
