-- The opening of a day, and the records of one that is over, offered to a recovery: what is said of them in bytes, by the definitions that the contracts of the day and of
-- the recovery cite. Assumes nothing.
use Rattle.std.specs.Prelude.{◌≡◌, true, Ok, ◌⊎◌, List, map, ℕ, ◌<◌}
use Rattle.histories.specs.Histories.{Last}
use Rattle.layouts.specs.Layout.{layout}
use Rattle.calls.specs.declared.Recovery.{Recovery}
use Rattle.answers.specs.declared.Answer.TheVariants as A
use Rattle.calls.specs.Promises.{asked}
use Rattle.calls.specs.Demand as D
use Rattle.calls.specs.Demand.{Said, refused}
use Rattle.executions.specs.declared.Day.{Day}
use Rattle.executions.specs.Promises.{size_of, execution_of, record_of}

-- ---- opening a day

-- a kind byte that is known
abbrev pub Known : ℕ → Type 0
Known kind = (kind ≡ 1) ⊎ (kind ≡ 2)

-- an opening free of the faults 2 to 5
pub record Free (kind : ℕ) (roster : List ℕ) : Type 0 where
  pub known : Known kind
  pub list : D.Free roster

-- what opening a day must say: 2, and then what opening a recovery must
pub data Opens (kind : ℕ) (s : List ℕ) : Said → Type 0 where
  unknown : ¬ (Known kind) → Opens kind s (refused 2)
  otherwise : {w : Said} → Known kind → D.Opens s w → Opens kind s w

-- ---- its records

-- the bytes that the day's writer writes for p
unfoldable pub record_bytes : Day → ℕ → List ℕ
record_bytes d p = layout (record_of d p)

-- everyone has stopped
abbrev pub Over : Day → Type 0
Over d = (p : ℕ) → p < size_of d → (execution_of d).stopped p ≡ true

-- the records of some places, in this order
unfoldable pub records_of : Day → List ℕ → List (List ℕ)
records_of d ps = map (record_bytes d) ps

-- what r answers is true of the day: last only where nobody heard it stop, not last only where somebody did
pub record True (d : Day) (r : Recovery) : Type 0 where
  pub last : (p : ℕ) → asked r p ≡ Ok A.Last → Last (execution_of d).row p
  pub not_last : (p : ℕ) → asked r p ≡ Ok A.NotLast → (x : ℕ) × ((execution_of d).row x p ≡ true)
