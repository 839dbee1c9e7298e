-- Fetches, one after another, in bytes: document 02, [6], by the definitions that the contracts cite. Assumes nothing.
use Rattle.std.specs.Prelude.{Option, Some, None, Result, Ok, Err}
use Rattle.std.specs.Prelude.{◌≡◌, true, false, List, ℕ, zero, suc, ◌<◌}
use Rattle.sets.specs.Sets.{nothing}
use Rattle.histories.specs.declared.Kind.{Kind}
use Rattle.answers.specs.declared.Fetching.{Fetching}
use Rattle.layouts.specs.Layout.{got, Stored, lone, layout}
use Rattle.calls.specs.declared.Recovery.{Recovery}
use Rattle.calls.specs.Promises.{size_of, roster_of, alias_of, accepted_of, offered, settled_of, fetching_of}
use Rattle.calls.specs.Demand.{Call}
use Rattle.calls.specs.Run.{left}
use Rattle.calls.specs.Later.{IsAccepted}

-- the number of fetches that is told: none where the whole is settled
unfoldable pub number : Option Fetching → ℕ
number None = 0
number (Some f) = f.number

-- a place of the roster that is not back
abbrev pub Absent : Recovery → ℕ → Type 0
Absent r p = (p < size_of r) × ((accepted_of r).returned p ≡ false)

-- a fetch of p may hand over these bytes: they are a record of p, and r does not refuse it
pub record HandedOver (r : Recovery) (p : ℕ) (bytes : List ℕ) : Type 0 where
  pub stored : Stored
  pub rest : List ℕ
  pub reads : lone (alias_of r) bytes ≡ got stored rest
  pub own : stored.own ≡ p
  pub accepted : IsAccepted (offered r bytes).answer

-- the record of p that mourns nobody
unfoldable pub empty_record : Recovery → ℕ → Kind → List ℕ
empty_record r p k = layout (record { kind = k; own = p; roster = roster_of r; mourned = nothing })

-- a crew that fetches as it is told, from r on, is done within k fetches: the whole is settled, or some place is told, it has a record to
-- hand over, and whichever is handed over, and whatever is called before the next fetch, the crew is then done within one fetch less
pub data SettledWithin : ℕ → Recovery → Type 0 where
  done : {k : ℕ} {r : Recovery} → settled_of r ≡ true → SettledWithin k r
  fetch : {k m p : ℕ} {r : Recovery} → fetching_of r ≡ Some (record { number = m; next = record { 0 = p } }) → Absent r p → (bytes : List ℕ) × HandedOver r p bytes
      → ((bytes : List ℕ) → HandedOver r p bytes → (cs : List Call) → SettledWithin k (left (offered r bytes).recovery cs)) → SettledWithin (suc k) r

-- the group can keep any crew busy, from r on, beyond k fetches: some place is open, and if one may be fetched yet, then whichever absent place
-- is, the group has a record of it to hand over after which it can keep the crew busy beyond one fetch less
abbrev pub OpenBeyond : ℕ → Recovery → Type 0
OpenBeyond zero r = settled_of r ≡ false
OpenBeyond (suc k) r = (settled_of r ≡ false) × ((p : ℕ) → Absent r p → (bytes : List ℕ) × HandedOver r p bytes × OpenBeyond k (offered r bytes).recovery)
