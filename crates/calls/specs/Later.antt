-- What later calls cannot change, and records offered one after another: document 02, [1], by the definitions that the contracts cite.
-- Assumes nothing.
use Rattle.refusals.specs.declared.Refusal.{Refusal}
use Rattle.answers.specs.declared.Answer.TheVariants as A
use Rattle.std.specs.Prelude.{Result, Ok, ◌≡◌, ◌⊎◌, List, [], ◌∷◌, map, ℕ}
use Rattle.answers.specs.declared.Showing.TheVariants as S
use Rattle.answers.specs.Shows.{unshown}
use Rattle.answers.specs.declared.Reply.{Reply}
use Rattle.answers.specs.declared.Reply.TheVariants as O
use Rattle.calls.specs.declared.Recovery.{Recovery}
use Rattle.calls.specs.Promises.{offered, asked, shown}
use Rattle.calls.specs.Demand.{Call, offer}

-- what r says of the place i, once it is decided, s says too. Where i is open in r, s may say anything. The buffers do not matter to
-- showing: decided with some two in r, it is decided with any two in s, and these keep their bytes
pub record Stays (r s : Recovery) (i : ℕ) : Type 0 where
  pub last : asked r i ≡ Ok A.Last → asked s i ≡ Ok A.Last
  pub not_last : asked r i ≡ Ok A.NotLast → asked s i ≡ Ok A.NotLast
  pub decided : (a b : List ℕ) → (shown r i a b).answer ≡ Ok S.Decided → (c d : List ℕ) → shown s i c d ≡ unshown (Ok S.Decided) c d

-- records offered one after another, with nothing between
abbrev pub offers : List (List ℕ) → List Call
offers xs = map offer xs

-- a record is accepted: taken or repeated
abbrev pub IsAccepted : Result Reply Refusal → Type 0
IsAccepted a = (a ≡ Ok O.Taken) ⊎ (a ≡ Ok O.Repeated)

-- so offered to r, each of them is accepted
pub data Accepts : Recovery → List (List ℕ) → Type 0 where
  all : {r : Recovery} → Accepts r []
  next : {r : Recovery} {bytes : List ℕ} {xs : List (List ℕ)} → IsAccepted (offered r bytes).answer → Accepts (offered r bytes).recovery xs → Accepts r (bytes ∷ xs)
