-- What 11 says of the records: documents 01 and 02, [3]. Nothing here is computed. Assumes nothing.
use Rattle.std.specs.Prelude.{◌≡◌, true, false, ◌⊎◌, ℕ}
use Rattle.histories.specs.declared.Kind.TheVariants.{Full}
use Rattle.histories.specs.Histories.{Before, Accepted}
use Rattle.histories.specs.Rule.{recorded}

-- by the returned records alone, some place is before itself
abbrev pub Circle : Accepted → Type 0
Circle A = (p : ℕ) × Before (recorded A) p p

-- the row of a returned full place lacks someone before it
pub record Lacking (A : Accepted) : Type 0 where
  pub place : ℕ
  pub missing : ℕ
  pub back : A.returned place ≡ true
  pub full : A.kind place ≡ Full
  pub earlier : Before (recorded A) missing place
  pub lacks : A.row place missing ≡ false

abbrev pub Contradicts : Accepted → Type 0
Contradicts A = Circle A ⊎ Lacking A
