-- A refusal's number is its discriminant. Assumes nothing.
use Rattle.std.proofs.Common.{◌≡◌, refl, ap, ◌∙◌, ◌+◌, ℕ, Result, Ok, Err}
use Rattle.std.specs.Prelude.{MatchResult, IsErrAnd}
use Rattle.std.proofs.lemmas.Result.{err_from_is_err_and}
use denote.Enum.Declared as enum
use Rattle.refusals.specs.Numbers.{number, numbered}
use Rattle.refusals.specs.declared.Refusal.{Refusal}
use Rattle.refusals.specs.declared.Refusal.TheVariants as R
use Rattle.refusals.specs.contracts.Refusal as layout

pub as_numbered : (r : Refusal) → enum.tag_of layout.the_type r + 1 ≡ number r
as_numbered R.EndsEarly = refl
as_numbered R.UnknownKind = refl
as_numbered R.BadCount = refl
as_numbered R.ZeroSerial = refl
as_numbered R.Twice = refl
as_numbered R.NotOnRoster = refl
as_numbered R.OutOfOrder = refl
as_numbered R.BytesAfter = refl
as_numbered R.OtherGroup = refl
as_numbered R.OtherRecord = refl
as_numbered R.NoHistory = refl
as_numbered R.OffRoster = refl
as_numbered R.TooShort = refl
as_numbered R.NotAllowed = refl
as_numbered R.BitOffRoster = refl
as_numbered R.KnownSerial = refl
as_numbered R.TooMany = refl

-- what a `map_err` to the number gives
pub numbered_is : {A : Type 0} {P : Refusal → ℕ → Type 0} (a : Result A Refusal) (r : Result A ℕ) → MatchResult a (λ x. r ≡ Ok x) (λ j. IsErrAnd r (P j)) → ((j : Refusal) (n : ℕ) → P j n → n ≡ number j)
    → r ≡ numbered a
numbered_is (Ok x) r e f = e
numbered_is (Err j) r e f = let p = err_from_is_err_and r e in p.1 ∙ ap (λ (n : ℕ). Err n) (f j _ p.2)
