-- Documents 01's and 02's number of each refusal. Assumes nothing.
use Rattle.std.specs.Prelude.{ℕ, Result, Ok, Err}
use Rattle.refusals.specs.declared.Refusal.{Refusal}
use Rattle.refusals.specs.declared.Refusal.TheVariants as R

abbrev pub number : Refusal → ℕ
number R.EndsEarly = 1
number R.UnknownKind = 2
number R.BadCount = 3
number R.ZeroSerial = 4
number R.Twice = 5
number R.NotOnRoster = 6
number R.OutOfOrder = 7
number R.BytesAfter = 8
number R.OtherGroup = 9
number R.OtherRecord = 10
number R.NoHistory = 11
number R.OffRoster = 12
number R.TooShort = 13
number R.NotAllowed = 14
number R.BitOffRoster = 15
number R.KnownSerial = 16
number R.TooMany = 17

-- an answer with its refusal's number in the refusal's place
abbrev pub numbered : {A : Type 0} → Result A Refusal → Result A ℕ
numbered (Ok x) = Ok x
numbered (Err j) = Err (number j)
