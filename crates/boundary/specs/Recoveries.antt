-- A recovery at the boundary to C: nine words, 128 serials, 128 second serials and 2,048 bytes of rows in the caller's memory, and document
-- 01's answers as numbers. Assumes nothing.
use Rattle.refusals.specs.declared.Refusal.{Refusal}
use Rattle.answers.specs.declared.Answer.TheVariants as A
use Rattle.answers.specs.declared.Answer as declared
use Rattle.std.specs.Prelude.{Option, Some, None, Result, Ok, Err}
use Rattle.refusals.specs.Numbers.{number}
use Rattle.std.specs.Prelude.{Bool, true, false, List, [], ◌∷◌, ℕ, get_or}
use Rattle.sets.specs.Sets.{Places}
use Rattle.sets.specs.PlaceSets.{packed}
use Rattle.sets.specs.declared.PlaceSet.{PlaceSet}
use Rattle.serials.specs.declared.Finding.{Finding}
use Rattle.serials.specs.declared.Finding.TheVariants as F
use Rattle.answers.specs.declared.Reply.{Reply}
use Rattle.answers.specs.declared.Reply.TheVariants as O
use Rattle.calls.specs.declared.Recovery.{Recovery}
use Rattle.answers.specs.declared.Showing.{Showing}
use Rattle.answers.specs.declared.Showing.TheVariants as S
use Rattle.calls.specs.Promises.{opened, offered}
use Rattle.boundary.specs.Words.{set_at, set_words}
use Rattle.boundary.specs.declared.FoundNow.{FoundNow}

-- ---- a recovery in the caller's memory

-- the nine words: the count, and two words each of the places that are back, the full ones, the mourned ones and the earlier ones
unfoldable pub recovery_in : List ℕ → List ℕ → List ℕ → List ℕ → Recovery
recovery_in head serials seconds rows = record {
  count = get_or head 0 0;
  serials = serials;
  seconds = seconds;
  returned = set_at head 1;
  full = set_at head 3;
  mourned = set_at head 5;
  earlier = set_at head 7;
  rows = rows;
}

unfoldable pub head_words : ℕ → PlaceSet → PlaceSet → PlaceSet → PlaceSet → List ℕ
head_words count returned full mourned earlier =
    count ∷ returned.low ∷ returned.high ∷ full.low ∷ full.high ∷ mourned.low ∷ mourned.high ∷ earlier.low ∷ earlier.high ∷ []

-- the nine words of a recovery
unfoldable pub head_of : Recovery → List ℕ
head_of r = head_words r.count r.returned r.full r.mourned r.earlier

-- what a call answers, and the caller's memory after it
pub record Held : Type 0 where
  pub code : ℕ
  pub head : List ℕ
  pub serials : List ℕ
  pub seconds : List ℕ
  pub rows : List ℕ

-- ---- answers as numbers: a refusal is its number, 0 says that it was done, and each other word has a number from 32 on

unfoldable pub reply_code : Result Reply Refusal → ℕ
reply_code (Ok O.Taken) = 0
reply_code (Ok O.Repeated) = 32
reply_code (Err j) = number j

unfoldable pub asked_code : Result declared.Answer Refusal → ℕ
asked_code (Ok A.Last) = 33
asked_code (Ok A.NotLast) = 34
asked_code (Ok A.Open) = 35
asked_code (Err j) = number j

unfoldable pub showing_code : Result Showing Refusal → ℕ
showing_code (Ok S.Shown) = 0
showing_code (Ok S.Decided) = 36
showing_code (Err j) = number j

unfoldable pub listing_code : Result (Unit {0}) Refusal → ℕ
listing_code (Ok u) = 0
listing_code (Err j) = number j

unfoldable pub checked_code : Result Bool Refusal → ℕ
checked_code (Ok true) = 37
checked_code (Ok false) = 38
checked_code (Err j) = number j

-- which of the place's two serials was found, and the place; 128, which is no place, where none was
unfoldable pub found_of : Option Finding → FoundNow
found_of (Some (F.First p)) = record { answer = 39; place = p.0 }
found_of (Some (F.Second p)) = record { answer = 40; place = p.0 }
found_of None = record { answer = 41; place = 128 }

unfoldable pub giving_code : Result (Unit {0}) Refusal → ℕ
giving_code (Ok u) = 0
giving_code (Err j) = number j

-- the two words of a set of places
unfoldable pub words_of : Places → List ℕ
words_of S = set_words (packed S)

-- ---- opening: the caller's memory is written only where it is opened

unfoldable pub opened_as : Result (Unit {0}) Refusal → Recovery → List ℕ → List ℕ → List ℕ → List ℕ → Held
opened_as (Ok u) r head serials seconds rows = record { code = 0; head = head_of r; serials = r.serials; seconds = r.seconds; rows = r.rows }
opened_as (Err j) r head serials seconds rows = record { code = number j; head = head; serials = serials; seconds = seconds; rows = rows }

unfoldable pub opened_held : List ℕ → List ℕ → List ℕ → List ℕ → List ℕ → Held
opened_held s head serials seconds rows = opened_as (opened s).answer (opened s).recovery head serials seconds rows

-- ---- offering a lone record

unfoldable pub offered_held : List ℕ → List ℕ → List ℕ → List ℕ → List ℕ → Held
offered_held head serials seconds rows bytes =
    record {
      code = reply_code (offered (recovery_in head serials seconds rows) bytes).answer;
      head = head_of (offered (recovery_in head serials seconds rows) bytes).recovery;
      serials = serials;
      seconds = seconds;
      rows = (offered (recovery_in head serials seconds rows) bytes).recovery.rows;
    }
