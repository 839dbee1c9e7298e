-- What a crew has to fetch, at the boundary to C: document 02's answers of [6] as numbers. Assumes nothing.
use Rattle.refusals.specs.declared.Refusal.{Refusal}
use Rattle.std.specs.Prelude.{ℕ, Option, Some, None, Result, Ok, Err}
use Rattle.refusals.specs.Numbers.{number}
use Rattle.answers.specs.declared.Fetching.{Fetching}
use Rattle.boundary.specs.declared.FetchNow.{FetchNow}
use Rattle.boundary.specs.declared.GameNow.{GameNow}

-- how many fetches surely suffice, and the place to fetch next; 0 and 128, which is no place, where nothing is open
unfoldable pub fetch_of : Option Fetching → FetchNow
fetch_of None = record { number = 0; place = 128 }
fetch_of (Some f) = record { number = f.number; place = f.next.0 }

-- 0 and how many fetches the game lasts, or the refusal and 0
unfoldable pub game_of : Result ℕ Refusal → GameNow
game_of (Ok k) = record { refusal = 0; fetches = k }
game_of (Err j) = record { refusal = number j; fetches = 0 }
