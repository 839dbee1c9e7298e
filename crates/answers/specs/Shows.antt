-- What showing gives, and both lent buffers afterwards, by the parts of a recovery: its roster's length n, its accepted
-- records A, its mourned places M, the places F before its returned full ones, and its rows H, empty ones where nobody is back. Assumes nothing.
use Rattle.std.specs.Prelude.{cond, Result, Ok, Err, ◌&&◌, List, ℕ, ◌*◌, length, eqb, leb, ltb}
use Rattle.sets.specs.Sets.{with, lowest}
use Rattle.histories.specs.Histories.{Row, History, Accepted}
use Rattle.histories.specs.Rule.{Answer, is_last, not_last, is_open, before}
use Rattle.histories.specs.Kept.{blockers_by, answer_by}
use Rattle.rows.specs.Rows.{laid}
use Rattle.refusals.specs.declared.Refusal.{Refusal}
use Rattle.refusals.specs.declared.Refusal.TheVariants as R
use Rattle.answers.specs.declared.Showing.{Showing}
use Rattle.answers.specs.declared.Showing.TheVariants as S

-- the answer, and both buffers afterwards
pub record Shown : Type 0 where
  pub answer : Result Showing Refusal
  pub first : List ℕ
  pub second : List ℕ

-- both buffers stay as they are
unfoldable pub unshown : Result Showing Refusal → List ℕ → List ℕ → Shown
unshown s a b = record { answer = s; first = a; second = b }

-- the first n rows at the front of a buffer, where they are not too many and fit
unfoldable pub laid_in : ℕ → History → List ℕ → List ℕ
laid_in n H out = cond (leb n 128 && leb (16 * n) (length out)) (laid n H out) out

-- rows, but for the row of b, which is S
unfoldable pub replaced : History → ℕ → Row → History
replaced H b S p = cond (eqb p b) S (H p)

-- an open place: the rows as they are, and the same but for the lowest blocker's row
unfoldable pub shown_open : ℕ → Accepted → Row → Row → History → ℕ → List ℕ → List ℕ → Shown
shown_open n A M F H i a b =
    cond (leb (16 * n) (length a) && leb (16 * n) (length b))
    (record {
      answer = Ok S.Shown;
      first = laid n H a;
      second = laid n (replaced H (lowest n (blockers_by n A M F i)) (with i (before n A i))) b;
    })
    (unshown (Err R.TooShort) a b)

-- a place on the roster
unfoldable pub shown_as : Answer → ℕ → Accepted → Row → Row → History → ℕ → List ℕ → List ℕ → Shown
shown_as is_last n A M F H i a b = unshown (Ok S.Decided) a b
shown_as not_last n A M F H i a b = unshown (Ok S.Decided) a b
shown_as is_open n A M F H i a b = shown_open n A M F H i a b

-- any place: 12, decided, 13, or both histories laid down
unfoldable pub shown_in : ℕ → Accepted → Row → Row → History → ℕ → List ℕ → List ℕ → Shown
shown_in n A M F H i a b = cond (ltb i n) (shown_as (answer_by n A M F i) n A M F H i a b) (unshown (Err R.OffRoster) a b)
