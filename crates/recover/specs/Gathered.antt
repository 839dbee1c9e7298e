-- Lines gathered in a buffer. Assumes nothing.
use Rattle.std.specs.Prelude.{◌≡◌, ◌⊎◌, cond, Result, Ok, Err, List, ℕ, ◌+◌, ◌≤◌, length, eqb}
use Rattle.refusals.specs.declared.Refusal.{Refusal}
use Rattle.layouts.specs.Records.{put_at}
use Rattle.answers.specs.declared.Answer.{Answer}
use Rattle.answers.specs.declared.Answer.TheVariants as A

-- what asking says, by the byte in a list of all places: document 02, [4]
unfoldable pub answer_in : ℕ → Result Answer Refusal
answer_in b = cond (eqb b 0) (Ok A.NotLast) (cond (eqb b 1) (Ok A.Last) (Ok A.Open))

-- where a line that was laid ends
unfoldable pub end_of : Result ℕ Refusal → ℕ
end_of (Ok end) = end
end_of (Err j) = 0

-- a line was laid into a buffer behind its used bytes, or at its front, and ends at a position
pub record Said (line : List ℕ) (used : ℕ) (before after : List ℕ) (end : ℕ) : Type 0 where
  pub from : ℕ
  pub start : (from ≡ used) ⊎ (from ≡ 0)
  pub ends : end ≡ from + length line
  pub inside : end ≤ length before
  pub laid : after ≡ put_at from line before
