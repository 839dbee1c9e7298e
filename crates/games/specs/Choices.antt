-- What crew and hill choose among, each by what is best for it: document 02, [6]. Assumes nothing.
use Rattle.std.specs.Prelude.{◌≡◌, true, ℕ, ◌<◌, ◌≤◌}
use Rattle.sets.specs.Sets.{Places}

-- m is the least f p for the places p of S below n: it is that of one of them, and no other's is less
pub record IsLeast (n : ℕ) (S : Places) (f : ℕ → ℕ) (m : ℕ) : Type 0 where
  pub no_less : (p : ℕ) → p < n → S p ≡ true → m ≤ f p
  pub place : ℕ
  pub on : place < n
  pub member : S place ≡ true
  pub reached : f place ≡ m

-- m is the greatest f j for the numbers j below n: it is that of one of them, and no other's is greater
pub record IsGreatest (n : ℕ) (f : ℕ → ℕ) (m : ℕ) : Type 0 where
  pub no_greater : (j : ℕ) → j < n → f j ≤ m
  pub number : ℕ
  pub on : number < n
  pub reached : f number ≡ m
