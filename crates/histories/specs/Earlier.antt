-- The meaning and the rule as they were for groups of one kind, before document 02, [3], to be compared with those of now. The kind is
-- the group's; that of a record is not looked at. Assumes nothing.
use Rattle.std.specs.Prelude.{◌≡◌, Bool, true, not, ◌&&◌, ◌||◌, ℕ}
use Rattle.sets.specs.Sets.{below, only, difference, any, all, subset}
use Rattle.histories.specs.declared.Kind.{Kind}
use Rattle.histories.specs.declared.Kind.TheVariants.{Full, Short}
use Rattle.histories.specs.Histories as now
use Rattle.histories.specs.Histories.{Row, History, Accepted, lay, Last}
use Rattle.histories.specs.Rule.{Answer, answer_with, recorded, mourned, before}

-- every returned record is of the kind k
abbrev pub OneKind : Kind → Accepted → Type 0
OneKind k A = (p : ℕ) → A.returned p ≡ true → A.kind p ≡ k

-- ---- the meaning: in the full kind every row, of absent places too, holds all that is in the rows of its members

pub record IsHistory (k : Kind) (n : ℕ) (H : History) : Type 0 where
  pub history : now.IsHistory n H
  pub closed : k ≡ Full → (p m q : ℕ) → H p m ≡ true → H m q ≡ true → H p q ≡ true

pub record Fits (k : Kind) (n : ℕ) (A : Accepted) (H : History) : Type 0 where
  pub history : IsHistory k n H
  pub recorded : (p : ℕ) → A.returned p ≡ true → (q : ℕ) → H p q ≡ A.row p q

abbrev pub LastInAll : Kind → ℕ → Accepted → ℕ → Type 0
LastInAll k n A i = (H : History) → Fits k n A H → Last H i

abbrev pub LastInNone : Kind → ℕ → Accepted → ℕ → Type 0
LastInNone k n A i = (H : History) → Fits k n A H → ¬ (Last H i)

pub record Disagree (k : Kind) (n : ℕ) (A : Accepted) (i : ℕ) (F G : History) : Type 0 where
  pub first_fits : Fits k n A F
  pub first_last : Last F i
  pub second_fits : Fits k n A G
  pub second_not : ¬ (Last G i)

-- ---- the rule

unfoldable pub ruled_out : Kind → ℕ → Accepted → ℕ → Row
ruled_out Full n A i = mourned n A
ruled_out Short n A i = before n A i

unfoldable pub blockers : Kind → ℕ → Accepted → ℕ → Row
blockers k n A i = difference (difference (difference (below n) (only i)) A.returned) (ruled_out k n A i)

unfoldable pub answer : Kind → ℕ → Accepted → ℕ → Answer
answer k n A i = answer_with (mourned n A i) (any n (blockers k n A i))

unfoldable pub agrees : ℕ → Accepted → ℕ → Row → Row
agrees n A p M m = (not (M m) || subset n (recorded A m) M) && (not (recorded A m p) || subset n M (recorded A m))

unfoldable pub accepts : Kind → ℕ → Accepted → ℕ → Row → Bool
accepts Full n A p M = not (M p) && all n (agrees n A p M)
accepts Short n A p M = not (before n (lay A p Short M) p p)
