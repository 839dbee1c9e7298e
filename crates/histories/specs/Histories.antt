-- What the answers mean: document 01, 'Histories', 'The pile' and 'The answer for a place', with the kinds of document 02, [3].
-- Nothing here is computed, and nothing here knows of a recovery. Places are numbers; those of a roster of length n are the numbers below n. Assumes nothing.
use Rattle.std.specs.Prelude.{◌≡◌, true, false, cond, ◌⊎◌, ◌↔◌, ℕ, ◌<◌, eqb}
use Rattle.sets.specs.Sets.{Places, nothing, with}
use Rattle.histories.specs.declared.Kind.{Kind}
use Rattle.histories.specs.declared.Kind.TheVariants.{Full, Short}

-- 01's row: the places that one place heard stop
abbrev pub Row : Type 0
Row = Places

-- 01's history: a row for each place. `H p q ≡ true` says that p heard q
abbrev pub History : Type 0
History = ℕ → Row

-- 01's before: `Before H q p` says that q stands in p's row, or in the row of one that is before p, by a chain of any length
pub data Before (H : History) : ℕ → ℕ → Type 0 where
  heard : {q p : ℕ} → H p q ≡ true → Before H q p
  through : {q m p : ℕ} → H m q ≡ true → Before H m p → Before H q p

-- H is a history on the places below n
pub record IsHistory (n : ℕ) (H : History) : Type 0 where
  -- rows, and what stands in them, are of the roster
  pub inside : (p q : ℕ) → H p q ≡ true → (p < n) × (q < n)
  -- no place is before itself
  pub acyclic : (p : ℕ) → ¬ (Before H p p)

-- 01's pile: the places with an accepted record (returned, back), and of each such record the kind and the mourned set, as places
pub record Accepted : Type 0 where
  pub returned : Row
  pub kind : ℕ → Kind
  pub row : History

-- the pile at the opening
abbrev pub none : Accepted
none = record { returned = nothing; kind = λ p. Short; row = λ p. nothing }

-- the pile with the record of p laid on it, whose kind is k and whose mourned set is M
abbrev pub lay : Accepted → ℕ → Kind → Row → Accepted
lay A p k M = record {
  returned = with p A.returned;
  kind = λ r. cond (eqb r p) k (A.kind r);
  row = λ r. cond (eqb r p) M (A.row r);
}

-- 01's fits: H is a history in which the row of each returned place is its record's mourned set, and that of each returned full
-- one holds everyone before it (02, [3]); a place that is not back has no such duty
pub record Fits (n : ℕ) (A : Accepted) (H : History) : Type 0 where
  pub history : IsHistory n H
  pub recorded : (p : ℕ) → A.returned p ≡ true → (q : ℕ) → H p q ≡ A.row p q
  pub duty : (p : ℕ) → A.returned p ≡ true → A.kind p ≡ Full → (q : ℕ) → Before H q p → H p q ≡ true

-- 01's last in a history: in nobody's row
abbrev pub Last : History → ℕ → Type 0
Last H i = (p : ℕ) → H p i ≡ false

-- i is last in every history that fits
abbrev pub LastInAll : ℕ → Accepted → ℕ → Type 0
LastInAll n A i = (H : History) → Fits n A H → Last H i

-- i is last in no history that fits
abbrev pub LastInNone : ℕ → Accepted → ℕ → Type 0
LastInNone n A i = (H : History) → Fits n A H → ¬ (Last H i)

-- two histories that fit disagree on i: it is last in F and not last in G
pub record Disagree (n : ℕ) (A : Accepted) (i : ℕ) (F G : History) : Type 0 where
  pub first_fits : Fits n A F
  pub first_last : Last F i
  pub second_fits : Fits n A G
  pub second_not : ¬ (Last G i)

-- the histories that fit agree on i
abbrev pub Decided : ℕ → Accepted → ℕ → Type 0
Decided n A i = LastInAll n A i ⊎ LastInNone n A i

-- ---- the two histories that are shown of an open place: document 01, 'The answer for a place', with 02, [3]

-- the recorded rows, and empty ones elsewhere: 01's first shown history. `Before` in it is before by returned records only
abbrev pub IsRecorded : Accepted → History → Type 0
IsRecorded A F = (p q : ℕ) → (F p q ≡ true) ↔ ((A.returned p ≡ true) × (A.row p q ≡ true))

-- a blocker of i, where F has the recorded rows: another absent place that is neither before i nor before any returned full place
pub record Blocker (n : ℕ) (A : Accepted) (F : History) (i b : ℕ) : Type 0 where
  pub on : b < n
  pub other : ¬ (b ≡ i)
  pub absent : A.returned b ≡ false
  pub not_before : ¬ (Before F b i)
  pub not_before_full : (p : ℕ) → A.returned p ≡ true → A.kind p ≡ Full → ¬ (Before F b p)

-- F and G are the two: the second differs in one row, that of the blocker with the lowest place, which holds i and everyone before i
pub record ShownOf (n : ℕ) (A : Accepted) (i : ℕ) (F G : History) : Type 0 where
  pub first : IsRecorded A F
  pub blocker : ℕ
  pub blocks : Blocker n A F i blocker
  pub lowest : (b : ℕ) → b < blocker → ¬ (Blocker n A F i b)
  pub others : (p q : ℕ) → ¬ (p ≡ blocker) → G p q ≡ F p q
  pub its_row : (q : ℕ) → (G blocker q ≡ true) ↔ ((q ≡ i) ⊎ Before F q i)
