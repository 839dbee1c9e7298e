-- The accepted records that a table of rows holds, for whatever values it is handed. Assumes nothing.
use Rattle.std.specs.Prelude.{◌≡◌, Bool, false, cond, ◌&&◌, ◌||◌, List, ℕ, leb}
use Rattle.sets.specs.Sets.{Places, below, intersection, any, subset}
use Rattle.rows.specs.Rows.{rows_of}
use Rattle.histories.specs.declared.Kind.{Kind}
use Rattle.histories.specs.declared.Kind.TheVariants.{Full, Short}
use Rattle.histories.specs.Histories.{Row, History, Accepted}
use Rattle.histories.specs.Rule.{Answer, is_last, not_last, is_open, reach}
use Rattle.answers.specs.declared.Answer as declared
use Rattle.answers.specs.declared.Answer.TheVariants.{Last, NotLast, Open}

-- the roster's length: a count above 128, which no opening makes, counts as 128
unfoldable pub size : ℕ → ℕ
size count = cond (leb count 128) count 128

-- the kind of a place, where the places of the full kind are known
unfoldable pub kind_in : Places → ℕ → Kind
kind_in full p = cond (full p) Full Short

-- who is back, and their kinds and rows, as far as the roster goes: places off it are not looked at
unfoldable pub accepted_in : ℕ → Places → Places → List ℕ → Accepted
accepted_in count returned full w = record {
  returned = intersection (below (size count)) returned;
  kind = kind_in full;
  row = λ p. intersection (below (size count)) (rows_of w p);
}

-- their rows, and empty ones for the others: the kinds do not matter to it
unfoldable pub recorded_in : ℕ → Places → List ℕ → History
recorded_in count returned w p q = intersection (below (size count)) returned p && intersection (below (size count)) (rows_of w p) q

-- S, and all that is before a member of it
unfoldable pub reach_from : ℕ → History → Row → Row
reach_from n H S q = S q || any n (λ m. S m && reach n H m q)

-- a search for `rest` in T: it tells whether T holds all of that, and if not it saw T
pub record Sought (rest T : Places) (holds : Bool) (seen : Places) : Type 0 where
  pub told : holds ≡ subset 128 rest T
  pub whole : holds ≡ false → seen ≡ T

-- document 01's words for the rule's answers
unfoldable pub answer_of : Answer → declared.Answer
answer_of is_last = Last
answer_of not_last = NotLast
answer_of is_open = Open
