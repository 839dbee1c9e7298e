-- What listing gives, and the lent buffer afterwards, by the parts of a recovery: its roster's length n, its accepted records A, its mourned
-- places M and the places F before its returned full ones. Assumes nothing.
use Rattle.std.specs.Prelude.{cond, Result, Ok, Err, List, [], ◌∷◌, ◌++◌, ℕ, zero, suc, ◌+◌, ◌*◌, length, drop, leb}
use Rattle.sets.specs.Sets.{Places}
use Rattle.histories.specs.Histories.{Row, Accepted}
use Rattle.histories.specs.Rule.{Answer, is_last, not_last, is_open}
use Rattle.histories.specs.Kept.{answer_by}
use Rattle.refusals.specs.declared.Refusal.{Refusal}
use Rattle.refusals.specs.declared.Refusal.TheVariants as R

-- document 02, [4]: the byte of an answer
unfoldable pub answer_byte : Answer → ℕ
answer_byte not_last = 0
answer_byte is_last = 1
answer_byte is_open = 2

-- one byte a place: those of m places from p on
unfoldable pub bytes_from : ℕ → ℕ → (ℕ → ℕ) → List ℕ
bytes_from zero p byte = []
bytes_from (suc m) p byte = byte p ∷ bytes_from m (suc p) byte

-- the bytes of the first n places at the front of a buffer, whose other bytes stay
unfoldable pub laid : ℕ → (ℕ → ℕ) → List ℕ → List ℕ
laid n byte out = bytes_from n 0 byte ++ drop n out

-- the answer, and the buffer afterwards
pub record ListedAll : Type 0 where
  pub answer : Result (Unit {0}) Refusal
  pub buffer : List ℕ

-- 13 for a buffer shorter than the roster, which stays as it is; else the byte of each place's answer
unfoldable pub listed_in : ℕ → Accepted → Row → Row → List ℕ → ListedAll
listed_in n A M F out =
    cond (leb n (length out))
    (record { answer = Ok tt; buffer = laid n (λ i. answer_byte (answer_by n A M F i)) out })
    (record { answer = Err R.TooShort; buffer = out })

-- ---- how the bytes are made from two sets

-- the byte of a place by the last ones L and the open ones O: no place is both
unfoldable pub byte_by : Places → Places → ℕ → ℕ
byte_by L O i = cond (L i) 1 0 + 2 * cond (O i) 1 0

-- m bytes as one number, the first lowest
unfoldable pub joined : ℕ → (ℕ → ℕ) → ℕ
joined zero byte = 0
joined (suc m) byte = byte 0 + 256 * joined m (λ j. byte (suc j))
