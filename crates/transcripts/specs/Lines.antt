-- The lines that the program writes, as bytes: document 01, 'The program'. Assumes nothing.
use Rattle.answers.specs.declared.Answer.TheVariants as A
use Rattle.answers.specs.declared.Answer as declared
use Rattle.std.specs.Prelude.{Result, Ok, Err}
use Rattle.std.specs.Prelude.{Bool, true, false, cond, List, [], ◌∷◌, ◌++◌, ℕ, zero, suc, ◌+◌, ◌/◌, ◌%◌, ltb}
use Prim.Native.String as S
use Prim.Native.Char.{code}
use Rattle.answers.specs.declared.Reply.{Reply}
use Rattle.answers.specs.declared.Reply.TheVariants as O

-- the bytes of a text in ASCII
unfoldable pub ascii : S.String → List ℕ
ascii S.[] = []
ascii (S.◌∷◌ c s) = code c ∷ ascii s

-- a number in decimal, the highest digit first and with no needless 0: of at most m digits, and of at most 20, which every
-- 64-bit number is
unfoldable pub digits : ℕ → ℕ → List ℕ
digits zero n = []
digits (suc m) n = cond (ltb n 10) ((48 + n) ∷ []) (digits m (n / 10) ++ ((48 + n % 10) ∷ []))

unfoldable pub decimal : ℕ → List ℕ
decimal n = digits 20 n

-- every line ends in byte 10
unfoldable pub line : List ℕ → List ℕ
line s = s ++ (10 ∷ [])

unfoldable pub offer_words : Result Reply ℕ → List ℕ
offer_words (Ok O.Taken) = ascii "taken"
offer_words (Ok O.Repeated) = ascii "repeated"
offer_words (Err j) = ascii "refused " ++ decimal j

unfoldable pub record_line : ℕ → Result Reply ℕ → List ℕ
record_line n o = line (ascii "record " ++ (decimal n ++ (ascii " " ++ offer_words o)))

-- a place off the roster has no line in the program; its refusal is said all the same
unfoldable pub answer_words : Result declared.Answer ℕ → List ℕ
answer_words (Ok A.Last) = ascii "last"
answer_words (Ok A.NotLast) = ascii "not"
answer_words (Ok A.Open) = ascii "open"
answer_words (Err j) = ascii "refused " ++ decimal j

unfoldable pub place_line : ℕ → Result declared.Answer ℕ → List ℕ
place_line serial a = line (decimal serial ++ (ascii " " ++ answer_words a))

unfoldable pub whole_line : Bool → List ℕ
whole_line settled = line (ascii "whole " ++ cond settled (ascii "settled") (ascii "open"))

unfoldable pub none_line : List ℕ
none_line = line (ascii "no records")
