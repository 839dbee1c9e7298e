-- Bytes with each of the faults 1 to 8, and with each pair of them that document 01 orders, and the number that each meets. The records are of the group 101, 102, 103, 104 of its example. Assumes nothing.
use Rattle.std.specs.Prelude.{List, [], ◌∷◌, ◌++◌, ℕ, drop}

-- some bytes, and the refusal that they meet
infix 60 ◌meets◌
pub data Faulty : Type 0 where
  ◌meets◌ : List ℕ → ℕ → Faulty

unfoldable pub bytes_of : Faulty → List ℕ
bytes_of (b meets j) = b

unfoldable pub number_of : Faulty → ℕ
number_of (b meets j) = j

-- a short record by its own serial's last byte, as far as its mourned count; and a mourned count with the last bytes of some serials behind it
unfoldable pub head : ℕ → List ℕ
head x = 2 ∷ 0 ∷ 0 ∷ 0 ∷ x ∷ 4 ∷ 0 ∷ 0 ∷ 0 ∷ 101 ∷ 0 ∷ 0 ∷ 0 ∷ 102 ∷ 0 ∷ 0 ∷ 0 ∷ 103 ∷ 0 ∷ 0 ∷ 0 ∷ 104 ∷ []

unfoldable pub mourning : ℕ → List ℕ → List ℕ
mourning m [] = m ∷ []
mourning m (x ∷ xs) = m ∷ 0 ∷ 0 ∷ 0 ∷ x ∷ drop 1 (mourning m xs)

-- what is found first from the front decides; for one serial 4 comes before 5, 6 and 7; the own serial is judged behind the roster and before the mourned count
unfoldable pub faulty : List Faulty
faulty =
    ([] meets 1)
    ∷ ((2 ∷ 0 ∷ 0 ∷ 0 ∷ []) meets 1)
    ∷ ((2 ∷ 0 ∷ 0 ∷ 0 ∷ 101 ∷ []) meets 1)
    ∷ ((2 ∷ 0 ∷ 0 ∷ 0 ∷ 101 ∷ 2 ∷ 0 ∷ 0 ∷ 0 ∷ []) meets 1)
    ∷ ((head 101) meets 1)
    ∷ ((head 101 ++ (1 ∷ 0 ∷ 0 ∷ 0 ∷ [])) meets 1)
    ∷ ((0 ∷ []) meets 2)
    ∷ ((7 ∷ 0 ∷ 0 ∷ 0 ∷ 0 ∷ []) meets 2)
    ∷ ((2 ∷ 0 ∷ 0 ∷ 0 ∷ 101 ∷ 0 ∷ []) meets 3)
    ∷ ((2 ∷ 0 ∷ 0 ∷ 0 ∷ 101 ∷ 129 ∷ []) meets 3)
    ∷ ((head 101 ++ (5 ∷ [])) meets 3)
    ∷ ((2 ∷ 0 ∷ 0 ∷ 0 ∷ 0 ∷ 200 ∷ []) meets 4)
    ∷ ((2 ∷ 0 ∷ 0 ∷ 0 ∷ 101 ∷ 2 ∷ 0 ∷ 0 ∷ 0 ∷ 0 ∷ []) meets 4)
    ∷ ((2 ∷ 0 ∷ 0 ∷ 0 ∷ 101 ∷ 3 ∷ 0 ∷ 0 ∷ 0 ∷ 101 ∷ 0 ∷ 0 ∷ 0 ∷ 0 ∷ 0 ∷ 0 ∷ 0 ∷ 101 ∷ []) meets 4)
    ∷ ((head 101 ++ mourning 2 (0 ∷ [])) meets 4)
    ∷ ((head 101 ++ mourning 2 (103 ∷ 0 ∷ [])) meets 4)
    ∷ ((2 ∷ 0 ∷ 0 ∷ 0 ∷ 9 ∷ 3 ∷ 0 ∷ 0 ∷ 0 ∷ 101 ∷ 0 ∷ 0 ∷ 0 ∷ 101 ∷ 0 ∷ 0 ∷ 0 ∷ 0 ∷ []) meets 5)
    ∷ ((head 9) meets 6)
    ∷ ((head 9 ++ (5 ∷ [])) meets 6)
    ∷ ((head 101 ++ mourning 2 (9 ∷ [])) meets 6)
    ∷ ((head 101 ++ mourning 2 (103 ∷ 9 ∷ [])) meets 6)
    ∷ ((head 101 ++ mourning 2 (103 ∷ 102 ∷ [])) meets 7)
    ∷ ((head 101 ++ mourning 3 (102 ∷ 102 ∷ 0 ∷ [])) meets 7)
    ∷ ((head 101 ++ mourning 1 (102 ∷ 9 ∷ [])) meets 8)
    ∷ []
