-- Laws of bytes laid into a front, of where a line is put, of a number's digits, and of how long a line is. Assumes nothing.
use Rattle.refusals.specs.declared.Refusal.TheVariants as R
use Rattle.answers.specs.declared.Answer.TheVariants as A
use Rattle.answers.specs.declared.Answer as declared
use Rattle.std.specs.Prelude.{Result, Ok, Err}
use mathlib.Core.Path.{◌≡◌, refl, sym, ap, ◌∙◌}
use mathlib.Core.Bool.{Bool, true, false}
use mathlib.Core.List.{List, [], ◌∷◌, ◌++◌, append_assoc, append-nil}
use Prim.Native.Nat.{ℕ, zero, suc, ◌+◌, ◌-◌, ◌*◌, ◌/◌, ◌%◌, ◌^◌, ◌≤◌, ◌<◌, max}
use native.Mathlib.Nat.{pow-suc, one-le-pow}
use native.Mathlib.Numerals.{add-one}
use native.Mathlib.Omega.{arith}
use native.Mathlib.Decide.{dec_lt}
use lib.Dec.{leb, ltb}
use lib.ListN.{length, take, drop, set, length-append, length-drop, length-set, drop_of_length-le}
use lib.Seq.{take_all, drop-drop, drop-cons, drop-set-lt, get_or-set_same}
use borrow.Author.Tests.{ltb-true, lt-ltb, le-ltb, le-leb, lt-leb}
use borrow.Rule.Slice.PartMut.{put_mid}
use Rattle.layouts.specs.Records.{unwritten, put_at, written_at}
use Rattle.answers.specs.declared.Reply.{Reply}
use Rattle.answers.specs.declared.Reply.TheVariants as O
use Rattle.transcripts.specs.Lines.{ascii, digits, decimal, line, offer_words, record_line, answer_words, place_line, whole_line, none_line}
use Rattle.layouts.specs.Fronts.{front}
use Rattle.layouts.proofs.Fronts.{before_seam, front_part}

-- ---- fronts

-- the same of a buffer whose length is known, up to the new seam
pub front_parted : (hs l m : List ℕ) (k n : ℕ) → m ≡ front hs l → length hs ≡ k → length m ≡ k + n → (bs ys : List ℕ) → ys ≡ front bs (take n (drop k m))
    → take (k + length bs) (put_mid k n m ys) ≡ hs ++ bs
front_parted hs l m k n laid size all bs ys e =
    let r : n ≡ length m - k = omega arith in
    let whole : put_mid k n m ys ≡ front (hs ++ bs) l
    = ap (λ (z : ℕ). put_mid k z m ys) r ∙ front_part hs l m k laid size bs ys (e ∙ ap (λ (z : ℕ). front bs (take z (drop k m))) r) in
    before_seam (hs ++ bs) l (put_mid k n m ys) (k + length bs) whole (length-append hs bs ∙ ap (λ (z : ℕ). z + length bs) size)

-- ---- a line, and where it is put

pub line_last : (head number tail : List ℕ) → (head ++ number) ++ line tail ≡ line (head ++ (number ++ tail))
unfolding line
line_last head number tail = simp append_assoc

pub length_line : (s : List ℕ) → length (line s) ≡ length s + 1
unfolding line
length_line s = length-append s (10 ∷ [])

pub length_numbered : (head number tail : List ℕ) → length (line (head ++ (number ++ tail))) ≡ length head + length number + length tail + 1
length_numbered head number tail = simp (length_line, length-append) (omega arith)

module _ (bytes out : List ℕ) (at : ℕ) where
  -- no room
  pub put_refused : length out < at + length bytes → (Err R.TooShort ≡ (written_at bytes out at).answer) × (out ≡ (written_at bytes out at).buffer)
  unfolding written_at unwritten
  put_refused h = let e : leb (at + length bytes) (length out) ≡ false = lt-leb (at + length bytes) (length out) h in (rw e, rw e)

  -- the part from the position on was lent, and came back with the bytes in its front
  pub put_laid : (size : ℕ) → size ≡ length bytes → at + size ≤ length out → (ys : List ℕ) → ys ≡ front bytes (take (length out - at) (drop at out))
      → (Ok (at + size) ≡ (written_at bytes out at).answer) × (put_mid at (length out - at) out ys ≡ (written_at bytes out at).buffer)
  unfolding written_at put_at front
  put_laid size s h ys q =
      let e : leb (at + length bytes) (length out) ≡ true = le-leb (at + length bytes) (length out) (omega arith) in
      let short : length (drop at out) ≤ length out - at = omega (arith, length-drop at out) in (
        rw (e, s),
        rw e (ap (λ (z : List ℕ). take at out ++ (ys ++ z)) (drop_of_length-le (drop at out) short) ∙ ap (λ (z : List ℕ). take at out ++ z) (append-nil ys ∙ q
            ∙ rw (take_all (length out - at) (drop at out) short, drop-drop (length bytes) at out))),
      )

-- ---- digits

digits_none : (n : ℕ) → digits zero n ≡ []
unfolding digits
digits_none n = refl

digits_small : (m n : ℕ) → ltb n 10 ≡ true → digits (suc m) n ≡ (48 + n) ∷ []
unfolding digits
digits_small m n e = rw e

digits_large : (m n : ℕ) → ltb n 10 ≡ false → digits (suc m) n ≡ digits m (n / 10) ++ ((48 + n % 10) ∷ [])
unfolding digits
digits_large m n e = rw e

length_snoc : (s : List ℕ) (b : ℕ) → length (s ++ (b ∷ [])) ≡ suc (length s)
length_snoc s b = length-append s (b ∷ []) ∙ add-one (length s)

-- as many digits as there are
digits_all : (m n : ℕ) → digits m n ≡ digits (length (digits m n)) n
digits_all zero n = rw (digits_none n) (sym (digits_none n))
digits_all (suc m) n = go (digits_all m (n / 10)) (ltb n 10) refl
  where
    go : digits m (n / 10) ≡ digits (length (digits m (n / 10))) (n / 10) → (t : Bool) → ltb n 10 ≡ t → digits (suc m) n ≡ digits (length (digits (suc m) n)) n
    go earlier true e = rw (digits_small m n e) (sym (digits_small 0 n e))
    go earlier false e =
        rw (digits_large m n e, length_snoc (digits m (n / 10)) (48 + n % 10), digits_large (length (digits m (n / 10))) n e)
        (ap (λ (z : List ℕ). z ++ ((48 + n % 10) ∷ [])) earlier)

-- the last of k + 1 digits, and those before it
digits_last : (k n : ℕ) → length (digits (suc k) n) ≡ suc k
    → (digits (suc k) n ≡ digits k (n / 10) ++ ((48 + n % 10) ∷ [])) × (length (digits k (n / 10)) ≡ k)
digits_last k n l = go (ltb n 10) refl
  where
    go : (t : Bool) → ltb n 10 ≡ t → (digits (suc k) n ≡ digits k (n / 10) ++ ((48 + n % 10) ∷ [])) × (length (digits k (n / 10)) ≡ k)
    go true e =
        let k0 : k ≡ 0 = omega (arith, sym (ap length (digits_small k n e)) ∙ l) in
        let small : n < 10 = ltb-true n 10 e in
        let same : n % 10 ≡ n = omega arith in
        (digits_small k n e ∙ rw (k0, digits_none (n / 10), same), rw (k0, digits_none (n / 10)))
    go false e =
        (digits_large k n e, omega (arith, sym (ap length (digits_large k n e) ∙ length_snoc (digits k (n / 10)) (48 + n % 10)) ∙ l))

-- a step back through the digits
digits_step : (k n : ℕ) (l : List ℕ) → k < length l → length (digits (suc k) n) ≡ suc k
    → digits (suc k) n ++ drop (suc k) l ≡ digits k (n / 10) ++ drop k (set l k (48 + n % 10))
digits_step k n l h e =
    let less : k < length (set l k (48 + n % 10)) = rw (length-set l k (48 + n % 10)) h in
    ap (λ (z : List ℕ). z ++ drop (suc k) l) (digits_last k n e).0
    ∙ append_assoc (digits k (n / 10)) ((48 + n % 10) ∷ []) (drop (suc k) l)
    ∙ ap (λ (z : List ℕ). digits k (n / 10) ++ z) (sym (drop-cons (set l k (48 + n % 10)) k 0 less
    ∙ rw (get_or-set_same l k (48 + n % 10) 0 h, drop-set-lt (suc k) l k (48 + n % 10) (omega arith))))

-- the digits before the last
length_small : (m n : ℕ) → n < 10 → length (digits (suc m) n) ≡ 1
length_small m n h = ap length (digits_small m n (lt-ltb n 10 h))

length_large : (m n : ℕ) → 9 < n → length (digits (suc m) n) ≡ suc (length (digits m (n / 10)))
length_large m n h = ap length (digits_large m n (le-ltb n 10 (omega arith))) ∙ length_snoc (digits m (n / 10)) (48 + n % 10)

power_less : (k n : ℕ) → n < 10 ^ suc k → n / 10 < 10 ^ k
power_less k n h = omega (arith, pow-suc 10 k)

digits_most : (m n : ℕ) → length (digits m n) ≤ m
digits_most zero n = rw (digits_none n) (omega arith)
digits_most (suc m) n = go (dec_lt n 10) (digits_most m (n / 10))
  where
    go : Dec (n < 10) → length (digits m (n / 10)) ≤ m → length (digits (suc m) n) ≤ suc m
    go (yes l) earlier = rw (length_small m n l) (omega arith)
    go (no l) earlier = rw (length_large m n (omega arith)) (omega arith)

-- a number below 10 to the k + 1 has at most k + 1 digits
digits_bound : (m k n : ℕ) → n < 10 ^ suc k → length (digits m n) ≤ suc k
digits_bound zero k n h = rw (digits_none n) (omega arith)
digits_bound (suc m) k n h = go (dec_lt n 10) k h (λ j. digits_bound m j (n / 10))
  where
    go : Dec (n < 10) → (k : ℕ) → n < 10 ^ suc k → ((j : ℕ) → n / 10 < 10 ^ suc j → length (digits m (n / 10)) ≤ suc j) → length (digits (suc m) n) ≤ suc k
    go (yes l) k b earlier = rw (length_small m n l) (omega arith)
    go (no l) zero b earlier = absurd (omega arith)
    go (no l) (suc k) b earlier = rw (length_large m n (omega arith)) (omega (arith, earlier k (power_less (suc k) n b)))

pub decimal_byte : (n : ℕ) → n < 256 → length (decimal n) ≤ 3
unfolding decimal
decimal_byte n h = digits_bound 20 2 n (omega arith)

-- a number of at least 10 to the k, and below ten times that, has k + 1 digits; 0 has one, as 1 has
pub digits_many : (m k n : ℕ) → k < m → 10 ^ k ≤ max n 1 → max n 1 < 10 * 10 ^ k → length (digits m n) ≡ k + 1
digits_many zero k n h l u = absurd (omega arith)
digits_many (suc m) k n h l u = go (dec_lt n 10) k h l u (λ j. digits_many m j (n / 10))
  where
    go : Dec (n < 10) → (k : ℕ) → k < suc m → 10 ^ k ≤ max n 1 → max n 1 < 10 * 10 ^ k
        → ((j : ℕ) → j < m → 10 ^ j ≤ max (n / 10) 1 → max (n / 10) 1 < 10 * 10 ^ j → length (digits m (n / 10)) ≡ j + 1) → length (digits (suc m) n) ≡ k + 1
    go (yes s) zero h l u earlier = length_small m n s
    go (yes s) (suc k) h l u earlier = absurd (omega (arith, pow-suc 10 k, one-le-pow k 10 (omega arith)))
    go (no s) zero h l u earlier = absurd (omega arith)
    go (no s) (suc k) h l u earlier =
        length_large m n (omega arith) ∙ omega (arith, earlier k (omega arith) (omega (arith, pow-suc 10 k)) (omega (arith, pow-suc 10 k)))

-- ---- laying digits, the last first

-- what a loop that divides by 10 knows of the whole buffer as it is to be: k digits are still to come
abbrev pub Laying : List ℕ → List ℕ → ℕ → ℕ → Type 0
Laying whole out left k = (length (digits k left) ≡ k) × (whole ≡ digits k left ++ drop k out)

pub laying_none : (n : ℕ) (out : List ℕ) (count : ℕ) → count ≡ length (decimal n) → Laying (front (decimal n) out) out n count
unfolding decimal front
laying_none n out count e =
    rw e (sym (ap length (digits_all 20 n)), ap (λ (z : List ℕ). z ++ drop (length (digits 20 n)) out) (digits_all 20 n))

pub laying_more : (whole out : List ℕ) (left k : ℕ) → Laying whole out left (k + 1) → k < length out → Laying whole (set out k (48 + left % 10)) (left / 10) k
laying_more whole out left k so_far h =
    let exact : length (digits (suc k) left) ≡ suc k = rw (add-one k) at so_far.0 in
    let now : whole ≡ digits (suc k) left ++ drop (suc k) out = rw (add-one k) at so_far.1 in
    ((digits_last k left exact).1, now ∙ digits_step k left out h exact)

pub laying_all : (whole out : List ℕ) (left : ℕ) → Laying whole out left 0 → out ≡ whole
laying_all whole out left so_far = sym (so_far.1 ∙ rw (digits_none left))

-- ---- how long a line is

-- the refusal that an answer holds
unfoldable pub refusal_of : Result Reply ℕ → ℕ
refusal_of (Ok O.Taken) = 0
refusal_of (Ok O.Repeated) = 0
refusal_of (Err j) = j

unfoldable pub refusal_in : Result declared.Answer ℕ → ℕ
refusal_in (Ok A.Last) = 0
refusal_in (Ok A.NotLast) = 0
refusal_in (Ok A.Open) = 0
refusal_in (Err j) = j

-- the program's lines, where each refusal is a byte
pub data IsLine : List ℕ → Type 0 where
  record_line_lem : (n : ℕ) (o : Result Reply ℕ) → refusal_of o < 256 → IsLine (record_line n o)
  place_line_lem : (n : ℕ) (a : Result declared.Answer ℕ) → refusal_in a < 256 → IsLine (place_line n a)
  whole_line_lem : (settled : Bool) → IsLine (whole_line settled)
  none_line_lem : IsLine none_line

pub length_decimal : (n : ℕ) → length (decimal n) ≤ 20
unfolding decimal
length_decimal n = digits_most 20 n

length_offer : (o : Result Reply ℕ) → refusal_of o < 256 → length (offer_words o) ≤ 11
unfolding offer_words refusal_of ascii
length_offer (Ok O.Taken) h = omega arith
length_offer (Ok O.Repeated) h = omega arith
length_offer (Err j) h = omega (arith, decimal_byte j h)

length_answer : (a : Result declared.Answer ℕ) → refusal_in a < 256 → length (answer_words a) ≤ 11
unfolding answer_words refusal_in ascii
length_answer (Ok A.Last) h = omega arith
length_answer (Ok A.NotLast) h = omega arith
length_answer (Ok A.Open) h = omega arith
length_answer (Err j) h = omega (arith, decimal_byte j h)

-- every line is at most 40 bytes
pub line_length : {s : List ℕ} → IsLine s → length s ≤ 40
unfolding record_line place_line whole_line none_line ascii
line_length (record_line_lem n o h) = simp (length_line, length-append) (omega (arith, length_decimal n, length_offer o h))
line_length (place_line_lem n a h) = simp (length_line, length-append) (omega (arith, length_decimal n, length_answer a h))
line_length (whole_line_lem true) = simp length_line (omega arith)
line_length (whole_line_lem false) = simp length_line (omega arith)
line_length none_line_lem = simp length_line (omega arith)
