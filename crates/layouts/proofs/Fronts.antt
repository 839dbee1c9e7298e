-- A store at the seam, and a part lent from the seam on to a writer, each make the front longer. Assumes nothing.
use mathlib.Core.Path.{◌≡◌, refl, sym, ap, ◌∙◌}
use mathlib.Core.List.{List, [], ◌∷◌, ◌++◌, append_assoc, append-nil}
use Prim.Native.Nat.{ℕ, suc, ◌+◌, ◌-◌, ◌≤◌, ◌<◌}
use native.Mathlib.Numerals.{add-one}
use native.Mathlib.Omega.{arith}
use lib.ListN.{length, take, drop, get_or, set, length-append, length-drop, drop_of_length-le}
use lib.Seq.{take_at, drop_at, take_all, drop-drop, drop-cons, set_at}
use borrow.Rule.Slice.PartMut.{put_mid}
use Rattle.layouts.specs.Fronts.{front}

pub front_none : (l : List ℕ) → l ≡ front [] l
unfolding front
front_none l = refl

-- m is l with the bytes hs, which are k, in its front
module _ (hs l m : List ℕ) (k : ℕ) (laid : m ≡ front hs l) (size : length hs ≡ k) where
  pub before_seam : take k m ≡ hs
  unfolding front
  before_seam = ap (take k) laid ∙ take_at hs (drop (length hs) l) k size

  after_seam : drop k m ≡ drop (length hs) l
  unfolding front
  after_seam = ap (drop k) laid ∙ drop_at hs (drop (length hs) l) k size

  -- a byte more
  pub front_byte : (b : ℕ) → k < length l → set m k b ≡ front (hs ++ (b ∷ [])) l
  unfolding front
  front_byte b h =
      let less : length hs < length l = omega arith in
      ap (λ (z : List ℕ). set z k b) (laid ∙ ap (λ (z : List ℕ). hs ++ z) (drop-cons l (length hs) 0 less))
      ∙ set_at hs (get_or l (length hs) 0) (drop (suc (length hs)) l) b k size
      ∙ rw (length-append hs (b ∷ []), add-one (length hs)) (sym (append_assoc hs (b ∷ []) (drop (suc (length hs)) l)))

  -- the rest was lent, and came back with bs in its front
  pub front_part : (bs ys : List ℕ) → ys ≡ front bs (take (length m - k) (drop k m)) → put_mid k (length m - k) m ys ≡ front (hs ++ bs) l
  unfolding front
  front_part bs ys e =
      let short : length (drop k m) ≤ length m - k = omega (arith, length-drop k m) in
      ap (λ (z : List ℕ). take k m ++ (ys ++ z)) (drop_of_length-le (drop k m) short) ∙ ap (λ (z : List ℕ). take k m ++ z) (append-nil ys)
      ∙ ap (λ (z : List ℕ). z ++ ys) before_seam
      ∙ ap (λ (z : List ℕ). hs ++ z) (e ∙ ap (λ (z : List ℕ). bs ++ drop (length bs) z) (take_all (length m - k) (drop k m) short ∙ after_seam)
      ∙ ap (λ (z : List ℕ). bs ++ z) (drop-drop (length bs) (length hs) l))
      ∙ rw (length-append hs bs) (sym (append_assoc hs bs (drop (length hs + length bs) l)))
