-- A roster in bytes beside a list: whether it is there, copied, and the same. Assumes nothing.
use mathlib.Core.Path.{◌≡◌, refl, sym, ap, ap₂, ◌∙◌}
use mathlib.Core.Bool.{Bool, true, false, ◌&&◌, and-true, and-false, and_assoc}
use mathlib.Core.List.{List, [], ◌∷◌, ◌++◌, append_assoc}
use Prim.Native.Nat.{ℕ, zero, suc, ◌+◌, ◌-◌, ◌*◌, ◌/◌, ◌≤◌, ◌<◌}
use native.Mathlib.Numerals.{add-one}
use native.Mathlib.Omega.{arith}
use lib.Dec.{eqb, leb}
use lib.ListN.{length, get_or, take, drop, set, drop_of_length-le}
use lib.Seq.{drop-cons, drop-drop, set_at, take_at}
use borrow.Author.Tests.{le-leb, lt-leb, leb-false, leb-true, eqb-true}
use Rattle.sets.proofs.Booleans.{clash, both_ways, and_left, and_right}
use Rattle.layouts.specs.Layout.{word_at}
use Rattle.layouts.specs.Records.{serials, same_list, roster_there, roster_is, copiable, copied}
use Rattle.layouts.specs.Parts.{alike, alike_from}
use Rattle.layouts.proofs.Sections.{word_drop, length_serials, serials_more}

-- ---- whether n serials are there

pub past_there : (b : List ℕ) (at n : ℕ) → length b < at → roster_there b at n ≡ false
unfolding roster_there
past_there b at n h = lt-leb (at + n * 4) (length b) (omega arith)

pub room_there : (b : List ℕ) (at n : ℕ) → at ≤ length b → leb n ((length b - at) / 4) ≡ roster_there b at n
unfolding roster_there
room_there b at n h =
    both_ways (leb n ((length b - at) / 4)) (leb (at + n * 4) (length b))
    (λ e. le-leb (at + n * 4) (length b) (omega (arith, leb-true n ((length b - at) / 4) e)))
    (λ e. le-leb n ((length b - at) / 4) (omega (arith, leb-true (at + n * 4) (length b) e)))

pub there_fits : (b : List ℕ) (at n : ℕ) → roster_there b at n ≡ true → at + n * 4 ≤ length b
unfolding roster_there
there_fits b at n e = leb-true (at + n * 4) (length b) e

pub there_lacks : (b : List ℕ) (at n : ℕ) → roster_there b at n ≡ false → length b < at + n * 4
unfolding roster_there
there_lacks b at n e = leb-false (at + n * 4) (length b) e

-- ---- laid into the front of a list

-- one more, stored at position i
module _ (b : List ℕ) (at i : ℕ) (list : List ℕ) (l : i < length list) where
  pub laid_more : (now : List ℕ) (x : ℕ) → now ≡ serials i (drop at b) ++ drop i list → x ≡ word_at b (at + i * 4)
      → set now i x ≡ serials (i + 1) (drop at b) ++ drop (i + 1) list
  laid_more now x e w =
      let s = serials i (drop at b) in
      ap (λ (z : List ℕ). set z i x) (e ∙ ap (λ (z : List ℕ). s ++ z) (drop-cons list i 0 l))
      ∙ set_at s (get_or list i 0) (drop (suc i) list) x i (length_serials i (drop at b))
      ∙ rw (serials_more b at i, append_assoc, add-one i, w)

pub laid_take : (b : List ℕ) (at n : ℕ) (list now : List ℕ) → now ≡ serials n (drop at b) ++ drop n list → take n now ≡ serials n (drop at b)
laid_take b at n list now e = ap (take n) e ∙ take_at (serials n (drop at b)) (drop n list) n (length_serials n (drop at b))

-- ---- the same list

pub same_long : (xs ys : List ℕ) → (length xs ≡ length ys → ⊥) → same_list xs ys ≡ false
unfolding same_list
same_long [] [] e = absurd (e refl)
same_long [] (y ∷ ys) e = refl
same_long (x ∷ xs) [] e = refl
same_long (x ∷ xs) (y ∷ ys) e = ap (λ (t : Bool). eqb x y && t) (same_long xs ys (λ q. e (ap suc q))) ∙ and-false (eqb x y)

pub same_list_elim : (xs ys : List ℕ) → same_list xs ys ≡ true → xs ≡ ys
unfolding same_list
same_list_elim [] [] e = refl
same_list_elim [] (y ∷ ys) e = clash e refl
same_list_elim (x ∷ xs) [] e = clash e refl
same_list_elim (x ∷ xs) (y ∷ ys) e =
    ap₂ (λ (z : ℕ) (l : List ℕ). z ∷ l) (eqb-true x y (and_left (eqb x y) (same_list xs ys) e)) (same_list_elim xs ys (and_right (eqb x y) (same_list xs ys) e))

-- ---- serials compared in place

alike_add : (k m : ℕ) (b : List ℕ) (at : ℕ) (list : List ℕ) (i : ℕ) → alike (k + m) b at list i ≡ alike k b at list i && alike m b (at + k * 4) list (i + k)
unfolding alike
alike_add zero m b at list i =
    let p : at + 0 * 4 ≡ at = omega arith in
    let q : i + 0 ≡ i = omega arith in
    let z : 0 + m ≡ m = omega arith in
    rw (z, p, q)
alike_add (suc k) m b at list i =
    let p : at + 4 + k * 4 ≡ at + suc k * 4 = omega arith in
    let q : i + 1 + k ≡ i + suc k = omega arith in
    let z : suc k + m ≡ suc (k + m) = omega arith in
    rw (z, alike_add k m b (at + 4) list (i + 1), p, q) (sym (and_assoc (eqb (word_at b at) (get_or list i 0)) (alike k b (at + 4) list (i + 1)) (alike m b (at + suc k * 4) list (i + suc k))))

-- as many as the list has from i on
alike_same : (n : ℕ) (b : List ℕ) (at : ℕ) (list : List ℕ) (i : ℕ) → i + n ≡ length list → alike n b at list i ≡ same_list (serials n (drop at b)) (drop i list)
unfolding alike serials same_list
alike_same zero b at list i e = let l : length list ≤ i = omega arith in rw (drop_of_length-le list l)
alike_same (suc n) b at list i e =
    let l : i < length list = omega arith in
    rw (drop-cons list i 0 l, drop-drop, ← add-one i, alike_same n b (at + 4) list (i + 1) (omega arith)) (ap (λ (x : ℕ). eqb x (get_or list i 0) && same_list (serials n (drop (at + 4) b)) (drop (i + 1) list)) (sym (word_drop b at)))

module _ (b : List ℕ) (at : ℕ) (list : List ℕ) where
  pub alike_all : alike_from 0 b at list ≡ same_list (serials (length list) (drop at b)) list
  unfolding alike_from
  alike_all =
      let z : length list - 0 ≡ length list = omega arith in
      let p : at + 0 * 4 ≡ at = omega arith in
      rw (z, p) (alike_same (length list) b at list 0 (omega arith))

  -- k more, and then the rest
  pub alike_more : (k i : ℕ) → i + k ≤ length list → alike_from i b at list ≡ alike k b (at + i * 4) list i && alike_from (i + k) b at list
  unfolding alike_from
  alike_more k i l =
      let n : length list - i ≡ k + (length list - (i + k)) = omega arith in
      let p : at + i * 4 + k * 4 ≡ at + (i + k) * 4 = omega arith in
      rw (n, ← p) (alike_add k (length list - (i + k)) b (at + i * 4) list i)

  -- k more from a position on, as they were found to be
  module _ (k i : ℕ) (l : i + k ≤ length list) (p : ℕ) (q : p ≡ at + i * 4) (r : Bool) (e : r ≡ alike k b p list i) where
    pub alike_yes : r ≡ true → (j : ℕ) → j ≡ i + k → alike_from i b at list ≡ alike_from j b at list
    alike_yes y j f = alike_more k i l ∙ rw (← q, ← e, y, f)

    pub alike_no : r ≡ false → alike_from i b at list ≡ false
    alike_no n = alike_more k i l ∙ rw (← q, ← e, n)

  -- one more, beside what was found before it
  pub alike_next : (i : ℕ) → i < length list → (r same : Bool) (x : ℕ) → r ≡ same && alike_from i b at list → x ≡ word_at b (at + i * 4)
      → r ≡ (same && eqb x (get_or list i 0)) && alike_from (i + 1) b at list
  unfolding alike
  alike_next i l r same x e w =
      e ∙ ap (λ (t : Bool). same && t) (alike_more 1 i (omega arith) ∙ rw (and-true, ← w)) ∙ sym (and_assoc same (eqb x (get_or list i 0)) (alike_from (i + 1) b at list))

  pub alike_done : (i : ℕ) → length list ≤ i → alike_from i b at list ≡ true
  unfolding alike_from alike
  alike_done i l = let z : length list - i ≡ 0 = omega arith in rw z

-- four compared one by one
pub alike_four : (b : List ℕ) (at : ℕ) (list : List ℕ) (i : ℕ) (w x y z : Bool) → w ≡ eqb (word_at b at) (get_or list i 0) → x ≡ eqb (word_at b (at + 4)) (get_or list (i + 1) 0)
    → y ≡ eqb (word_at b (at + 8)) (get_or list (i + 2) 0) → z ≡ eqb (word_at b (at + 12)) (get_or list (i + 3) 0) → ((w && x) && y) && z ≡ alike 4 b at list i
unfolding alike
alike_four b at list i w x y z e f g h =
    let p : at + 4 + 4 ≡ at + 8 = omega arith in
    let q : at + 8 + 4 ≡ at + 12 = omega arith in
    let j : i + 1 + 1 ≡ i + 2 = omega arith in
    let k : i + 2 + 1 ≡ i + 3 = omega arith in
    and_assoc (w && x) y z ∙ and_assoc w x (y && z) ∙ rw (p, q, j, k, and-true, e, f, g, h)

-- ---- what is answered

module _ (b : List ℕ) (at n : ℕ) (list : List ℕ) where
  pub is_not_there : roster_there b at n ≡ false → roster_is b at n list ≡ false
  unfolding roster_is
  is_not_there e = rw e

  pub is_not_long : (length list ≡ n → ⊥) → roster_is b at n list ≡ false
  unfolding roster_is
  is_not_long e =
      ap (λ (t : Bool). roster_there b at n && t) (same_long (serials n (drop at b)) list (λ q. e (sym q ∙ length_serials n (drop at b))))
      ∙ and-false (roster_there b at n)

  pub is_same : roster_there b at n ≡ true → length list ≡ n → (r : Bool) → r ≡ same_list (serials (length list) (drop at b)) list → r ≡ roster_is b at n list
  unfolding roster_is
  is_same t e r s = rw (t, ← e) s

  -- yes: they are there, and are the list
  pub is_the_list : roster_is b at n list ≡ true → (at + n * 4 ≤ length b) × (serials n (drop at b) ≡ list)
  unfolding roster_is
  is_the_list e = (there_fits b at n (and_left (roster_there b at n) _ e), same_list_elim (serials n (drop at b)) list (and_right (roster_there b at n) _ e))

  pub copy_not_there : roster_there b at n ≡ false → (false ≡ copiable b at n) × (list ≡ copied b at n list)
  unfolding copiable copied
  copy_not_there e = (rw e, rw e)

  pub copy_too_many : 128 < n → (false ≡ copiable b at n) × (list ≡ copied b at n list)
  unfolding copiable copied
  copy_too_many h =
      let e : roster_there b at n && leb n 128 ≡ false = ap (λ (t : Bool). roster_there b at n && t) (lt-leb n 128 h) ∙ and-false (roster_there b at n) in
      (rw e, rw e)

  pub copy_done : roster_there b at n ≡ true → n ≤ 128 → (now : List ℕ) → now ≡ serials n (drop at b) ++ drop n list
      → (true ≡ copiable b at n) × (now ≡ copied b at n list)
  unfolding copiable copied
  copy_done t h now e = (rw (t, le-leb n 128 h), rw (t, le-leb n 128 h) e)
