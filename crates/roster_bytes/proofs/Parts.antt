-- Laws of a part of the serials compared with a list's. Assumes nothing.
use mathlib.Core.Path.{◌≡◌, sym, ◌∙◌}
use mathlib.Core.Bool.{Bool, true, ◌&&◌, and_assoc}
use mathlib.Core.List.{List}
use Prim.Native.Nat.{ℕ, suc, ◌+◌, ◌-◌, ◌*◌, ◌≤◌, ◌<◌}
use native.Mathlib.Omega.{arith}
use lib.Dec.{eqb}
use lib.ListN.{length, get_or}
use Rattle.layouts.specs.Layout.{word_at}
use Rattle.layouts.specs.Parts.{alike, alike_from}

module _ (b : List ℕ) (at : ℕ) (list : List ℕ) where
  -- one more of those before j, beside what was found up to it
  pub part_next : (i j : ℕ) → i < j → (r same : Bool) (x : ℕ) → r ≡ same && alike (j - i) b (at + i * 4) list i → x ≡ word_at b (at + i * 4)
      → r ≡ (same && eqb x (get_or list i 0)) && alike (j - (i + 1)) b (at + (i + 1) * 4) list (i + 1)
  unfolding alike
  part_next i j l r same x e w =
      let n : j - i ≡ suc (j - (i + 1)) = omega arith in
      let p : at + i * 4 + 4 ≡ at + (i + 1) * 4 = omega arith in
      e ∙ rw (n, w, p) (sym (and_assoc same (eqb (word_at b (at + i * 4)) (get_or list i 0)) (alike (j - (i + 1)) b (at + (i + 1) * 4) list (i + 1))))

  pub part_done : (i j : ℕ) → j ≤ i → alike (j - i) b (at + i * 4) list i ≡ true
  unfolding alike
  part_done i j l = let z : j - i ≡ 0 = omega arith in rw z

  -- those from i on, as many as the list has left
  pub rest_is : (i j : ℕ) → i ≡ j → alike (length list - i) b (at + i * 4) list i ≡ alike_from j b at list
  unfolding alike_from
  rest_is i j e = rw e
