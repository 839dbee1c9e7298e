-- Laws of the window. Assumes nothing.
use mathlib.Core.Path.{◌≡◌, sym, ap, ◌∙◌}
use mathlib.Core.Bool.{false}
use mathlib.Core.List.{List}
use Prim.Native.Nat.{ℕ, ◌+◌, ◌-◌, ◌≤◌}
use native.Mathlib.Omega.{arith}
use lib.Dec.{ltb}
use lib.ListN.{length, take, drop, length-drop}
use lib.Seq.{take-length, take_at, length-slice, length-take-le, drop_at, take-add, take-take}
use borrow.Author.Tests.{ltb-false}
use Rattle.std.specs.List.{copy_within}
use Rattle.std.proofs.Common.{Result, Ok, Err, OnErr}
use Rattle.recover.specs.declared.window.Window.{Window}
use Rattle.recover.specs.Windows.{ahead, Inside, StartsWith}

-- what stands between two positions is moved to the front
pub moved_front : (b : List ℕ) (i j : ℕ) → i ≤ j → j ≤ length b → take (j - i) (copy_within b i j 0) ≡ take (j - i) (drop i b)
moved_front b i j h k =
    take_at (take (j - i) (drop i b)) _ (j - i) (length-take-le (j - i) (drop i b) (omega (arith, length-drop i b)))

-- what is ahead, by its start and its length
ahead_is : (w : Window) (b : List ℕ) → Inside w b → ahead w b ≡ take (w.have - w.at) (drop w.at b)
unfolding ahead
ahead_is w b (h, k) =
    let e : w.have ≡ w.at + (w.have - w.at) = omega arith in
    ap (λ (n : ℕ). drop w.at (take n b)) e ∙ ap (drop w.at) (take-add w.at (w.have - w.at) b)
    ∙ drop_at (take w.at b) _ w.at (length-take-le w.at b (omega arith))

pub length_ahead : (w : Window) (b : List ℕ) → w.have ≤ length b → length (ahead w b) ≡ w.have - w.at
unfolding ahead
length_ahead w b k = length-slice w.at w.have b k

-- a window on what was ahead, at the front of a buffer, and more bytes behind that
abbrev refill : Window → List ℕ → ℕ → Window
refill w all more = record { at = 0; have = w.have - w.at + more; ended = ltb (w.have - w.at + more) (length all) }

-- it starts with what was ahead, and only where it is full has the input not ended
pub refilled : (w : Window) (b all : List ℕ) (more : ℕ) → Inside w b → length all ≡ length b
    → take (w.have - w.at) all ≡ take (w.have - w.at) (drop w.at b) → w.have - w.at + more ≤ length b
    → Inside (refill w all more) all
    × (StartsWith (ahead w b) (ahead (refill w all more) all) × ((refill w all more).ended ≡ false → length (ahead (refill w all more) all) ≡ length b))
unfolding ahead
refilled w b all more i l e h =
    let n : ℕ = w.have - w.at in
    let starts : take (length (ahead w b)) (take (n + more) all) ≡ ahead w b =
    ap (λ (k : ℕ). take k (take (n + more) all)) (length_ahead w b i.1) ∙ take-take n (n + more) all (omega arith) ∙ e ∙ sym (ahead_is w b i) in
    ((omega arith, omega arith), (starts, λ f. let k : length all ≤ n + more = ltb-false (n + more) (length all) f in length-take-le (n + more) all (omega arith) ∙ omega arith))

-- where the reading behind it fails, a buffer still starts with what was ahead
pub front_kept : {T E : Type 0} (r : Result T E) (w : Window) (b all : List ℕ) → Inside w b
    → take (w.have - w.at) all ≡ take (w.have - w.at) (drop w.at b) → OnErr r (StartsWith (ahead w b) all)
front_kept (Ok x) w b all i e = tt
front_kept (Err x) w b all i e =
    ap (λ (k : ℕ). take k all) (length_ahead w b i.1) ∙ e ∙ sym (ahead_is w b i)

-- a window whose buffer stays as it is
pub starts_itself : (s : List ℕ) → StartsWith s s
starts_itself s = take-length s
