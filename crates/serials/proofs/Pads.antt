-- A list of serials filled up with zeros: for `padded`, and what a crate above knows of it. Assumes nothing.
use mathlib.Core.Path.{◌≡◌, subst}
use mathlib.Core.List.{List, ◌++◌}
use Prim.Native.Nat.{ℕ, zero, suc, ◌+◌, ◌-◌, ◌≤◌, ◌<◌}
use native.Mathlib.Omega.{arith}
use native.Mathlib.Nat.{sub-zero, zero-sub}
use native.Mathlib.Numerals.{add-one}
use lib.ListN.{length, drop, get_or, set, replicate}
use lib.Seq.{paste, paste-suc, take_all}
use Rattle.serials.specs.Rosters.{padded}

-- a list that fits stands there whole
pub padded_few : (s : List ℕ) → length s ≤ 128 → padded s ≡ s ++ replicate (128 - length s) 0
unfolding padded
padded_few s l = rw (take_all 128 s l)

-- one serial more is in its place
pub paste_more : (d s : List ℕ) (i : ℕ) → i < length d → i < length s → set (paste d 0 s i) i (get_or s i 0) ≡ paste d 0 s (i + 1)
paste_more d s i h k =
    let z : 0 + i ≡ i = omega arith in
    let e : set (paste d 0 s i) (0 + i) (get_or s i 0) ≡ paste d 0 s (i + 1) = rw add-one (paste-suc d 0 s i 0 (rw z h) k) in
    subst (λ (n : ℕ). set (paste d 0 s i) n (get_or s i 0) ≡ paste d 0 s (i + 1)) z e

drop_replicate : (n m a : ℕ) → drop n (replicate m a) ≡ replicate (m - n) a
drop_replicate zero m a = rw sub-zero
drop_replicate (suc n) zero a = rw zero-sub
drop_replicate (suc n) (suc m) a = let e : suc m - suc n ≡ m - n = omega arith in rw e (drop_replicate n m a)

-- all of the list is in its place, or as much of it as fits
pub pasted_all : (s : List ℕ) (i : ℕ) → i ≤ length s → length s ≤ i → i ≤ 128 → paste (replicate 128 0) 0 s i ≡ padded s
unfolding padded
pasted_all s i h k l =
    let z : 0 + i ≡ i = omega arith in
    let n : i ≡ length s = omega arith in
    rw (z, drop_replicate, take_all i s k, take_all 128 s (omega arith), n)

pub pasted_full : (s : List ℕ) (i : ℕ) → i ≤ length s → i ≤ 128 → 128 ≤ i → paste (replicate 128 0) 0 s i ≡ padded s
unfolding padded
pasted_full s i h l m =
    let z : i ≡ 128 = omega arith in
    let n : 128 - length s ≡ 0 = omega arith in
    rw (z, n)
