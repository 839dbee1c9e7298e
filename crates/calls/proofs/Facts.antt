-- Facts that the steps cite: of two kinds, lists, rows and buffers, and of a record that was read. Assumes nothing.
use mathlib.Core.Path.{◌≡◌, refl, sym, ap, ◌∙◌, fun_ext}
use mathlib.Core.Bool.{true, false, ◌&&◌}
use mathlib.Core.List.{List, [], ◌∷◌, ◌++◌}
use Prim.Native.Nat.{ℕ, ◌+◌, ◌*◌, ◌<◌, ◌≤◌}
use native.Mathlib.Omega.{arith}
use native.Mathlib.Decide.{dec_lt}
use lib.ListN.{length, take, drop}
use lib.Seq.{take_at, drop-drop, drop-append_seam, length-take-le}
use lib.Dec.{leb, ltb}
use borrow.Author.Tests.{ltb-true, leb-true, le-leb}
use Rattle.sets.specs.Sets.{Places, any, same}
use Rattle.sets.proofs.Booleans.{clash, is_false, and_intro, and_left, and_right, eqb_self}
use Rattle.sets.proofs.Tests.{any_elim, any_intro, same_elim}
use Rattle.histories.specs.declared.Kind.{Kind}
use Rattle.histories.specs.declared.Kind.TheVariants.{Full, Short}
use Rattle.histories.specs.Histories.{Row, History}
use Rattle.rows.specs.Rows.{row_in, history_in}
use Rattle.layouts.specs.Layout.{got, Stored, lone}
use Rattle.layouts.specs.Records.{same_list, put_at}
use Rattle.layouts.proofs.Layouts.{Whole, stored_back, drop_put}
use Rattle.layouts.proofs.Trips.{lone_back}
use Rattle.answers.specs.Checks.{off_roster}
use Rattle.answers.specs.Replies.{same_kind}

-- ---- kinds and lists, compared

pub same_kind_elim : (a b : Kind) → same_kind a b ≡ true → a ≡ b
unfolding same_kind
same_kind_elim Full Full e = refl
same_kind_elim Full Short e = clash e refl
same_kind_elim Short Full e = clash e refl
same_kind_elim Short Short e = refl

pub same_kind_self : (a : Kind) → same_kind a a ≡ true
unfolding same_kind
same_kind_self Full = refl
same_kind_self Short = refl

pub same_list_self : (a : List ℕ) → same_list a a ≡ true
unfolding same_list
same_list_self [] = refl
same_list_self (x ∷ xs) = and_intro (eqb_self x) (same_list_self xs)

-- ---- rows

-- two rows of a roster of n that are the same below n are equal
pub rows_equal : (n : ℕ) (M N : Row) → ((q : ℕ) → M q ≡ true → q < n) → ((q : ℕ) → N q ≡ true → q < n) → same n M N ≡ true → M ≡ N
rows_equal n M N m_on N-on e = fun_ext (λ q. go q (dec_lt q n))
  where
    go : (q : ℕ) → Dec (q < n) → M q ≡ N q
    go q (yes l) = same_elim n M N e q l
    go q (no l) = is_false (M q) (λ t. l (m_on q t)) ∙ sym (is_false (N q) (λ t. l (N-on q t)))

-- what stands in lent rows
pub rows_inside : (n : ℕ) (h : List ℕ) (p q : ℕ) → history_in n h p q ≡ true → (p < n) × (q < 128)
unfolding history_in row_in
rows_inside n h p q e =
    let a = and_right (ltb p n) _ e in
    let b = and_right (leb (16 * p + 16) (length h)) _ a in
    (ltb-true p n (and_left (ltb p n) _ e), ltb-true q 128 (and_left (ltb q 128) _ b))

-- a place off the roster is found where there is one
pub off_there : (n : ℕ) (H : History) → off_roster n H ≡ true → (p : ℕ) × (q : ℕ) × (H p q ≡ true) × (n ≤ q)
unfolding off_roster
off_there n H e =
    let a = any_elim n (λ p. any 128 (λ q. leb n q && H p q)) e in
    let p = a.0 in
    let b = any_elim 128 (λ q. leb n q && H p q) a.2 in
    let q = b.0 in
    (p, q, and_right (leb n q) (H p q) b.2, leb-true n q (and_left (leb n q) (H p q) b.2))

pub rows_on : (n : ℕ) (h : List ℕ) → off_roster n (history_in n h) ≡ false → (p q : ℕ) → history_in n h p q ≡ true → (p < n) × (q < n)
unfolding off_roster
rows_on n h e p q t = (i.0, go (dec_lt q n))
  where
    i : (p < n) × (q < 128)
    i = rows_inside n h p q t

    row : Places
    row p = any 128 (λ q. leb n q && history_in n h p q)

    go : Dec (q < n) → q < n
    go (yes l) = l
    go (no l) = clash (any_intro n row p i.0 (any_intro 128 (λ q. leb n q && history_in n h p q) q i.1 (and_intro (le-leb n q (omega arith)) t))) e

-- ---- a record that was read

-- its own place is on its roster, and so is all that it mourns
pub lone_on : (alias : ℕ → ℕ) (bytes : List ℕ) (x : Stored) (rest : List ℕ) → lone alias bytes ≡ got x rest
    → (x.own < length x.roster) × ((q : ℕ) → x.mourned q ≡ true → q < length x.roster)
lone_on alias bytes x rest e =
    let w : Whole alias bytes x rest = stored_back alias bytes x rest (lone_back alias bytes x rest e).0 in
    (w.heading.own_on, w.mourning.on)

-- ---- a buffer with some bytes put in

module _ (at : ℕ) (bytes out : List ℕ) (fits : at + length bytes ≤ length out) where
  pub take_put : take at (put_at at bytes out) ≡ take at out
  unfolding put_at
  take_put = take_at (take at out) (bytes ++ drop (at + length bytes) out) at (length-take-le at out (omega arith))

  pub past_put : drop (at + length bytes) (put_at at bytes out) ≡ drop (at + length bytes) out
  past_put =
      sym (drop-drop (length bytes) at (put_at at bytes out)) ∙ ap (drop (length bytes)) (drop_put at bytes out fits)
      ∙ drop-append_seam bytes (drop (at + length bytes) out)
