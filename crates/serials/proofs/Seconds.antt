-- Laws of second serials: what a serial counts as, what it stands for on a roster, and where it is found. Assumes nothing.
use mathlib.Core.Path.{◌≡◌, refl, sym, ap, ap₂, ◌∙◌}
use mathlib.Core.Bool.{Bool, true, false, not, cond, ◌&&◌, and-false}
use mathlib.Core.List.{List, []}
use Prim.Native.Nat.{ℕ, ◌+◌, ◌≤◌, ◌<◌}
use native.Mathlib.Omega.{arith}
use native.Mathlib.Decide.{dec_lt}
use lib.Dec.{eqb}
use lib.ListN.{length, get_or, drop, length-drop, get_or-eq_default}
use lib.Seq.{get_or-drop}
use borrow.Author.Tests.{eq-eqb, ne_eqb}
use Rattle.sets.specs.PlaceSets.{found}
use Rattle.sets.specs.declared.Place.{Place}
use Rattle.std.specs.Prelude.{Option, Some, None, Result, Ok, Err}
use Rattle.sets.proofs.Booleans.{clash}
use Rattle.sets.proofs.Laws.{found_at, found_none}
use Rattle.serials.specs.Rosters.{place_of, holds, place_from}
use Rattle.serials.specs.Seconds.{is_second, counts_as, itself, stands_for, finding, finding_from, place_in}
use Rattle.serials.specs.declared.Finding.{Finding}
use Rattle.serials.specs.declared.Finding.TheVariants as F
use Rattle.serials.proofs.Rosters.{place_stands, holds_below, below_holds, past_holds, where_holds, found_here, found_nowhere}

-- ---- what a serial counts as

module _ (firsts seconds : List ℕ) (x : ℕ) where
  counts : (b : Bool) → is_second seconds x ≡ b → counts_as firsts seconds x ≡ cond b (get_or firsts (place_of x seconds) 0) x
  unfolding counts_as
  counts b e = ap (λ (b : Bool). cond b (get_or firsts (place_of x seconds) 0) x) e

  pub counts_zero : x ≡ 0 → counts_as firsts seconds x ≡ x
  unfolding is_second
  counts_zero z = counts false (ap (λ (b : Bool). holds x seconds && not b) (eq-eqb x 0 z) ∙ and-false (holds x seconds))

  pub counts_other : holds x seconds ≡ false → counts_as firsts seconds x ≡ x
  unfolding is_second
  counts_other e = counts false (ap (λ (b : Bool). b && not (eqb x 0)) e)

  pub counts_second : ¬ (x ≡ 0) → holds x seconds ≡ true → counts_as firsts seconds x ≡ get_or firsts (place_of x seconds) 0
  unfolding is_second
  counts_second z e = counts true (ap (λ (b : Bool). b && not (eqb x 0)) e ∙ ap not (ne_eqb x 0 z))

  -- as the code looks: the place of a second serial, which the first ones may not have
  module _ (z : ¬ (x ≡ 0)) (f : Option Place) (is : f ≡ found (length seconds) (place_of x seconds)) (q : Place) (a : f ≡ Some q) where
    pub counts_there : counts_as firsts seconds x ≡ get_or firsts q.0 0
    counts_there =
        let w = found_at (length seconds) (place_of x seconds) q (sym is ∙ a) in
        counts_second z (below_holds x seconds (omega (arith, w))) ∙ ap (λ (p : ℕ). get_or firsts p 0) w.0

    pub counts_past : length firsts ≤ q.0 → counts_as firsts seconds x ≡ 0
    counts_past l = counts_there ∙ get_or-eq_default firsts 0 l

-- with no second serials each counts as itself
pub counts_nobody : (firsts : List ℕ) → counts_as firsts [] ≡ itself
unfolding counts_as is_second holds place_of
counts_nobody firsts = refl

-- ---- what it stands for

pub stands_itself : (alias : ℕ → ℕ) (roster : List ℕ) (x : ℕ) → holds x roster ≡ true → stands_for alias roster x ≡ x
unfolding stands_for
stands_itself alias roster x e = ap (λ (b : Bool). cond b x (alias x)) e

pub stands_other : (alias : ℕ → ℕ) (roster : List ℕ) (x : ℕ) → holds x roster ≡ false → stands_for alias roster x ≡ alias x
unfolding stands_for
stands_other alias roster x e = ap (λ (b : Bool). cond b x (alias x)) e

pub stands_plain : (roster : List ℕ) (x : ℕ) → stands_for itself roster x ≡ x
unfolding stands_for
stands_plain roster x = go (holds x roster)
  where
    go : (b : Bool) → cond b x x ≡ x
    go true = refl
    go false = refl

-- ---- looking from a place on

module _ (s : List ℕ) (from x : ℕ) where
  pub from_below : place_from from x s < length s → holds x s ≡ true
  unfolding place_from
  from_below l = go (holds x (drop from s)) refl l
    where
      go : (b : Bool) → holds x (drop from s) ≡ b → cond b (from + place_of x (drop from s)) (place_of x s) < length s → holds x s ≡ true
      go true e l =
          let m : place_of x (drop from s) < length (drop from s) = holds_below x (drop from s) e in
          where_holds x s (from + place_of x (drop from s)) l (sym (get_or-drop from s (place_of x (drop from s)) 0) ∙ place_stands x (drop from s) m)
      go false e l = below_holds x s l

  pub from_nowhere : length s ≤ place_from from x s → holds x s ≡ false
  unfolding place_from
  from_nowhere l = go (holds x (drop from s)) refl l
    where
      go : (b : Bool) → holds x (drop from s) ≡ b → length s ≤ cond b (from + place_of x (drop from s)) (place_of x s) → holds x s ≡ false
      go true e l = absurd (omega (arith, holds_below x (drop from s) e, length-drop from s))
      go false e l = past_holds x s l

  pub from_on : holds x s ≡ true → place_from from x s < length s
  from_on e = go (dec_lt (place_from from x s) (length s))
    where
      go : Dec (place_from from x s < length s) → place_from from x s < length s
      go (yes l) = l
      go (no l) = clash e (from_nowhere (omega arith))

  pub from_off : holds x s ≡ false → length s ≤ place_from from x s
  from_off e = go (dec_lt (place_from from x s) (length s))
    where
      go : Dec (place_from from x s < length s) → length s ≤ place_from from x s
      go (yes l) = clash (from_below l) e
      go (no l) = omega arith

-- ---- where it is found

module _ (alias : ℕ → ℕ) (from : ℕ) (roster : List ℕ) (x : ℕ) where
  pub find_first : holds x roster ≡ true → finding_from alias from roster x ≡ Some (F.First (record { 0 = place_from from x roster }))
  unfolding finding_from
  find_first e = rw e

  module _ (e : holds x roster ≡ false) where
    pub find_second : holds (alias x) roster ≡ true → finding_from alias from roster x ≡ Some (F.Second (record { 0 = place_from from (alias x) roster }))
    unfolding finding_from
    find_second d = rw (e, d)

    pub find_nothing : holds (alias x) roster ≡ false → finding_from alias from roster x ≡ None
    unfolding finding_from
    find_nothing d = rw (e, d)

  -- as the code looks: for the serial itself, and then for what it counts as
  module _ (f : Option Place) (is : f ≡ found (length roster) (place_from from x roster)) where
    pub look_first : (q : Place) → f ≡ Some q → Some (F.First q) ≡ finding_from alias from roster x
    look_first q a =
        let w = found_at (length roster) (place_from from x roster) q (sym is ∙ a) in
        let p : place_from from x roster ≡ q.0 = w.0 in
        sym (find_first (from_below roster from x (omega (arith, w))) ∙ rw p)

    module _ (none : f ≡ None) (y : ℕ) (counts : y ≡ alias x) (g : Option Place) (at : g ≡ found (length roster) (place_from from y roster)) where
      lacks : holds x roster ≡ false
      lacks = from_nowhere roster from x (found_none (length roster) (place_from from x roster) (sym is ∙ none))

      pub look_second : (q : Place) → g ≡ Some q → Some (F.Second q) ≡ finding_from alias from roster x
      look_second q a =
          let w = found_at (length roster) (place_from from y roster) q (sym at ∙ a) in
          let p : place_from from y roster ≡ q.0 = w.0 in
          let h : holds y roster ≡ true = from_below roster from y (omega (arith, w)) in
          sym (find_second lacks (rw (sym counts) h) ∙ rw (sym counts, p))

      pub look_nothing : g ≡ None → None ≡ finding_from alias from roster x
      look_nothing a =
          let h : holds y roster ≡ false = from_nowhere roster from y (found_none (length roster) (place_from from y roster) (sym at ∙ a)) in
          sym (find_nothing lacks (rw (sym counts) h))

  -- the place that was found is that of the serial that x stands for
  pub found_stands : place_in (finding_from alias from roster x) ≡ found (length roster) (place_from from (stands_for alias roster x) roster)
  unfolding place_in
  found_stands = go (holds x roster) refl (holds (alias x) roster) refl
    where
      on : (y : ℕ) → holds y roster ≡ true → Some (record { 0 = place_from from y roster }) ≡ found (length roster) (place_from from y roster)
      on y e = found_here (length roster) (place_from from y roster) (place_from from y roster) refl (from_on roster from y e)

      off : (y : ℕ) → holds y roster ≡ false → None ≡ found (length roster) (place_from from y roster)
      off y e = found_nowhere (length roster) (place_from from y roster) (from_off roster from y e)

      moved : (y : ℕ) → stands_for alias roster x ≡ y → found (length roster) (place_from from y roster) ≡ found (length roster) (place_from from (stands_for alias roster x) roster)
      moved y e = ap (λ (y : ℕ). found (length roster) (place_from from y roster)) (sym e)

      go : (b : Bool) → holds x roster ≡ b → (d : Bool) → holds (alias x) roster ≡ d
          → place_in (finding_from alias from roster x) ≡ found (length roster) (place_from from (stands_for alias roster x) roster)
      go true e d h = ap place_in (find_first e) ∙ on x e ∙ moved x (stands_itself alias roster x e)
      go false e true h = ap place_in (find_second e h) ∙ on (alias x) h ∙ moved (alias x) (stands_other alias roster x e)
      go false e false h = ap place_in (find_nothing e h) ∙ off (alias x) h ∙ moved (alias x) (stands_other alias roster x e)

  pub located : (f : Option Finding) → f ≡ finding_from alias from roster x → (g : Option Place) → place_in f ≡ g → g ≡ found (length roster) (place_from from (stands_for alias roster x) roster)
  located f e g i = sym i ∙ ap place_in e ∙ found_stands

-- from the first place on
pub from_start : (s : List ℕ) (x : ℕ) → place_from 0 x s ≡ place_of x s
unfolding place_from
from_start s x = go (holds x (drop 0 s))
  where
    go : (b : Bool) → cond b (0 + place_of x (drop 0 s)) (place_of x s) ≡ place_of x s
    go true = omega arith
    go false = refl

pub finding_start : (alias : ℕ → ℕ) (roster : List ℕ) (x : ℕ) → finding_from alias 0 roster x ≡ finding alias roster x
unfolding finding_from finding
finding_start alias roster x =
    ap₂ (λ (p q : ℕ). cond {A = Option Finding} (holds x roster) (Some (F.First (record { 0 = p }))) (cond {A = Option Finding} (holds (alias x) roster) (Some (F.Second (record { 0 = q }))) None))
    (from_start roster x) (from_start roster (alias x))

module _ (alias : ℕ → ℕ) (roster : List ℕ) (x : ℕ) where
  pub found_first : holds x roster ≡ true → finding alias roster x ≡ Some (F.First (record { 0 = place_of x roster }))
  unfolding finding
  found_first e = rw e

  module _ (e : holds x roster ≡ false) where
    pub found_second : holds (alias x) roster ≡ true → finding alias roster x ≡ Some (F.Second (record { 0 = place_of (alias x) roster }))
    unfolding finding
    found_second d = rw (e, d)

    pub found_nothing : holds (alias x) roster ≡ false → finding alias roster x ≡ None
    unfolding finding
    found_nothing d = rw (e, d)
