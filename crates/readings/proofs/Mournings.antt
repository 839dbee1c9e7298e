-- The mourned section at a position of the bytes: its count, then its serials one by one; one law for each way that it goes.
-- Assumes nothing.
use Rattle.refusals.specs.declared.Refusal.TheVariants as R
use Rattle.std.specs.Prelude.{Option, Some, None, Result, Ok, Err}
use mathlib.Core.Path.{◌≡◌, ap, ◌∙◌}
use mathlib.Core.Bool.{true, false}
use mathlib.Core.List.{List, []}
use Prim.Native.Nat.{ℕ, suc, ◌+◌, ◌-◌, ◌*◌, ◌≤◌, ◌<◌}
use native.Mathlib.Numerals.{add-one}
use native.Mathlib.Omega.{arith}
use lib.Dec.{leb}
use lib.ListN.{length, get_or, drop}
use borrow.Author.Tests.{le-leb, lt-leb}
use Rattle.sets.specs.Sets.{Places, nothing, with}
use Rattle.sets.specs.declared.Place.{Place}
use Rattle.sets.specs.PlaceSets.{found}
use Rattle.serials.specs.Rosters.{place_of, place_from, first_repeat}
use Rattle.serials.proofs.Rosters.{place_from_lem}
use Rattle.layouts.specs.Layout.{Parsed, got, refused, then, check, serial, is_on, place_on, mourned_serials, mourned_section}
use Rattle.refusals.specs.declared.Refusal.{Refusal}
use Rattle.serials.specs.declared.Serial.{Serial}
use Rattle.layouts.proofs.Sections.{check_yes, check_no, byte_early, byte_got}
use Rattle.layouts.proofs.Heads.{serial_by, serial_fault, serial_read}

-- on a roster with no repeat, looking along it finds a serial at its place
pub found_along : (r : List ℕ) → first_repeat [] r ≡ length r → (from x : ℕ) (f : Option Place) → f ≡ found (length r) (place_from from x r) → f ≡ found (length r) (place_of x r)
found_along r single from x f e = e ∙ ap (found (length r)) (place_from_lem r single from x)

-- ---- the count

module _ (alias : ℕ → ℕ) (r : List ℕ) where
  counted : ℕ → List ℕ → Parsed Places
  counted m s = check (leb m (length r)) R.BadCount (mourned_serials alias m r 0 nothing s)

  module _ (s : List ℕ) (p : ℕ) where
    pub mourned_early : length s ≤ p → mourned_section alias r (drop p s) ≡ refused R.EndsEarly
    unfolding mourned_section counted
    mourned_early h = byte_early s p counted h

    module _ (h : p < length s) where
      pub mourned_many : length r < get_or s p 0 → mourned_section alias r (drop p s) ≡ refused R.BadCount
      unfolding mourned_section counted
      mourned_many e = byte_got s p counted h ∙ check_no _ R.BadCount _ (lt-leb _ _ e)

      pub mourned_counted : get_or s p 0 ≤ length r → mourned_section alias r (drop p s) ≡ mourned_serials alias (get_or s p 0) r 0 nothing (drop (p + 1) s)
      unfolding mourned_section counted
      mourned_counted e = byte_got s p counted h ∙ check_yes _ R.BadCount _ (le-leb _ _ e)

-- ---- the serials

-- from the j-th on, with the lowest place that may come and the set so far
unfoldable pub onwards : (ℕ → ℕ) → List ℕ → ℕ → ℕ → List ℕ → ℕ → ℕ → Places → Parsed Places
onwards alias s at m r j low M = mourned_serials alias (m - j) r low M (drop (at + j * 4) s)

module _ (alias : ℕ → ℕ) (s : List ℕ) (at m : ℕ) (r : List ℕ) where
  pub onwards_start : (M : Places) → M ≡ nothing → mourned_serials alias m r 0 nothing (drop at s) ≡ onwards alias s at m r 0 0 M
  unfolding onwards
  onwards_start M e =
      let p : at + 0 * 4 ≡ at = omega arith in
      let q : m - 0 ≡ m = omega arith in
      rw (p, q, e)

  pub onwards_done : (j low : ℕ) (M : Places) → j ≡ m → onwards alias s at m r j low M ≡ got M (drop (at + m * 4) s)
  unfolding onwards mourned_serials
  onwards_done j low M e =
      let q : m - j ≡ 0 = omega arith in
      rw (q, e)

module _ (alias : ℕ → ℕ) (s : List ℕ) (at m : ℕ) (r : List ℕ) (j low : ℕ) (M : Places) (more : j < m) where
  next : ℕ → List ℕ → Parsed Places
  next x s₁ =
      check (is_on alias r x) R.NotOnRoster
      (check (leb low (place_on alias r x)) R.OutOfOrder (mourned_serials alias (m - (j + 1)) r (suc (place_on alias r x)) (with (place_on alias r x) M) s₁))

  step : onwards alias s at m r j low M ≡ then (serial (drop (at + j * 4) s)) next
  unfolding onwards next mourned_serials
  step =
      let q : m - j ≡ suc (m - (j + 1)) = omega arith in
      rw q

  -- the serial there was read: it is y, or it has a fault
  module _ (x : Result Serial Refusal) (read : serial (drop (at + j * 4) s) ≡ serial_by x s (at + j * 4)) where
    pub onwards_fault : (f : Refusal) → x ≡ Err f → onwards alias s at m r j low M ≡ refused f
    onwards_fault f z = step ∙ serial_fault s (at + j * 4) x read next f z

    module _ (y : Serial) (z : x ≡ Ok y) where
      pub onwards_strange : is_on alias r y.0 ≡ false → onwards alias s at m r j low M ≡ refused R.NotOnRoster
      unfolding next
      onwards_strange e = step ∙ serial_read s (at + j * 4) x read next y z ∙ check_no _ R.NotOnRoster _ e

      -- and `place` where it stands on the roster
      module _ (on : is_on alias r y.0 ≡ true) (place : ℕ) (g : place_on alias r y.0 ≡ place) where
        pub onwards_falling : place < low → onwards alias s at m r j low M ≡ refused R.OutOfOrder
        unfolding next
        onwards_falling e =
            let d : place_on alias r y.0 < low = rw g e in
            step ∙ serial_read s (at + j * 4) x read next y z ∙ check_yes _ R.NotOnRoster _ on ∙ check_no _ R.OutOfOrder _ (lt-leb _ _ d)

        pub onwards_more : (M' : Places) → M' ≡ with place M → low ≤ place → onwards alias s at m r j low M ≡ onwards alias s at m r (j + 1) (place + 1) M'
        unfolding next onwards
        onwards_more M' v e =
            let d : low ≤ place_on alias r y.0 = rw g e in
            let p : at + j * 4 + 4 ≡ at + (j + 1) * 4 = omega arith in
            step ∙ serial_read s (at + j * 4) x read next y z ∙ check_yes _ R.NotOnRoster _ on ∙ check_yes _ R.OutOfOrder _ (le-leb _ _ d) ∙ rw (g, p, v, add-one place)
