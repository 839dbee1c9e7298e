-- Which word or refusal an opening gives, whatever it is opened with. Assumes nothing.
use Rattle.refusals.specs.declared.Refusal.{Refusal}
use Rattle.refusals.specs.declared.Refusal.TheVariants as R
use Rattle.std.specs.Prelude.{Option, Some, None, Result, Ok, Err}
use mathlib.Core.Path.{◌≡◌, refl}
use mathlib.Core.Bool.{Bool, true, false, cond, ◌&&◌}
use mathlib.Core.Logic.{inl, inr}
use mathlib.Core.List.{List, []}
use Prim.Native.Nat.{ℕ, ◌<◌}
use native.Mathlib.Omega.{arith}
use lib.ListN.{length}
use lib.Dec.{leb, ltb}
use borrow.Author.Tests.{leb-true, leb-false, ltb-true, ltb-false}
use Rattle.serials.specs.Rosters.{holds, first_repeat, listed}
use Rattle.serials.proofs.Rosters.{Sized, holds_where, listed_twice, listed_roster, listed_sound, listed_5}
use Rattle.calls.specs.Promises.{fresh, unopened, opened_as, opened}
use Rattle.calls.specs.Demand.{Free, Opens, wrong_count, zero_serial, twice, succeeds}
use Rattle.calls.specs.Run.{opening_says}

-- ---- every opening

module _ (s : List ℕ) where
  -- of a list of 1 to 128 serials
  sized : Sized s → (z : Bool) → holds 0 s ≡ z → (t : Bool) → ltb (first_repeat [] s) (length s) ≡ t
      → Opens s (opening_says (opened_as s (cond z (Err R.ZeroSerial) (cond t (Err R.Twice) (Ok tt)))).answer)
  unfolding opened_as unopened opening_says
  sized l true hz t ht = let w = holds_where 0 s hz in zero_serial l.0 l.1 w.1 w.2
  sized l false hz true ht =
      let w = (listed_5 s).0 (listed_twice s l hz (ltb-true (first_repeat [] s) (length s) ht)) in
      twice l.0 l.1 (λ p m e. w.1 (p, m, e)) w.2.2 w.2.3 w.2.4
  sized l false hz false ht = succeeds ((listed_sound s).0 (listed_roster s l hz (ltb-false (first_repeat [] s) (length s) ht)))

  any_list : (b : Bool) → leb 1 (length s) ≡ b → (c : Bool) → leb (length s) 128 ≡ c
      → Opens s (opening_says (opened_as s (cond (b && c) (cond (holds 0 s) (Err R.ZeroSerial) (cond (ltb (first_repeat [] s) (length s)) (Err R.Twice) (Ok tt))) (Err R.BadCount))).answer)
  unfolding opened_as unopened opening_says
  any_list false hb c hc = let l : length s < 1 = leb-false 1 (length s) hb in wrong_count (inl (omega arith))
  any_list true hb false hc = wrong_count (inr (leb-false (length s) 128 hc))
  any_list true hb true hc =
      sized (leb-true 1 (length s) hb, leb-true (length s) 128 hc) (holds 0 s) refl (ltb (first_repeat [] s) (length s)) refl

pub opens : (s : List ℕ) → Opens s (opening_says (opened s).answer)
unfolding opened listed
opens s = any_list s (leb 1 (length s)) refl (leb (length s) 128) refl

-- ---- one free of faults

pub opened_free : (s : List ℕ) → Free s → opened s ≡ record { answer = Ok tt; recovery = fresh s }
unfolding opened opened_as
opened_free s f = rw ((listed_sound s).1 f.sound)
