-- What a record that was read says of the bytes that it was read from. Assumes nothing.
use mathlib.Core.Path.{◌≡◌, refl, sym, ap, subst, ◌∙◌}
use mathlib.Core.List.{List, [], ◌∷◌, ◌++◌}
use Rattle.std.specs.Prelude.{Ok}
use Prim.Native.Nat.{ℕ, ◌+◌, ◌-◌, ◌*◌, ◌≤◌}
use native.Mathlib.Omega.{arith}
use lib.ListN.{length, take, drop, length-append, length-drop}
use lib.Seq.{take_at}
use borrow.Author.Tests.{le-leb}
use Rattle.sets.specs.PlaceSets.{packed}
use Rattle.serials.specs.Rosters.{IsRoster, place_of, holds, listed}
use Rattle.serials.proofs.Rosters.{listed_sound}
use Rattle.layouts.specs.declared.Record.{Record}
use Rattle.serials.specs.Seconds.{itself}
use Rattle.layouts.specs.Layout.{Parsed, got, refused, Stored, stored}
use Rattle.layouts.specs.Records.{reading_of, reading, serials, roster_there, copiable, copied}
use Rattle.layouts.proofs.Layouts.{length_serials, stored_back}
use Rattle.layouts.proofs.Trips.{serials_read, roster_within}
use Rattle.calls.specs.declared.Opened.{Opened}
use Rattle.calls.specs.Promises.{fresh, unopened, opened_as, opened}

-- what was read, in the bytes from a position on
pub record ReadAt (b : List ℕ) (at : ℕ) (x : Record) : Type 0 where
  pub it : Stored
  pub rest : List ℕ
  pub parsed : stored itself (drop at b) ≡ got it rest
  pub is : x ≡ record { kind = it.kind; own = record { 0 = it.own }; roster = at + 6; count = length it.roster; mourned = packed it.mourned; next = length b - length rest }

pub read_at : (b : List ℕ) (at : ℕ) (x : Record) → reading itself b at ≡ Ok x → ReadAt b at x
unfolding reading reading_of
read_at b at x e = go (stored itself (drop at b)) refl e
  where
    go : (p : Parsed Stored) → stored itself (drop at b) ≡ p → reading_of (length b) at p ≡ Ok x → ReadAt b at x
    go (got y rest) f g = record { it = y; rest = rest; parsed = f; is = let h : x ≡ record { kind = y.kind; own = record { 0 = y.own }; roster = at + 6; count = length y.roster; mourned = packed y.mourned; next = length b - length rest } = cc in h }
    go (refused j) f g = let z : ◌≡◌ {A = ℕ} 0 1 = cc in absurd (omega arith)

module _ (b : List ℕ) (at : ℕ) (x : Record) (e : reading itself b at ≡ Ok x) where
  read : ReadAt b at x
  read = read_at b at x e

  sound : IsRoster read.it.roster
  sound = (stored_back itself (drop at b) read.it read.rest read.parsed).heading.sound

  count_is : x.count ≡ length read.it.roster
  count_is = ap (λ (y : Record). y.count) read.is

  pub count_few : x.count ≤ 128
  count_few = omega (arith, count_is, sound.few)

  -- the record ends behind its start, within the bytes
  pub ends_inside : x.next ≤ length b
  ends_inside = omega (arith, ap (λ (y : Record). y.next) read.is)

  roster_is_lem : serials x.count (drop x.roster b) ≡ read.it.roster
  roster_is_lem = subst (λ (y : Record). serials y.count (drop y.roster b) ≡ read.it.roster) (sym read.is) (serials_read itself b at read.it read.rest read.parsed)

  -- its roster can be copied
  copied_is : (list : List ℕ) → copied b x.roster x.count list ≡ serials x.count (drop x.roster b) ++ drop x.count list
  unfolding copied copiable roster_there
  copied_is list =
      let l : x.roster + x.count * 4 ≤ length b = omega (arith, count_is, ap (λ (y : Record). y.roster) read.is, roster_within itself b at read.it read.rest read.parsed) in
      rw (le-leb (x.roster + x.count * 4) (length b) l, le-leb x.count 128 count_few)

  pub copied_long : (list after : List ℕ) → length list ≡ 128 → after ≡ copied b x.roster x.count list → length after ≡ 128
  copied_long list after l f =
      let s : List ℕ = serials x.count (drop x.roster b) in
      ap length (f ∙ copied_is list) ∙ length-append s (drop x.count list)
      ∙ omega (arith, length_serials x.count (drop x.roster b), length-drop x.count list, count_few)

  copied_front : (list after : List ℕ) → after ≡ copied b x.roster x.count list → take x.count after ≡ serials x.count (drop x.roster b)
  copied_front list after f =
      ap (take x.count) (f ∙ copied_is list)
      ∙ take_at (serials x.count (drop x.roster b)) (drop x.count list) x.count (length_serials x.count (drop x.roster b))

-- a roster opens a recovery
opened_roster : (s : List ℕ) → IsRoster s → (opened s).recovery ≡ fresh s
unfolding opened opened_as
opened_roster s i = rw ((listed_sound s).1 i)

-- the recovery that the record opens
pub opened_is : (b : List ℕ) (at : ℕ) (x : Record) → reading itself b at ≡ Ok x → (list after : List ℕ) → after ≡ copied b x.roster x.count list
    → (o : Opened) → o ≡ opened (take x.count after) → o.recovery ≡ fresh (serials x.count (drop x.roster b))
opened_is b at x e list after f o g =
    ap (λ (z : Opened). z.recovery) g
    ∙ ap (λ (s : List ℕ). (opened s).recovery) (copied_front b at x e list after f)
    ∙ opened_roster (serials x.count (drop x.roster b)) (subst IsRoster (sym (roster_is_lem b at x e)) (sound b at x e))

-- a serial of 0 opens a recovery of no places
pub unopened_is : (list : List ℕ) (o : Opened) → list ≡ 0 ∷ [] → o ≡ opened list → o.recovery ≡ fresh []
unfolding opened opened_as unopened listed holds place_of
unopened_is list o l g = ap (λ (z : Opened). z.recovery) (g ∙ ap opened l)
