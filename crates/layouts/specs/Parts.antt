-- The reader and the writer in their steps: what the contracts of the inner functions cite. No public contract cites this file.
-- Assumes nothing.
use Rattle.std.specs.Prelude.{◌≡◌, Bool, true, cond, Result, Ok, Err, ◌&&◌, List, [], ℕ, zero, suc, ◌+◌, ◌-◌, ◌*◌, ◌≤◌, ◌<◌, length, get_or, take, drop, eqb, ltb}
use Rattle.refusals.specs.declared.Refusal.{Refusal}
use Rattle.refusals.specs.declared.Refusal.TheVariants as R
use Rattle.sets.specs.Sets.{Places}
use Rattle.sets.specs.PlaceSets.{has, Words}
use Rattle.sets.specs.declared.PlaceSet.{PlaceSet}
use Rattle.histories.specs.declared.Kind.{Kind}
use Rattle.serials.specs.Rosters.{first_repeat, first_fault}
use Rattle.layouts.specs.declared.Sight.{Sight}
use Rattle.layouts.specs.declared.Top.{Top}
use Rattle.layouts.specs.declared.Tail.{Tail}
use Rattle.layouts.specs.Layout.{Parsed, got, refused, then, check, word_at, serial, roster_serials, roster_section, is_on, place_on, Head, layout}

-- ---- the head, by what was read before

-- from the roster on, where the own serial is known
unfoldable pub roster_after : (ℕ → ℕ) → Kind → ℕ → List ℕ → Parsed Head
roster_after alias k own s =
    then (roster_section s) (λ r s₁. check (is_on alias r own) R.NotOnRoster (got (record { kind = k; own = own; place = place_on alias r own; roster = r }) s₁))

-- from the own serial on
unfoldable pub own_after : (ℕ → ℕ) → Kind → List ℕ → Parsed Head
own_after alias k s = then (serial s) (λ own s₁. roster_after alias k own s₁)

-- the head by its first two sections, and the bytes after them
unfoldable pub owner_of : (ℕ → ℕ) → Result Sight Refusal → List ℕ → Parsed Head
owner_of alias (Ok o) s = roster_after alias o.kind o.own.0 s
owner_of alias (Err j) s = refused j

-- a section by what was read of it: its value, and the bytes after it
unfoldable pub section_by : {X A : Type 0} → Result X Refusal → (X → A) → (X → List ℕ) → Parsed A
section_by (Ok x) value rest = got (value x) (rest x)
section_by (Err j) value rest = refused j

-- the first fault of a roster of n serials, of which s are there, after those seen earlier; where they have none and some are missing,
-- that the bytes end early
unfoldable pub unless_cut : Bool → Result (Unit {0}) Refusal → Result (Unit {0}) Refusal
unless_cut cut (Ok u) = cond cut (Err R.EndsEarly) (Ok u)
unless_cut cut (Err j) = Err j

unfoldable pub roster_fault : ℕ → List ℕ → List ℕ → Result (Unit {0}) Refusal
roster_fault n seen s = unless_cut (ltb (length s) n) (first_fault seen s)

-- the head of a record whose roster r, of n serials, stands at a position: the own serial is looked up on it
unfoldable pub head_on : (ℕ → ℕ) → Kind → ℕ → ℕ → ℕ → List ℕ → Result Top Refusal
head_on alias k own at n r =
    cond (is_on alias r own) (Ok (record { kind = k; own = record { 0 = own }; place = record { 0 = place_on alias r own }; roster = at; count = n })) (Err R.NotOnRoster)

-- what a head that was found says of the bytes; its roster stands at the front of the list
unfoldable pub head_of : Result Top Refusal → List ℕ → List ℕ → Parsed Head
head_of (Ok h) b list =
    got (record { kind = h.kind; own = h.own.0; place = h.place.0; roster = take h.count list }) (drop (h.roster + h.count * 4) b)
head_of (Err j) b list = refused j

-- its roster starts at a position, is there, fits, and has no repeat
pub record Rostered (b : List ℕ) (at n : ℕ) (list : List ℕ) : Type 0 where
  pub there : at + n * 4 ≤ length b
  pub few : n ≤ 128
  pub long : length (take n list) ≡ n
  pub single : first_repeat [] (take n list) ≡ length (take n list)

pub record Within (t : Top) (b : List ℕ) (at : ℕ) (list : List ℕ) : Type 0 where
  pub starts : t.roster ≡ at
  pub rostered : Rostered b at t.count list

abbrev pub HeadIn : Result Top Refusal → List ℕ → ℕ → List ℕ → Type 0
HeadIn (Ok h) b at list = Within h b at list
HeadIn (Err j) b at list = Unit {0}

-- the roster's section at a position is of this list, and without fault
pub record Like (b : List ℕ) (at : ℕ) (list : List ℕ) : Type 0 where
  pub inside : at < length b
  pub some : 1 ≤ get_or b at 0
  pub few : get_or b at 0 ≤ 128
  pub parsed : roster_serials (get_or b at 0) [] (drop (at + 1) b) ≡ got (take (length list) list) (drop (at + 1 + length list * 4) b)
  pub rostered : Rostered b (at + 1) (length list) list

-- ---- the mourned section

unfoldable pub mourned_of : Result PlaceSet Refusal → List ℕ → Parsed Places
mourned_of (Ok m) s = got (has m) s
mourned_of (Err j) s = refused j

abbrev pub MournedIn : Result PlaceSet Refusal → ℕ → ℕ → Type 0
MournedIn (Ok m) end all = (end ≤ all) × Words m
MournedIn (Err j) end all = Unit {0}

unfoldable pub tail_of : Result Tail Refusal → List ℕ → Parsed Places
tail_of (Ok t) b = got (has t.mourned) (drop t.next b)
tail_of (Err j) b = refused j

abbrev pub TailIn : Result Tail Refusal → ℕ → Type 0
TailIn (Ok t) all = (t.next ≤ all) × Words t.mourned
TailIn (Err j) all = Unit {0}

-- ---- a roster in bytes, and a list

-- the k serials from a position on are those of a list from i on
unfoldable pub alike : ℕ → List ℕ → ℕ → List ℕ → ℕ → Bool
alike zero b at list i = true
alike (suc k) b at list i = eqb (word_at b at) (get_or list i 0) && alike k b (at + 4) list (i + 1)

-- of the serials that start at a position, those from i on are the list's
unfoldable pub alike_from : ℕ → List ℕ → ℕ → List ℕ → Bool
alike_from i b at list = alike (length list - i) b (at + i * 4) list i

-- ---- the writer

-- the bytes of the record of the place own with the mourned places M
abbrev pub record_bytes : Kind → ℕ → List ℕ → Places → List ℕ
record_bytes k own roster M = layout (record { kind = k; own = own; roster = roster; mourned = M })
