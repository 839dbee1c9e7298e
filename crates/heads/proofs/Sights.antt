-- Reading for the ticket desk: what it is shown, by the head that was read. Assumes nothing.
use Rattle.refusals.specs.declared.Refusal.{Refusal}
use Rattle.std.specs.Prelude.{Option, Some, None, Result, Ok, Err}
use mathlib.Core.Path.{◌≡◌, refl}
use mathlib.Core.List.{List}
use Prim.Native.Nat.{ℕ, ◌+◌, ◌-◌, ◌*◌}
use native.Mathlib.Omega.{arith}
use lib.ListN.{take, drop}
use Rattle.layouts.specs.declared.Sight.{Sight}
use Rattle.layouts.specs.declared.Top.{Top}
use Rattle.layouts.specs.Layout.{head_section}
use Rattle.layouts.specs.Desk.{roster_part, shown_of, shown_to_desk, lies_of}
use Rattle.layouts.specs.Parts.{head_of, Within, HeadIn}

-- an answer, and the slice that goes with it: its bytes, and where it lies
abbrev pub IsShown : (ℕ → ℕ) → List ℕ → List ℕ → ℕ × ℕ → ℕ × ℕ → Result Sight Refusal → List ℕ → ℕ × ℕ → Type 0
IsShown alias b before at old answer part lies =
    (answer ≡ (shown_to_desk alias b before).answer) × ((part ≡ (shown_to_desk alias b before).roster) × (lies ≡ lies_of answer at old))

-- where the roster of a head that was found stands
pub found_within : (b : List ℕ) (at : ℕ) (list : List ℕ) (x : Result Top Refusal) (h : Top) → x ≡ Ok h → HeadIn x b at list → Within h b at list
found_within b at list x h e w = rw e at w

module _ (alias : ℕ → ℕ) (b before : List ℕ) (at old : ℕ × ℕ) (x : Result Top Refusal) (list : List ℕ) (sec : head_section alias b ≡ head_of x b list) where
  pub desk_refused : (j : Refusal) → x ≡ Err j → IsShown alias b before at old (Err j) before old
  unfolding head_of shown_to_desk shown_of lies_of
  desk_refused j e = rw (sec, e) (refl, (refl, refl))

  pub desk_seen : (h : Top) → x ≡ Ok h → HeadIn x b 6 list
      → IsShown alias b before at old (Ok (record { kind = h.kind; own = h.own })) (take (h.roster + h.count * 4 - h.roster) (drop h.roster b)) (at.0, h.roster + at.1)
  unfolding head_of shown_to_desk shown_of lies_of roster_part
  desk_seen h e within =
      let w : Within h b 6 list = found_within b 6 list x h e within in
      let n : 6 + h.count * 4 - 6 ≡ h.count * 4 = omega arith in
      rw (sec, e, w.starts, w.rostered.long, n) (refl, (refl, refl))
