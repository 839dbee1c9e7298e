-- `writes::put_chosen` meets its contract. The invariant: the bytes of those of the first i that are chosen stand at the front, p of
-- them. Assumes nothing.
use mathlib.Core.Path.{◌≡◌, refl, sym, ap, ◌∙◌}
use mathlib.Core.Bool.{true}
use mathlib.Core.List.{List}
use Prim.Native.Nat.{ℕ, ◌<◌}
use native.Mathlib.Omega.{arith}
use lib.ListN.{length}
use Rattle.sets.specs.PlaceSets.{has}
use Rattle.layouts.specs.Layout.{serials_bytes, chosen}
use Rattle.layouts.specs.Fronts.{front}
use Rattle.layouts.proofs.Fronts.{front_none}
use Rattle.writes.proofs.Laying.{part_long, none_more, turn_size, turn_room, turn_laid}
use Rattle.writes.proofs.put_chosen.Goals as goal
use Rattle.writes.proofs.put_chosen.Goals.{then-contains, else-contains}

pub loop-i-init : goal.loop-i-init
unfolding serials_bytes chosen
loop-i-init c = (refl, omega arith, front_none c.args.out.now)

pub put_serial-requires : goal.put_serial-requires
put_serial-requires c =
    let a = c.args in
    let on : has a.set c.loop-i.i ≡ true = sym c.contains.ensures ∙ c.if-contains.true in
    rw (part_long c.loop-i.out c.loop-i.p (omega arith)) (omega (arith, c.requires, turn_room (has a.set) a.roster.now c.loop-i.i (omega arith) a.out.now c.loop-i.out c.loop-i.p c.loop-i.invariant.0 c.loop-i.invariant.2 on))

pub loop-i-preserved : goal.loop-i-preserved
loop-i-preserved c =
    let a = c.args in
    let l = c.loop-i in
    let h : l.i < length a.roster.now = omega arith in
    elim c.if-contains.branch [
      | then-contains w ↦
          let on : has a.set l.i ≡ true = sym c.contains.ensures ∙ w.if-contains.true in (
            w.p-is ∙ turn_size (has a.set) a.roster.now l.i h a.out.now l.out l.p l.invariant.0 l.invariant.2 on,
            omega (arith, c.requires, w.p-is, turn_room (has a.set) a.roster.now l.i h a.out.now l.out l.p l.invariant.0 l.invariant.2 on),
            w.out-is ∙ turn_laid (has a.set) a.roster.now l.i h a.out.now l.out l.p l.invariant.0 l.invariant.2 on _ w.put_serial.ensures,
          )
      | else-contains w ↦
          let more = none_more (has a.set) a.roster.now l.i h (sym c.contains.ensures ∙ w.if-contains.false) in (
            w.p-is ∙ l.invariant.0 ∙ ap length more,
            omega arith,
            w.out-is ∙ l.invariant.2 ∙ ap (λ (z : List ℕ). front z a.out.now) more,
          )
    ]
