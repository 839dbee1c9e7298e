-- `writes::put_serials` meets its contract. The invariant: the bytes of the first i serials stand at the front. Assumes nothing.
use mathlib.Core.Path.{◌≡◌, sym, ap, ◌∙◌}
use mathlib.Core.List.{List}
use Prim.Native.Nat.{ℕ, ◌*◌}
use native.Mathlib.Omega.{arith}
use lib.ListN.{length, take, get_or}
use lib.Seq.{length-take-le}
use Rattle.layouts.specs.Layout.{serial_bytes, serials_bytes}
use Rattle.layouts.specs.Fronts.{front}
use Rattle.layouts.proofs.Fronts.{front_none, front_part}
use Rattle.writes.proofs.Laying.{serials_long, bytes_more}
use Rattle.writes.proofs.put_serials.Goals as goal

pub loop-i-init : goal.loop-i-init
unfolding serials_bytes
loop-i-init c = front_none c.args.out.now

pub loop-i-preserved : goal.loop-i-preserved
loop-i-preserved c =
    let a = c.args in
    let laid = serials_bytes (take c.loop-i.i a.list.now) in
    let s : length laid ≡ c.loop-i.i * 4 = serials_long (take c.loop-i.i a.list.now) ∙ ap (λ (n : ℕ). n * 4) (length-take-le c.loop-i.i a.list.now (omega arith)) in
    front_part laid a.out.now c.loop-i.out (c.loop-i.i * 4) c.loop-i.invariant s (serial_bytes (get_or a.list.now c.loop-i.i 0)) _ c.put_serial.ensures
    ∙ ap (λ (z : List ℕ). front z a.out.now) (sym (bytes_more a.list.now c.loop-i.i (omega arith)))
