-- `lists::lay_few` meets its contract. The invariant: i bytes are laid, and the words are shifted by i. Assumes nothing.
use mathlib.Core.Path.{sym}
use native.Mathlib.Omega.{arith}
use native.Mathlib.Nat.{div-one}
use Rattle.sets.specs.PlaceSets.{bit}
use Rattle.answers.specs.Lists.{byte_by}
use Rattle.answers.proofs.Laying.{laid_none, laid_next, shifted, byte_first}
use Rattle.lists.proofs.lay_few.Goals as goal

pub loop-i-init : goal.loop-i-init
loop-i-init c = (sym (div-one _), sym (div-one _), sym (laid_none _ _))

pub loop-i-preserved : goal.loop-i-preserved
loop-i-preserved c =
    let a = c.args in
    let l = c.loop-i in (
      shifted a.last l.l l.i 1 l.invariant.0,
      shifted a.«open» l.o l.i 1 l.invariant.1,
      rw l.invariant.2 (laid_next l.i _ (byte_by (bit a.last) (bit a.«open»)) a.out.now (omega arith) (byte_first a.last a.«open» l.i l.l l.o l.invariant.0 l.invariant.1)),
    )
