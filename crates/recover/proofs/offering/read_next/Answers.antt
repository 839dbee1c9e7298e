-- `offering::read_next` meets its contract: with no second serials each serial counts as itself. Assumes nothing.
use mathlib.Core.Path.{refl, sym, ap, ◌∙◌}
use mathlib.Core.List.{[]}
use Prim.Native.Nat.{ℕ}
use lib.ListN.{take}
use lib.Seq.{length-take-le}
use Rattle.serials.proofs.Seconds.{counts_nobody}
use Rattle.layouts.specs.Records.{reading}
use Rattle.recover.proofs.offering.read_next.Goals as goal

pub slice_bounds-read-end : goal.slice_bounds-read-end
slice_bounds-read-end c = refl

pub slice_bounds-read-end-then-serials-count : goal.slice_bounds-read-end-then-serials-count
slice_bounds-read-end-then-serials-count c = refl

pub returns-then-serials-count : goal.returns-then-serials-count
returns-then-serials-count c =
    let a = c.args in
    c.read.ensures ∙ ap (λ (alias : ℕ → ℕ). reading alias a.bytes.now a.at) (counts_nobody [])

pub slice_bounds-read_like-end : goal.slice_bounds-read_like-end
slice_bounds-read_like-end c = sym (length-take-le _ _ c.if-serials-count.false)

pub slice_bounds-read_like-end-2 : goal.slice_bounds-read_like-end-2
slice_bounds-read_like-end-2 c = refl

pub returns : goal.returns
returns c =
    let a = c.args in
    c.read_like.ensures ∙ ap (λ (alias : ℕ → ℕ). reading alias a.bytes.now a.at) (counts_nobody (take a.count a.serials.now))
