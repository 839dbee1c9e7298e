-- `heads::on_first` meets its contract. Assumes nothing.
use mathlib.Core.Path.{sym, ap, ◌∙◌}
use Prim.Native.Nat.{ℕ}
use lib.ListN.{take}
use lib.Seq.{length-take-le}
use borrow.Author.Rules.{rules}
use Rattle.serials.specs.Seconds.{counts_as}
use Rattle.layouts.specs.Parts.{head_on}
use Rattle.heads.proofs.on_first.Goals as goal

pub slice_bounds-on_roster-end : goal.slice_bounds-on_roster-end
slice_bounds-on_roster-end c = sym (length-take-le _ _ c.requires)

pub returns : goal.returns
returns c =
    let a = c.args in
    c.on_roster.ensures
    ∙ ap (λ (m : ℕ). head_on (counts_as a.firsts.now a.seconds.now) a.kind a.own.0 a.roster m (take a.n a.list.now)) (length-take-le _ _ c.requires)
