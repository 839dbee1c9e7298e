-- `capi::mark_back` meets its contract. Assumes nothing.
use mathlib.Core.Path.{refl}
use native.Mathlib.Omega.{arith}
use borrow.Author.Rules.{rules}
use Rattle.capi.proofs.Offers.{back_kept}
use Rattle.capi.proofs.mark_back.Goals as goal

pub returns : goal.returns
returns c =
    back_kept _ _ _ _ _ _ (omega (arith, c.with-h.type_inv)) c.with-h.ensures (omega (arith, c.union-h.type_inv)) c.union-h.ensures _ _ (c.read_head-h.ensures.count_value, (c.read_head-h.ensures.returned_value, (c.read_head-h.ensures.full_value, (c.read_head-h.ensures.mourned_value, c.read_head-h.ensures.earlier_value)))) refl refl _ c.write_head.ensures
