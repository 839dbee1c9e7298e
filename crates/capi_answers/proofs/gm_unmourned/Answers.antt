-- `capi_answers::gm_unmourned` meets its contract. Assumes nothing.
use mathlib.Core.Path.{◌∙◌}
use native.Mathlib.Omega.{arith}
use borrow.Author.Rules.{rules}
use Rattle.boundary.proofs.Calls.{unmourned_is}
use Rattle.capi_answers.proofs.gm_unmourned.Goals as goal

pub returns : goal.returns
returns c = λ serials seconds rows.
    c.put_set.ensures ∙ unmourned_is _ _ (c.read_head-h.ensures.count_value, (c.read_head-h.ensures.returned_value, (c.read_head-h.ensures.full_value, (c.read_head-h.ensures.mourned_value, c.read_head-h.ensures.earlier_value)))) _ _ _ _ c.unmourned-all.ensures (omega arith)
