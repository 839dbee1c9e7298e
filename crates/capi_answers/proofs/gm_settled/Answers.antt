-- `capi_answers::gm_settled` meets its contract. Assumes nothing.
use mathlib.Core.Path.{◌∙◌}
use borrow.Author.Rules.{rules}
use Rattle.boundary.proofs.Calls.{settled_is}
use Rattle.capi_answers.proofs.gm_settled.Goals as goal

pub returns : goal.returns
returns c = λ serials seconds.
    c.yes_code.ensures ∙ settled_is _ _ (c.read_head-h.ensures.count_value, (c.read_head-h.ensures.returned_value, (c.read_head-h.ensures.full_value, (c.read_head-h.ensures.mourned_value, c.read_head-h.ensures.earlier_value)))) _ _ _ _ c.settled-settled.ensures
