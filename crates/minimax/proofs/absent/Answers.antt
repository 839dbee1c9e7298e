-- `minimax::absent` meets its contract. Assumes nothing.
use Rattle.minimax.proofs.Handing.{absent_is}
use Rattle.minimax.proofs.absent.Goals as goal

pub returns : goal.returns
returns c = absent_is _ _ _ _ c.size-n.ensures.value c.below-all.ensures c.difference.ensures
