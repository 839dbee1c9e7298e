-- `lists::list` meets its contract. Assumes nothing.
use native.Mathlib.Omega.{arith}
use Rattle.answers.proofs.Lists.{list_short, list_done}
use Rattle.lists.proofs.list.Goals as goal

pub returns-then-out-n : goal.returns-then-out-n
returns-then-out-n c = record { value = (list_short _ _ _ _ _ (omega (arith, c.size-n.ensures.value))).0; out_after = (list_short _ _ _ _ _ (omega (arith, c.size-n.ensures.value))).1 }

pub returns : goal.returns
returns c = record { value = (list_done _ _ _ _ _ _ _ _ c.open_places-open.ensures c.unmourned-unmourned.ensures c.difference-last.ensures _ c.size-n.ensures.value (omega arith) _ c.lay.ensures).0; out_after = (list_done _ _ _ _ _ _ _ _ c.open_places-open.ensures c.unmourned-unmourned.ensures c.difference-last.ensures _ c.size-n.ensures.value (omega arith) _ c.lay.ensures).1 }
