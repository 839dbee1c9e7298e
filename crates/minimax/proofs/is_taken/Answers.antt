-- `minimax::is_taken` meets its contract. Assumes nothing.
use Rattle.std.proofs.Common.{ap, ◌∙◌, Ok}
use Rattle.answers.specs.declared.Reply.{Reply}
use Rattle.minimax.proofs.Handing.{said_taken, said_repeated, said_refused}
use Rattle.minimax.proofs.is_taken.Goals as goal

pub returns-in-Ok-Taken : goal.returns-in-Ok-Taken
returns-in-Ok-Taken c = said_taken _ (c.in-Ok-Taken.is ∙ ap (λ (w : Reply). Ok w) (rw c.in-Ok-Taken.is at c.in-Ok-Taken.field-0-is))

pub returns-in-Ok-Repeated : goal.returns-in-Ok-Repeated
returns-in-Ok-Repeated c = said_repeated _ (c.in-Ok-Repeated.is ∙ ap (λ (w : Reply). Ok w) (rw c.in-Ok-Repeated.is at c.in-Ok-Repeated.field-0-is))

pub returns-in-Err : goal.returns-in-Err
returns-in-Err c = said_refused _ _ c.in-Err.is
