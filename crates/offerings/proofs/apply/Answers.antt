-- `offerings::apply` meets its contract: what is taken is kept, and else nothing changes. Assumes nothing.
use Rattle.std.proofs.Common.{◌≡◌, ◌∙◌, sym, ap, Result, Ok, Err}
use Rattle.refusals.specs.declared.Refusal.{Refusal}
use Rattle.answers.specs.declared.Reply.{Reply}
use Rattle.answers.specs.declared.Reply.TheVariants as O
use Rattle.calls.specs.Promises.{saying}
use Rattle.calls.proofs.Offers.{answered_taken, answered_repeated, answered_refused}
use Rattle.offerings.proofs.apply.Goals as goal

pub returns-in-Ok-Taken : goal.returns-in-Ok-Taken
returns-in-Ok-Taken c =
    let e : c.args.answer ≡ Ok O.Taken = c.in-Ok-Taken.is ∙ ap (λ (w : Reply). Ok w) (rw c.in-Ok-Taken.is at c.in-Ok-Taken.field-0-is) in
    ap (λ (a : Result Reply Refusal). record { answer = a; recovery = c.keep.new.next }) e ∙ answered_taken _ _ _ _ _ _ e c.keep.ensures

pub returns-in-Ok-Repeated : goal.returns-in-Ok-Repeated
unfolding saying
returns-in-Ok-Repeated c =
    let e : c.args.answer ≡ Ok O.Repeated = c.in-Ok-Repeated.is ∙ ap (λ (w : Reply). Ok w) (rw c.in-Ok-Repeated.is at c.in-Ok-Repeated.field-0-is) in
    ap (saying _) e ∙ answered_repeated _ _ _ _ _ e

pub returns-in-Err : goal.returns-in-Err
unfolding saying
returns-in-Err c = ap (saying _) c.in-Err.is ∙ answered_refused _ _ _ _ _ _ c.in-Err.is
