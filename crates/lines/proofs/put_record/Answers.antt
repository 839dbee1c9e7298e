-- `lines::put_record` meets its contract. Each arm's literals are the definition's words. Assumes nothing.
use Rattle.std.proofs.Common.{◌≡◌, ◌∙◌, ap, Ok}
use Rattle.answers.specs.declared.Reply.{Reply}
use Rattle.answers.specs.declared.Reply.TheVariants as O
use Rattle.transcripts.specs.Lines.{record_line, offer_words, ascii}
use Rattle.lines.proofs.put_record.Goals as goal

pub returns-in-Ok-Taken : goal.returns-in-Ok-Taken
unfolding record_line offer_words ascii
returns-in-Ok-Taken c =
    let e : c.args.answer ≡ Ok O.Taken = c.in-Ok-Taken.is ∙ ap (λ (w : Reply). Ok w) (rw c.in-Ok-Taken.is at c.in-Ok-Taken.field-0-is) in
    record { value = rw e c.put_numbered.ensures.value; out_after = rw e c.put_numbered.ensures.out_after }

pub returns-in-Ok-Repeated : goal.returns-in-Ok-Repeated
unfolding record_line offer_words ascii
returns-in-Ok-Repeated c =
    let e : c.args.answer ≡ Ok O.Repeated = c.in-Ok-Repeated.is ∙ ap (λ (w : Reply). Ok w) (rw c.in-Ok-Repeated.is at c.in-Ok-Repeated.field-0-is) in
    record { value = rw e c.put_numbered-in-Ok-Repeated.ensures.value; out_after = rw e c.put_numbered-in-Ok-Repeated.ensures.out_after }

pub returns-in-Err : goal.returns-in-Err
unfolding record_line offer_words ascii
returns-in-Err c = record { value = rw c.in-Err.is c.put_refused.ensures.value; out_after = rw c.in-Err.is c.put_refused.ensures.out_after }
