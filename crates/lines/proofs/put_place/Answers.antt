-- `lines::put_place` meets its contract. Each arm's literals are the definition's words. Assumes nothing.
use Rattle.std.proofs.Common.{◌≡◌, ◌∙◌, ap, Ok}
use Rattle.answers.specs.declared.Answer.{Answer}
use Rattle.answers.specs.declared.Answer.TheVariants as A
use Rattle.transcripts.specs.Lines.{place_line, answer_words, ascii}
use Rattle.lines.proofs.put_place.Goals as goal

pub returns-in-Ok-Last : goal.returns-in-Ok-Last
unfolding place_line answer_words ascii
returns-in-Ok-Last c =
    let e : c.args.answer ≡ Ok A.Last = c.in-Ok-Last.is ∙ ap (λ (w : Answer). Ok w) (rw c.in-Ok-Last.is at c.in-Ok-Last.field-0-is) in
    record { value = rw e c.put_numbered.ensures.value; out_after = rw e c.put_numbered.ensures.out_after }

pub returns-in-Ok-NotLast : goal.returns-in-Ok-NotLast
unfolding place_line answer_words ascii
returns-in-Ok-NotLast c =
    let e : c.args.answer ≡ Ok A.NotLast = c.in-Ok-NotLast.is ∙ ap (λ (w : Answer). Ok w) (rw c.in-Ok-NotLast.is at c.in-Ok-NotLast.field-0-is) in
    record { value = rw e c.put_numbered-in-Ok-NotLast.ensures.value; out_after = rw e c.put_numbered-in-Ok-NotLast.ensures.out_after }

pub returns-in-Ok-Open : goal.returns-in-Ok-Open
unfolding place_line answer_words ascii
returns-in-Ok-Open c =
    let e : c.args.answer ≡ Ok A.Open = c.in-Ok-Open.is ∙ ap (λ (w : Answer). Ok w) (rw c.in-Ok-Open.is at c.in-Ok-Open.field-0-is) in
    record { value = rw e c.put_numbered-in-Ok-Open.ensures.value; out_after = rw e c.put_numbered-in-Ok-Open.ensures.out_after }

pub returns-in-Err : goal.returns-in-Err
unfolding place_line answer_words ascii
returns-in-Err c = record { value = rw c.in-Err.is c.put_refused.ensures.value; out_after = rw c.in-Err.is c.put_refused.ensures.out_after }
