-- `lines::put_whole` meets its contract. Each arm's literal is the definition's text. Assumes nothing.
use Rattle.transcripts.specs.Lines.{whole_line, ascii}
use Rattle.lines.proofs.put_whole.Goals as goal

pub returns-then-settled : goal.returns-then-settled
unfolding whole_line ascii
returns-then-settled c = record { value = rw c.if-settled.true c.put_text.ensures.value; out_after = rw c.if-settled.true c.put_text.ensures.out_after }

pub returns-else-settled : goal.returns-else-settled
unfolding whole_line ascii
returns-else-settled c = record { value = rw c.if-settled.false c.put_text-else-settled.ensures.value; out_after = rw c.if-settled.false c.put_text-else-settled.ensures.out_after }
