-- `lines::put_none` meets its contract. The literal is the definition's text. Assumes nothing.
use Rattle.transcripts.specs.Lines.{none_line, ascii}
use Rattle.lines.proofs.put_none.Goals as goal

pub returns : goal.returns
unfolding none_line ascii
returns c =
    record { value = c.put_text.ensures.value; out_after = c.put_text.ensures.out_after }
