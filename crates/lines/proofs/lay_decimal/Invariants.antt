-- `lines::lay_decimal` meets its contract. The invariant: what is left of the number gives the digits that are still to come. Assumes nothing.
use Rattle.transcripts.specs.Lines.{decimal}
use Rattle.layouts.specs.Fronts.{front}
use Rattle.transcripts.proofs.Laws.{Laying}
use Rattle.lines.proofs.lay_decimal.Given as goal

abbrev pub invariant-loop-place : goal.invariant-loop-place
invariant-loop-place l = Laying (front (decimal l.number) l.initial.out) l.out l.left l.place
