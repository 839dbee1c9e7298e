-- `records::read_tail` meets its contract: one law for each answer. Assumes nothing.
use Rattle.std.specs.Prelude.{Option, Some, None, Result, Ok, Err}
use mathlib.Core.Path.{◌∙◌}
use Rattle.refusals.proofs.Outcomes.{passed}
use Rattle.layouts.specs.Parts.{mourned_of, tail_of}
use Rattle.readings.proofs.Mournings.{mourned_early, mourned_many, mourned_counted}
use Rattle.readings.proofs.read_tail.Goals as goal

pub returns-then-bytes-at : goal.returns-then-bytes-at
unfolding tail_of
returns-then-bytes-at c = record { bytes_value = mourned_early _ _ _ _ c.if-bytes-at.true; tail_in = tt }

pub returns-then-roster-m : goal.returns-then-roster-m
unfolding tail_of
returns-then-roster-m c = record { bytes_value = mourned_many _ _ _ _ c.if-bytes-at.false c.if-roster-m.true; tail_in = tt }

pub returns-in_err-mourned : goal.returns-in_err-mourned
unfolding tail_of mourned_of
returns-in_err-mourned c =
    let p = passed _ _ c.from_residual.ensures.1 in
    record { bytes_value = mourned_counted _ _ _ _ c.if-bytes-at.false c.if-roster-m.false ∙ c.read_mourned.ensures.bytes_value ∙ rw (c.in_err-mourned.was, p); tail_in = rw p tt }

pub returns : goal.returns
unfolding tail_of mourned_of
returns c =
    record { bytes_value = mourned_counted _ _ _ _ c.if-bytes-at.false c.if-roster-m.false ∙ c.read_mourned.ensures.bytes_value ∙ rw c.in_ok-mourned.was; tail_in = rw c.in_ok-mourned.was at c.read_mourned.ensures.mourned_in }
