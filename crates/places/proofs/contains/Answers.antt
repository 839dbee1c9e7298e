-- `places::contains` meets its contract. Assumes nothing.
use mathlib.Core.Path.{sym, ◌∙◌}
use Rattle.sets.proofs.Words.{has_low, has_upper, has_past}
use Rattle.sets.proofs.Digits.{bit_tested}
use Rattle.places.proofs.contains.Goals as goal

pub returns-then-p-lt64 : goal.returns-then-p-lt64
returns-then-p-lt64 c = bit_tested _ _ ∙ sym (has_low _ _ c.if-p-lt64.true)

pub returns-then-p-lt128 : goal.returns-then-p-lt128
returns-then-p-lt128 c = bit_tested _ _ ∙ sym (has_upper _ _ c.if-p-lt64.false c.if-p-lt128.true)

pub returns-else-p-lt128 : goal.returns-else-p-lt128
returns-else-p-lt128 c = sym (has_past _ _ c.if-p-lt128.false)
