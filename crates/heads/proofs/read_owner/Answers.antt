-- `records::read_owner` meets its contract: one law for each answer. Assumes nothing.
use mathlib.Core.Path.{◌≡◌, ◌∙◌}
use Prim.Native.Nat.{◌+◌}
use native.Mathlib.Omega.{arith}
use borrow.Author.Rules.{rules}
use Rattle.layouts.specs.Parts.{owner_of}
use Rattle.layouts.proofs.Heads.{head_early, head_full, head_short, head_unknown}
use Rattle.heads.proofs.read_owner.Goals as goal

pub returns-then-bytes-at : goal.returns-then-bytes-at
unfolding owner_of
returns-then-bytes-at c = record { by_index = (λ alias. head_early alias _ _ c.if-bytes-at.true); owner_in = tt }

pub returns-in-1 : goal.returns-in-1
returns-in-1 c =
    let a = c.args in
    let e : a.at + 1 + 4 ≡ a.at + 5 = omega arith in
    record { by_index = (λ alias. head_full alias a.bytes.now a.at c.if-bytes-at.false c.in-1.is ∙ rw e at (c.read_own.ensures.by_index alias)); owner_in = rw e at c.read_own.ensures.owner_in }

pub returns-in-2 : goal.returns-in-2
returns-in-2 c =
    let a = c.args in
    let e : a.at + 1 + 4 ≡ a.at + 5 = omega arith in
    record { by_index = (λ alias. head_short alias a.bytes.now a.at c.if-bytes-at.false c.in-2.is ∙ rw e at (c.read_own-in-2.ensures.by_index alias)); owner_in = rw e at c.read_own-in-2.ensures.owner_in }

pub returns-in-0 : goal.returns-in-0
unfolding owner_of
returns-in-0 c =
    let a = c.args in
    record { by_index = (λ alias. head_unknown alias a.bytes.now a.at c.if-bytes-at.false (λ e. omega (arith, c.in-0.in-0-own.keys3)) (λ e. omega (arith, c.in-0.in-0-own.keys3))); owner_in = tt }

pub returns-in-0-2 : goal.returns-in-0-2
unfolding owner_of
returns-in-0-2 c =
    let a = c.args in
    record { by_index = (λ alias. head_unknown alias a.bytes.now a.at c.if-bytes-at.false c.in-0.in-0-own.rest.0.0.1 c.in-0.in-0-own.rest.0.1); owner_in = tt }
