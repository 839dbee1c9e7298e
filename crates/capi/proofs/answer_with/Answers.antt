-- `capi::answer_with` meets its contract. Assumes nothing.
use Rattle.std.proofs.Common.{◌≡◌, ◌∙◌, ap, Ok}
use Rattle.refusals.proofs.Numbers.{as_numbered}
use Rattle.answers.specs.declared.Reply.{Reply}
use Rattle.answers.specs.declared.Reply.TheVariants as O
use native.Mathlib.Omega.{arith}
use Rattle.sets.specs.PlaceSets.{has}
use borrow.Author.Rules.{rules}
use Rattle.capi.proofs.Offers.{leaves_taken, leaves_repeated, leaves_refused}
use Rattle.capi.proofs.answer_with.Goals as goal

pub returns-in-Ok-Taken : goal.returns-in-Ok-Taken
returns-in-Ok-Taken c =
    let a = c.args in
    let e : a.reply ≡ Ok O.Taken = c.in-Ok-Taken.is ∙ ap (λ (w : Reply). Ok w) (rw c.in-Ok-Taken.is at c.in-Ok-Taken.field-0-is) in
    let w = leaves_taken a.head.now a.rows.now a.own.0 a.kind a.row a.reply _ _ e c.mark.ensures (omega arith) c.set.ensures in
    record { value = w.0; by_index = w.1.0; by_index_2 = w.1.1 }

pub returns-in-Ok-Repeated : goal.returns-in-Ok-Repeated
returns-in-Ok-Repeated c =
    let a = c.args in
    let e : a.reply ≡ Ok O.Repeated = c.in-Ok-Repeated.is ∙ ap (λ (w : Reply). Ok w) (rw c.in-Ok-Repeated.is at c.in-Ok-Repeated.field-0-is) in
    let w = leaves_repeated a.head.now a.rows.now a.own.0 a.kind (has a.row) _ c.requires e in
    record { value = w.0; by_index = w.1.0; by_index_2 = w.1.1 }

pub returns-in-Err : goal.returns-in-Err
returns-in-Err c =
    let a = c.args in
    let w = leaves_refused a.head.now a.rows.now a.own.0 a.kind (has a.row) _ c.requires _ _ (as_numbered _) c.in-Err.is in
    record { value = w.0; by_index = w.1.0; by_index_2 = w.1.1 }
