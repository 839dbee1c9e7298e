-- `capi::found_now` meets its contract. Assumes nothing.
use Rattle.std.proofs.Common.{◌≡◌, ◌∙◌, ap, sym, Some}
use Rattle.serials.specs.declared.Finding.{Finding}
use Rattle.serials.specs.declared.Finding.TheVariants as F
use borrow.Author.Rules.{rules}
use Rattle.boundary.specs.Recoveries.{found_of}
use Rattle.capi.proofs.found_now.Goals as goal

pub returns-in-Some-First : goal.returns-in-Some-First
unfolding found_of
returns-in-Some-First c =
    let e : c.args.found ≡ Some (F.First c.in-Some-First.place) = c.in-Some-First.is ∙ ap (λ (w : Finding). Some w) (rw c.in-Some-First.is at c.in-Some-First.field-0-is) in
    sym (ap found_of e)

pub returns-in-Some-Second : goal.returns-in-Some-Second
unfolding found_of
returns-in-Some-Second c =
    let e : c.args.found ≡ Some (F.Second c.in-Some-Second.place) = c.in-Some-Second.is ∙ ap (λ (w : Finding). Some w) (rw c.in-Some-Second.is at c.in-Some-Second.field-0-is) in
    sym (ap found_of e)

pub returns-in-None : goal.returns-in-None
unfolding found_of
returns-in-None c = sym (ap found_of c.in-None.is)
