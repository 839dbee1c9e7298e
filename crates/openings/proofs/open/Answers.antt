-- `openings::open` meets its contract. Assumes nothing.
use Rattle.std.specs.Prelude.{Option, Some, None, Result, Ok, Err}
use mathlib.Core.Path.{ap, sym, ◌∙◌}
use Rattle.serials.proofs.Rosters.{listed_sound}
use Rattle.calls.specs.declared.Recovery.{Recovery}
use Rattle.calls.proofs.Gives.{opened_sound, opened_refused}
use borrow.Author.Rules.{rules}
use Rattle.openings.proofs.open.Goals as goal

pub fresh-recovery-requires : goal.fresh-recovery-requires
fresh-recovery-requires c = ((listed_sound _).0 (sym c.check-found.ensures ∙ c.in-Ok.is)).few

pub returns-in-Ok : goal.returns-in-Ok
returns-in-Ok c =
    ap (λ (r : Recovery). record { answer = Ok tt; recovery = r }) c.fresh-recovery.ensures
    ∙ opened_sound _ _ c.check-found.ensures c.in-Ok.is

pub returns-in-Err : goal.returns-in-Err
returns-in-Err c = c.unopened.ensures ∙ opened_refused _ _ _ c.check-found.ensures c.in-Err.is
