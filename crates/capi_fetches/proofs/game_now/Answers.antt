-- `capi_fetches::game_now` meets its contract. Assumes nothing.
use Rattle.std.proofs.Common.{sym, ap, ◌∙◌, ℕ}
use Rattle.refusals.proofs.Numbers.{as_numbered}
use Rattle.boundary.specs.Fetches.{game_of}
use Rattle.capi_fetches.proofs.game_now.Goals as goal

pub returns-in-Ok : goal.returns-in-Ok
unfolding game_of
returns-in-Ok c = sym (ap game_of c.in-Ok.is)

pub returns-in-Err : goal.returns-in-Err
unfolding game_of
returns-in-Err c = ap (λ (n : ℕ). record { refusal = n; fetches = 0 }) (as_numbered _) ∙ sym (ap game_of c.in-Err.is)
