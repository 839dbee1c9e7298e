-- `fetches::to_fetch` meets its contract: the lowest that blocks and how many do, or none. Assumes nothing.
use Rattle.std.proofs.Common.{sym, ap, ◌∙◌, ℕ, Option, Some}
use Rattle.answers.specs.declared.Fetching.{Fetching}
use Rattle.answers.proofs.Views.{size_at_most}
use Rattle.answers.proofs.Gathering.{told_none, told_some}
use Rattle.fetches.proofs.to_fetch.Goals as goal

pub returns-in_err-next : goal.returns-in_err-next
returns-in_err-next c =
    c.from_residual.ensures ∙ told_none _ _ _ _ (size_at_most _) _ c.blocking-known.ensures (sym c.lowest.ensures ∙ c.in_err-next.was)

pub returns : goal.returns
returns c =
    let number : ℕ → Option Fetching = λ n. Some (record { number = n; next = c.in_ok-next.next }) in
    ap number c.count.ensures ∙ told_some _ _ _ _ (size_at_most _) _ c.blocking-known.ensures c.in_ok-next.next (sym c.lowest.ensures ∙ c.in_ok-next.was)
