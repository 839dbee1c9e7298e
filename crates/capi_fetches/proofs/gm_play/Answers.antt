-- `capi_fetches::gm_play` meets its contract. Assumes nothing.
use borrow.Author.Rules.{rules}
use Rattle.capi_fetches.proofs.Parts.{game_is}
use Rattle.capi_fetches.proofs.gm_play.Goals as goal

pub returns : goal.returns
returns c =
    game_is _ _ _ _ c.recovery_in-r.ensures c.game_now.ensures c.play-game.ensures
