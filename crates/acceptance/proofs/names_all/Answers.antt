-- `answers::names_all` meets its contract. Assumes nothing.
use Rattle.acceptance.proofs.Acceptance.{names_all, short_free}
use Rattle.acceptance.proofs.names_all.Goals as goal

pub returns-in-Full : goal.returns-in-Full
returns-in-Full c = names_all _ _ _ _ _ _ c.roster-all.ensures c.intersection-known.ensures c.in-Full.is _ c.is_subset.ensures

pub returns-in-Short : goal.returns-in-Short
returns-in-Short c = short_free _ _ c.in-Short.is
