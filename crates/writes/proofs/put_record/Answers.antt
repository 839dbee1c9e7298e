-- `writes::put_record` meets its contract: each section makes the front of the buffer longer. Assumes nothing.
use Rattle.sets.specs.PlaceSets.{has}
use Rattle.writes.proofs.Laying.{record_laid}
use Rattle.writes.proofs.put_record.Goals as goal

pub returns : goal.returns
returns c =
    let a = c.args in
    record_laid a.kind a.own a.roster.now (has a.set) a.m c.requires.m_value a.out.now _ _ _ c.put_top.ensures c.put_roster.ensures c.put_mourned.ensures
