-- `writes::put_mourned` meets its contract. Assumes nothing.
use native.Mathlib.Omega.{arith}
use Rattle.writes.proofs.Laying.{section_long, section_laid}
use Rattle.writes.proofs.put_mourned.Goals as goal

pub put_chosen-requires : goal.put_chosen-requires
put_chosen-requires c =
    rw (section_long c.args.out.now c.args.m (omega arith)) (omega (arith, c.requires.m_value))

pub returns : goal.returns
returns c = section_laid c.args.out.now _ (omega arith) _ _ c.put_chosen.ensures
