-- `writes::put_roster` meets its contract. Assumes nothing.
use native.Mathlib.Omega.{arith}
use lib.ListN.{length}
use Rattle.writes.proofs.Laying.{section_long, section_laid}
use Rattle.writes.proofs.put_roster.Goals as goal

pub put_serials-requires : goal.put_serials-requires
put_serials-requires c =
    let a = c.args in
    rw (section_long a.out.now (length a.roster.now) (omega arith)) (omega arith)

pub returns : goal.returns
returns c = section_laid c.args.out.now _ (omega arith) _ _ c.put_serials.ensures
