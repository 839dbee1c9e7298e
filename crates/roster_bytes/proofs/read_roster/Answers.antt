-- `roster_bytes::read_roster` meets its contract: one law for each answer. Assumes nothing.
use Rattle.std.proofs.Common.{sym, ◌∙◌}
use Rattle.std.proofs.lemmas.Result.{IfOk-at_ok}
use Rattle.refusals.proofs.Outcomes.{passed}
use Rattle.layouts.proofs.Heads.{section_early, section_few, section_many, section_fault, section_read}
use Rattle.roster_bytes.proofs.read_roster.Goals as goal

pub returns-then-bytes-at : goal.returns-then-bytes-at
returns-then-bytes-at c = record { bytes_value = section_early _ _ _ c.if-bytes-at.true; rostered = tt }

pub returns-then-n-lt1 : goal.returns-then-n-lt1
returns-then-n-lt1 c = record { bytes_value = section_few _ _ _ c.if-bytes-at.false c.if-n-lt1.true; rostered = tt }

pub returns-then-n-gt128 : goal.returns-then-n-gt128
returns-then-n-gt128 c = record { bytes_value = section_many _ _ _ c.if-bytes-at.false c.if-n-lt1.false c.if-n-gt128.true; rostered = tt }

pub returns-in_err-read_serials : goal.returns-in_err-read_serials
returns-in_err-read_serials c =
    let p = passed _ _ c.from_residual.ensures.1 in
    record {
      bytes_value = rw p (section_fault _ _ _ c.if-bytes-at.false c.if-n-lt1.false c.if-n-gt128.false _ c.read_serials.ensures.bytes_value _ c.in_err-read_serials.was);
      rostered = rw p tt;
    }

pub returns : goal.returns
returns c = record {
  bytes_value = section_read _ _ _ c.if-bytes-at.false c.if-n-lt1.false c.if-n-gt128.false _ c.read_serials.ensures.bytes_value c.in_ok-read_serials.was;
  rostered = IfOk-at_ok _ c.in_ok-read_serials.was c.read_serials.ensures.rostered;
}
