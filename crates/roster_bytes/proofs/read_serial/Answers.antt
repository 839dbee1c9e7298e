-- `roster_bytes::read_serial` meets its contract: one law for each answer. Assumes nothing.
use Rattle.std.proofs.Common.{sym, ◌∙◌, arith}
use Rattle.layouts.proofs.Lists.{there_fits, there_lacks}
use Rattle.layouts.proofs.Heads.{serial_missing, serial_nil, serial_some}
use Rattle.roster_bytes.proofs.read_serial.Goals as goal

pub returns-then-not-all_there : goal.returns-then-not-all_there
returns-then-not-all_there c =
    let a = c.args in
    let t = there_lacks a.bytes.now a.at 1 (sym c.all_there.ensures ∙ c.if-not-all_there.true) in
    record { bytes_value = serial_missing a.bytes.now a.at (omega (arith, t)); at_in_bounds = tt }

pub serial_at-x-requires : goal.serial_at-x-requires
serial_at-x-requires c =
    let t = there_fits _ _ 1 (sym c.all_there.ensures ∙ c.if-not-all_there.false) in
    omega (arith, t)

pub returns-then-x-eq0 : goal.returns-then-x-eq0
returns-then-x-eq0 c =
    let a = c.args in
    let t = there_fits a.bytes.now a.at 1 (sym c.all_there.ensures ∙ c.if-not-all_there.false) in
    record { bytes_value = serial_nil a.bytes.now a.at (omega (arith, t)) _ c.serial_at-x.ensures c.if-x-eq0.true; at_in_bounds = tt }

pub returns : goal.returns
returns c =
    let a = c.args in
    let t = there_fits a.bytes.now a.at 1 (sym c.all_there.ensures ∙ c.if-not-all_there.false) in
    record { bytes_value = serial_some a.bytes.now a.at (omega (arith, t)) _ c.serial_at-x.ensures c.if-x-eq0.false; at_in_bounds = omega (arith, t) }
