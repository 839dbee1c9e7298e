-- `writes::write` meets its contract: one law for each answer. Assumes nothing.
use mathlib.Core.Path.{◌≡◌, sym, ◌∙◌}
use Prim.Native.Nat.{◌+◌, ◌*◌}
use native.Mathlib.Omega.{arith}
use lib.ListN.{length}
use Rattle.sets.specs.PlaceSets.{has}
use Rattle.sets.proofs.Counting.{count_at_most}
use Rattle.layouts.specs.Layout.{chosen}
use Rattle.writes.proofs.Laying.{part_long, chosen_count, write_12, write_3, write_13, write_done}
use Rattle.writes.proofs.write.Goals as goal

pub returns-then-n-own : goal.returns-then-n-own
returns-then-n-own c =
    let a = c.args in
    record { value = (write_12 a.kind a.own.0 a.roster.now (has a.mourned) a.out.now a.at c.if-n-own.true).0; out_after = (write_12 a.kind a.own.0 a.roster.now (has a.mourned) a.out.now a.at c.if-n-own.true).1 }

pub returns-then-n-gt128 : goal.returns-then-n-gt128
returns-then-n-gt128 c =
    let a = c.args in
    record { value = (write_3 a.kind a.own.0 a.roster.now (has a.mourned) a.out.now a.at c.if-n-own.false c.if-n-gt128.true).0; out_after = (write_3 a.kind a.own.0 a.roster.now (has a.mourned) a.out.now a.at c.if-n-own.false c.if-n-gt128.true).1 }

pub overflow_mul-size-2 : goal.overflow_mul-size-2
overflow_mul-size-2 c =
    let a = c.args in
    omega (arith, c.count_below-m.ensures, count_at_most (length a.roster.now) (has a.mourned))

pub overflow_add-size-2 : goal.overflow_add-size-2
overflow_add-size-2 c =
    let a = c.args in
    omega (arith, c.count_below-m.ensures, count_at_most (length a.roster.now) (has a.mourned))

pub returns-then-out-at : goal.returns-then-out-at
returns-then-out-at c =
    let a = c.args in
    let m : c.count_below-m.result ≡ length (chosen (has a.mourned) a.roster.now) = c.count_below-m.ensures ∙ sym (chosen_count (has a.mourned) a.roster.now) in
    record { value = (write_13 a.kind a.own.0 a.roster.now (has a.mourned) a.out.now a.at c.if-n-own.false c.if-n-gt128.false (7 + length a.roster.now * 4 + c.count_below-m.result * 4) (omega arith) (omega arith)).0; out_after = (write_13 a.kind a.own.0 a.roster.now (has a.mourned) a.out.now a.at c.if-n-own.false c.if-n-gt128.false (7 + length a.roster.now * 4 + c.count_below-m.result * 4) (omega arith) (omega arith)).1 }

pub returns-then-out-at-2 : goal.returns-then-out-at-2
returns-then-out-at-2 c =
    let a = c.args in
    let m : c.count_below-m.result ≡ length (chosen (has a.mourned) a.roster.now) = c.count_below-m.ensures ∙ sym (chosen_count (has a.mourned) a.roster.now) in
    record { value = (write_13 a.kind a.own.0 a.roster.now (has a.mourned) a.out.now a.at c.if-n-own.false c.if-n-gt128.false (7 + length a.roster.now * 4 + c.count_below-m.result * 4) (omega arith) (omega arith)).0; out_after = (write_13 a.kind a.own.0 a.roster.now (has a.mourned) a.out.now a.at c.if-n-own.false c.if-n-gt128.false (7 + length a.roster.now * 4 + c.count_below-m.result * 4) (omega arith) (omega arith)).1 }

pub put_record-requires : goal.put_record-requires
put_record-requires c =
    let a = c.args in
    let m : c.count_below-m.result ≡ length (chosen (has a.mourned) a.roster.now) = c.count_below-m.ensures ∙ sym (chosen_count (has a.mourned) a.roster.now) in record { own_in_bounds = c.if-n-own.false; roster_len_bound = c.if-n-gt128.false; m_bound = omega (arith, c.count_below-m.ensures, count_at_most (length a.roster.now) (has a.mourned)); m_value = m; m_in_bounds = rw (part_long a.out.now a.at (omega arith)) (omega arith) }

pub returns : goal.returns
returns c =
    let a = c.args in
    let m : c.count_below-m.result ≡ length (chosen (has a.mourned) a.roster.now) = c.count_below-m.ensures ∙ sym (chosen_count (has a.mourned) a.roster.now) in
    record { value = (write_done a.kind a.own.0 a.roster.now (has a.mourned) a.out.now a.at c.if-n-own.false c.if-n-gt128.false (7 + length a.roster.now * 4 + c.count_below-m.result * 4) (omega arith) (omega (arith, c.if-out-at-2.false, c.if-out-at.false)) _ c.put_record.ensures).0; out_after = (write_done a.kind a.own.0 a.roster.now (has a.mourned) a.out.now a.at c.if-n-own.false c.if-n-gt128.false (7 + length a.roster.now * 4 + c.count_below-m.result * 4) (omega arith) (omega (arith, c.if-out-at-2.false, c.if-out-at.false)) _ c.put_record.ensures).1 }
