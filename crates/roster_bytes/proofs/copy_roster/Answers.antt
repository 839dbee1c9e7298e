-- `roster_bytes::copy_roster` meets its contract: one law for each answer. Assumes nothing.
use mathlib.Core.Path.{◌≡◌, sym, ap, ◌∙◌}
use mathlib.Core.List.{List, ◌++◌}
use Prim.Native.Nat.{ℕ}
use lib.ListN.{length, take, drop}
use lib.Seq.{length-take-le}
use Rattle.layouts.specs.Records.{serials}
use native.Mathlib.Omega.{arith}
use borrow.Author.Rules.{rules}
use Rattle.layouts.proofs.Lists.{there_fits, copy_not_there, copy_too_many, copy_done}
use Rattle.roster_bytes.proofs.copy_roster.Goals as goal

pub returns-then-not-all_there : goal.returns-then-not-all_there
returns-then-not-all_there c = record { value = (copy_not_there c.args.bytes.now c.args.at c.args.count c.args.list.now (sym c.all_there.ensures ∙ c.if-not-all_there.true)).0; list_after = (copy_not_there c.args.bytes.now c.args.at c.args.count c.args.list.now (sym c.all_there.ensures ∙ c.if-not-all_there.true)).1 }

pub returns-then-count-gt128 : goal.returns-then-count-gt128
returns-then-count-gt128 c =
    let a = c.args in
    record { value = (copy_too_many a.bytes.now a.at a.count a.list.now (omega (arith, c.if-count-gt128.true))).0; list_after = (copy_too_many a.bytes.now a.at a.count a.list.now (omega (arith, c.if-count-gt128.true))).1 }

pub decode-requires : goal.decode-requires
decode-requires c =
    let a = c.args in
    let t = there_fits _ _ _ (sym c.all_there.ensures ∙ c.if-not-all_there.false) in
    rw (length-take-le a.count a.list.now (search rules)) t

pub returns : goal.returns
returns c =
    let a = c.args in
    let n = a.count in
    let k : length (take n a.list.now) ≡ n = length-take-le n a.list.now (search rules) in
    let e : c.decode.new.list ++ drop n a.list.now ≡ serials n (drop a.at a.bytes.now) ++ drop n a.list.now = ap (λ (l : List ℕ). l ++ drop n a.list.now) (rw k at c.decode.ensures) in
    let w = copy_done a.bytes.now a.at n a.list.now (sym c.all_there.ensures ∙ c.if-not-all_there.false) c.if-count-gt128.false _ e in
    record { value = w.0; list_after = w.1 }
