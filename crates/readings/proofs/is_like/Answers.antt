-- `records::is_like` meets its contract. Assumes nothing.
use mathlib.Core.Path.{refl, sym, ◌∙◌}
use native.Mathlib.Omega.{arith}
use Rattle.sets.proofs.Booleans.{clash}
use Rattle.layouts.proofs.Judging.{like_is}
use Rattle.readings.proofs.is_like.Goals as goal

pub returns-then-bytes-at : goal.returns-then-bytes-at
returns-then-bytes-at c = λ e. clash e refl

pub returns-then-n-lt1 : goal.returns-then-n-lt1
returns-then-n-lt1 c = λ e. clash e refl

pub returns-then-n-gt128 : goal.returns-then-n-gt128
returns-then-n-gt128 c = λ e. clash e refl

pub returns-then-not-roster_is : goal.returns-then-not-roster_is
returns-then-not-roster_is c = λ e. clash e refl

pub returns : goal.returns
returns c =
    let a = c.args in
    λ e. like_is a.bytes.now a.at _ a.list.now a.order.now (omega arith) refl (omega arith) (omega arith) (sym c.roster_is.ensures ∙ c.if-not-roster_is.false) (sym c.rises.ensures ∙ e)
