-- `window::refill` meets its contract. Assumes nothing.
use mathlib.Core.List.{List}
use mathlib.Core.Path.{◌≡◌, ap, ◌∙◌}
use Prim.Native.Nat.{ℕ, ◌+◌, ◌-◌, ◌≤◌}
use native.Mathlib.Omega.{arith}
use lib.ListN.{length, take}
use borrow.Rule.Slice.PartMut.{put_mid, take_put}
use borrow.Author.Rules.{rules}
use Rattle.recover.proofs.Windows.{moved_front, refilled, front_kept}
use Rattle.recover.proofs.window.refill.Goals as goal

pub returns : goal.returns
returns c =
    let b : List ℕ = c.args.buf.now in
    let n : ℕ = c.args.w.have - c.args.w.at in
    let moved : List ℕ = c.copy_within.new.self in
    let p : length moved ≡ length b = search rules in
    let read : List ℕ = c.read_full.new.buf in
    let all : List ℕ = put_mid n (length moved - n) moved read in
    let g : length all ≡ length b = search rules in
    let h : n + c.in_ok-more.more ≤ length b = search rules in
    let front = ap (take n) c.copy_within.ensures.after ∙ moved_front b c.args.w.at c.args.w.have c.requires.0 c.requires.1 in
    let r = refilled c.args.w b all c.in_ok-more.more c.requires g (take_put n (length moved - n) moved read (omega (arith, p)) ∙ front) h in
    record { inside = r.0; starts_with = r.1.0; buf_len = r.1.1; err = tt }

pub returns-in_err-more-clause-err : goal.returns-in_err-more-clause-err
returns-in_err-more-clause-err c =
    let b : List ℕ = c.args.buf.now in
    let n : ℕ = c.args.w.have - c.args.w.at in
    let moved : List ℕ = c.copy_within.new.self in
    let p : length moved ≡ length b = search rules in
    let read : List ℕ = c.read_full.new.buf in
    let front = ap (take n) c.copy_within.ensures.after ∙ moved_front b c.args.w.at c.args.w.have c.requires.0 c.requires.1 in
    front_kept c.from_residual.result c.args.w b (put_mid n (length moved - n) moved read) c.requires (take_put n (length moved - n) moved read (omega (arith, p)) ∙ front)
