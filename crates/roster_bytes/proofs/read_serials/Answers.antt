-- `roster_bytes::read_serials` meets its contract. Assumes nothing.
use mathlib.Core.Path.{◌≡◌, ap}
use mathlib.Core.List.{List, ◌++◌}
use Prim.Native.Nat.{ℕ}
use lib.ListN.{length, take, drop}
use lib.Seq.{length-take-le}
use borrow.Author.Rules.{rules}
use Rattle.layouts.specs.Records.{serials}
use Rattle.layouts.proofs.Judging.{roster_parsed, roster_rostered, on_ok}
use Rattle.roster_bytes.proofs.read_serials.Goals as goal

pub returns : goal.returns
returns c =
    let a = c.args in
    let m = c.serials_there-m.result in
    let s = c.serials_there-m.ensures in
    let k : length (take m a.list.now) ≡ m = length-take-le m a.list.now (search rules) in
    let e : c.decode.new.list ++ drop m a.list.now ≡ serials m (drop a.at a.bytes.now) ++ drop m a.list.now = ap (λ (l : List ℕ). l ++ drop m a.list.now) (rw k at c.decode.ensures) in
    let f = c.roster_fault in
    record {
      bytes_value = roster_parsed a.bytes.now a.at a.count m a.list.now _ s.0 s.1 s.2 c.requires.count_bound e f.result f.ensures;
      rostered = on_ok f.result (roster_rostered a.bytes.now a.at a.count m a.list.now _ s.0 s.1 s.2 c.requires.count_bound e f.result f.ensures);
    }
