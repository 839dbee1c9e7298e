-- `words::read_head` meets its contract. Assumes nothing.
use Prim.Native.Nat.{◌-◌}
use borrow.Author.Rules.{rules}
use Rattle.boundary.specs.Words.{set_at}
use Rattle.words.proofs.read_head.Goals as goal

pub returns : goal.returns
unfolding set_at
returns c =
    record { count_value = c.word-9.ensures; returned_value = (λ i. record { low = c.word.ensures i; high = c.word-2.ensures i }); full_value = (λ i. record { low = c.word-3.ensures i; high = c.word-4.ensures i }); mourned_value = (λ i. record { low = c.word-5.ensures i; high = c.word-6.ensures i }); earlier_value = (λ i. record { low = c.word-7.ensures i; high = c.word-8.ensures i }) }
