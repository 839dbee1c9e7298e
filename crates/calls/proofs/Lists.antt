-- Listing and asking: each byte of the list is the byte of what asking for its place says. Assumes nothing.
use Rattle.answers.specs.Views.{answer_of}
use Rattle.refusals.specs.declared.Refusal.{Refusal}
use Rattle.refusals.specs.declared.Refusal.TheVariants as R
use Rattle.std.specs.Prelude.{Option, Some, None, Result, Ok, Err}
use mathlib.Core.Path.{◌≡◌, refl, ap, ◌∙◌}
use mathlib.Core.List.{List}
use Prim.Native.Nat.{ℕ, ◌<◌, ◌≤◌}
use lib.ListN.{length, get_or, drop}
use Rattle.sets.specs.PlaceSets.{has}
use Rattle.histories.specs.Rule.{Answer, is_last, not_last, is_open}
use Rattle.histories.specs.Kept.{answer_by}
use Rattle.answers.specs.Lists.{ListedAll, answer_byte}
use Rattle.answers.proofs.Lists.{laid_byte, laid_rest}
use Rattle.calls.specs.declared.Recovery.{Recovery}
use Rattle.calls.specs.Promises.{size_of, accepted_of, asked_as, asked, listed_of, AskedByte, not_byte, last_byte, open_byte}
use Rattle.calls.proofs.Calls.{asked_is, listed_laid}

module _ (r : Recovery) (out : List ℕ) (room : size_of r ≤ length out) where
  answered : ℕ → Answer
  answered i = answer_by (size_of r) (accepted_of r) (has r.mourned) (has r.earlier) i

  -- of any recovery whatever, and with any buffer that has room
  pub each_as_asked : (i : ℕ) → i < size_of r → AskedByte (asked r i) (get_or (listed_of r out).buffer i 0)
  unfolding asked_as answer_of answer_byte answered
  each_as_asked i l = rw (byte, asked_is r refl i (answered i) l refl) (go (answered i))
    where
      byte : get_or (listed_of r out).buffer i 0 ≡ answer_byte (answered i)
      byte = ap (λ (x : ListedAll). get_or x.buffer i 0) (listed_laid r refl out room) ∙ laid_byte (size_of r) (λ j. answer_byte (answered j)) out i l

      go : (a : Answer) → AskedByte (asked_as a) (answer_byte a)
      go is_last = last_byte
      go not_last = not_byte
      go is_open = open_byte

  -- and the bytes behind the list stay
  pub past_list : drop (size_of r) (listed_of r out).buffer ≡ drop (size_of r) out
  unfolding answered
  past_list = ap (λ (x : ListedAll). drop (size_of r) x.buffer) (listed_laid r refl out room) ∙ laid_rest (size_of r) (λ j. answer_byte (answered j)) out
