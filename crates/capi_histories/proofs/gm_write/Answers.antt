-- `capi_histories::gm_write` meets its contract. Assumes nothing.
use mathlib.Core.Path.{ap, ◌∙◌}
use Prim.Native.Nat.{ℕ}
use borrow.Author.Rules.{rules}
use Rattle.std.specs.Prelude.{Result}
use Rattle.refusals.specs.Numbers.{numbered}
use Rattle.refusals.specs.declared.Refusal.{Refusal}
use Rattle.refusals.proofs.Numbers.{as_numbered, numbered_is}
use Rattle.boundary.specs.Words.{end_of}
use Rattle.capi_histories.proofs.gm_write.Goals as goal

pub returns : goal.returns
returns c =
    let n = numbered_is c.write_back-answer.result c.map_err.result c.map_err.ensures.cases (λ j k h. search (rules, as_numbered)) in
    record {
      by_index = λ seconds. c.end_of.ensures ∙ ap end_of n ∙ ap (λ (r : Result ℕ Refusal). end_of (numbered r)) (c.write_back-answer.ensures.by_index seconds);
      by_index_2 = c.write_back-answer.ensures.by_index_2;
    }
