-- Writing a record from its parts: a law for each way in which the code returns. Assumes nothing.
use Rattle.refusals.specs.declared.Refusal.{Refusal}
use Rattle.std.specs.Prelude.{Result}
use mathlib.Core.Path.{◌≡◌, refl}
use mathlib.Core.List.{List}
use Prim.Native.Nat.{ℕ}
use borrow.Author.Tests.{ne_eqb}
use Rattle.sets.specs.Sets.{Places}
use Rattle.histories.specs.declared.Kind.TheVariants.{Full, Short}
use Rattle.layouts.specs.Layout.{known_kind, kind_of}
use Rattle.layouts.specs.Records.{unwritten, written}
use Rattle.boundary.specs.declared.End.{End}
use Rattle.refusals.specs.Numbers.{numbered}
use Rattle.boundary.specs.Words.{end_of}
use Rattle.boundary.proofs.Words.{Ends, ends}
use Rattle.boundary.specs.Records.{written_parts}

module _ (kind own : ℕ) (roster : List ℕ) (M : Places) (out : List ℕ) (at : ℕ) where
  module _ (a : Result ℕ Refusal) (e : End) (after : List ℕ) (is : e ≡ end_of (numbered a)) where
    pub lays_full : kind ≡ 1 → (a ≡ (written Full own roster M out at).answer) × (after ≡ (written Full own roster M out at).buffer) → Ends (written_parts kind own roster M out at) e after
    unfolding written_parts known_kind kind_of
    lays_full k w = rw k (ends (written Full own roster M out at) a e after is w)

    pub lays_short : kind ≡ 2 → (a ≡ (written Short own roster M out at).answer) × (after ≡ (written Short own roster M out at).buffer) → Ends (written_parts kind own roster M out at) e after
    unfolding written_parts known_kind kind_of
    lays_short k w = rw k (ends (written Short own roster M out at) a e after is w)

  pub lays_none : (kind ≡ 1 → ⊥) → (kind ≡ 2 → ⊥) → Ends (written_parts kind own roster M out at) (record { refusal = 2; next = 0 }) out
  unfolding written_parts known_kind unwritten end_of
  lays_none a b = rw (ne_eqb kind 1 a, ne_eqb kind 2 b) (refl, refl)
