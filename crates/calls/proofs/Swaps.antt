-- Second serials: where a serial stands in a group and what finding it says, and that they stay apart. Document 02, [2]. Assumes nothing.
use Rattle.refusals.specs.declared.Refusal.{Refusal}
use Rattle.refusals.specs.declared.Refusal.TheVariants as R
use Rattle.std.specs.Prelude.{Option, Some, None, Result, Ok, Err}
use mathlib.Core.Path.{◌≡◌, refl, sym, ap, ◌∙◌}
use mathlib.Core.Bool.{Bool, true, false}
use mathlib.Core.Logic.{◌⊎◌, inl, inr}
use mathlib.Core.List.{List}
use Prim.Native.Nat.{ℕ, ◌<◌}
use native.Mathlib.Omega.{arith}
use native.Mathlib.Decide.{ℕ_discrete}
use lib.ListN.{length, get_or, set, replicate, length-set, length-replicate, get_or-replicate}
use lib.Seq.{get_or-set_same, get_or-set_other}
use Rattle.serials.specs.Rosters.{place_of, holds}
use Rattle.serials.specs.Seconds.{counts_as, finding}
use Rattle.serials.specs.declared.Finding.{Finding}
use Rattle.serials.specs.declared.Finding.TheVariants.{First, Second}
use Rattle.serials.proofs.Rosters.{place_stands, holds_below, holds_nowhere, where_holds}
use Rattle.serials.proofs.Seconds.{counts_zero, counts_other, counts_second, found_first, found_second, found_nothing}
use Rattle.layouts.proofs.Serials.{place_own}
use Rattle.calls.specs.Demand.{KnownSerial, AreSeconds}

-- ---- finding

-- where x stands in a group with this roster and these second serials, and what finding it says then
pub data Standing (roster seconds : List ℕ) (x : ℕ) : Option Finding → Type 0 where
  as_first : {p : ℕ} → p < length roster → get_or roster p 0 ≡ x → Standing roster seconds x (Some (First (record { 0 = p })))
  as_second : {p : ℕ} → p < length roster → ¬ (x ≡ 0) → get_or seconds p 0 ≡ x → Standing roster seconds x (Some (Second (record { 0 = p })))
  unknown : (x ≡ 0) ⊎ (¬ (KnownSerial roster seconds x)) → Standing roster seconds x None

module _ (roster seconds : List ℕ) (long : length seconds ≡ length roster) (no_repeat : (p q : ℕ) → p < q → q < length roster → ¬ (get_or roster p 0 ≡ get_or roster q 0)) (x : ℕ) where
  -- not a first serial
  module _ (off : holds x roster ≡ false) where
    as_itself : counts_as roster seconds x ≡ x → (x ≡ 0) ⊎ (¬ (KnownSerial roster seconds x)) → Standing roster seconds x (finding (counts_as roster seconds) roster x)
    as_itself e u = rw (found_nothing (counts_as roster seconds) roster x off (ap (λ (y : ℕ). holds y roster) e ∙ off)) (unknown u)

    second : ¬ (x ≡ 0) → holds x seconds ≡ true → Standing roster seconds x (finding (counts_as roster seconds) roster x)
    second z h =
        let l : place_of x seconds < length roster = rw long at (holds_below x seconds h) in
        let e : counts_as roster seconds x ≡ get_or roster (place_of x seconds) 0 = counts_second roster seconds x z h in
        let there : holds (counts_as roster seconds x) roster ≡ true = rw e (where_holds (get_or roster (place_of x seconds) 0) roster (place_of x seconds) l refl) in
        let at : place_of (counts_as roster seconds x) roster ≡ place_of x seconds = ap (λ (y : ℕ). place_of y roster) e ∙ place_own roster no_repeat (place_of x seconds) l in
        rw (found_second (counts_as roster seconds) roster x off there, at) (as_second l z (place_stands x seconds (holds_below x seconds h)))

    nobody : holds x seconds ≡ false → ¬ (KnownSerial roster seconds x)
    nobody h (p, l, inl e) = holds_nowhere x roster off p l e
    nobody h (p, l, inr e) = holds_nowhere x seconds h p (rw long l) e

    other : Dec (x ≡ 0) → (b : Bool) → holds x seconds ≡ b → Standing roster seconds x (finding (counts_as roster seconds) roster x)
    other (yes z) b h = as_itself (counts_zero roster seconds x z) (inl z)
    other (no z) true h = second z h
    other (no z) false h = as_itself (counts_other roster seconds x h) (inr (nobody h))

  pub standing : Standing roster seconds x (finding (counts_as roster seconds) roster x)
  standing = go (holds x roster) refl
    where
      go : (b : Bool) → holds x roster ≡ b → Standing roster seconds x (finding (counts_as roster seconds) roster x)
      go true e =
          let l : place_of x roster < length roster = holds_below x roster e in
          rw (found_first (counts_as roster seconds) roster x e) (as_first l (place_stands x roster l))
      go false e = other e (ℕ_discrete x 0) (holds x seconds) refl

-- ---- they stay apart

pub seconds_none : (roster : List ℕ) → ((p : ℕ) → p < length roster → ¬ (get_or roster p 0 ≡ 0)) → AreSeconds roster (replicate (length roster) 0)
seconds_none roster no_zero = record {
  long = length-replicate (length roster) 0;
  not_first = λ p q l m e. no_zero q m (sym (sym (get_or-replicate (length roster) p 0 0 l) ∙ e));
  no_repeat = λ p q l m e. get_or-replicate (length roster) p 0 0 (omega arith);
}

module _ (roster seconds : List ℕ) (p x : ℕ) (s : AreSeconds roster seconds) (on : p < length roster) (z : ¬ (x ≡ 0)) (new : ¬ (KnownSerial roster seconds x)) where
  here : get_or (set seconds p x) p 0 ≡ x
  here = get_or-set_same seconds p x 0 (omega (arith, s.long))

  else : (q : ℕ) → ¬ (q ≡ p) → get_or (set seconds p x) q 0 ≡ get_or seconds q 0
  else q d = get_or-set_other seconds p q x 0 d

  pub seconds_noted : AreSeconds roster (set seconds p x)
  seconds_noted = record { long = length-set seconds p x ∙ s.long; not_first = λ a b. first a b (ℕ_discrete a p); no_repeat = λ a b. apart a b (ℕ_discrete a p) (ℕ_discrete b p) }
    where
      first : (a b : ℕ) → Dec (a ≡ p) → a < length roster → b < length roster → ¬ (get_or (set seconds p x) a 0 ≡ get_or roster b 0)
      first a b (yes d) l m e = new (b, m, inl (sym e ∙ ap (λ (a : ℕ). get_or (set seconds p x) a 0) d ∙ here))
      first a b (no d) l m e = s.not_first a b l m (sym (else a d) ∙ e)

      apart : (a b : ℕ) → Dec (a ≡ p) → Dec (b ≡ p) → a < b → b < length roster → get_or (set seconds p x) a 0 ≡ get_or (set seconds p x) b 0 → get_or (set seconds p x) a 0 ≡ 0
      apart a b (yes c) (yes d) l m e = absurd (omega arith)
      apart a b (yes c) (no d) l m e = absurd (new (b, m, inr (sym (else b d) ∙ sym e ∙ ap (λ (a : ℕ). get_or (set seconds p x) a 0) c ∙ here)))
      apart a b (no c) (yes d) l m e = absurd (new (a, omega arith, inr (sym (else a c) ∙ e ∙ ap (λ (a : ℕ). get_or (set seconds p x) a 0) d ∙ here)))
      apart a b (no c) (no d) l m e = else a c ∙ s.no_repeat a b l m (sym (else a c) ∙ e ∙ else b d)
