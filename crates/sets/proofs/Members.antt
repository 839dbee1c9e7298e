-- What a walk over the members of a set tells of the set, where it asks each the same test. Assumes nothing.
use mathlib.Core.Path.{◌≡◌, refl, sym, ap, ◌∙◌, fun_ext, subst}
use mathlib.Core.Bool.{Bool, true, false, not, ◌&&◌, ◌||◌, and-true}
use mathlib.Core.List.{List, [], ◌∷◌}
use Prim.Native.Nat.{ℕ}
use lib.Dec.{eqb}
use borrow.Author.Tests.{eqb-true}
use denote.Param.Members.{Mut, Called}
use Rattle.std.specs.Prelude.{Option, Some, None, MatchOption}
use Rattle.std.specs.Iterator.{Yields, ChecksAll}
use Rattle.std.specs.List.{FoldsTo}
use Rattle.sets.specs.Sets.{Places, without, all}
use Rattle.sets.specs.PlaceSets.{has}
use Rattle.sets.specs.Members.{TakesLowest}
use Rattle.sets.specs.declared.Place.{Place}
use Rattle.sets.specs.declared.PlaceSet.{PlaceSet}
use Rattle.sets.proofs.Booleans.{clash, is_false, or_right, implies_elim, implies_intro}
use Rattle.sets.proofs.Tests.{all_elim, all_intro}
use Rattle.sets.proofs.Laws.{has_below}

-- each member of s passes the test
abbrev pub pass : (ℕ → Bool) → PlaceSet → Bool
pass test s = all 128 (λ k. not (has s k) || test k)

pub pass_elim : (test : ℕ → Bool) (s : PlaceSet) → pass test s ≡ true → (p : ℕ) → has s p ≡ true → test p ≡ true
pass_elim test s e p h = implies_elim (has s p) (test p) (all_elim 128 (λ k. not (has s k) || test k) e p (has_below s p h)) h

pub pass_intro : (test : ℕ → Bool) (s : PlaceSet) → ((p : ℕ) → has s p ≡ true → test p ≡ true) → pass test s ≡ true
pass_intro test s h = all_intro 128 (λ k. not (has s k) || test k) (λ k _. implies_intro (has s k) (test k) (h k))

-- where a member passes, the set passes as it does without that member
pass_without : (test : ℕ → Bool) (s t : PlaceSet) (p : ℕ) → has t ≡ without p (has s) → test p ≡ true → pass test t ≡ pass test s
pass_without test s t p e h = ap (all 128) (fun_ext (λ k. ap (λ (S : Places). not (S k) || test k) e ∙ go k (eqb k p) refl))
  where
    go : (k : ℕ) (b : Bool) → eqb k p ≡ b → not (has s k && not b) || test k ≡ not (has s k) || test k
    go k true q =
        let r : test k ≡ true = ap test (eqb-true k p q) ∙ h in
        or_right (not (has s k && not true)) r ∙ sym (or_right (not (has s k)) r)
    go k false q = ap (λ (x : Bool). not x || test k) (and-true (has s k))

module _ {S F : Type 0} (left : S → PlaceSet) (g : Mut F (Place × Unit {0}) Bool) (f : F) (test : ℕ → Bool)
    (asks : (x : Place) (b : Bool) (q : F) → Called g f (x, tt) b q → (q ≡ f) × (b ≡ test x.0)) where
  abbrev steps : S → Option Place → S → Type 0
  steps s r t = TakesLowest (left s) r (left t)

  abbrev passes : F → Place → F → Type 0
  passes p x q = Called g p (x, tt) true q

  walked : (xs : List Place) (s t u : S) (o : Option Place) (j : F) (r : Bool) → Yields steps s xs t → steps t o u → FoldsTo passes f xs j
      → MatchOption o (r ≡ true) (λ x. (r ≡ false) × ((h : F) × Called g j (x, tt) false h)) → r ≡ pass test (left s)
  walked [] s t u None j r y e c m = m ∙ sym (pass_intro test (left s) (λ k h. clash h (ap (λ (v : S). has (left v) k) y ∙ e.0 k)))
  walked [] s t u (Some x) j r y e c m =
      let h : has (left s) x.0 ≡ true = ap (λ (v : S). has (left v) x.0) y ∙ e.0 in
      let fails = asks x false m.1.0 (subst (λ (v : F). Called g v (x, tt) false m.1.0) (sym c) m.1.1) in
      m.0 ∙ sym (is_false (pass test (left s)) (λ a. clash (pass_elim test (left s) a x.0 h) (sym fails.1)))
  walked (x ∷ xs) s t u o j r y e c m =
      let a = asks x true c.0 c.1 in
      walked xs y.0 t u o j r y.2 e (subst (λ (v : F). FoldsTo passes v xs j) a.0 c.2) m ∙ pass_without test (left s) (left y.0) x.0 y.1.2 (sym a.1)

  -- the walk that asks until one fails answers whether each member passes
  pub all_members : (s u : S) (r : Bool) → ChecksAll steps g s f r u → r ≡ pass test (left s)
  all_members s u r h = walked h.0 s h.3.0 u h.1 h.2 r h.3.1 h.3.2 h.4 h.5
