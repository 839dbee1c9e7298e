-- The blocking places gathered over the unmourned ones, one after the other. Assumes nothing.
use mathlib.Core.Path.{◌≡◌, refl, sym, ap, ◌∙◌, fun_ext}
use mathlib.Core.Bool.{Bool, true, false, not, cond, ◌&&◌, ◌||◌}
use mathlib.Core.Logic.{◌⊎◌, inl, inr}
use mathlib.Core.List.{List}
use Prim.Native.Nat.{ℕ, ◌<◌, ◌≤◌}
use native.Mathlib.Omega.{arith}
use lib.Dec.{eqb, ltb}
use borrow.Author.Tests.{eqb-true, ltb-true}
use Rattle.sets.specs.Sets.{Places, nothing, below, only, union, intersection, difference, without, subset, count, lowest}
use Rattle.sets.specs.PlaceSets.{has, found}
use Rattle.sets.specs.declared.PlaceSet.{PlaceSet}
use Rattle.sets.proofs.Booleans.{clash, is_false, both_ways, and_intro, and_left, and_right, or_cases, or_left, or_right, minus_elim, minus_intro}
use Rattle.sets.specs.declared.Place.{Place}
use Rattle.std.specs.Prelude.{Option, Some, None, Result, Ok, Err}
use Rattle.sets.proofs.Tests.{any_elim, any_intro, none_any, subset_elim, lowest_is}
use Rattle.sets.proofs.Counting.{count_within}
use Rattle.sets.proofs.Laws.{has_below, lowest_found, lowest_nothing}
use Rattle.histories.specs.Histories.{Row, Accepted}
use Rattle.histories.specs.Kept.{ruled_out_by, blockers_by}
use Rattle.histories.specs.Rule.{before, full_back}
use Rattle.answers.specs.Views.{size, accepted_in}
use Rattle.answers.specs.Fetches.{blocking_by, told, fetching_by}

-- the places of `first` that are not in `left` have been asked for, and `known` has just their blockers
pub record Gathered (n : ℕ) (A : Accepted) (M F : Row) (first left known : PlaceSet) : Type 0 where
  pub among : (i : ℕ) → has left i ≡ true → has first i ≡ true
  pub known_from : (b : ℕ) → has known b ≡ true → (i : ℕ) × (has first i ≡ true) × (blockers_by n A M F i b ≡ true)
  pub known_all : (i b : ℕ) → has first i ≡ true → has left i ≡ false → blockers_by n A M F i b ≡ true → has known b ≡ true

-- who is back, as the table of rows has it
pub back_in : (count : ℕ) (returned full : Places) (rows : List ℕ) → (accepted_in count returned full rows).returned ≡ intersection (below (size count)) returned
unfolding accepted_in
back_in count returned full rows = refl

module _ (n : ℕ) (A : Accepted) (M F : Row) where
  pub gathered_none : (first known : PlaceSet) → has known ≡ nothing → Gathered n A M F first first known
  gathered_none first known e = record {
    among = λ i h. h;
    known_from = λ b h. clash h (ap (λ (S : Places). S b) e);
    known_all = λ i b m h x. clash m h;
  }

  pub gathered_next : (first left known own more rest : PlaceSet) → Gathered n A M F first left known → (p : ℕ) → has left p ≡ true
      → has own ≡ blockers_by n A M F p → has more ≡ union (has known) (has own) → has rest ≡ without p (has left) → Gathered n A M F first rest more
  gathered_next first left known own more rest g p m o u w = record {
    among = λ i h. g.among i (and_left (has left i) (not (eqb i p)) (sym (rest_at i) ∙ h));
    known_from = λ b h. from b (or_cases (has known b) (has own b) (sym (more_at b) ∙ h));
    known_all = λ i b f h x. all i b f h x (eqb i p) refl;
  }
    where
      rest_at : (i : ℕ) → has rest i ≡ has left i && not (eqb i p)
      rest_at i = ap (λ (S : Places). S i) w

      more_at : (b : ℕ) → has more b ≡ has known b || has own b
      more_at b = ap (λ (S : Places). S b) u

      own_at : (b : ℕ) → has own b ≡ blockers_by n A M F p b
      own_at b = ap (λ (S : Places). S b) o

      from : (b : ℕ) → (has known b ≡ true) ⊎ (has own b ≡ true) → (i : ℕ) × (has first i ≡ true) × (blockers_by n A M F i b ≡ true)
      from b (inl h) = g.known_from b h
      from b (inr h) = (p, g.among p m, sym (own_at b) ∙ h)

      all : (i b : ℕ) → has first i ≡ true → has rest i ≡ false → blockers_by n A M F i b ≡ true → (t : Bool) → eqb i p ≡ t → has more b ≡ true
      all i b f h x true e = more_at b ∙ or_right (has known b) (own_at b ∙ ap (λ (j : ℕ). blockers_by n A M F j b) (sym (eqb-true i p e)) ∙ x)
      all i b f h x false e =
          more_at b ∙ or_left (has own b) (g.known_all i b f (is_false (has left i) (λ s. clash (rest_at i ∙ minus_intro s e) h)) x)

  -- a blocker is missing
  blocker_missing : (i b : ℕ) → blockers_by n A M F i b ≡ true → (ltb b n ≡ true) × (A.returned b ≡ false) × (F b ≡ false)
  unfolding blockers_by ruled_out_by
  blocker_missing i b e =
      let x = minus_elim (difference (difference (below n) (only i)) A.returned b) (ruled_out_by n A M F i b) e in
      let y = minus_elim (difference (below n) (only i) b) (A.returned b) x.0 in
      ((minus_elim (ltb b n) (eqb b i) y.0).0, y.1, go (full_back A i) x.1)
    where
      open_or : (a c : Bool) → a || c ≡ false → a ≡ false
      open_or a c h = is_false a (λ t. clash (or_left c t) h)

      go : (t : Bool) → cond t F (union F (intersection M (before n A i))) b ≡ false → F b ≡ false
      go true h = h
      go false h = open_or (F b) (M b && before n A i b) h

  module _ (first left known : PlaceSet) (e : has first ≡ difference (below n) M) (g : Gathered n A M F first left known) where
    sound : (b : ℕ) → has known b ≡ true → blocking_by n A M F b ≡ true
    unfolding blocking_by
    sound b h =
        let w = g.known_from b h in
        let f : ltb w.0 n && not (M w.0) ≡ true = sym (ap (λ (S : Places). S w.0) e) ∙ w.1 in
        any_intro n (λ i. difference (below n) M i && blockers_by n A M F i b) w.0 (ltb-true w.0 n (and_left (ltb w.0 n) (not (M w.0)) f)) (and_intro f w.2)

    -- who blocks, and whom
    blocks : (b : ℕ) → blocking_by n A M F b ≡ true → (i : ℕ) × (has first i ≡ true) × (blockers_by n A M F i b ≡ true)
    unfolding blocking_by
    blocks b h =
        let w = any_elim n (λ i. difference (below n) M i && blockers_by n A M F i b) h in
        let i = w.0 in
        (i, ap (λ (S : Places). S i) e ∙ and_left (difference (below n) M i) (blockers_by n A M F i b) w.2, and_right (difference (below n) M i) (blockers_by n A M F i b) w.2)

    -- nobody is left to be asked for
    pub gathered_all : ((j : ℕ) → j < 128 → has left j ≡ false) → has known ≡ blocking_by n A M F
    gathered_all none = fun_ext (λ b. both_ways (has known b) (blocking_by n A M F b) (sound b) (λ h.
        let w = blocks b h in
        g.known_all w.0 b w.1 (is_false (has left w.0) (λ t. clash t (none w.0 (has_below left w.0 t)))) w.2))

    -- or all that are missing are known to block: those of the roster that are not back, by R, and not in F
    pub gathered_enough : (missing : PlaceSet) (R : Places) → n ≤ 128 → A.returned ≡ intersection (below n) R → has missing ≡ difference (difference (below n) R) F
        → subset 128 (has missing) (has known) ≡ true → has known ≡ blocking_by n A M F
    gathered_enough missing R few back m s = fun_ext (λ b. both_ways (has known b) (blocking_by n A M F b) (sound b) (λ h.
        let w = blocks b h in
        let x = blocker_missing w.0 b w.2 in
        let l : b < 128 = omega (arith, ltb-true b n x.0) in
        let z : R b ≡ false = is_false (R b) (λ t. clash (ap (λ (S : Places). S b) back ∙ and_intro x.0 t) x.1) in
        subset_elim 128 (has missing) (has known) s b l (ap (λ (S : Places). S b) m ∙ minus_intro (minus_intro x.0 z) x.2)))

-- ---- what is told

module _ (n : ℕ) (A : Accepted) (M F : Row) where
  -- who blocks is on the roster, and not back
  pub blocking_absent : (b : ℕ) → blocking_by n A M F b ≡ true → (b < n) × (A.returned b ≡ false)
  unfolding blocking_by
  blocking_absent b h =
      let w = any_elim n (λ i. difference (below n) M i && blockers_by n A M F i b) h in
      let m = blocker_missing n A M F w.0 b (and_right (difference (below n) M w.0) (blockers_by n A M F w.0 b) w.2) in
      (ltb-true b n m.0, m.1)

  module _ (few : n ≤ 128) (known : PlaceSet) (e : has known ≡ blocking_by n A M F) where
    on : (b : ℕ) → has known b ≡ true → b < n
    on b h = (blocking_absent b (sym (ap (λ (S : Places). S b) e) ∙ h)).0

    pub told_none : found 128 (lowest 128 (has known)) ≡ None → None ≡ fetching_by n A M F
    unfolding fetching_by told
    told_none h = sym (rw (sym e, none_any n (has known) (λ b l. lowest_nothing 128 (has known) h b (omega arith))))

    pub told_some : (p : Place) → found 128 (lowest 128 (has known)) ≡ Some p → Some (record { number = count 128 (has known); next = p }) ≡ fetching_by n A M F
    unfolding fetching_by told
    told_some p h =
        let w = lowest_found 128 (has known) p h in
        let l : p.0 < n = on p.0 w.0 in
        sym (rw (sym e, any_intro n (has known) p.0 l w.0, lowest_is n (has known) p.0 l w.0 w.2, count_within n 128 (has known) few on))
