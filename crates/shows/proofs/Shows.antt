-- Showing, one law for each way in which the code returns. Assumes nothing.
use Rattle.refusals.specs.declared.Refusal.{Refusal}
use Rattle.refusals.specs.declared.Refusal.TheVariants as refusal
use mathlib.Core.Path.{◌≡◌, refl, sym, ap, ap₂, ◌∙◌}
use mathlib.Core.Bool.{Bool, true, false, not, cond, ◌&&◌}
use mathlib.Core.Logic.{◌⊎◌, inl, inr}
use mathlib.Core.List.{List}
use Prim.Native.Nat.{ℕ, ◌*◌, ◌≤◌, ◌<◌}
use native.Mathlib.Omega.{arith}
use lib.ListN.{length}
use lib.Dec.{eqb, ltb}
use borrow.Author.Tests.{ltb-true, le-leb, eqb-true}
use Rattle.sets.specs.Sets.{Places, with, any, lowest}
use Rattle.sets.specs.PlaceSets.{has, kept, found}
use Rattle.sets.specs.declared.Place.{Place}
use Rattle.sets.specs.declared.PlaceSet.{PlaceSet}
use Rattle.std.specs.Prelude.{Option, Some, None, Result, Ok, Err}
use Rattle.sets.proofs.Booleans.{clash, and_left, or_cases}
use Rattle.sets.proofs.Tests.{any_elim, any_intro, none_any, lowest_at_most, lowest_below, lowest_is}
use Rattle.sets.proofs.Laws.{kept_all, lowest_found, lowest_nothing}
use Rattle.histories.specs.Histories.{Row, History, Before, heard, through, Accepted}
use Rattle.histories.specs.Rule.{is_last, not_last, is_open, recorded, reach, before, answer_with, open_answer}
use Rattle.histories.specs.Kept.{ruled_out_by, blockers_by, answer_by}
use Rattle.rows.specs.Rows.{rows_of, put_row, laid}
use Rattle.rows.proofs.Laws.{laid_put}
use Rattle.histories.proofs.Closure.{reach_sound}
use Rattle.answers.specs.Views.{size, accepted_in, recorded_in}
use Rattle.answers.proofs.Views.{size_at_most, accepted_on, accepted_recorded, recorded_parts}
use Rattle.answers.specs.declared.Showing.{Showing}
use Rattle.answers.specs.declared.Showing.TheVariants as S
use Rattle.answers.specs.Shows.{Shown, unshown, laid_in, replaced, shown_in}
use Rattle.answers.proofs.ShowCases.{shown_off, shown_last, shown_not, shown_short, shown_both}

-- ---- what is laid

-- the lowest blocker, as it is found among 128 places
module _ (n : ℕ) (A : Accepted) (M F : Row) (i : ℕ) (few : n ≤ 128) (s : PlaceSet) (is : has s ≡ blockers_by n A M F i) (f : Option Place) (e : f ≡ found 128 (lowest 128 (has s))) where
  blocker_on : (p : ℕ) → has s p ≡ true → p < n
  unfolding blockers_by
  blocker_on p h = ltb-true p n (and_left (ltb p n) (not (eqb p i)) (and_left _ (not (A.returned p)) (and_left _ (not (ruled_out_by n A M F i p)) (sym (ap (λ (S : Row). S p) is) ∙ h))))

  pub blocker_at : (b : Place) → f ≡ Some b → b.0 ≡ lowest n (blockers_by n A M F i)
  blocker_at b h =
      let w = lowest_found 128 (has s) b (sym e ∙ h) in
      sym (lowest_is n (has s) b.0 (blocker_on b.0 w.0) w.0 w.2) ∙ ap (lowest n) is

  -- one that is not mourned is open where there is a blocker, and last where there is none
  pub blocker_open : (b : Place) → f ≡ Some b → M i ≡ false → answer_by n A M F i ≡ is_open
  unfolding answer_by answer_with
  blocker_open b h m =
      let w = lowest_found 128 (has s) b (sym e ∙ h) in
      rw (m, any_intro n (blockers_by n A M F i) b.0 (blocker_on b.0 w.0) (sym (ap (λ (S : Row). S b.0) is) ∙ w.0))

  pub blocker_none : f ≡ None → M i ≡ false → answer_by n A M F i ≡ is_last
  unfolding answer_by answer_with
  blocker_none h m = rw (m, none_any n (blockers_by n A M F i) (λ p l. sym (ap (λ (S : Row). S p) is) ∙ lowest_nothing 128 (has s) (sym e ∙ h) p (omega arith)))

pub blocker_small : (count : ℕ) (S : Row) (b : ℕ) → b ≡ lowest (size count) S → b ≤ 128
blocker_small count S b e = omega (arith, e, lowest_at_most (size count) S, size_at_most count)

-- the row of one that heard i
pub heard_row : (count : ℕ) (R U : Places) (w : List ℕ) (i : ℕ) (r : PlaceSet) → has r ≡ kept (with i (reach (size count) (recorded_in count R w) i))
    → has r ≡ kept (with i (before (size count) (accepted_in count R U w) i))
unfolding before
heard_row count R U w i r e = e ∙ sym (ap (λ (H : History). kept (with i (reach (size count) H i))) (accepted_recorded count R U w))

-- an open place has a blocker
open_blocker : (n : ℕ) (A : Accepted) (M F : Row) (i : ℕ) → answer_by n A M F i ≡ is_open → lowest n (blockers_by n A M F i) < n
unfolding answer_by answer_with open_answer
open_blocker n A M F i e = go (M i) (any n (blockers_by n A M F i)) refl e
  where
    go : (m b : Bool) → any n (blockers_by n A M F i) ≡ b → cond m not_last (cond b is_open is_last) ≡ is_open → lowest n (blockers_by n A M F i) < n
    go true b x y = clash (ap open_answer y) refl
    go false true x y = let r = any_elim n (blockers_by n A M F i) x in lowest_below n (blockers_by n A M F i) r.0 r.1 r.2
    go false false x y = clash (ap open_answer y) refl

pub laid_in_lem : (m : ℕ) (H : History) (out : List ℕ) → m ≤ 128 → 16 * m ≤ length out → laid_in m H out ≡ laid m H out
unfolding laid_in
laid_in_lem m H out few room = ap₂ (λ (s t : Bool). cond (s && t) (laid m H out) out) (le-leb m 128 few) (le-leb (16 * m) (length out) room)

-- ---- showing

module _ (count : ℕ) (R U : Places) (w : List ℕ) (M F : Row) (i : ℕ) where
  -- the roster's length, the accepted records, and the rows as they are
  abbrev n : ℕ
  n = size count

  abbrev A : Accepted
  A = accepted_in count R U w

  abbrev H : History
  H = rows_of w

  -- the places in the row of one that heard i are few enough for a set
  heard_kept : i < n → kept (with i (before n A i)) ≡ with i (before n A i)
  unfolding before
  heard_kept l = kept_all (with i (before n A i)) (λ q e. go q (or_cases (before n A i q) (eqb q i) e))
    where
      last_row : {q p : ℕ} → Before (recorded A) q p → q < 128
      last_row (heard {q = q} {p = p} e) = omega (arith, size_at_most count, (accepted_on count R U w).row_on p q (recorded_parts A p q e).1)
      last_row (through {q = q} {m = m} e b) = omega (arith, size_at_most count, (accepted_on count R U w).row_on m q (recorded_parts A m q e).1)

      go : (q : ℕ) → (before n A i q ≡ true) ⊎ (eqb q i ≡ true) → q < 128
      go q (inl e) = last_row (reach_sound n (recorded A) i q e)
      go q (inr e) = let h : q ≡ i = eqb-true q i e in omega (arith, size_at_most count)

  module _ (a b : List ℕ) where
    -- the answer and both buffers are those of showing
    abbrev pub Gives : Result Showing Refusal → List ℕ → List ℕ → Type 0
    Gives s a' b' = (s ≡ (shown_in n A M F H i a b).answer) × ((a' ≡ (shown_in n A M F H i a b).first) × (b' ≡ (shown_in n A M F H i a b).second))

    gives : (s : Result Showing Refusal) (a' b' : List ℕ) → shown_in n A M F H i a b ≡ record { answer = s; first = a'; second = b' } → Gives s a' b'
    gives s a' b' e = (ap (λ (x : Shown). x.answer) (sym e), (ap (λ (x : Shown). x.first) (sym e), ap (λ (x : Shown). x.second) (sym e)))

    pub show_12 : n ≤ i → Gives (Err refusal.OffRoster) a b
    unfolding unshown
    show_12 l = gives (Err refusal.OffRoster) a b (shown_off n A M F H i a b l)

    module _ (l : i < n) where
      pub show_last : answer_by n A M F i ≡ is_last → Gives (Ok S.Decided) a b
      unfolding unshown
      show_last e = gives (Ok S.Decided) a b (shown_last n A M F H i a b l e)

      pub show_not_last : M i ≡ true → Gives (Ok S.Decided) a b
      unfolding unshown answer_by answer_with
      show_not_last e = gives (Ok S.Decided) a b (shown_not n A M F H i a b l (rw e))

      module _ (e : answer_by n A M F i ≡ is_open) where
        pub show_13 : (length a < 16 * n) ⊎ (length b < 16 * n) → Gives (Err refusal.TooShort) a b
        unfolding unshown
        show_13 s = gives (Err refusal.TooShort) a b (shown_short n A M F H i a b l e s)

        pub show_both : (m : ℕ) → m ≡ n → 16 * m ≤ length a → 16 * m ≤ length b → (row : PlaceSet) (c : ℕ) (a' b₁ b' : List ℕ)
            → c ≡ lowest n (blockers_by n A M F i) → has row ≡ kept (with i (before n A i))
            → a' ≡ laid_in m H a → b₁ ≡ laid_in m H b → b' ≡ put_row b₁ (16 * c) (has row)
            → Gives (Ok S.Shown) a' b'
        unfolding replaced
        show_both m is u v row c a' b₁ b' q h f g g' =
            let few : m ≤ 128 = omega (arith, size_at_most count) in
            let on : lowest n (blockers_by n A M F i) < n = open_blocker n A M F i e in
            let x = gives (Ok S.Shown) _ _ (shown_both n A M F H i a b l e (rw (← is) u) (rw (← is) v)) in (
              x.0,
              (
                f ∙ laid_in_lem m H a few u ∙ ap (λ (m : ℕ). laid m H a) is ∙ x.1.0,
                g' ∙ ap₂ (λ (w : List ℕ) (c : ℕ). put_row w (16 * c) (has row)) (g ∙ laid_in_lem m H b few v ∙ ap (λ (m : ℕ). laid m H b) is) q
                    ∙ laid_put n _ H (has row) b on ∙ ap (λ (S : Row). laid n (replaced H (lowest n (blockers_by n A M F i)) S) b) (h ∙ heard_kept l) ∙ x.1.1,
              ),
            )
