-- The blocking places: with the right sets kept they are the rule's, the rule's are those that may have heard an unmourned place, and
-- where there is none the whole is settled. Assumes nothing.
use Rattle.std.specs.Prelude.{Option, Some, None, Result, Ok, Err}
use mathlib.Core.Path.{◌≡◌, refl, sym, ap, ◌∙◌, fun_ext}
use mathlib.Core.Bool.{Bool, true, false, not, cond, ◌&&◌}
use mathlib.Core.Logic.{◌↔◌}
use Prim.Native.Nat.{ℕ, ◌<◌}
use native.Mathlib.Omega.{arith}
use lib.Dec.{ltb}
use borrow.Author.Tests.{lt-ltb}
use Rattle.sets.specs.Sets.{below, difference, any, count, lowest}
use Rattle.sets.proofs.Booleans.{clash, is_false, both_ways, and_intro, and_left, and_right, minus_elim, minus_intro}
use Rattle.sets.proofs.Tests.{any_elim, any_intro, lowest_below, lowest_member, lowest_least}
use Rattle.histories.specs.Histories.{Row, History, Accepted, Fits}
use Rattle.histories.specs.Rule.{recorded, mourned, before_full, blockers, unmourned, grown, answer_with, open_answer, none_open}
use Rattle.histories.specs.Kept.{blockers_by, answer_by, settled_by}
use Rattle.histories.proofs.Exact.{mourned_elim, mourned_intro, blocks, grown_i, grown_fits, heard_blocks}
use Rattle.histories.proofs.Kept.{blockers_kept}
use Rattle.answers.proofs.Views.{recorded_parts}
use Rattle.answers.specs.Fetches.{MayHaveHeard, blocking, blocking_by, told}
use Rattle.answers.specs.declared.Fetching.{Fetching}

-- ---- with the right sets kept

pub blocking_kept : {n : ℕ} {A : Accepted} {H : History} → Fits n A H → blocking_by n A (mourned n A) (before_full n A) ≡ blocking n A
unfolding blocking_by blocking unmourned
blocking_kept {n} {A} f = fun_ext (λ b. ap (any n) (fun_ext (λ i. ap (λ (S : Row). difference (below n) (mourned n A) i && S b) (blockers_kept f i))))

-- ---- whom a blocking place blocks

pub blocking_elim : (n : ℕ) (A : Accepted) (b : ℕ) → blocking n A b ≡ true → (i : ℕ) × (i < n) × (mourned n A i ≡ false) × (blockers n A i b ≡ true)
unfolding blocking unmourned
blocking_elim n A b e =
    let w = any_elim n (λ i. unmourned n A i && blockers n A i b) e in
    let i = w.0 in
    (i, w.1, (minus_elim (ltb i n) (mourned n A i) (and_left (unmourned n A i) (blockers n A i b) w.2)).1, and_right (unmourned n A i) (blockers n A i b) w.2)

pub blocking_intro : (n : ℕ) (A : Accepted) (b i : ℕ) → i < n → mourned n A i ≡ false → blockers n A i b ≡ true → blocking n A b ≡ true
unfolding blocking unmourned
blocking_intro n A b i l u e = any_intro n (λ i. unmourned n A i && blockers n A i b) i l (and_intro (minus_intro (lt-ltb i n l) u) e)

-- ---- the histories that fit

module _ {n : ℕ} {A : Accepted} {H : History} (f : Fits n A H) where
  pub blocking_iff : (b : ℕ) → (blocking n A b ≡ true) ↔ MayHaveHeard n A b
  unfolding recorded
  blocking_iff b = (to, from)
    where
      to : blocking n A b ≡ true → MayHaveHeard n A b
      to e =
          let w = blocking_elim n A b e in
          let i = w.0 in
          record {
            history = grown n A i b;
            fits = grown_fits f i b (blocks n A i b w.3) w.1;
            place = i;
            unnamed = λ p r. is_false (A.row p i) (λ t. clash (mourned_intro f p i (and_intro r t)) w.2);
            heard = grown_i n A i b;
          }

      from : MayHaveHeard n A b → blocking n A b ≡ true
      from m =
          let i = m.place in
          let u : mourned n A i ≡ false = is_false (mourned n A i) (λ e. let w = mourned_elim n A i e in let x = recorded_parts A w.0 i w.1 in clash x.1 (m.unnamed w.0 x.0)) in
          blocking_intro n A b i (m.fits.history.inside b i m.heard).1 u (heard_blocks m.fits i b u m.heard)

-- ---- settled

-- whatever is kept: the whole is settled just where nobody blocks
pub settled_told : (n : ℕ) (A : Accepted) (M F : Row) → settled_by n A M F ≡ not (any n (blocking_by n A M F))
unfolding settled_by none_open answer_by answer_with open_answer blocking_by
settled_told n A M F = ap not (both_ways (any n opens) (any n (blocking_by n A M F)) (λ e. to (any_elim n opens e)) (λ e. from (any_elim n (blocking_by n A M F) e)))
  where
    opens : Row
    opens i = open_answer (answer_by n A M F i)

    open_is : (m x : Bool) → open_answer (answer_with m x) ≡ not m && x
    open_is true x = refl
    open_is false true = refl
    open_is false false = refl

    to : (i : ℕ) × (i < n) × (opens i ≡ true) → any n (blocking_by n A M F) ≡ true
    to (i, l, e) =
        let o = sym (open_is (M i) (any n (blockers_by n A M F i))) ∙ e in
        let w = any_elim n (blockers_by n A M F i) (and_right (not (M i)) (any n (blockers_by n A M F i)) o) in
        any_intro n (blocking_by n A M F) w.0 w.1
        (any_intro n (λ i. difference (below n) M i && blockers_by n A M F i w.0) i l (and_intro (and_intro (lt-ltb i n l) (and_left (not (M i)) (any n (blockers_by n A M F i)) o)) w.2))

    from : (b : ℕ) × (b < n) × (blocking_by n A M F b ≡ true) → any n opens ≡ true
    from (b, l, e) =
        let w = any_elim n (λ i. difference (below n) M i && blockers_by n A M F i b) e in
        let i = w.0 in
        let u = and_left (difference (below n) M i) (blockers_by n A M F i b) w.2 in
        any_intro n opens i w.1
        (open_is (M i) (any n (blockers_by n A M F i))
        ∙ and_intro (and_right (ltb i n) (not (M i)) u) (any_intro n (blockers_by n A M F i) b l (and_right (difference (below n) M i) (blockers_by n A M F i b) w.2)))

-- the number that is told is that of the members, and the place is the lowest of them
pub told_means : (n : ℕ) (S : Row) (k p : ℕ) → told n S ≡ Some (record { number = k; next = record { 0 = p } }) → (k ≡ count n S) × (p < n) × (S p ≡ true) × ((q : ℕ) → q < p → S q ≡ false)
unfolding told
told_means n S k p e = go (any n S) refl e
  where
    next : Option Fetching → ℕ
    next (Some f) = f.next.0
    next None = 0

    number : Option Fetching → ℕ
    number (Some f) = f.number
    number None = 0

    go : (t : Bool) → any n S ≡ t → cond {A = Option Fetching} t (Some (record { number = count n S; next = record { 0 = lowest n S } })) None ≡ Some (record { number = k; next = record { 0 = p } })
        → (k ≡ count n S) × (p < n) × (S p ≡ true) × ((q : ℕ) → q < p → S q ≡ false)
    go true a z =
        let w = any_elim n S a in
        let on : lowest n S < n = lowest_below n S w.0 w.1 w.2 in
        let is : lowest n S ≡ p = ap next z in
        (sym (ap number z), rw (sym is) on, rw (sym is) (lowest_member n S on), λ q l. lowest_least n S q (rw is l))
    go false a z = let w : ◌≡◌ {A = ℕ} 0 1 = cc in absurd (omega arith)
