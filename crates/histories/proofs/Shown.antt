-- The rule's two histories of an open place are those that document 01 has, and there is one such pair. Assumes nothing.
use mathlib.Core.Path.{◌≡◌, refl, sym, ◌∙◌, subst}
use mathlib.Core.Bool.{Bool, true, false, cond}
use mathlib.Core.Logic.{◌⊎◌, inl, inr}
use Prim.Native.Nat.{ℕ, ◌<◌}
use native.Mathlib.Omega.{arith}
use native.Mathlib.Decide.{dec_lt, ℕ_discrete}
use borrow.Author.Tests.{ne_eqb, lt-ltb}
use Rattle.sets.specs.Sets.{any, lowest}
use Rattle.sets.proofs.Booleans.{clash, is_false, and_intro, and_left, and_right, minus_intro, both_ways}
use Rattle.sets.proofs.Tests.{lowest_least}
use Rattle.histories.specs.Histories.{History, Before, Accepted, Fits, IsRecorded, Blocker, ShownOf}
use Rattle.histories.specs.Rule.{recorded, mourned, before, before_full, blockers, is_last, not_last, is_open, answer_with, answer, grown, second}
use Rattle.histories.proofs.Exact.{before_in, before_full_in, before_out, before_full_out, full_back_elim, full_back_intro, Blocks, open_blocks, grown_cases, grown_new, recorded_returned}

pub is_recorded : (A : Accepted) → IsRecorded A (recorded A)
unfolding recorded
is_recorded A p q = (λ e. (and_left (A.returned p) (A.row p q) e, and_right (A.returned p) (A.row p q) e), λ w. and_intro w.0 w.1)

-- ---- a blocker by the rule is one by the records

module _ {n : ℕ} {A : Accepted} {H : History} (f : Fits n A H) (i b : ℕ) where
  pub blocker_out : Blocks n A i b → Blocker n A (recorded A) i b
  blocker_out s = record {
    on = s.on;
    other = s.other;
    absent = s.absent;
    not_before = λ w. clash (before_in f w) s.free;
    not_before_full = λ p r k w. clash (before_full_in f p b (full_back_intro A p r k) w) s.unknown;
  }

  pub blocker_in : Blocker n A (recorded A) i b → blockers n A i b ≡ true
  unfolding blockers
  blocker_in s =
      minus_intro
      (minus_intro (minus_intro (minus_intro (lt-ltb b n s.on) (ne_eqb b i s.other)) s.absent) (is_false (before n A i b) (λ e. s.not_before (before_out n A i b e))))
      (is_false (before_full n A b) (λ e. let w = before_full_out n A b e in let k = full_back_elim A w.0 w.1 in s.not_before_full w.0 k.0 k.1 w.2))

-- ---- the pair

pub shown_of_lem : {n : ℕ} {A : Accepted} {H : History} → Fits n A H → (i : ℕ) → any n (blockers n A i) ≡ true → ShownOf n A i (recorded A) (second n A i)
unfolding second grown
shown_of_lem {n} {A} f i e = record {
  first = is_recorded A;
  blocker = b;
  blocks = blocker_out f i b (open_blocks n A i e);
  lowest = λ c l s. clash (blocker_in f i c s) (lowest_least n (blockers n A i) c l);
  others = λ p q z. other p q z;
  its_row = λ q. (λ t. row q (grown_cases n A i b b q t), λ w. grown_new f i b q w);
}
  where
    b : ℕ
    b = lowest n (blockers n A i)

    other : (p q : ℕ) → ¬ (p ≡ b) → grown n A i b p q ≡ recorded A p q
    other p q z = rw (ne_eqb p b z)

    row : (q : ℕ) → ((b ≡ b) × ((q ≡ i) ⊎ Before (recorded A) q i)) ⊎ (recorded A b q ≡ true) → (q ≡ i) ⊎ Before (recorded A) q i
    row q (inl (_, w)) = w
    row q (inr t) = clash (recorded_returned A b q t) (open_blocks n A i e).absent

-- an open place has a blocker
open_any : (n : ℕ) (A : Accepted) (i : ℕ) → answer n A i ≡ is_open → any n (blockers n A i) ≡ true
unfolding answer answer_with
open_any n A i e = go (mourned n A i) (any n (blockers n A i)) e
  where
    go : (m a : Bool) → cond m not_last (cond a is_open is_last) ≡ is_open → a ≡ true
    go true a z = let w : ◌≡◌ {A = ℕ} 0 1 = cc in absurd (omega arith)
    go false true z = refl
    go false false z = let w : ◌≡◌ {A = ℕ} 0 1 = cc in absurd (omega arith)

pub shown_open_lem : {n : ℕ} {A : Accepted} {H : History} → Fits n A H → (i : ℕ) → answer n A i ≡ is_open → ShownOf n A i (recorded A) (second n A i)
shown_open_lem {n} {A} f i e = shown_of_lem f i (open_any n A i e)

-- ---- and no other

module _ {n : ℕ} {A : Accepted} {i : ℕ} {F G K : History} (s : ShownOf n A i F G) (t : ShownOf n A i F K) where
  same_blocker : s.blocker ≡ t.blocker
  same_blocker = go (dec_lt s.blocker t.blocker) (dec_lt t.blocker s.blocker)
    where
      go : Dec (s.blocker < t.blocker) → Dec (t.blocker < s.blocker) → s.blocker ≡ t.blocker
      go (yes l) m = absurd (t.lowest s.blocker l s.blocks)
      go (no l) (yes m) = absurd (s.lowest t.blocker m t.blocks)
      go (no l) (no m) = omega arith

  same_second : (p q : ℕ) → G p q ≡ K p q
  same_second p q = go (ℕ_discrete p s.blocker)
    where
      go : Dec (p ≡ s.blocker) → G p q ≡ K p q
      go (yes e) =
          both_ways (G p q) (K p q)
          (λ h. rw (e ∙ same_blocker) ((t.its_row q).1 ((s.its_row q).0 (rw (sym e) h))))
          (λ h. rw e ((s.its_row q).1 ((t.its_row q).0 (rw (sym (e ∙ same_blocker)) h))))
      go (no z) = s.others p q z ∙ sym (t.others p q (λ e. z (e ∙ sym same_blocker)))

pub shown_one : {n : ℕ} {A : Accepted} {i : ℕ} {F G J K : History} → ShownOf n A i F G → ShownOf n A i J K → (F ≡ J) × (G ≡ K)
shown_one {n} {A} {i} {F} {G} {J} {K} s t = (same, λ j p q. same_second s (subst (λ (X : History). ShownOf n A i X K) (sym same) t) p q j)
  where
    same : F ≡ J
    same = λ j p q. both_ways (F p q) (J p q) (λ e. (t.first p q).1 ((s.first p q).0 e)) (λ e. (s.first p q).1 ((t.first p q).0 e)) j
