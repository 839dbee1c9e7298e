-- A count is the length of any list of the members, and so is the count of the unmourned places. Assumes nothing.
use mathlib.Core.Path.{◌≡◌, refl, sym, ap, ◌∙◌}
use mathlib.Core.Bool.{Bool, true, false, not, ◌&&◌}
use mathlib.Core.Logic.{◌⊎◌, inl, inr, ◌↔◌}
use mathlib.Core.List.Memᴰ
use mathlib.Core.List.{List, [], ◌∷◌, Memᴰ}
use Prim.Native.Nat.{ℕ, zero, suc, ◌<◌}
use native.Mathlib.Omega.{arith}
use native.Mathlib.Decide.{ℕ_discrete}
use lib.Dec.{eqb, ltb}
use lib.ListN.{length}
use borrow.Author.Tests.{eqb-false, eq-eqb, ne_eqb, ltb-true}
use Rattle.sets.specs.Sets.{Places, without, count}
use Rattle.sets.proofs.Booleans.{clash, is_false, minus_elim, minus_intro, eqb_self}
use Rattle.sets.proofs.Counting.{count_same, count_nothing, count_without}
use Rattle.histories.specs.Histories.{History, Accepted, Fits}
use Rattle.histories.specs.Rule.{mourned, unmourned, unmourned_count}
use Rattle.histories.proofs.Exact.{Mourned, unmourned_iff}

-- no element stands twice
pub data Once : List ℕ → Type 0 where
  empty : Once []
  more : {x : ℕ} {xs : List ℕ} → ¬ (Memᴰ x xs) → Once xs → Once (x ∷ xs)

-- the elements are exactly the members of S, each once
pub record Lists (xs : List ℕ) (S : Places) : Type 0 where
  pub once : Once xs
  pub members : (q : ℕ) → Memᴰ q xs ↔ (S q ≡ true)

-- a list without its first element lists S without that place
rest_lists : {x : ℕ} {xs : List ℕ} (S : Places) → ¬ (Memᴰ x xs) → Once xs → ((q : ℕ) → Memᴰ q (x ∷ xs) ↔ (S q ≡ true)) → Lists xs (without x S)
rest_lists {x} {xs} S new o m = record { once = o; members = λ q. (into q, λ e. out q (minus_elim (S q) (eqb q x) e)) }
  where
    into : (q : ℕ) → Memᴰ q xs → S q && not (eqb q x) ≡ true
    into q d = minus_intro ((m q).0 (Memᴰ.tail d)) (ne_eqb q x (λ e. new (rw e at d)))

    out : (q : ℕ) → (S q ≡ true) × (eqb q x ≡ false) → Memᴰ q xs
    out q (s, e) = go (Memᴰ.cases_cons ((m q).1 s))
      where
        go : (q ≡ x) ⊎ Memᴰ q xs → Memᴰ q xs
        go (inl h) = clash (eq-eqb q x h) e
        go (inr d) = d

pub count_lists : (n : ℕ) (S : Places) (xs : List ℕ) → ((q : ℕ) → S q ≡ true → q < n) → Lists xs S → length xs ≡ count n S
count_lists n S [] on l = sym (count_same n S (λ _. false) (λ q _. is_false (S q) (λ e. Memᴰ.not-nil ((l.members q).1 e))) ∙ count_nothing n)
count_lists n S (x ∷ xs) on l = go l.once (count_lists n (without x S) xs (λ q e. on q (minus_elim (S q) (eqb q x) e).0))
  where
    first : S x ≡ true
    first = (l.members x).0 (Memᴰ.head refl)

    go : Once (x ∷ xs) → (Lists xs (without x S) → length xs ≡ count n (without x S)) → suc (length xs) ≡ count n S
    go (more new o) shorter = ap suc (shorter (rest_lists S new o l.members)) ∙ sym (count_without n S x (on x first) first)

-- every set of places below n is listed by some list
pub listed : (n : ℕ) (S : Places) → ((q : ℕ) → S q ≡ true → q < n) → (xs : List ℕ) × Lists xs S
listed zero S on = ([], record { once = empty; members = λ q. (λ d. absurd (Memᴰ.not-nil d), λ e. absurd (omega (arith, on q e))) })
listed (suc n) S on = go (listed n (without n S) fewer) (S n) refl
  where
    fewer : (q : ℕ) → S q && not (eqb q n) ≡ true → q < n
    fewer q e =
        let r = minus_elim (S q) (eqb q n) e in
        let h = eqb-false q n r.1 in
        let l = on q r.0 in
        omega arith

    go : (xs : List ℕ) × Lists xs (without n S) → (b : Bool) → S n ≡ b → (xs : List ℕ) × Lists xs S
    go (xs, l) true e = (n ∷ xs, record { once = more new l.once; members = λ q. (λ d. into q (Memᴰ.cases_cons d), λ s. out q s (ℕ_discrete q n)) })
      where
        new : ¬ (Memᴰ n xs)
        new d = clash (eqb_self n) (minus_elim (S n) (eqb n n) ((l.members n).0 d)).1

        into : (q : ℕ) → (q ≡ n) ⊎ Memᴰ q xs → S q ≡ true
        into q (inl h) = rw h e
        into q (inr d) = (minus_elim (S q) (eqb q n) ((l.members q).0 d)).0

        out : (q : ℕ) → S q ≡ true → Dec (q ≡ n) → Memᴰ q (n ∷ xs)
        out q s (yes h) = Memᴰ.head h
        out q s (no h) = Memᴰ.tail ((l.members q).1 (minus_intro s (ne_eqb q n h)))
    go (xs, l) false e =
        (xs, record { once = l.once; members = λ q. (λ d. (minus_elim (S q) (eqb q n) ((l.members q).0 d)).0, λ s. (l.members q).1 (minus_intro s (ne_eqb q n (λ h. clash s (rw h e))))) })

-- ---- the unmourned places

pub count_unmourned : (n : ℕ) (A : Accepted) (xs : List ℕ) → Lists xs (unmourned n A) → length xs ≡ unmourned_count n A
unfolding unmourned unmourned_count
count_unmourned n A xs l = count_lists n (unmourned n A) xs (λ q e. ltb-true q n (minus_elim (ltb q n) (mourned n A q) e).0) l

-- in the words of the accepted records: of the places below n, those that no returned record names
pub unmourned_counted : {n : ℕ} {A : Accepted} {H : History} → Fits n A H → {xs : List ℕ} → Once xs
    → ((q : ℕ) → Memᴰ q xs ↔ ((q < n) × (¬ (Mourned A q)))) → length xs ≡ unmourned_count n A
unmourned_counted {n = n} {A} f {xs} o m =
    count_unmourned n A xs (record { once = o; members = λ q. (λ d. (unmourned_iff f q).1 ((m q).0 d), λ e. (m q).1 ((unmourned_iff f q).0 e)) })
