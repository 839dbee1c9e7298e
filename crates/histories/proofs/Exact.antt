-- The rule answers what the histories that fit say of a place, no more and no less. Assumes nothing.
use mathlib.Core.Path.{◌≡◌, refl, sym, ap, ◌∙◌}
use mathlib.Core.Bool.{Bool, true, false, not, cond, ◌&&◌}
use mathlib.Core.Logic.{◌⊎◌, inl, inr, ◌↔◌}
use Prim.Native.Nat.{ℕ, ◌<◌}
use native.Mathlib.Omega.{arith}
use lib.Dec.{eqb, ltb}
use borrow.Author.Tests.{eqb-true, eq-eqb, ne_eqb, ltb-true, lt-ltb}
use Rattle.sets.specs.Sets.{nothing, below, only, with, difference, any, lowest}
use Rattle.sets.proofs.Booleans.{split, clash, is_false, is_true, and_intro, and_left, and_right, or_cases, or_left, or_right, not_true, minus_elim, minus_intro, eqb_self}
use Rattle.sets.proofs.Tests.{any_elim, any_intro, any_none, none_any, lowest_below, lowest_member}
use Rattle.histories.specs.declared.Kind.{Kind}
use Rattle.histories.specs.declared.Kind.TheVariants.{Full, Short}
use Rattle.histories.specs.Histories.{Row, History, Before, heard, through, IsHistory, Accepted, none, Fits, Last, LastInAll, LastInNone, Disagree, Decided}
use Rattle.histories.specs.Rule.{recorded, mourned, before, is_full, full_back, before_full, blockers, is_last, not_last, is_open, answer_with, answer, open_answer, none_open, settled, unmourned, unmourned_absent, grown, second}
use Rattle.histories.proofs.Closure.{before_trans, before_mono, reach_sound, reach_complete}

-- ---- the recorded rows

pub recorded_returned : (A : Accepted) (p q : ℕ) → recorded A p q ≡ true → A.returned p ≡ true
unfolding recorded
recorded_returned A p q e = and_left (A.returned p) (A.row p q) e

module _ {n : ℕ} {A : Accepted} {H : History} (f : Fits n A H) where
  -- in a history that fits, the row of a returned place has nothing that is not recorded
  pub recorded_sup : (p q : ℕ) → A.returned p ≡ true → H p q ≡ true → recorded A p q ≡ true
  unfolding recorded
  recorded_sup p q b e = and_intro b (sym (f.recorded p b q) ∙ e)

  -- and all that is recorded is in its row
  pub recorded_sub : (p q : ℕ) → recorded A p q ≡ true → H p q ≡ true
  unfolding recorded
  recorded_sub p q e = f.recorded p (and_left (A.returned p) (A.row p q) e) q ∙ and_right (A.returned p) (A.row p q) e

-- the recorded rows fit, if they make a history and meet the duty
pub recorded_fits_if : {n : ℕ} {A : Accepted} → IsHistory n (recorded A) → ((p : ℕ) → A.returned p ≡ true → A.kind p ≡ Full → (q : ℕ) → Before (recorded A) q p → recorded A p q ≡ true)
    → Fits n A (recorded A)
unfolding recorded
recorded_fits_if h d = record { history = h; recorded = λ p b q. rw b; duty = d }

-- which they do, where any history fits
pub recorded_fits : {n : ℕ} {A : Accepted} {H : History} → Fits n A H → Fits n A (recorded A)
recorded_fits {A = A} f =
    recorded_fits_if
    (record { inside = λ p q e. f.history.inside p q (recorded_sub f p q e); acyclic = λ p b. f.history.acyclic p (before_mono (recorded_sub f) b) })
    (λ p b k q w. recorded_sup f p q b (f.duty p b k q (before_mono (recorded_sub f) w)))

-- at the opening the history of empty rows fits
pub none_fitted : (n : ℕ) → Fits n none (λ p. nothing)
none_fitted n = record {
  history = record { inside = λ p q e. clash e refl; acyclic = λ p b. empty b };
  recorded = λ p e q. refl;
  duty = λ p b k q w. clash b refl;
}
  where
    empty : {q p : ℕ} → Before (λ p. nothing) q p → ⊥
    empty (heard e) = clash e refl
    empty (through e b) = clash e refl

-- ---- mourned

abbrev pub Mourned : Accepted → ℕ → Type 0
Mourned A q = (p : ℕ) × (A.returned p ≡ true) × (A.row p q ≡ true)

pub mourned_elim : (n : ℕ) (A : Accepted) (q : ℕ) → mourned n A q ≡ true → (p : ℕ) × (recorded A p q ≡ true)
unfolding mourned
mourned_elim n A q e = let r = any_elim n (λ p. recorded A p q) e in (r.0, r.2)

module _ {n : ℕ} {A : Accepted} {H : History} (f : Fits n A H) where
  pub mourned_intro : (p q : ℕ) → recorded A p q ≡ true → mourned n A q ≡ true
  unfolding mourned
  mourned_intro p q e = any_intro n (λ p. recorded A p q) p ((recorded_fits f).history.inside p q e).0 e

  pub mourned_iff : (q : ℕ) → (mourned n A q ≡ true) ↔ Mourned A q
  unfolding recorded
  mourned_iff q = (to, λ m. mourned_intro m.0 q (and_intro m.1 m.2))
    where
      to : mourned n A q ≡ true → Mourned A q
      to e = let r = mourned_elim n A q e in let p = r.0 in (p, and_left (A.returned p) (A.row p q) r.1, and_right (A.returned p) (A.row p q) r.1)

  pub unmourned_iff : (q : ℕ) → (unmourned n A q ≡ true) ↔ ((q < n) × (¬ (Mourned A q)))
  unfolding unmourned
  unmourned_iff q = (to, λ u. minus_intro (lt-ltb q n u.0) (is_false (mourned n A q) (λ m. u.1 ((mourned_iff q).0 m))))
    where
      to : ltb q n && not (mourned n A q) ≡ true → (q < n) × (¬ (Mourned A q))
      to e = let r = minus_elim (ltb q n) (mourned n A q) e in (ltb-true q n r.0, λ m. clash ((mourned_iff q).1 m) r.1)

pub unmourned_absent_iff : (n : ℕ) (A : Accepted) (q : ℕ) → (unmourned_absent n A q ≡ true) ↔ ((unmourned n A q ≡ true) × (A.returned q ≡ false))
unfolding unmourned_absent
unmourned_absent_iff n A q = (minus_elim (unmourned n A q) (A.returned q), λ u. minus_intro u.0 u.1)

-- ---- full and back

pub full_kind : (k : Kind) → is_full k ≡ true → k ≡ Full
unfolding is_full
full_kind Full e = refl
full_kind Short e = clash e refl

pub full_back_elim : (A : Accepted) (p : ℕ) → full_back A p ≡ true → (A.returned p ≡ true) × (A.kind p ≡ Full)
unfolding full_back
full_back_elim A p e = (and_left (A.returned p) (is_full (A.kind p)) e, full_kind (A.kind p) (and_right (A.returned p) (is_full (A.kind p)) e))

pub full_back_intro : (A : Accepted) (p : ℕ) → A.returned p ≡ true → A.kind p ≡ Full → full_back A p ≡ true
unfolding full_back is_full
full_back_intro A p b k = and_intro b (ap is_full k)

-- ---- before, by returned records only

module _ {n : ℕ} {A : Accepted} {H : History} (f : Fits n A H) where
  pub before_in : {q p : ℕ} → Before (recorded A) q p → before n A p q ≡ true
  unfolding before
  before_in w = reach_complete n (recorded A) (λ p q e. ((recorded_fits f).history.inside p q e).0) w

  pub before_full_in : (p q : ℕ) → full_back A p ≡ true → Before (recorded A) q p → before_full n A q ≡ true
  unfolding before_full
  before_full_in p q b w = any_intro n (λ p. full_back A p && before n A p q) p on (and_intro b (before_in w))
    where
      on_row : {q p : ℕ} → Before (recorded A) q p → p < n
      on_row (heard {q = q} {p = p} e) = ((recorded_fits f).history.inside p q e).0
      on_row (through e b) = on_row b

      on : p < n
      on = on_row w

pub before_out : (n : ℕ) (A : Accepted) (p q : ℕ) → before n A p q ≡ true → Before (recorded A) q p
unfolding before
before_out n A p q e = reach_sound n (recorded A) p q e

pub before_full_out : (n : ℕ) (A : Accepted) (q : ℕ) → before_full n A q ≡ true → (p : ℕ) × (full_back A p ≡ true) × Before (recorded A) q p
unfolding before_full
before_full_out n A q e =
    let r = any_elim n (λ p. full_back A p && before n A p q) e in
    let p = r.0 in
    (p, and_left (full_back A p) (before n A p q) r.2, before_out n A p q (and_right (full_back A p) (before n A p q) r.2))

-- ---- blockers

pub record Blocks (n : ℕ) (A : Accepted) (i b : ℕ) : Type 0 where
  pub on : b < n
  pub other : ¬ (b ≡ i)
  pub absent : A.returned b ≡ false
  pub free : before n A i b ≡ false
  pub unknown : before_full n A b ≡ false

pub blocks : (n : ℕ) (A : Accepted) (i b : ℕ) → blockers n A i b ≡ true → Blocks n A i b
unfolding blockers
blocks n A i b e =
    let unknown = minus_elim (difference (difference (difference (below n) (only i)) A.returned) (before n A i) b) (before_full n A b) e in
    let free = minus_elim (difference (difference (below n) (only i)) A.returned b) (before n A i b) unknown.0 in
    let absent = minus_elim (difference (below n) (only i) b) (A.returned b) free.0 in
    let other = minus_elim (ltb b n) (eqb b i) absent.0 in
    record { on = ltb-true b n other.0; other = λ h. clash (eq-eqb b i h) other.1; absent = absent.1; free = free.1; unknown = unknown.1 }

-- ---- not mourned and without a blocker: last

-- whoever heard an unmourned place, in some history that fits, blocks it
pub heard_blocks : {n : ℕ} {A : Accepted} {H : History} → Fits n A H → (i p : ℕ) → mourned n A i ≡ false → H p i ≡ true → blockers n A i p ≡ true
unfolding blockers
heard_blocks {n} {A} {H} f i p u t = go (split (A.returned p))
  where
    -- an absent place before i did not hear i, nor did one before a returned full place, whose row would have i
    earlier : before n A i p ≡ true → ⊥
    earlier c = f.history.acyclic i (before_trans (heard t) (before_mono (recorded_sub f) (before_out n A i p c)))

    told : before_full n A p ≡ true → ⊥
    told c =
        let r = before_full_out n A p c in
        let m = r.0 in
        let b = full_back_elim A m r.1 in
        clash (mourned_intro f m i (recorded_sup f m i b.0 (f.duty m b.0 b.1 i (through t (before_mono (recorded_sub f) r.2))))) u

    go : (A.returned p ≡ true) ⊎ (A.returned p ≡ false) → blockers n A i p ≡ true
    go (inl b) = clash (mourned_intro f p i (recorded_sup f p i b t)) u
    go (inr b) =
        minus_intro (minus_intro (minus_intro (minus_intro (lt-ltb p n (f.history.inside p i t).0) other) b) (is_false (before n A i p) earlier)) (is_false (before_full n A p) told)
      where
        other : eqb p i ≡ false
        other = ne_eqb p i (λ e. f.history.acyclic i (heard (rw e at t)))

unblocked_last : {n : ℕ} {A : Accepted} {H : History} → Fits n A H → (i : ℕ) → mourned n A i ≡ false → any n (blockers n A i) ≡ false → Last H i
unblocked_last {n} {A} {H} f i u a p = is_false (H p i) (λ t. clash (heard_blocks f i p u t) (any_none n (blockers n A i) a p (f.history.inside p i t).0))

-- ---- not mourned and with a blocker: the second shown history

-- i, and all that is before it
abbrev pub FromI : Accepted → ℕ → ℕ → Type 0
FromI A i q = (q ≡ i) ⊎ Before (recorded A) q i

-- what stands in a row of the history
pub grown_cases : (n : ℕ) (A : Accepted) (i b p q : ℕ) → grown n A i b p q ≡ true → ((p ≡ b) × FromI A i q) ⊎ (recorded A p q ≡ true)
unfolding grown
grown_cases n A i b p q e = go (eqb p b) refl e
  where
    new : (before n A i q ≡ true) ⊎ (eqb q i ≡ true) → FromI A i q
    new (inl x) = inr (before_out n A i q x)
    new (inr x) = inl (eqb-true q i x)

    go : (t : Bool) → eqb p b ≡ t → cond t (with i (before n A i)) (recorded A p) q ≡ true → ((p ≡ b) × FromI A i q) ⊎ (recorded A p q ≡ true)
    go true h x = inl (eqb-true p b h, new (or_cases (before n A i q) (eqb q i) x))
    go false h x = inr x

pub grown_old : (n : ℕ) (A : Accepted) (i b : ℕ) → A.returned b ≡ false → (p q : ℕ) → recorded A p q ≡ true → grown n A i b p q ≡ true
unfolding grown
grown_old n A i b a p q e = rw (ne_eqb p b (λ h. clash (recorded_returned A p q e) (rw h a))) e

grown_returned : (n : ℕ) (A : Accepted) (i b : ℕ) → A.returned b ≡ false → (p q : ℕ) → A.returned p ≡ true → grown n A i b p q ≡ A.row p q
unfolding grown recorded
grown_returned n A i b a p q e = rw (ne_eqb p b (λ h. clash e (rw h a)), e)

pub grown_i : (n : ℕ) (A : Accepted) (i b : ℕ) → grown n A i b b i ≡ true
unfolding grown
grown_i n A i b = rw (eqb_self b) (or_right (before n A i i) (eqb_self i))

-- i, and all that is before it, stands in the row of b
pub grown_new : {n : ℕ} {A : Accepted} {H : History} → Fits n A H → (i b q : ℕ) → FromI A i q → grown n A i b b q ≡ true
unfolding grown
grown_new {n} {A} f i b q x = rw (eqb_self b) (new x)
  where
    new : FromI A i q → with i (before n A i) q ≡ true
    new (inl h) = or_right (before n A i q) (eq-eqb q i h)
    new (inr w) = or_left (eqb q i) (before_in f w)

module _ {n : ℕ} {A : Accepted} {H : History} (f : Fits n A H) (i b : ℕ) (s : Blocks n A i b) where
  pub not_from_i : FromI A i b → ⊥
  not_from_i (inl h) = s.other h
  not_from_i (inr w) = clash (before_in f w) s.free

  -- from b every chain goes by way of i
  grown_from_b : {q : ℕ} → Before (grown n A i b) q b → FromI A i q
  grown_from_b (heard {q = q} e) = go (grown_cases n A i b b q e)
    where
      go : ((b ≡ b) × FromI A i q) ⊎ (recorded A b q ≡ true) → FromI A i q
      go (inl (_, x)) = x
      go (inr x) = clash (recorded_returned A b q x) s.absent
  grown_from_b (through {q = q} {m = m} e w) = go (grown_cases n A i b m q e) (grown_from_b w)
    where
      go : ((m ≡ b) × FromI A i q) ⊎ (recorded A m q ≡ true) → FromI A i m → FromI A i q
      go (inl (_, x)) y = x
      go (inr x) (inl mi) = inr (heard (rw mi at x))
      go (inr x) (inr y) = inr (through x y)

  -- q is before p by recorded rows alone, or by way of b
  abbrev Chain : ℕ → ℕ → Type 0
  Chain q p = Before (recorded A) q p ⊎ (Before (grown n A i b) q b × ((p ≡ b) ⊎ Before (recorded A) b p))

  grown_chain : {q p : ℕ} → Before (grown n A i b) q p → Chain q p
  grown_chain (heard {q = q} {p = p} e) = go (grown_cases n A i b p q e)
    where
      go : ((p ≡ b) × FromI A i q) ⊎ (recorded A p q ≡ true) → Chain q p
      go (inl (pb, x)) = inr (heard (rw pb at e), inl pb)
      go (inr x) = inl (heard x)
  grown_chain (through {q = q} {m = m} {p = p} e w) = go (grown_cases n A i b m q e) (grown_chain w)
    where
      from_b : (m ≡ b) → Chain m p → (p ≡ b) ⊎ Before (recorded A) b p
      from_b mb (inl y) = inr (rw mb at y)
      from_b mb (inr y) = y.1

      go : ((m ≡ b) × FromI A i q) ⊎ (recorded A m q ≡ true) → Chain m p → Chain q p
      go (inl (mb, x)) y = inr (heard (rw mb at e), from_b mb y)
      go (inr x) (inl y) = inl (through x y)
      go (inr x) (inr (y, z)) = inr (through e y, z)

  grown_acyclic : (p : ℕ) → ¬ (Before (grown n A i b) p p)
  grown_acyclic p w = go (grown_chain w)
    where
      go : Chain p p → ⊥
      go (inl x) = (recorded_fits f).history.acyclic p x
      go (inr (x, inl pb)) = not_from_i (grown_from_b (rw pb at x))
      go (inr (x, inr y)) = not_from_i (go_b (grown_from_b x) y)
        where
          go_b : FromI A i p → Before (recorded A) b p → FromI A i b
          go_b (inl pi) z = inr (rw pi at z)
          go_b (inr u) z = inr (before_trans z u)

  -- no chain of a returned full place comes by b
  grown_duty : (p : ℕ) → A.returned p ≡ true → A.kind p ≡ Full → (q : ℕ) → Before (grown n A i b) q p → grown n A i b p q ≡ true
  grown_duty p r k q w = go (grown_chain w)
    where
      go : Chain q p → grown n A i b p q ≡ true
      go (inl x) = grown_old n A i b s.absent p q ((recorded_fits f).duty p r k q x)
      go (inr (x, inl pb)) = clash r (rw pb s.absent)
      go (inr (x, inr y)) = clash (before_full_in f p b (full_back_intro A p r k) y) s.unknown

  pub grown_fits : i < n → Fits n A (grown n A i b)
  grown_fits l = record {
    history = record { inside = λ p q e. inside p q (grown_cases n A i b p q e); acyclic = grown_acyclic };
    recorded = λ p r q. grown_returned n A i b s.absent p q r;
    duty = grown_duty;
  }
    where
      from_on : {q : ℕ} → FromI A i q → q < n
      from_on (inl qi) = rw qi l
      from_on (inr (heard {q = q} {p = p} x)) = ((recorded_fits f).history.inside p q x).1
      from_on (inr (through {q = q} {m = m} x y)) = ((recorded_fits f).history.inside m q x).1

      inside : (p q : ℕ) → ((p ≡ b) × FromI A i q) ⊎ (recorded A p q ≡ true) → (p < n) × (q < n)
      inside p q (inl (pb, x)) = (rw pb s.on, from_on x)
      inside p q (inr x) = (recorded_fits f).history.inside p q x

-- ---- the three answers

-- which answer is given, and why
data View (n : ℕ) (A : Accepted) (i : ℕ) : Type 0 where
  sees_last : answer n A i ≡ is_last → LastInAll n A i → View n A i
  sees_not : answer n A i ≡ not_last → LastInNone n A i → View n A i
  sees_open : answer n A i ≡ is_open → Disagree n A i (recorded A) (second n A i) → View n A i

-- an open place has a blocker, and the lowest is one
pub open_blocks : (n : ℕ) (A : Accepted) (i : ℕ) → any n (blockers n A i) ≡ true → Blocks n A i (lowest n (blockers n A i))
open_blocks n A i e =
    let r = any_elim n (blockers n A i) e in
    blocks n A i (lowest n (blockers n A i)) (lowest_member n (blockers n A i) (lowest_below n (blockers n A i) r.0 r.1 r.2))

view : {n : ℕ} {A : Accepted} {H : History} → Fits n A H → (i : ℕ) → i < n → View n A i
unfolding answer answer_with second
view {n} {A} f i l = go (mourned n A i) refl (any n (blockers n A i)) refl
  where
    go : (m : Bool) → mourned n A i ≡ m → (a : Bool) → any n (blockers n A i) ≡ a → View n A i
    go true hm a ha = sees_not (rw hm) (λ H g last. let r = mourned_elim n A i hm in clash (recorded_sub g r.0 i r.1) (last r.0))
    go false hm false ha = sees_last (rw (hm, ha)) (λ H g. unblocked_last g i hm ha)
    go false hm true ha =
        sees_open (rw (hm, ha))
        (record {
          first_fits = recorded_fits f;
          first_last = λ p. is_false (recorded A p i) (λ e. clash (mourned_intro f p i e) hm);
          second_fits = grown_fits f i (lowest n (blockers n A i)) (open_blocks n A i ha) l;
          second_not = λ last. clash (grown_i n A i (lowest n (blockers n A i))) (last (lowest n (blockers n A i)));
        })

-- last in all histories that fit, last in none, last in one and not in another: no two of these
pub all_none : {n : ℕ} {A : Accepted} {H : History} {i : ℕ} {X : Type 0} → Fits n A H → LastInAll n A i → LastInNone n A i → X
all_none {H = H} f a z = absurd (z H f (a H f))

pub all_open : {n : ℕ} {A : Accepted} {i : ℕ} {F G : History} {X : Type 0} → LastInAll n A i → Disagree n A i F G → X
all_open {G = G} a d = absurd (d.second_not (a G d.second_fits))

pub none_open_lem : {n : ℕ} {A : Accepted} {i : ℕ} {F G : History} {X : Type 0} → LastInNone n A i → Disagree n A i F G → X
none_open_lem {F = F} z d = absurd (z F d.first_fits d.first_last)

pub decided_open : {n : ℕ} {A : Accepted} {i : ℕ} {F G : History} {X : Type 0} → Decided n A i → Disagree n A i F G → X
decided_open (inl a) d = all_open a d
decided_open (inr z) d = none_open_lem z d

-- for each answer, when it is given
pub record Exact (n : ℕ) (A : Accepted) (i : ℕ) : Type 0 where
  pub last_iff : (answer n A i ≡ is_last) ↔ LastInAll n A i
  pub not_iff : (answer n A i ≡ not_last) ↔ LastInNone n A i
  pub open_iff : (answer n A i ≡ is_open) ↔ ((F : History) × (G : History) × Disagree n A i F G)
  -- and those that are shown are such a pair
  pub shown : answer n A i ≡ is_open → Disagree n A i (recorded A) (second n A i)

pub exact : {n : ℕ} {A : Accepted} {H : History} → Fits n A H → (i : ℕ) → i < n → Exact n A i
exact {n} {A} {H} f i l = go (view f i l)
  where
    never : {X : Type 0} → ◌≡◌ {A = ℕ} 0 1 → X
    never z = absurd (omega arith)

    go : View n A i → Exact n A i
    go (sees_last e a) =
        record {
          last_iff = (λ _. a, λ _. e);
          not_iff = (λ x. never (cc), λ z. all_none f a z);
          open_iff = (λ x. never (cc), λ d. all_open a d.2);
          shown = λ x. never (cc);
        }
    go (sees_not e z) =
        record {
          last_iff = (λ x. never (cc), λ a. all_none f a z);
          not_iff = (λ _. z, λ _. e);
          open_iff = (λ x. never (cc), λ d. none_open_lem z d.2);
          shown = λ x. never (cc);
        }
    go (sees_open e d) =
        record {
          last_iff = (λ x. never (cc), λ a. all_open a d);
          not_iff = (λ x. never (cc), λ z. none_open_lem z d);
          open_iff = (λ _. (recorded A, second n A i, d), λ _. e);
          shown = λ _. d;
        }

-- ---- settled

-- the open places
abbrev opens : ℕ → Accepted → Row
opens n A i = open_answer (answer n A i)

-- the histories that fit agree on every place
pub settled_iff : {n : ℕ} {A : Accepted} {H : History} → Fits n A H → (settled n A ≡ true) ↔ ((i : ℕ) → i < n → Decided n A i)
unfolding settled none_open open_answer answer
settled_iff {n} {A} {H} f = (λ e i l. to i (view f i l) (any_none n (opens n A) (not_true (any n (opens n A)) e) i l), λ h. rw (none_any n (opens n A) (λ i l. from i (view f i l) (h i l))))
  where
    to : (i : ℕ) → View n A i → opens n A i ≡ false → Decided n A i
    to i (sees_last e a) x = inl a
    to i (sees_not e z) x = inr z
    to i (sees_open e d) x = clash (ap open_answer e) x

    from : (i : ℕ) → View n A i → Decided n A i → opens n A i ≡ false
    from i (sees_last e a) x = rw e
    from i (sees_not e z) x = rw e
    from i (sees_open e d) (inl a) = all_open a d
    from i (sees_open e d) (inr z) = none_open_lem z d

-- or two of them disagree on some place
pub unsettled : {n : ℕ} {A : Accepted} {H : History} → Fits n A H → settled n A ≡ false
    → (i : ℕ) × (i < n) × Disagree n A i (recorded A) (second n A i)
unfolding settled none_open open_answer answer
unsettled {n} {A} f e = (r.0, r.1, at (view f r.0 r.1))
  where
    r : (i : ℕ) × (i < n) × (opens n A i ≡ true)
    r = any_elim n (opens n A) (is_true (any n (opens n A)) (λ x. clash (rw x) e))

    at : View n A r.0 → Disagree n A r.0 (recorded A) (second n A r.0)
    at (sees_last x a) = clash r.2 (ap open_answer x)
    at (sees_not x z) = clash r.2 (ap open_answer x)
    at (sees_open x d) = d
