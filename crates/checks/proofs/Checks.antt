-- What the check's functions say of the definitions: a law for each loop's step and for each return. Sets only by their members.
-- Assumes nothing.
use mathlib.Core.Path.{◌≡◌, refl, sym, ap, ap₂, ◌∙◌, fun_ext}
use mathlib.Core.Bool.{Bool, true, false, not, ◌&&◌, ◌||◌, and-true, and-false, not-not}
use mathlib.Core.Logic.{◌⊎◌, inl, inr}
use mathlib.Core.List.{List}
use Prim.Native.Nat.{ℕ, zero, suc, ◌+◌, ◌*◌, ◌<◌, ◌≤◌}
use native.Mathlib.Omega.{arith}
use native.Mathlib.Numerals.{add-one}
use lib.Dec.{leb, ltb}
use borrow.Author.Tests.{ltb-true, ltb-false, lt-ltb, le-leb, lt-leb, eqb-true}
use Rattle.sets.specs.Sets.{Places, nothing, only, below, union, intersection, difference, without, any, all, subset, same}
use Rattle.sets.specs.PlaceSets.{has, kept}
use Rattle.sets.specs.declared.PlaceSet.{PlaceSet}
use Rattle.sets.proofs.Booleans.{clash, split, is_false, both_ways, and_intro, and_left, and_right, implies_intro, minus_elim, minus_intro}
use Rattle.sets.proofs.Tests.{any_elim, any_intro, all_elim, all_intro, subset_elim, subset_intro, same_elim, same_intro}
use Rattle.rows.specs.Rows.{row_at, rows_of, row_in, history_in}
use Rattle.rows.proofs.Laws.{has_row}
use Rattle.histories.specs.Histories.{History}
use Rattle.histories.specs.Rule.{reach, full_back, duty_met, fits_test}
use Rattle.answers.specs.Views.{size, accepted_in}
use Rattle.answers.proofs.Views.{full_in}
use Rattle.answers.specs.Checks.{off_roster}

-- ---- tests of the places below n

pub all_not : (n : ℕ) (S : Places) (p : ℕ) → p < n → S p ≡ false → all n S ≡ false
all_not n S p l e = is_false (all n S) (λ t. clash (all_elim n S t p l) e)

-- the tests depend on nothing but the places below n
any_same : (n : ℕ) (A B : Places) → ((k : ℕ) → k < n → A k ≡ B k) → any n A ≡ any n B
unfolding any
any_same zero A B h = refl
any_same (suc n) A B h = ap₂ ◌||◌ (h n (omega arith)) (any_same n A B (λ k l. h k (omega arith)))

all_same : (n : ℕ) (A B : Places) → ((k : ℕ) → k < n → A k ≡ B k) → all n A ≡ all n B
unfolding all
all_same zero A B h = refl
all_same (suc n) A B h = ap₂ ◌&&◌ (h n (omega arith)) (all_same n A B (λ k l. h k (omega arith)))

-- the row that `rows::get` answers
pub row_is : (w : List ℕ) (p : ℕ) (r : PlaceSet) → r ≡ row_at w p → has r ≡ rows_of w p
row_is w p r e = ap has e ∙ has_row w p

-- the row that `rows::read` answers, in the history of a roster
pub lent_is : (n p : ℕ) (b : List ℕ) (r : PlaceSet) → p < n → has r ≡ row_in b (16 * p) → has r ≡ history_in n b p
unfolding history_in
lent_is n p b r l e = e ∙ fun_ext (λ q. rw (lt-ltb p n l))

-- only places of the roster have a row in it
pub lent_on : (n : ℕ) (b : List ℕ) (p q : ℕ) → history_in n b p q ≡ true → p < n
unfolding history_in
lent_on n b p q e = ltb-true p n (and_left (ltb p n) (row_in b (16 * p) q) e)

-- a set where a test holds, else nothing
pub all_spared : (b x : Bool) (S : Places) → x ≡ b → x ≡ true → S ≡ (λ q. b && S q)
all_spared b x S e h = fun_ext (λ q. rw (sym e ∙ h))

pub none_spared : (b x : Bool) (S N : Places) → x ≡ b → x ≡ false → N ≡ nothing → N ≡ (λ q. b && S q)
none_spared b x S N e h z = z ∙ fun_ext (λ q. rw (sym e ∙ h))

-- ---- a place off the roster

pub row_off : (n : ℕ) (S : Places) (row roster off : PlaceSet) (e : Bool) → has row ≡ S → has roster ≡ kept (below n)
    → has off ≡ difference (has row) (has roster) → e ≡ not (any 128 (has off)) → not e ≡ any 128 (λ q. leb n q && S q)
row_off n S row roster off e er eb eo h =
    ap not h ∙ not-not (any 128 (has off)) ∙ any_same 128 (has off) (λ q. leb n q && S q) (λ q m. at q ∙ go q m (ltb q n) refl)
  where
    at : (q : ℕ) → has off q ≡ S q && not (ltb q n && ltb q 128)
    at q = ap (λ (S : Places). S q) eo ∙ ap₂ (λ (R S : Places). R q && not (S q)) er eb

    go : (q : ℕ) → q < 128 → (t : Bool) → ltb q n ≡ t → S q && not (ltb q n && ltb q 128) ≡ leb n q && S q
    go q m true e = rw (e, lt-ltb q 128 m, lt-leb n q (ltb-true q n e)) (and-false (S q))
    go q m false e = rw (e, le-leb n q (ltb-false q n e)) (and-true (S q))

-- the places in the rows passed

pub named_start : (s : PlaceSet) (H : History) → has s ≡ nothing → has s ≡ (λ q. any 0 (λ p. H p q))
unfolding any
named_start s H e = e

pub named_next : (p : ℕ) (H : History) (s row t : PlaceSet) → has s ≡ (λ q. any p (λ i. H i q)) → has row ≡ H p
    → has t ≡ union (has row) (has s) → has t ≡ (λ q. any (p + 1) (λ i. H i q))
unfolding any
named_next p H s row t es er e = rw add-one (e ∙ ap₂ union er es)

named_swap : (n : ℕ) (H : History) → any 128 (λ q. leb n q && any n (λ p. H p q)) ≡ any n (λ p. any 128 (λ q. leb n q && H p q))
named_swap n H = both_ways _ _ there back
  where
    there : any 128 (λ q. leb n q && any n (λ p. H p q)) ≡ true → any n (λ p. any 128 (λ q. leb n q && H p q)) ≡ true
    there e =
        let q = any_elim 128 (λ q. leb n q && any n (λ p. H p q)) e in
        let p = any_elim n (λ p. H p q.0) (and_right (leb n q.0) (any n (λ p. H p q.0)) q.2) in
        any_intro
        n
        (λ p. any 128 (λ q. leb n q && H p q))
        p.0
        p.1
        (any_intro 128 (λ q. leb n q && H p.0 q) q.0 q.1 (and_intro (and_left (leb n q.0) (any n (λ p. H p q.0)) q.2) p.2))

    back : any n (λ p. any 128 (λ q. leb n q && H p q)) ≡ true → any 128 (λ q. leb n q && any n (λ p. H p q)) ≡ true
    back e =
        let p = any_elim n (λ p. any 128 (λ q. leb n q && H p q)) e in
        let q = any_elim 128 (λ q. leb n q && H p.0 q) p.2 in
        any_intro
        128
        (λ q. leb n q && any n (λ p. H p q))
        q.0
        q.1
        (and_intro
        (and_left (leb n q.0) (H p.0 q.0) q.2)
        (any_intro n (λ p. H p q.0) p.0 p.1 (and_right (leb n q.0) (H p.0 q.0) q.2)))

pub named_all : (n p : ℕ) (H : History) (s : PlaceSet) → p ≤ n → n ≤ p → has s ≡ (λ q. any p (λ i. H i q)) → has s ≡ (λ q. any n (λ i. H i q))
named_all n p H s l m e = let d : p ≡ n = omega arith in rw d at e

pub named_off : (count n : ℕ) (b : List ℕ) (t : Bool) → n ≡ size count → t ≡ any 128 (λ q. leb n q && any n (λ p. history_in n b p q))
    → t ≡ off_roster (size count) (history_in (size count) b)
unfolding off_roster
named_off count n b t s e = rw (← s) (e ∙ named_swap n (history_in n b))

-- ---- sets cut to the roster

module _ (n : ℕ) (small : n ≤ 128) (A B R : Places) (cut : R ≡ kept (below n)) where
  on_roster : (k : ℕ) → R k ≡ ltb k n && ltb k 128
  on_roster k = ap (λ (S : Places). S k) cut

  inside : (k : ℕ) → k < n → R k ≡ true
  inside k l = on_roster k ∙ and_intro (lt-ltb k n l) (lt-ltb k 128 (omega arith))

  below_n : (k : ℕ) → R k ≡ true → k < n
  below_n k e = ltb-true k n (and_left (ltb k n) (ltb k 128) (sym (on_roster k) ∙ e))

  -- two sets cut to the roster are the same where they are the same on it
  same_cut : same 128 (intersection A R) (intersection B R) ≡ same n A B
  same_cut =
      both_ways (same 128 (intersection A R) (intersection B R)) (same n A B)
      (λ e. same_intro n A B (λ k l. to k l (same_elim 128 (intersection A R) (intersection B R) e k (omega arith))))
      (λ e. same_intro 128 (intersection A R) (intersection B R) (λ k _. from e k (R k) refl))
    where
      to : (k : ℕ) → k < n → A k && R k ≡ B k && R k → A k ≡ B k
      to k l e = sym (and-true (A k)) ∙ (rw (inside k l) at e) ∙ and-true (B k)

      from : same n A B ≡ true → (k : ℕ) (t : Bool) → R k ≡ t → A k && R k ≡ B k && R k
      from e k true h = ap (λ (x : Bool). x && R k) (same_elim n A B e k (below_n k h))
      from e k false h = rw h (and-false (A k) ∙ sym (and-false (B k)))

  -- a set cut to the roster lies in another where it does so on the roster
  subset_cut : subset 128 (intersection A R) B ≡ subset n A B
  subset_cut =
      both_ways (subset 128 (intersection A R) B) (subset n A B)
      (λ e. subset_intro n A B (λ k l a. subset_elim 128 (intersection A R) B e k (omega arith) (and_intro a (inside k l))))
      (λ e. subset_intro 128 (intersection A R) B (λ k _ a.
      subset_elim n A B e k (below_n k (and_right (A k) (R k) a)) (and_left (A k) (R k) a)))

  -- the same, as the code makes the tests
  module _ (a b lent roster : PlaceSet) (x : Bool) (ea : has a ≡ A) (eb : has b ≡ B) (er : has roster ≡ R) (el : has lent ≡ intersection (has a) (has roster)) where
    pub same_is : (recorded : PlaceSet) → has recorded ≡ intersection (has b) (has roster) → x ≡ same 128 (has lent) (has recorded) → x ≡ same n A B
    same_is recorded ec h =
        h ∙ ap₂ (same 128) (el ∙ ap₂ intersection ea er) (ec ∙ ap₂ intersection eb er) ∙ same_cut

    pub subset_is : x ≡ subset 128 (has lent) (has b) → x ≡ subset n A B
    subset_is h = h ∙ ap₂ (subset 128) (el ∙ ap₂ intersection ea er) eb ∙ subset_cut

-- a set cut to the roster, by its members
module _ (n : ℕ) (s left roster : PlaceSet) (small : n ≤ 128) (er : has roster ≡ kept (below n)) (el : has left ≡ intersection (has s) (has roster)) where
  pub cut_at : (k : ℕ) → k < n → has left k ≡ has s k
  cut_at k h = ap (λ (S : Places). S k) el ∙ ap (λ (x : Bool). has s k && x) (inside n small (has s) (has s) (has roster) er k h) ∙ and-true (has s k)

  pub cut_on : (k : ℕ) → has left k ≡ true → k < n
  cut_on k h = below_n n small (has s) (has s) (has roster) er k (and_right (has s k) (has roster k) (sym (ap (λ (S : Places). S k) el) ∙ h))

-- ---- a loop over the members of S on the roster: those whose turn is to come are left, and the others have P

pub record Turns (n : ℕ) (S : Places) (P : ℕ → Type 0) (left : PlaceSet) : Type 0 where
  pub on : (m : ℕ) → has left m ≡ true → (m < n) × (S m ≡ true)
  pub done : (m : ℕ) → m < n → S m ≡ true → has left m ≡ false → P m

module _ (n : ℕ) (S : Places) (P : ℕ → Type 0) where
  pub turns_start : (s left roster : PlaceSet) → n ≤ 128 → has s ≡ S → has roster ≡ kept (below n) → has left ≡ intersection (has s) (has roster) → Turns n S P left
  turns_start s left roster l e er el = record {
    on = λ m h. let k = cut_on n s left roster l er el m h in (k, sym (at m k) ∙ h);
    done = λ m k a h. clash (at m k ∙ a) h;
  }
    where
      at : (m : ℕ) → m < n → has left m ≡ S m
      at m k = cut_at n s left roster l er el m k ∙ ap (λ (S : Places). S m) e

  module _ (left : PlaceSet) (t : Turns n S P left) where
    -- the members of `out` had their turn
    pub turns_fewer : (out : Places) (rest : PlaceSet) → ((m : ℕ) → m < n → S m ≡ true → out m ≡ true → P m) → has rest ≡ difference (has left) out → Turns n S P rest
    turns_fewer out rest x e = record {
      on = λ m h. t.on m (minus_elim (has left m) (out m) (sym (at m) ∙ h)).0;
      done = λ m k a h. go m k a h (split (out m));
    }
      where
        at : (m : ℕ) → has rest m ≡ has left m && not (out m)
        at m = ap (λ (S : Places). S m) e

        go : (m : ℕ) → m < n → S m ≡ true → has rest m ≡ false → (out m ≡ true) ⊎ (out m ≡ false) → P m
        go m k a h (inl o) = x m k a o
        go m k a h (inr o) = t.done m k a (is_false (has left m) (λ y. clash (at m ∙ minus_intro y o) h))

    -- m had its turn
    pub turns_next : (m : ℕ) (rest : PlaceSet) → P m → has rest ≡ without m (has left) → Turns n S P rest
    turns_next m rest x e = turns_fewer (only m) rest (λ q _ _ h. rw (eqb-true q m h) x) e

    -- nobody is left
    pub turns_end : n ≤ 128 → ((k : ℕ) → k < 128 → has left k ≡ false) → (m : ℕ) → m < n → S m ≡ true → P m
    turns_end l none m k a = t.done m k a (none m (omega arith))

-- the two ends of a loop that tests each member of s on the roster
module _ (n : ℕ) (T : Places) (s start left roster : PlaceSet) (small : n ≤ 128) (er : has roster ≡ kept (below n)) (es : has start ≡ intersection (has s) (has roster))
    (t : Turns n (has start) (λ m. T m ≡ true) left) where
  pub each_holds : ((k : ℕ) → k < 128 → has left k ≡ false) → true ≡ all n (λ m. not (has s m) || T m)
  each_holds none =
      sym (all_intro n (λ m. not (has s m) || T m) (λ m l. implies_intro (has s m) (T m) (λ a.
      turns_end n (has start) (λ m. T m ≡ true) left t small none m l (cut_at n s start roster small er es m l ∙ a))))

  pub each_fails : (m : ℕ) → has left m ≡ true → T m ≡ false → false ≡ all n (λ m. not (has s m) || T m)
  each_fails m h f =
      let k = t.on m h in
      sym (all_not n (λ m. not (has s m) || T m) m k.0 (rw (sym (cut_at n s start roster small er es m k.0) ∙ k.1, f)))

-- ---- the whole test: the accepted records are looked at only on the roster

module _ (count : ℕ) (R F : Places) (w : List ℕ) (n : ℕ) (b : List ℕ) (size_is : n ≡ size count) where
  abbrev pub lent : History
  lent = history_in n b

  -- nobody is before itself
  abbrev pub apart : Bool
  apart = all n (λ p. not (reach n lent p p))

  -- the rows of D hold everyone before them
  abbrev pub duties : Places → Bool
  duties D = all n (λ p. not (D p) || subset n (reach n lent p) (lent p))

  -- the rows of the returned places, as the code compares them
  abbrev pub compared : Bool
  compared = all n (λ p. not (R p) || same n (lent p) (rows_of w p))

  on_it : (S : Places) (k : ℕ) → k < n → ltb k (size count) && S k ≡ S k
  on_it S k l = rw (← size_is, lt-ltb k n l)

  duties_is : all n (duty_met n (accepted_in count R F w) lent) ≡ duties (intersection R F)
  unfolding duty_met full_back accepted_in
  duties_is = all_same n _ _ (λ p l. ap (λ (x : Bool). not x || subset n (reach n lent p) (lent p)) (ap₂ ◌&&◌ (on_it R p l) (full_in F p)))

  compared_is : all n (λ p. not ((accepted_in count R F w).returned p) || same n (lent p) ((accepted_in count R F w).row p)) ≡ compared
  unfolding accepted_in
  compared_is = all_same n recorded (λ p. not (R p) || same n (lent p) (rows_of w p)) at
    where
      cut : History
      cut p q = ltb q (size count) && rows_of w p q

      recorded : Places
      recorded p = not (ltb p (size count) && R p) || same n (lent p) (cut p)

      row : (p : ℕ) → same n (lent p) (cut p) ≡ same n (lent p) (rows_of w p)
      row p =
          both_ways (same n (lent p) (cut p)) (same n (lent p) (rows_of w p))
          (λ e. same_intro n (lent p) (rows_of w p) (λ q l. same_elim n (lent p) (cut p) e q l ∙ on_it (rows_of w p) q l))
          (λ e. same_intro n (lent p) (cut p) (λ q l. same_elim n (lent p) (rows_of w p) e q l ∙ sym (on_it (rows_of w p) q l)))

      at : (p : ℕ) → p < n → recorded p ≡ not (R p) || same n (lent p) (rows_of w p)
      at p l = ap₂ (λ (x y : Bool). not x || y) (on_it R p l) (row p)

  -- the test, with the records as the code has them
  whole : (r : Bool) → r ≡ apart && duties (intersection R F) && compared → r ≡ fits_test (size count) (accepted_in count R F w) (history_in (size count) b)
  unfolding fits_test
  whole r e = rw (← size_is) (e ∙ sym (ap₂ (λ (x y : Bool). apart && x && y) duties_is compared_is))

  pub fits_not : compared ≡ false → false ≡ fits_test (size count) (accepted_in count R F w) (history_in (size count) b)
  fits_not e = whole false (rw e (sym (and-false (apart && duties (intersection R F)))))

  pub fits_circle : apart ≡ false → false ≡ fits_test (size count) (accepted_in count R F w) (history_in (size count) b)
  fits_circle e = whole false (rw e)

  pub fits_duty : (D : Places) (r : Bool) → compared ≡ true → apart ≡ true → D ≡ intersection R F → r ≡ duties D
      → r ≡ fits_test (size count) (accepted_in count R F w) (history_in (size count) b)
  fits_duty D r e f d h = whole r (rw (e, f) (h ∙ ap duties d ∙ sym (and-true (duties (intersection R F)))))
