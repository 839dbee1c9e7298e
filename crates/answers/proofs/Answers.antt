-- Blockers, answers, and whether all is settled. Assumes nothing.
use mathlib.Core.Path.{◌≡◌, refl, sym, ap, ◌∙◌, fun_ext}
use mathlib.Core.Bool.{Bool, true, false, not, cond, ◌&&◌, ◌||◌, and-true}
use mathlib.Core.List.{List}
use Prim.Native.Nat.{ℕ, ◌<◌}
use native.Mathlib.Omega.{arith}
use lib.Dec.{ltb, eqb}
use borrow.Author.Tests.{ltb-true, lt-ltb}
use Rattle.sets.specs.Sets.{Places, nothing, below, only, union, intersection, difference, without, any}
use Rattle.sets.specs.PlaceSets.{has}
use Rattle.sets.specs.declared.PlaceSet.{PlaceSet}
use Rattle.sets.proofs.Booleans.{clash, is_false, is_true, both_ways, and_left, not_true, not_intro, minus_elim, minus_intro}
use Rattle.sets.proofs.Tests.{any_elim, any_intro, any_none, none_any}
use Rattle.sets.proofs.Laws.{has_below}
use Rattle.sets.proofs.Members.{pass, pass_elim, pass_intro}
use Rattle.histories.specs.Histories.{Row, Accepted}
use Rattle.histories.specs.Rule.{recorded, reach, before, full_back, answer_with, open_answer, none_open}
use Rattle.histories.specs.Kept.{ruled_out_by, blockers_by, answer_by, settled_by}
use Rattle.histories.specs.declared.Kind.TheVariants.{Full, Short}
use Rattle.answers.specs.declared.Answer.TheVariants.{Last, NotLast, Open}
use Rattle.answers.specs.Views.{size, kind_in, accepted_in, recorded_in, answer_of}
use Rattle.answers.proofs.Views.{size_at_most, full_in}

-- ---- no member

pub none_has : (s : PlaceSet) (none : Bool) → none ≡ not (any 128 (has s)) → none ≡ true → (q : ℕ) → has s q ≡ false
none_has s none e t q =
    is_false (has s q) (λ h. clash h (any_none 128 (has s) (not_true (any 128 (has s)) (sym e ∙ t)) q (has_below s q h)))

pub some_has : (s : PlaceSet) (none : Bool) → none ≡ not (any 128 (has s)) → none ≡ false → (q : ℕ) × (has s q ≡ true)
some_has s none e f =
    let m = any_elim 128 (has s) (is_true (any 128 (has s)) (λ x. clash (e ∙ ap not x) f)) in
    (m.0, m.2)

-- ---- kinds

pub kind_full : (full : PlaceSet) (p : ℕ) → has full p ≡ true → Full ≡ kind_in (has full) p
unfolding kind_in
kind_full full p e = rw e

pub kind_short : (full : PlaceSet) (p : ℕ) → has full p ≡ false → Short ≡ kind_in (has full) p
unfolding kind_in
kind_short full p e = rw e

pub full_back_is : (n : ℕ) (all R U back both : PlaceSet) (p : ℕ) → has all ≡ below n → has back ≡ intersection (has all) (has R) → has both ≡ intersection (has back) (has U)
    → has both p ≡ (ltb p n && has R p) && has U p
full_back_is n all R U back both p ea eb ec =
    ap (λ (S : Places). S p) (ec ∙ ap (λ (S : Places). intersection S (has U)) (eb ∙ ap (λ (S : Places). intersection S (has R)) ea))

-- ---- unmourned, and blockers

pub unmourned_is : (n : ℕ) (all M r : PlaceSet) → has all ≡ below n → has r ≡ difference (has all) (has M) → has r ≡ difference (below n) (has M)
unmourned_is n all M r a e = e ∙ ap (λ (S : Places). difference S (has M)) a

-- the roster but for who is back, and for those before a returned full place
pub unheard_is : (count : ℕ) (R F : Places) (all absent r : PlaceSet) → has all ≡ below (size count) → has absent ≡ difference (has all) R → has r ≡ difference (has absent) F
    → has r ≡ difference (difference (below (size count)) R) F
unheard_is count R F all absent r ea eb er = er ∙ ap (λ (S : Places). difference S F) (eb ∙ ap (λ (S : Places). difference S R) ea)

-- a returned full place: no place is taken from what is left
pub narrowed_full : (b : Bool) (B : Row) (r : PlaceSet) → b ≡ true → has r ≡ difference (has r) (cond b nothing B)
narrowed_full b B r e = sym (ap (λ (x : Bool). difference (has r) (cond x nothing B)) e ∙ fun_ext (λ q. and-true (has r q)))

pub narrowed_other : (b : Bool) (B : Row) (M rest own found r : PlaceSet) → b ≡ false → has own ≡ B → has found ≡ intersection (has M) (has own) → has r ≡ difference (has rest) (has found)
    → has r ≡ difference (has rest) (cond b nothing (intersection (has M) B))
narrowed_other b B M rest own found r e o g f =
    f ∙ ap (difference (has rest)) (g ∙ ap (intersection (has M)) o ∙ sym (ap (λ (x : Bool). cond x nothing (intersection (has M) B)) e))

-- blockers are of the roster
pub blockers_on : (n : ℕ) (A : Accepted) (M F : Row) (i q : ℕ) → blockers_by n A M F i q ≡ true → q < n
unfolding blockers_by
blockers_on n A M F i q e =
    ltb-true q n (and_left (ltb q n) (not (eqb q i)) (and_left (ltb q n && not (eqb q i)) (not (A.returned q)) (and_left (ltb q n && not (eqb q i) && not (A.returned q)) (not (ruled_out_by n A M F i q)) e)))

-- the blockers of i: who is left besides i, without the mourned ones before i where i is not back and full
module _ (count : ℕ) (R U : Places) (w : List ℕ) (M F : Row) (i : ℕ) where
  abbrev n : ℕ
  n = size count

  abbrev A : Accepted
  A = accepted_in count R U w

  abbrev pub left : Row
  left = without i (difference (difference (below n) R) F)

  abbrev pub ruled : Row
  ruled = cond ((ltb i n && R i) && U i) nothing (intersection M (reach n (recorded_in count R w) i))

  -- full and back, as it is kept
  full_is : full_back A i ≡ (ltb i n && R i) && U i
  unfolding full_back accepted_in
  full_is = ap (λ (x : Bool). (ltb i n && R i) && x) (full_in U i)

  pub blockers_split : difference left ruled ≡ blockers_by n A M F i
  unfolding blockers_by ruled_out_by before accepted_in recorded recorded_in
  blockers_split =
      fun_ext (λ q. at q ((ltb i n && R i) && U i))
      ∙ ap (λ (x : Bool). difference (difference (difference (below n) (only i)) (intersection (below n) R)) (cond x F (union F (intersection M (reach n (recorded_in count R w) i))))) (sym full_is)
    where
      -- a: on the roster, r: back, f: before a returned full one, e: i itself
      one : (a r f e : Bool) → a && not r && not f && not e && true ≡ a && not e && not (a && r) && not f
      one false r f e = refl
      one true true f true = refl
      one true true f false = refl
      one true false true true = refl
      one true false true false = refl
      one true false false true = refl
      one true false false false = refl

      two : (a r f e y : Bool) → a && not r && not f && not e && not y ≡ a && not e && not (a && r) && not (f || y)
      two false r f e y = refl
      two true true f true y = refl
      two true true f false y = refl
      two true false true true y = refl
      two true false true false y = refl
      two true false false true y = refl
      two true false false false y = refl

      at : (q : ℕ) (b : Bool) → left q && not (cond b nothing (intersection M (reach n (recorded_in count R w) i)) q)
          ≡ difference (difference (below n) (only i)) (intersection (below n) R) q && not (cond b F (union F (intersection M (reach n (recorded_in count R w) i))) q)
      at q true = one (ltb q n) (R q) (F q) (eqb q i)
      at q false = two (ltb q n) (R q) (F q) (eqb q i) (M q && reach n (recorded_in count R w) i q)

  pub blocker_elim : (q : ℕ) → blockers_by n A M F i q ≡ true → (left q ≡ true) × (ruled q ≡ false)
  blocker_elim q h = minus_elim (left q) (ruled q) (ap (λ (S : Row). S q) blockers_split ∙ h)

  pub blocker_intro : (q : ℕ) → left q ≡ true → ruled q ≡ false → blockers_by n A M F i q ≡ true
  blocker_intro q l u = sym (ap (λ (S : Row). S q) blockers_split) ∙ minus_intro l u

  -- one that is not mourned is not before i
  pub sure_ruled : (q : ℕ) → M q ≡ false → ruled q ≡ false
  sure_ruled q m = go ((ltb i n && R i) && U i)
    where
      go : (b : Bool) → cond b nothing (intersection M (reach n (recorded_in count R w) i)) q ≡ false
      go true = refl
      go false = ap (λ (x : Bool). x && reach n (recorded_in count R w) i q) m

  -- nobody is missing: there is no blocker
  pub none_blocks : (missing : PlaceSet) → has missing ≡ difference (difference (below n) R) F → ((q : ℕ) → has missing q ≡ false) → false ≡ any n (blockers_by n A M F i)
  none_blocks missing e none = sym (none_any n (blockers_by n A M F i) (λ q _. is_false (blockers_by n A M F i q) (λ h. clash (ap (λ (S : Places). S q) e ∙ (minus_elim (difference (difference (below n) R) F q) (eqb q i) (blocker_elim q h).0).0) (none q))))

  module _ (rest : PlaceSet) (e : has rest ≡ left) where
    pub blockers_are : (r : PlaceSet) → has r ≡ difference (has rest) ruled → has r ≡ blockers_by n A M F i
    blockers_are r f = f ∙ ap (λ (S : Places). difference S ruled) e ∙ blockers_split

    -- one that is not mourned is left: it blocks
    pub sure_blocks : (sure : PlaceSet) (none : Bool) → has sure ≡ difference (has rest) M → none ≡ not (any 128 (has sure)) → none ≡ false → true ≡ any n (blockers_by n A M F i)
    sure_blocks sure none es en f =
        let s = some_has sure none en f in
        let q = s.0 in
        let d = minus_elim (has rest q) (M q) (sym (ap (λ (S : Places). S q) es) ∙ s.1) in
        let b = blocker_intro q (sym (ap (λ (S : Places). S q) e) ∙ d.0) (sure_ruled q d.1) in
        sym (any_intro n (blockers_by n A M F i) q (blockers_on n A M F i q b) b)

-- the test for no member tells whether there is a blocker
pub some_blocker : (count : ℕ) (A : Accepted) (M F : Row) (i : ℕ) (r : PlaceSet) (none : Bool) → has r ≡ blockers_by (size count) A M F i
    → none ≡ not (any 128 (has r)) → any (size count) (blockers_by (size count) A M F i) ≡ not none
some_blocker count A M F i r none e f = sym (ap not f ∙ twice (any 128 (has r)) ∙ both_ways (any 128 (has r)) (any n B) down up)
  where
    n : ℕ
    n = size count

    B : Row
    B = blockers_by (size count) A M F i

    at : (q : ℕ) → has r q ≡ B q
    at q = ap (λ (S : Places). S q) e

    twice : (b : Bool) → not (not b) ≡ b
    twice true = refl
    twice false = refl

    down : any 128 (has r) ≡ true → any n B ≡ true
    down h =
        let m = any_elim 128 (has r) h in
        let b : B m.0 ≡ true = sym (at m.0) ∙ m.2 in
        any_intro n B m.0 (blockers_on n A M F i m.0 b) b

    up : any n B ≡ true → any 128 (has r) ≡ true
    up h =
        let m = any_elim n B h in
        any_intro 128 (has r) m.0 (omega (arith, size_at_most count, m.1)) (at m.0 ∙ m.2)

-- ---- the three answers

module _ (n : ℕ) (A : Accepted) (M F : Row) (i : ℕ) where
  pub answer_mourned : M i ≡ true → NotLast ≡ answer_of (answer_by n A M F i)
  unfolding answer_of answer_by answer_with
  answer_mourned m = rw m

  pub answer_blocked : M i ≡ false → any n (blockers_by n A M F i) ≡ true → Open ≡ answer_of (answer_by n A M F i)
  unfolding answer_of answer_by answer_with
  answer_blocked m b = rw (m, b)

  pub answer_free : M i ≡ false → any n (blockers_by n A M F i) ≡ false → Last ≡ answer_of (answer_by n A M F i)
  unfolding answer_of answer_by answer_with
  answer_free m b = rw (m, b)

  pub open_blocked : M i ≡ false → any n (blockers_by n A M F i) ≡ true → open_answer (answer_by n A M F i) ≡ true
  unfolding open_answer answer_by answer_with
  open_blocked m b = rw (m, b)

  open_mourned : M i ≡ true → open_answer (answer_by n A M F i) ≡ false
  unfolding open_answer answer_by answer_with
  open_mourned m = rw m

  open_free : M i ≡ false → any n (blockers_by n A M F i) ≡ false → open_answer (answer_by n A M F i) ≡ false
  unfolding open_answer answer_by answer_with
  open_free m b = rw (m, b)

-- ---- settled

-- where the unmourned places, all in `first`, have no blocker, and only there
pub settled_each : (n : ℕ) (A : Accepted) (M F : Row) (first : PlaceSet) → has first ≡ difference (below n) M → pass (λ i. not (any n (blockers_by n A M F i))) first ≡ settled_by n A M F
unfolding settled_by none_open
settled_each n A M F first e =
    both_ways _ _ (λ h. not_intro (none_any n (λ i. open_answer (answer_by n A M F i)) (λ i l. none h i l (M i) refl)))
    (λ h. pass_intro _ first (λ i m.
    let u = minus_elim (ltb i n) (M i) (sym (at i) ∙ m) in
    not_intro (is_false _ (λ b. clash (any_intro n (λ i. open_answer (answer_by n A M F i)) i (ltb-true i n u.0) (open_blocked n A M F i u.1 b)) (not_true _ h)))))
  where
    at : (i : ℕ) → has first i ≡ ltb i n && not (M i)
    at i = ap (λ (S : Places). S i) e

    none : pass (λ i. not (any n (blockers_by n A M F i))) first ≡ true → (i : ℕ) → i < n → (x : Bool) → M i ≡ x → open_answer (answer_by n A M F i) ≡ false
    none h i l true m = open_mourned n A M F i m
    none h i l false m = open_free n A M F i m (not_true _ (pass_elim _ first h i (at i ∙ minus_intro (lt-ltb i n l) m)))
