-- What each call gives, one law for each way in which the code returns. Assumes nothing.
use Rattle.refusals.specs.declared.Refusal.{Refusal}
use Rattle.refusals.specs.declared.Refusal.TheVariants as R
use Rattle.std.specs.Prelude.{Option, Some, None, Result, Ok, Err}
use Rattle.answers.specs.declared.Answer as declared
use mathlib.Core.Path.{◌≡◌, refl, sym, ap, ◌∙◌, fun_ext}
use mathlib.Core.Bool.{Bool, true, false, not, cond, ◌&&◌, ◌||◌}
use mathlib.Core.List.{List, [], ◌++◌}
use Prim.Native.Nat.{ℕ, ◌-◌, ◌<◌}
use native.Mathlib.Omega.{arith}
use lib.ListN.{length, get_or, replicate}
use lib.Dec.{eqb, ltb}
use borrow.Author.Tests.{ltb-true}
use Rattle.sets.specs.Sets.{Places, nothing, below, union, difference, with, count}
use Rattle.sets.specs.PlaceSets.{has, kept, Words, packed}
use Rattle.sets.specs.declared.PlaceSet.{PlaceSet}
use Rattle.sets.proofs.Booleans.{and_left}
use Rattle.sets.proofs.Counting.{count_within}
use Rattle.sets.proofs.Laws.{packed_is, kept_has}
use Rattle.histories.specs.declared.Kind.{Kind}
use Rattle.histories.specs.declared.Kind.TheVariants.{Full, Short}
use Rattle.histories.specs.Rule as rule
use Rattle.histories.specs.Kept as K
use Rattle.serials.specs.Rosters.{listed}
use Rattle.rows.specs.Rows.{no_rows, with_row}
use Rattle.answers.specs.Views.{size, accepted_in, answer_of}
use Rattle.answers.proofs.Views.{size_at_most}
use Rattle.answers.specs.Groups.{found_among, is_found, giving}
use Rattle.calls.proofs.Calls.{asked_is}
use Rattle.calls.specs.declared.Recovery.{Recovery}
use Rattle.calls.specs.Promises.{size_of, accepted_of, fresh, unopened, opened_as, opened, keeping_full, keeping_row, keeping, asked_as, asked, unmourned_of, unmourned_absent_of, unmourned_count_of, with_second, gave_as, given}

-- ---- opening

-- the set with no member is the packed one
none_packed : (e : PlaceSet) → Words e → has e ≡ nothing → e ≡ packed nothing
none_packed e w h = packed_is e nothing w h

pub fresh_is : (s serials : List ℕ) (e : PlaceSet) (w : List ℕ) → serials ≡ s ++ replicate (128 - length s) 0 → Words e → has e ≡ nothing → w ≡ no_rows
    → record { count = length s; serials = serials; seconds = replicate 128 0; returned = e; full = e; mourned = e; earlier = e; rows = w } ≡ fresh s
unfolding fresh
fresh_is s serials e w p we he q = λ i. record {
  count = length s;
  serials = p i;
  seconds = replicate 128 0;
  returned = none_packed e we he i;
  full = none_packed e we he i;
  mourned = none_packed e we he i;
  earlier = none_packed e we he i;
  rows = q i;
}

pub unopened_is : (j : Refusal) (e : PlaceSet) (w : List ℕ) → Words e → has e ≡ nothing → w ≡ no_rows
    → record { answer = Err j; recovery = record { count = 0; serials = replicate 128 0; seconds = replicate 128 0; returned = e; full = e; mourned = e; earlier = e; rows = w } } ≡ unopened j
unfolding unopened
unopened_is j e w we he q = ap (λ (r : Recovery). record { answer = Err j; recovery = r }) (fresh_is [] (replicate 128 0) e w refl we he q)

pub opened_sound : (s : List ℕ) (l : Result (Unit {0}) Refusal) → l ≡ listed s → l ≡ Ok tt → record { answer = Ok tt; recovery = fresh s } ≡ opened s
unfolding opened opened_as
opened_sound s l e f = rw (sym e ∙ f)

pub opened_refused : (s : List ℕ) (l : Result (Unit {0}) Refusal) (j : Refusal) → l ≡ listed s → l ≡ Err j → unopened j ≡ opened s
unfolding opened opened_as
opened_refused s l j e f = rw (sym e ∙ f)

-- ---- keeping

module _ (r : Recovery) (p : ℕ) (m : PlaceSet) where
  pub keep_full_is : (w g : PlaceSet) → Words w → Words g → has w ≡ kept (with p (has r.full)) → has g ≡ union (has r.earlier) (has m)
      → record { count = r.count; serials = r.serials; seconds = r.seconds; returned = r.returned; full = w; mourned = r.mourned; earlier = g; rows = r.rows } ≡ keeping_full r p (has m)
  unfolding keeping_full
  keep_full_is w g hw hg e f = λ i. record {
    count = r.count;
    serials = r.serials;
    seconds = r.seconds;
    returned = r.returned;
    full = packed_is w (with p (has r.full)) hw e i;
    mourned = r.mourned;
    earlier = packed_is g (union (has r.earlier) (has m)) hg (sym (kept_has g) ∙ ap kept f) i;
    rows = r.rows;
  }

  pub keep_row_is : (w g : PlaceSet) (t : List ℕ) → Words m → Words w → Words g → has w ≡ kept (with p (has r.returned))
      → has g ≡ union (has r.mourned) (has m) → t ≡ with_row r.rows p m
      → record { count = r.count; serials = r.serials; seconds = r.seconds; returned = w; full = r.full; mourned = g; earlier = r.earlier; rows = t } ≡ keeping_row r p (has m)
  unfolding keeping_row
  keep_row_is w g t hm hw hg e f q = λ i. record {
    count = r.count;
    serials = r.serials;
    seconds = r.seconds;
    returned = packed_is w (with p (has r.returned)) hw e i;
    full = r.full;
    mourned = packed_is g (union (has r.mourned) (has m)) hg (sym (kept_has g) ∙ ap kept f) i;
    earlier = r.earlier;
    rows = (q ∙ ap (with_row r.rows p) (packed_is m (has m) hm (sym (kept_has m)))) i;
  }

  pub keep_full : (k : Kind) (s t : Recovery) → k ≡ Full → s ≡ keeping_full r p (has m) → t ≡ keeping_row s p (has m) → t ≡ keeping r p k (has m)
  unfolding keeping
  keep_full k s t e f g = rw (e, g, f)

  pub keep_short : (k : Kind) (t : Recovery) → k ≡ Short → t ≡ keeping_row r p (has m) → t ≡ keeping r p k (has m)
  unfolding keeping
  keep_short k t e g = rw (e, g)

-- ---- giving

module _ (r : Recovery) (p x : ℕ) (v : Result (Unit {0}) Refusal) (e : v ≡ giving r.count r.serials r.seconds p x) where
  pub gave_given : (s : Recovery) → v ≡ Ok tt → s ≡ with_second r p x → record { answer = Ok tt; recovery = s } ≡ given r p x
  unfolding given gave_as
  gave_given s a f = rw (f, ← e, a)

  pub gave_refused : (j : Refusal) → v ≡ Err j → record { answer = Err j; recovery = r } ≡ given r p x
  unfolding given gave_as
  gave_refused j a = rw (← e, a)
  -- only a place of the roster is given one

pub gave_on : (count : ℕ) (serials seconds : List ℕ) (p x : ℕ) (v : Result (Unit {0}) Refusal) → v ≡ giving count serials seconds p x → v ≡ Ok tt → p < 128
unfolding giving
gave_on count serials seconds p x v e a = go (ltb p (size count)) refl (sym e ∙ a)
  where
    go : (t : Bool) → ltb p (size count) ≡ t → cond {A = Result (Unit {0}) Refusal} t (cond (eqb x 0) (Err R.ZeroSerial) (cond (is_found (found_among count serials seconds x) || not (eqb (get_or seconds p 0) 0)) (Err R.KnownSerial) (Ok tt))) (Err R.OffRoster) ≡ Ok tt → p < 128
    go true t h = let l : p < size count = ltb-true p (size count) t in omega (arith, size_at_most count)
    go false t h = let z : ◌≡◌ {A = ℕ} 0 1 = cc in absurd (omega arith)

-- ---- asking

pub asked_on : (r : Recovery) (n : ℕ) → size_of r ≡ n → (i : ℕ) → i < n → (b : declared.Answer) → b ≡ answer_of (K.answer_by n (accepted_of r) (has r.mourned) (has r.earlier) i) → Ok b ≡ asked r i
unfolding asked_as
asked_on r n is i h b e = ap (λ (a : declared.Answer). Ok a) e ∙ sym (asked_is r is i (K.answer_by n (accepted_of r) (has r.mourned) (has r.earlier) i) h refl)

-- ---- the sets and the number

unmourned_inside : (n k : ℕ) (m b : Bool) → (ltb k n && not m) && not b ≡ (ltb k n && not m) && not (ltb k n && b)
unmourned_inside n k m b = go (ltb k n)
  where
    go : (t : Bool) → (t && not m) && not b ≡ (t && not m) && not (t && b)
    go true = refl
    go false = refl

pub absent_set : (r : Recovery) (u d : PlaceSet) → has u ≡ unmourned_of r → has d ≡ difference (has u) (has r.returned) → has d ≡ unmourned_absent_of r
unfolding unmourned_of unmourned_absent_of accepted_of accepted_in size_of
absent_set r u d e f =
    f ∙ ap (λ (U : Places). difference U (has r.returned)) e ∙ fun_ext (λ k. unmourned_inside (size r.count) k (has r.mourned k) (has r.returned k))

pub count_set : (r : Recovery) (u : PlaceSet) (c : ℕ) → has u ≡ unmourned_of r → c ≡ count 128 (has u) → c ≡ unmourned_count_of r
unfolding unmourned_of unmourned_count_of size_of
count_set r u c e f =
    f ∙ ap (count 128) e
    ∙ count_within (size r.count) 128 (difference (below (size r.count)) (has r.mourned)) (size_at_most r.count)
    (λ k t. ltb-true k (size r.count) (and_left (ltb k (size r.count)) (not (has r.mourned k)) t))
