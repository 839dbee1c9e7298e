-- One law for each way in which judging returns. Assumes nothing.
use Rattle.refusals.specs.declared.Refusal.{Refusal}
use Rattle.refusals.specs.declared.Refusal.TheVariants as refusal
use Rattle.std.specs.Prelude.{Result, Ok, Err}
use mathlib.Core.Path.{◌≡◌, sym, ap, ap₂, ◌∙◌}
use mathlib.Core.Bool.{Bool, true, false, cond, ◌&&◌}
use mathlib.Core.List.{List}
use Prim.Native.Nat.{ℕ, ◌<◌}
use native.Mathlib.Omega.{arith}
use native.Mathlib.Decide.{dec_lt}
use lib.ListN.{take}
use Rattle.sets.specs.Sets.{Places, below, intersection, same}
use Rattle.sets.specs.PlaceSets.{has, kept}
use Rattle.sets.specs.declared.PlaceSet.{PlaceSet}
use Rattle.sets.proofs.Booleans.{is_false, both_ways}
use Rattle.sets.proofs.Tests.{same_elim, same_intro}
use Rattle.histories.specs.declared.Kind.{Kind}
use Rattle.histories.specs.Histories.{Row, History, Accepted}
use Rattle.histories.specs.Rule.{accepts}
use Rattle.layouts.specs.declared.Record.{Record}
use Rattle.layouts.specs.Records.{roster_is}
use Rattle.answers.specs.Views.{size, kind_in, accepted_in, recorded_in}
use Rattle.answers.proofs.Views.{size_at_most, roster_is_lem, accepted_on, accepted_recorded, cut_below, cut_same, recorded_back}
use Rattle.answers.specs.declared.Reply.TheVariants as O
use Rattle.answers.specs.Replies.{same_kind, entering, judgement}

-- ---- a record of the group

module _ (count : ℕ) (R U : Places) (w : List ℕ) (p : ℕ) (k : Kind) (M : Row) where
  abbrev A : Accepted
  A = accepted_in count R U w

  pub entering_back : A.returned p ≡ true → cond (same_kind k (A.kind p) && same (size count) M (A.row p)) (Ok O.Repeated) (Err refusal.OtherRecord) ≡ entering count R U w p k M
  unfolding entering
  entering_back e = sym (ap (λ (b : Bool). cond b (cond (same_kind k (A.kind p) && same (size count) M (A.row p)) (Ok O.Repeated) (Err refusal.OtherRecord)) (cond (accepts (size count) A p k M) (Ok O.Taken) (Err refusal.NoHistory))) e)

  pub entering_new : A.returned p ≡ false → (t : Bool) → accepts (size count) A p k M ≡ t → cond t (Ok O.Taken) (Err refusal.NoHistory) ≡ entering count R U w p k M
  unfolding entering
  entering_new e t a =
      sym (ap₂ (λ (b t : Bool). cond b (cond (same_kind k (A.kind p) && same (size count) M (A.row p)) (Ok O.Repeated) (Err refusal.OtherRecord)) (cond t (Ok O.Taken) (Err refusal.NoHistory))) e a)

-- the places back, as far as the roster goes
back_is : (count : ℕ) (U : Places) (w : List ℕ) (all r back : PlaceSet) → has all ≡ kept (below count) → has back ≡ intersection (has all) (has r) → has back ≡ (accepted_in count (has r) U w).returned
unfolding accepted_in
back_is count U w all r back e f = f ∙ ap (λ (S : Places). intersection S (has r)) (e ∙ roster_is_lem count)

-- whether p is back, by a test of that set
pub back_at : (count : ℕ) (U : Places) (w : List ℕ) (all r back : PlaceSet) (p : ℕ) (t v : Bool) → has all ≡ kept (below count) → has back ≡ intersection (has all) (has r)
    → t ≡ has back p → t ≡ v → (accepted_in count (has r) U w).returned p ≡ v
back_at count U w all r back p t v e f g h = sym (ap (λ (S : Places). S p) (back_is count U w all r back e f)) ∙ sym g ∙ h

-- a mourned set, cut to the roster, is the row of one that is back exactly where they agree below the roster's length
pub same_cut : (count : ℕ) (R U : Places) (w : List ℕ) (p : ℕ) (all m named row : PlaceSet) → (accepted_in count R U w).returned p ≡ true → has all ≡ kept (below count)
    → has named ≡ intersection (has all) (has m) → has row ≡ recorded_in count R w p
    → same 128 (has named) (has row) ≡ same (size count) (has m) ((accepted_in count R U w).row p)
same_cut count R U w p all m named row b e f g = both_ways _ _ to from
  where
    n : ℕ
    n = size count

    A : Accepted
    A = accepted_in count R U w

    roster : has all ≡ below n
    roster = e ∙ roster_is_lem count

    is_row : (q : ℕ) → has row q ≡ A.row p q
    is_row q = ap (λ (S : Places). S q) (g ∙ sym (ap (λ (H : History). H p) (accepted_recorded count R U w)) ∙ sym (recorded_back A p b))

    to : same 128 (has named) (has row) ≡ true → same n (has m) (A.row p) ≡ true
    to t =
        same_intro n (has m) (A.row p) (λ q l.
        sym (cut_same n all m named roster f q l) ∙ same_elim 128 (has named) (has row) t q (omega (arith, size_at_most count)) ∙ is_row q)

    from : same n (has m) (A.row p) ≡ true → same 128 (has named) (has row) ≡ true
    from t = same_intro 128 (has named) (has row) (λ q l. at q (dec_lt q n))
      where
        at : (q : ℕ) → Dec (q < n) → has named q ≡ has row q
        at q (yes l) = cut_same n all m named roster f q l ∙ same_elim n (has m) (A.row p) t q l ∙ sym (is_row q)
        at q (no l) =
            is_false (has named q) (λ h. l (cut_below n all m named roster f q h))
            ∙ sym (is_row q ∙ is_false (A.row p q) (λ h. l ((accepted_on count R U w).row_on p q h)))

-- the kind or the mourned set is another, or both are the same
module _ (k : Kind) (A : Accepted) (n p : ℕ) (M : Row) where
  pub again_kind : same_kind k (A.kind p) ≡ false → Err refusal.OtherRecord ≡ cond (same_kind k (A.kind p) && same n M (A.row p)) (Ok O.Repeated) (Err refusal.OtherRecord)
  again_kind e = rw e

  pub again_row : same_kind k (A.kind p) ≡ true → (t : Bool) → same n M (A.row p) ≡ t → cond t (Ok O.Repeated) (Err refusal.OtherRecord) ≡ cond (same_kind k (A.kind p) && same n M (A.row p)) (Ok O.Repeated) (Err refusal.OtherRecord)
  again_row e t f = rw (e, f)

pub kind_is : (count : ℕ) (R U : Places) (w : List ℕ) (p : ℕ) (k first : Kind) (s t : Bool) → first ≡ kind_in U p → s ≡ same_kind k first → s ≡ t → same_kind k ((accepted_in count R U w).kind p) ≡ t
unfolding accepted_in
kind_is count R U w p k first s t e f g = sym (ap (same_kind k) e) ∙ sym f ∙ g

-- ---- a record that was read

module _ (count : ℕ) (s : List ℕ) (R U : Places) (w b : List ℕ) (x : Record) (t : List ℕ) (f : t ≡ take (size count) s) where
  pub judged_roster : roster_is b x.roster x.count t ≡ false → Err refusal.OtherGroup ≡ judgement count s R U w b x
  unfolding judgement
  judged_roster g = rw (← f, g)

  pub judged_entering : roster_is b x.roster x.count t ≡ true → entering count R U w x.own.0 x.kind (has x.mourned) ≡ judgement count s R U w b x
  unfolding judgement
  judged_entering g = rw (← f, g)
