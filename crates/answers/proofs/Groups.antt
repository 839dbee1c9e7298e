-- Laws of a group's serials: how many go by, and one law for each answer. Assumes nothing.
use Rattle.refusals.specs.declared.Refusal.{Refusal}
use Rattle.refusals.specs.declared.Refusal.TheVariants as R
use Rattle.std.specs.Prelude.{Option, Some, None, Result, Ok, Err}
use mathlib.Core.Path.{◌≡◌, refl, sym, ap, ap₂, ◌∙◌}
use mathlib.Core.Bool.{Bool, true, false, not, cond, ◌||◌}
use mathlib.Core.List.{List}
use Prim.Native.Nat.{ℕ, ◌≤◌, ◌<◌}
use native.Mathlib.Omega.{arith}
use lib.ListN.{length, get_or, take, get_or-eq_default}
use lib.Seq.{length-take-le, take-length, take_all}
use lib.Dec.{eqb, ltb}
use borrow.Author.Tests.{lt-ltb, le-ltb, eq-eqb, ne_eqb, ltb-true, ltb-false}
use Rattle.serials.specs.Seconds.{counts_as, finding, finding_from}
use Rattle.serials.specs.declared.Finding.{Finding}
use Rattle.serials.proofs.Seconds.{finding_start}
use Rattle.layouts.specs.declared.Record.{Record}
use Rattle.layouts.specs.Records.{reading_lone}
use Rattle.answers.specs.Views.{size}
use Rattle.answers.specs.Groups.{roster_length, alias_in, found_among, is_found, giving}

-- ---- how many serials go by

module _ (count there : ℕ) where
  pub length_size : (n : ℕ) → n ≡ size count → n < there → n ≡ roster_length count there
  unfolding roster_length
  length_size n e l =
      let m : size count < there = omega (arith, e) in
      sym (ap (λ (b : Bool). cond b (size count) there) (lt-ltb (size count) there m) ∙ sym e)

  pub length_there : (n : ℕ) → n ≡ size count → there ≤ n → there ≡ roster_length count there
  unfolding roster_length
  length_there n e l =
      let m : there ≤ size count = omega (arith, e) in
      sym (ap (λ (b : Bool). cond b (size count) there) (le-ltb (size count) there m))

module _ (count : ℕ) (s : List ℕ) (m : ℕ) (e : m ≡ roster_length count (length s)) where
  pub length_within : m ≤ length s
  unfolding roster_length
  length_within = go (ltb (size count) (length s)) refl e
    where
      go : (b : Bool) → ltb (size count) (length s) ≡ b → m ≡ cond b (size count) (length s) → m ≤ length s
      go true t e = let l : size count < length s = ltb-true (size count) (length s) t in omega (arith, e)
      go false t e = omega (arith, e)

  pub take_roster : take m s ≡ take (size count) s
  unfolding roster_length
  take_roster = go (ltb (size count) (length s)) refl e
    where
      go : (b : Bool) → ltb (size count) (length s) ≡ b → m ≡ cond b (size count) (length s) → take m s ≡ take (size count) s
      go true t e = ap (λ (k : ℕ). take k s) e
      go false t e =
          let l : length s ≤ size count = ltb-false (size count) (length s) t in
          ap (λ (k : ℕ). take k s) e ∙ take-length s ∙ sym (take_all (size count) s l)

  pub length_taken : m ≡ length (take m s)
  length_taken = sym (length-take-le m s length_within)

-- ---- finding and reading by the serials that go by

module _ (count : ℕ) (serials seconds : List ℕ) (m n : ℕ) (e : m ≡ roster_length count (length serials)) (d : n ≡ roster_length count (length seconds)) where
  pub found_by : (x : ℕ) (f : Option Finding) → f ≡ finding_from (counts_as (take m serials) (take n seconds)) 0 (take m serials) x → f ≡ found_among count serials seconds x
  unfolding found_among alias_in
  found_by x f h =
      h ∙ finding_start (counts_as (take m serials) (take n seconds)) (take m serials) x
      ∙ ap₂ (λ (r s : List ℕ). finding (counts_as r s) r x) (take_roster count serials m e) (take_roster count seconds n d)

  pub read_by : (b : List ℕ) (r : Result Record Refusal) → r ≡ reading_lone (counts_as (take m serials) (take n seconds)) b → r ≡ reading_lone (alias_in count serials seconds) b
  unfolding alias_in
  read_by b r h = h ∙ ap₂ (λ (r s : List ℕ). reading_lone (counts_as r s) b) (take_roster count serials m e) (take_roster count seconds n d)

-- ---- giving

-- a place that the second serials do not reach has none
pub second_past : (seconds : List ℕ) (p : ℕ) → length seconds ≤ p → false ≡ not (eqb (get_or seconds p 0) 0)
second_past seconds p l = sym (ap (λ (x : ℕ). not (eqb x 0)) (get_or-eq_default seconds 0 l))

module _ (count : ℕ) (serials seconds : List ℕ) (p x : ℕ) where
  pub give_off : size count ≤ p → Err R.OffRoster ≡ giving count serials seconds p x
  unfolding giving
  give_off l = rw (le-ltb p (size count) l)

  module _ (on : p < size count) where
    pub give_zero : x ≡ 0 → Err R.ZeroSerial ≡ giving count serials seconds p x
    unfolding giving
    give_zero z = rw (lt-ltb p (size count) on, eq-eqb x 0 z)

    module _ (z : ¬ (x ≡ 0)) where
      tested : (known has : Bool) → is_found (found_among count serials seconds x) ≡ known → not (eqb (get_or seconds p 0) 0) ≡ has
          → giving count serials seconds p x ≡ cond (known || has) (Err R.KnownSerial) (Ok tt)
      unfolding giving
      tested known has e h = rw (lt-ltb p (size count) on, ne_eqb x 0 z, e, h)

      pub give_known : is_found (found_among count serials seconds x) ≡ true → Err R.KnownSerial ≡ giving count serials seconds p x
      give_known e = sym (tested true (not (eqb (get_or seconds p 0) 0)) e refl)

      module _ (e : is_found (found_among count serials seconds x) ≡ false) where
        pub give_has : not (eqb (get_or seconds p 0) 0) ≡ true → Err R.KnownSerial ≡ giving count serials seconds p x
        give_has h = sym (tested false true e h)

        pub give_new : not (eqb (get_or seconds p 0) 0) ≡ false → Ok tt ≡ giving count serials seconds p x
        give_new h = sym (tested false false e h)
