-- Writing a returned record, one law for each way in which the code returns. Assumes nothing.
use Rattle.refusals.specs.declared.Refusal.{Refusal}
use Rattle.refusals.specs.declared.Refusal.TheVariants as R
use Rattle.std.specs.Prelude.{Option, Some, None, Result, Ok, Err}
use mathlib.Core.Path.{◌≡◌, refl, sym, ap, ◌∙◌}
use mathlib.Core.Bool.{Bool, true, false, ◌&&◌}
use mathlib.Core.List.{List}
use Prim.Native.Nat.{ℕ, ◌≤◌, ◌<◌}
use native.Mathlib.Omega.{arith}
use lib.ListN.{length, take}
use borrow.Author.Tests.{lt-ltb, le-leb}
use Rattle.sets.specs.PlaceSets.{has}
use Rattle.sets.specs.declared.PlaceSet.{PlaceSet}
use Rattle.histories.specs.declared.Kind.{Kind}
use Rattle.histories.specs.Histories.{History}
use Rattle.layouts.specs.Records.{Written, unwritten, written}
use Rattle.answers.specs.Views.{size, kind_in, accepted_in, recorded_in}
use Rattle.answers.proofs.Views.{accepted_recorded, recorded_back}
use Rattle.calls.specs.declared.Recovery.{Recovery}
use Rattle.calls.specs.Promises.{size_of, roster_of, accepted_of, record_of, written_of}
use Rattle.calls.proofs.Calls.{written_off, written_absent}
use Rattle.calls.proofs.Keeps.{size_few}

module _ (r : Recovery) (p : ℕ) (out : List ℕ) (at : ℕ) where
  -- the answer and the buffer are those of writing
  abbrev pub Leaves : Result ℕ Refusal → List ℕ → Type 0
  Leaves a after = (a ≡ (written_of r p out at).answer) × (after ≡ (written_of r p out at).buffer)

  said : (j : Refusal) → written_of r p out at ≡ unwritten j out → Leaves (Err j) out
  unfolding unwritten
  said j e = (ap (λ (w : Written). w.answer) (sym e), ap (λ (w : Written). w.buffer) (sym e))

  pub write_12 : size_of r ≤ p → Leaves (Err R.OffRoster) out
  write_12 l = said R.OffRoster (written_off r refl p out at l)

  module _ (l : p < size_of r) where
    -- on the roster, who is back is who is in the set
    back_is : (accepted_of r).returned p ≡ has r.returned p
    unfolding accepted_of accepted_in size_of
    back_is = ap (λ (t : Bool). t && has r.returned p) (lt-ltb p (size r.count) l)

    pub write_14 : has r.returned p ≡ false → Leaves (Err R.NotAllowed) out
    write_14 e = said R.NotAllowed (written_absent r refl p out at l (back_is ∙ e))

    -- the records' writer lays down the accepted record
    writes : has r.returned p ≡ true → (n : ℕ) → n ≡ size_of r → n ≡ length (take n r.serials) → (row : PlaceSet) → has row ≡ recorded_in r.count (has r.returned) r.rows p
        → written ((accepted_of r).kind p) p (take n r.serials) (has row) out at ≡ written_of r p out at
    unfolding written written_of record_of roster_of accepted_of
    writes b n is all row e =
        let on : p < length (take n r.serials) = omega arith in
        let few : length (take n r.serials) ≤ 128 = omega (arith, size_few r) in
        let back : (accepted_of r).returned p ≡ true = back_is ∙ b in
        rw (lt-ltb p (length (take n r.serials)) on, le-leb (length (take n r.serials)) 128 few, lt-ltb p (size_of r) l, back, is, e ∙ sym (ap (λ (H : History). H p) (accepted_recorded r.count (has r.returned) (has r.full) r.rows)) ∙ sym (recorded_back (accepted_of r) p back))

    pub write_back : has r.returned p ≡ true → (n : ℕ) → n ≡ size_of r → n ≡ length (take n r.serials) → (row : PlaceSet) → has row ≡ recorded_in r.count (has r.returned) r.rows p
        → (k : Kind) → k ≡ kind_in (has r.full) p
        → (a : Result ℕ Refusal) (after : List ℕ) → (a ≡ (written k p (take n r.serials) (has row) out at).answer) × (after ≡ (written k p (take n r.serials) (has row) out at).buffer)
        → Leaves a after
    unfolding accepted_of accepted_in
    write_back b n is all row e k ek a after w =
        let f = ap (λ (j : Kind). written j p (take n r.serials) (has row) out at) ek ∙ writes b n is all row e in
        (w.0 ∙ ap (λ (w : Written). w.answer) f, w.1 ∙ ap (λ (w : Written). w.buffer) f)
