-- What the inner functions say of a recovery: who is absent, the kind of a numbered record, and its bytes in a buffer of 39, which every
-- record of at most four places fits. Assumes nothing.
use Rattle.refusals.specs.declared.Refusal.{Refusal}
use Rattle.std.specs.Prelude.{Option, Some, None, Result, Ok, Err}
use mathlib.Core.Path.{◌≡◌, refl, sym, ap, ap₂, ◌∙◌, fun_ext}
use mathlib.Core.Bool.{Bool, true, false, not, cond, ◌&&◌}
use mathlib.Core.List.{List, ◌++◌}
use Prim.Native.Nat.{ℕ, ◌+◌, ◌-◌, ◌/◌, ◌^◌, ◌≤◌, ◌<◌}
use native.Mathlib.Omega.{arith}
use lib.Dec.{ltb}
use lib.ListN.{length, take, drop, length-append}
use lib.Seq.{take-append_seam}
use borrow.Author.Tests.{lt-ltb, le-leb, ltb-true, ltb-false}
use Rattle.sets.specs.Sets.{Places, below, difference}
use Rattle.sets.specs.PlaceSets.{bit, has, kept}
use Rattle.sets.specs.declared.PlaceSet.{PlaceSet}
use Rattle.sets.proofs.Laws.{kept_all}
use Rattle.sets.proofs.Digits.{bit_zero, bit_high}
use Rattle.histories.specs.declared.Kind.{Kind}
use Rattle.answers.specs.Views.{size, accepted_in}
use Rattle.answers.proofs.Views.{size_at_most}
use Rattle.layouts.specs.Layout.{layout}
use Rattle.layouts.specs.Records.{Written, put_at, written_at, written}
use Rattle.layouts.proofs.Layouts.{length_layout, chosen_at_most}
use Rattle.calls.specs.declared.Recovery.{Recovery}
use Rattle.calls.specs.declared.Offered.{Offered}
use Rattle.calls.specs.Promises.{size_of, roster_of, accepted_of, offered}
use Rattle.answers.specs.declared.Reply.{Reply}
use Rattle.answers.specs.declared.Reply.TheVariants as O
use Rattle.games.specs.Games.{absent_of, kind_numbered, record_numbered, handed, is_taken}

-- ---- replies

module _ (a : Result Reply Refusal) where
  pub said_taken : a ≡ Ok O.Taken → true ≡ is_taken a
  unfolding is_taken
  said_taken e = rw e

  pub said_repeated : a ≡ Ok O.Repeated → false ≡ is_taken a
  unfolding is_taken
  said_repeated e = rw e

  pub said_refused : (j : Refusal) → a ≡ Err j → false ≡ is_taken a
  unfolding is_taken
  said_refused j e = rw e

-- ---- the absent places

pub absent_is : (r : Recovery) (n : ℕ) (all d : PlaceSet) → n ≡ size r.count → has all ≡ kept (below n) → has d ≡ difference (has all) (has r.returned) → has d ≡ absent_of r
unfolding absent_of accepted_of accepted_in size_of
absent_is r n all d is a e =
    e ∙ ap (λ (S : Places). difference S (has r.returned)) (a ∙ ap (λ (k : ℕ). kept (below k)) is ∙ kept_all (below (size r.count)) (λ k t. omega (arith, ltb-true k (size r.count) t, size_at_most r.count)))
    ∙ fun_ext (λ q. go (ltb q (size r.count)) (has r.returned q))
  where
    go : (a b : Bool) → a && not b ≡ a && not (a && b)
    go true b = refl
    go false b = refl

-- ---- a numbered record

-- the digits of a word are the members of the set that has it for its low word
pub low_digits : (x : ℕ) → x < 2 ^ 64 → has (record { low = x; high = 0 }) ≡ bit x
unfolding has
low_digits x h = fun_ext (λ k. go k (ltb k 64) (ltb k 128) refl)
  where
    go : (k : ℕ) (a b : Bool) → ltb k 64 ≡ a → cond a (bit x k) (cond b (bit 0 (k - 64)) false) ≡ bit x k
    go k true b e = refl
    go k false true e = bit_zero (k - 64) ∙ sym (bit_high x 64 k h (ltb-false k 64 e))
    go k false false e = sym (bit_high x 64 k h (ltb-false k 64 e))

-- the record of p with the number j, where the n serials of the roster are all there
module _ (r : Recovery) (p j : ℕ) (few : size_of r ≤ 4) (on : p < size_of r) (n : ℕ) (is : n ≡ size_of r) (all : n ≡ length (take n r.serials)) where
  abbrev bytes : List ℕ
  bytes = layout (record_numbered r p j)

  roster_is_lem : take n r.serials ≡ roster_of r
  unfolding roster_of
  roster_is_lem = ap (λ (k : ℕ). take k r.serials) is

  -- a record of at most four places has at most 39 bytes
  bytes_few : length bytes ≤ 39
  unfolding record_numbered
  bytes_few =
      omega (arith, length_layout (record_numbered r p j), chosen_at_most (bit (j / 2)) (roster_of r), ap length roster_is_lem)

  module _ (fits : j < 2 ^ 64) (k : Kind) (kind : k ≡ kind_numbered j) (out : List ℕ) (long : length out ≡ 39) where
    -- so it is laid down
    pub numbered_written : written k p (take n r.serials) (has (record { low = j / 2; high = 0 })) out 0 ≡ record { answer = Ok (0 + length bytes); buffer = put_at 0 bytes out }
    unfolding written written_at record_numbered
    numbered_written =
        let half : j / 2 < 2 ^ 64 = omega arith in
        let on_it : p < length (take n r.serials) = omega arith in
        let short : length (take n r.serials) ≤ 128 = omega arith in
        let room : 0 + length bytes ≤ length out = omega (arith, bytes_few) in
        rw (lt-ltb p (length (take n r.serials)) on_it, le-leb (length (take n r.serials)) 128 short, kind, low_digits (j / 2) half, roster_is_lem, le-leb (0 + length bytes) (length out) room)

    -- and what stands before its end is its bytes
    module _ (a : Result ℕ Refusal) (after : List ℕ)
        (w : (a ≡ (written k p (take n r.serials) (has (record { low = j / 2; high = 0 })) out 0).answer) × (after ≡ (written k p (take n r.serials) (has (record { low = j / 2; high = 0 })) out 0).buffer)) where
      answer_is : a ≡ Ok (0 + length bytes)
      answer_is = w.0 ∙ ap (λ (w : Written). w.answer) numbered_written

      after_is : after ≡ bytes ++ drop (0 + length bytes) out
      unfolding put_at
      after_is = w.1 ∙ ap (λ (w : Written). w.buffer) numbered_written

      module _ (end : ℕ) (e : a ≡ Ok end) where
        end_is : end ≡ length bytes
        end_is =
            let same : Ok (0 + length bytes) ≡ Ok end = sym answer_is ∙ e in
            let f : 0 + length bytes ≡ end = cc in
            omega arith

        pub end_inside : end ≤ length after
        end_inside = omega (arith, end_is, ap length after_is ∙ length-append bytes (drop (0 + length bytes) out))

        pub handed_is : (o : Offered) → o ≡ offered r (take end after) → o ≡ handed r p j
        unfolding handed
        handed_is o f = f ∙ ap (offered r) (ap₂ (λ (e : ℕ) (l : List ℕ). take e l) end_is after_is ∙ take-append_seam bytes (drop (0 + length bytes) out))

      -- it is not refused
      pub never_refused : {A : Type 0} (x : Refusal) → a ≡ Err x → A
      never_refused x e =
          let same : Ok (0 + length bytes) ≡ Err x = sym answer_is ∙ e in
          let z : ◌≡◌ {A = ℕ} 0 1 = cc in
          absurd (omega arith)
