-- Reading into the caller's words: what each answer leaves there. Assumes nothing.
use Rattle.refusals.specs.Numbers.{number}
use Rattle.refusals.specs.declared.Refusal.{Refusal}
use Rattle.refusals.specs.declared.Refusal.TheVariants as R
use Rattle.std.specs.Prelude.{Option, Some, None, Result, Ok, Err}
use mathlib.Core.Path.{◌≡◌, refl, sym, ap, ◌∙◌}
use mathlib.Core.List.{List, [], ◌∷◌}
use Prim.Native.Nat.{ℕ, ◌*◌, ◌/◌}
use native.Mathlib.Omega.{arith}
use lib.ListN.{length, get_or, take, drop}
use Rattle.histories.specs.declared.Kind.{Kind}
use Rattle.serials.specs.declared.Serial.{Serial}
use Rattle.layouts.specs.Layout.{kind_byte}
use Rattle.layouts.specs.declared.Record.{Record}
use Rattle.layouts.specs.declared.Sight.{Sight}
use Rattle.layouts.specs.Desk.{Shown, roster_part, shown_to_desk, SameToRoster}
use Rattle.layouts.proofs.Desks.{nothing_behind, desk_faults, part_counted, part_long}
use Rattle.boundary.specs.Records.{record_words, read_code, read_words, sight_code, sight_words, shown_words, part_told}

-- the number of an answer, and the words after it
abbrev pub Told : Result Record Refusal → List ℕ → ℕ → List ℕ → Type 0
Told got out c after = (c ≡ read_code got) × (after ≡ read_words got out)

pub told_read : (got : Result Record Refusal) (out : List ℕ) (x : Record) (w : ℕ) → got ≡ Ok x → w ≡ kind_byte x.kind
    → Told got out 0 (w ∷ x.own.0 ∷ x.roster ∷ x.count ∷ x.mourned.low ∷ x.mourned.high ∷ x.next ∷ [])
unfolding read_code read_words record_words
told_read got out x w e f = rw (e, f) (refl, refl)

pub told_refused : (got : Result Record Refusal) (out : List ℕ) (j : Refusal) (c : ℕ) → c ≡ number j → got ≡ Err j → Told got out c out
unfolding read_code read_words
told_refused got out j c n e = rw e (n, refl)

pub told_same : (got as_read : Result Record Refusal) (out : List ℕ) (c : ℕ) (after : List ℕ) → got ≡ as_read → Told got out c after → Told as_read out c after
told_same got as_read out c after e t = rw (← e) t

-- ---- the ticket desk's four words

-- the number of an answer, the words after it, and the part that they tell
abbrev pub Sighted : Shown → List ℕ → List ℕ → ℕ → List ℕ → Type 0
Sighted x bytes out c after =
    (c ≡ sight_code x.answer) × ((after ≡ shown_words x out) × (c ≡ 0 → part_told after bytes ≡ x.roster))

module _ (alias : ℕ → ℕ) (bytes out : List ℕ) (answer : Result Sight Refusal) (e : answer ≡ (shown_to_desk alias bytes []).answer) where
  pub sighted_seen : (seen : Sight) (part : List ℕ) (w : ℕ) → answer ≡ Ok seen → part ≡ (shown_to_desk alias bytes []).roster → w ≡ kind_byte seen.kind
      → Sighted (shown_to_desk alias bytes []) bytes out 0 (w ∷ seen.own.0 ∷ 6 ∷ length part / 4 ∷ [])
  unfolding sight_code sight_words shown_words part_told roster_part
  sighted_seen seen part w f p k =
      let is : (shown_to_desk alias bytes []).answer ≡ Ok seen = sym e ∙ f in
      let n : length (shown_to_desk alias bytes []).roster / 4 ≡ get_or bytes 5 0 = omega (arith, part_long alias bytes [] seen.kind seen.own is) in
      rw (is, p, k) (refl, (refl, λ z. ap (λ (m : ℕ). take (m * 4) (drop 6 bytes)) n ∙ sym (part_counted alias bytes [] seen.kind seen.own is)))

  pub sighted_refused : (j : Refusal) (c : ℕ) → c ≡ number j → answer ≡ Err j → Sighted (shown_to_desk alias bytes []) bytes out c out
  unfolding sight_code sight_words shown_words
  sighted_refused j c n f =
      let is : (shown_to_desk alias bytes []).answer ≡ Err j = sym e ∙ f in
      rw is (n, (refl, λ z. absurd (omega (arith, n, (desk_faults alias bytes [] j is).0))))

-- what follows the roster's end changes neither the number nor the words
pub nothing_told_behind : (alias : ℕ → ℕ) (s t out : List ℕ) → SameToRoster s t
    → (sight_code (shown_to_desk alias s []).answer ≡ sight_code (shown_to_desk alias t []).answer) × (shown_words (shown_to_desk alias s []) out ≡ shown_words (shown_to_desk alias t []) out)
nothing_told_behind alias s t out same =
    let e : shown_to_desk alias s [] ≡ shown_to_desk alias t [] = nothing_behind alias s t [] same in
    (ap (λ (x : Shown). sight_code x.answer) e, ap (λ (x : Shown). shown_words x out) e)
