-- A whole record: its head and its mourned section joined, and the lone one. Assumes nothing.
use Rattle.refusals.specs.declared.Refusal.{Refusal}
use Rattle.refusals.specs.declared.Refusal.TheVariants as R
use Rattle.std.specs.Prelude.{Result, Ok, Err}
use mathlib.Core.Path.{◌≡◌, refl, sym, ap, ◌∙◌}
use mathlib.Core.List.{List, [], ◌∷◌}
use Prim.Native.Nat.{ℕ, ◌+◌, ◌-◌, ◌*◌, ◌≤◌, ◌<◌}
use native.Mathlib.Omega.{arith}
use lib.Dec.{eqb}
use lib.ListN.{length, take, drop, length-drop}
use borrow.Author.Tests.{eq-eqb, ne_eqb}
use Rattle.sets.specs.Sets.{Places}
use Rattle.sets.specs.PlaceSets.{has, Words, packed}
use Rattle.sets.specs.declared.PlaceSet.{PlaceSet}
use Rattle.sets.proofs.Laws.{packed_is, kept_has}
use Rattle.layouts.specs.declared.Record.{Record}
use Rattle.layouts.specs.declared.Top.{Top}
use Rattle.layouts.specs.declared.Tail.{Tail}
use Rattle.layouts.specs.Layout.{Parsed, got, refused, then, check, byte, kind_section, Head, head_section, mourned_section, Stored, stored, lone}
use Rattle.layouts.specs.Records.{reading_of, reading, reading_lone}
use Rattle.layouts.specs.Parts.{head_of, tail_of}
use Rattle.layouts.proofs.Sections.{check_yes, check_no}

-- the words of a set are those of its members
repacked : (m : PlaceSet) → Words m → packed (has m) ≡ m
repacked m w = sym (packed_is m (has m) w (sym (kept_has m)))

-- ---- head and tail

module _ (alias : ℕ → ℕ) (b : List ℕ) (at : ℕ) (x : Result Top Refusal) (list : List ℕ) (sec : head_section alias (drop at b) ≡ head_of x b list) where
  joined : Head → List ℕ → Parsed Stored
  joined h s₁ =
      then (mourned_section alias h.roster s₁) (λ M s₂. got (record { kind = h.kind; own = h.place; roster = h.roster; mourned = M }) s₂)

  headed : (q : Parsed Head) → head_of x b list ≡ q → reading alias b at ≡ reading_of (length b) at (then q joined)
  unfolding reading stored joined
  headed q e = ap (λ (z : Parsed Head). reading_of (length b) at (then z joined)) (sec ∙ e)

  pub read_no_head : (j : Refusal) → x ≡ Err j → Err j ≡ reading alias b at
  unfolding head_of then reading_of
  read_no_head j e = sym (headed (refused j) (ap (λ (z : Result Top Refusal). head_of z b list) e))

  module _ (h : Top) (e : x ≡ Ok h) (y : Result Tail Refusal) (q : mourned_section alias (take h.count list) (drop (h.roster + h.count * 4) b) ≡ tail_of y b) where
    parted : reading alias b at
        ≡ reading_of (length b) at (then (tail_of y b) (λ M s₂. got (record { kind = h.kind; own = h.place.0; roster = take h.count list; mourned = M }) s₂))
    unfolding head_of then joined
    parted =
        headed (got (record { kind = h.kind; own = h.own.0; place = h.place.0; roster = take h.count list }) (drop (h.roster + h.count * 4) b)) (ap (λ (z : Result Top Refusal). head_of z b list) e)
        ∙ ap (λ (z : Parsed Places). reading_of (length b) at (then z (λ M s₂. got (record { kind = h.kind; own = h.place.0; roster = take h.count list; mourned = M }) s₂))) q

    pub read_no_tail : (j : Refusal) → y ≡ Err j → Err j ≡ reading alias b at
    unfolding tail_of then reading_of
    read_no_tail j d = sym (parted ∙ rw d)

    pub read_whole : (m : PlaceSet) (next : ℕ) → y ≡ Ok (record { mourned = m; next = next }) → Words m → next ≤ length b → h.roster ≡ at + 6 → length (take h.count list) ≡ h.count
        → Ok (record { kind = h.kind; own = h.place; roster = h.roster; count = h.count; mourned = m; next = next }) ≡ reading alias b at
    unfolding tail_of then reading_of
    read_whole m next d w n s l =
        let k : length b - length (drop next b) ≡ next = omega (arith, length-drop next b) in
        sym (parted ∙ rw (d, repacked m w, k, l, ← s))

-- ---- a lone record

lone_of : Stored → List ℕ → Parsed Stored
lone_of x s₁ = check (eqb (length s₁) 0) R.BytesAfter (got x s₁)

-- an empty input has no record, so where one was read there is a byte
some_byte : (alias : ℕ → ℕ) (b : List ℕ) (x : Stored) (s : List ℕ) → stored alias b ≡ got x s → 0 < length b
unfolding stored head_section kind_section byte then
some_byte alias [] x s e = let z : ◌≡◌ {A = ℕ} 0 1 = cc in absurd (omega arith)
some_byte alias (y ∷ b) x s e = omega arith

next_of : Result Record Refusal → ℕ
next_of (Ok r) = r.next
next_of (Err j) = 0

module _ (alias : ℕ → ℕ) (b : List ℕ) where
  first_is : (q : Parsed Stored) → stored alias b ≡ q → reading alias b 0 ≡ reading_of (length b) 0 q
  unfolding reading
  first_is q e = ap (reading_of (length b) 0) e

  lone_is : (q : Parsed Stored) → stored alias b ≡ q → reading_lone alias b ≡ reading_of (length b) 0 (then q lone_of)
  unfolding reading_lone lone lone_of
  lone_is q e = ap (λ (z : Parsed Stored). reading_of (length b) 0 (then z lone_of)) e

  pub lone_refused : (j : Refusal) → reading alias b 0 ≡ Err j → Err j ≡ reading_lone alias b
  unfolding reading_of then
  lone_refused j e = go (stored alias b) refl
    where
      go : (q : Parsed Stored) → stored alias b ≡ q → Err j ≡ reading_lone alias b
      go (got x s) w = let z : ◌≡◌ {A = ℕ} 0 1 = cc (first_is (got x s) w) in absurd (omega arith)
      go (refused i) w = sym e ∙ first_is (refused i) w ∙ sym (lone_is (refused i) w)

  module _ (r : Record) (e : reading alias b 0 ≡ Ok r) where
    next_is : (x : Stored) (s : List ℕ) → stored alias b ≡ got x s → r.next ≡ length b - length s
    unfolding reading_of next_of
    next_is x s w = ap next_of (sym e ∙ first_is (got x s) w)

    pub lone_more : (r.next ≡ length b → ⊥) → Err R.BytesAfter ≡ reading_lone alias b
    unfolding reading_of then lone_of
    lone_more n = go (stored alias b) refl
      where
        go : (q : Parsed Stored) → stored alias b ≡ q → Err R.BytesAfter ≡ reading_lone alias b
        go (got x s) w =
            let m : length s ≡ 0 → ⊥ = λ z. n (omega (arith, next_is x s w)) in
            sym (lone_is (got x s) w ∙ rw (check_no (eqb (length s) 0) R.BytesAfter (got x s) (ne_eqb (length s) 0 m)))
        go (refused i) w = let z : ◌≡◌ {A = ℕ} 0 1 = cc (first_is (refused i) w) in absurd (omega arith)

    pub lone_read : r.next ≡ length b → Ok r ≡ reading_lone alias b
    unfolding reading_of then lone_of
    lone_read n = go (stored alias b) refl
      where
        go : (q : Parsed Stored) → stored alias b ≡ q → Ok r ≡ reading_lone alias b
        go (got x s) w =
            let m : length s ≡ 0 = omega (arith, next_is x s w, some_byte alias b x s w) in
            sym e ∙ first_is (got x s) w ∙ sym (lone_is (got x s) w ∙ rw (check_yes (eqb (length s) 0) R.BytesAfter (got x s) (eq-eqb (length s) 0 m)))
        go (refused i) w = let z : ◌≡◌ {A = ℕ} 0 1 = cc (first_is (refused i) w) in absurd (omega arith)
