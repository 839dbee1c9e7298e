-- A record is read the same, whatever follows the longest there is: 1,031 bytes are enough to read on. Assumes nothing.
use Rattle.refusals.specs.declared.Refusal.{Refusal}
use Rattle.refusals.specs.declared.Refusal.TheVariants as R
use Rattle.std.specs.Prelude.{Option, Some, None, Result, Ok, Err}
use mathlib.Core.Path.{◌≡◌, refl, ap, ap₂, ◌∙◌}
use mathlib.Core.Bool.{Bool, true, false, not}
use mathlib.Core.List.{List, [], ◌∷◌, ◌++◌}
use Prim.Native.Nat.{ℕ, zero, suc, ◌+◌, ◌-◌, ◌*◌, ◌≤◌}
use native.Mathlib.Omega.{arith}
use lib.ListN.{length, take, drop, length-append, length-drop}
use lib.Seq.{length-take-le, drop-append-le}
use lib.Dec.{eqb, leb}
use borrow.Author.Tests.{leb-true}
use Rattle.sets.specs.Sets.{Places, nothing, with}
use Rattle.sets.specs.PlaceSets.{packed}
use Rattle.serials.specs.Rosters.{holds}
use Rattle.serials.specs.Seconds.{itself}
use Rattle.layouts.specs.Layout.{Parsed, got, refused, then, check, byte, word_at, serial, known_kind, kind_of, kind_section, roster_serials, roster_section, is_on, place_on, head_section, mourned_serials, mourned_section, Stored, stored}
use Rattle.layouts.specs.Records.{reading_of, reading}
use Rattle.layouts.proofs.Layouts.{head_back}
use Rattle.layouts.proofs.Follows.{onto, then_onto, byte_onto, serial_four, serial_onto}
use Rattle.std.proofs.Common.{Result, Ok, Err, IfOk}
use Rattle.recover.specs.declared.window.Window.{Window}
use Rattle.recover.specs.Windows.{ahead, Inside, Enough}
use Rattle.recover.proofs.Windows.{length_ahead}

-- at most k bytes are gone
abbrev Leaves : {A : Type 0} → ℕ → List ℕ → Parsed A → Type 0
Leaves k s (got a rest) = length s ≤ length rest + k
Leaves k s (refused j) = Unit {0}

-- a section that looks at no more than k bytes
record Looks {A : Type 0} (k : ℕ) (p : List ℕ → Parsed A) : Type 0 where
  same : (s more : List ℕ) → k ≤ length s → p (s ++ more) ≡ onto more (p s)
  leaves : (s : List ℕ) → k ≤ length s → Leaves k s (p s)

looks_got : {A : Type 0} (a : A) → Looks 0 (λ s. got a s)
looks_got a = record { same = λ s more h. refl; leaves = λ s h. omega arith }

looks_check : {A : Type 0} (b : Bool) (j : Refusal) {k : ℕ} {p : List ℕ → Parsed A} → Looks k p → Looks k (λ s. check b j (p s))
unfolding check
looks_check true j f = f
looks_check false j f = record { same = λ s more h. refl; leaves = λ s h. tt }

looks_more : {A : Type 0} {k m : ℕ} {p : List ℕ → Parsed A} → k ≤ m → Looks k p → Looks m p
looks_more {A} {k} {m} {p} l f = record { same = λ s more h. f.same s more (omega arith); leaves = λ s h. go s (p s) (f.leaves s (omega arith)) }
  where
    go : (s : List ℕ) (q : Parsed A) → Leaves k s q → Leaves m s q
    go s (got a rest) e = omega arith
    go s (refused j) e = tt

-- one section after another, where the second is known to be short after what the first gave
module _ {A B : Type 0} {k m : ℕ} (p : List ℕ → Parsed A) (next : A → List ℕ → Parsed B) (f : Looks k p) where
  then_same : (s more : List ℕ) → k + m ≤ length s → ((a : A) (rest : List ℕ) → p s ≡ got a rest → Looks m (next a)) → then (p (s ++ more)) next ≡ onto more (then (p s) next)
  unfolding then
  then_same s more h g =
      then_onto more (p (s ++ more)) (p s) next (f.same s more (omega arith)) (λ a rest e. let l : Leaves k s (got a rest) = rw e at (f.leaves s (omega arith)) in (g a rest e).same rest more (omega arith))

  then_leaves : (s : List ℕ) → k + m ≤ length s → ((a : A) (rest : List ℕ) → p s ≡ got a rest → Looks m (next a)) → Leaves (k + m) s (then (p s) next)
  unfolding then
  then_leaves s h g = go (p s) refl (f.leaves s (omega arith))
    where
      last : (rest : List ℕ) (q : Parsed B) → length s ≤ length rest + k → Leaves m rest q → Leaves (k + m) s q
      last rest (got b t) l n = omega arith
      last rest (refused j) l n = tt

      go : (q : Parsed A) → p s ≡ q → Leaves k s q → Leaves (k + m) s (then q next)
      go (got a rest) e l = last rest (next a rest) l ((g a rest e).leaves rest (omega arith))
      go (refused j) e l = tt

  looks_then : ((a : A) → Looks m (next a)) → Looks (k + m) (λ s. then (p s) next)
  looks_then g = record { same = λ s more h. then_same s more h (λ a rest e. g a); leaves = λ s h. then_leaves s h (λ a rest e. g a) }

-- ---- the sections

looks_byte : Looks 1 byte
unfolding byte
looks_byte = record { same = byte_onto; leaves = leaves }
  where
    leaves : (s : List ℕ) → 1 ≤ length s → Leaves 1 s (byte s)
    leaves [] h = absurd (omega arith)
    leaves (x ∷ s) h = omega arith

looks_serial : Looks 4 serial
unfolding check
looks_serial = record { same = serial_onto; leaves = leaves }
  where
    spelt : (w a b c d : ℕ) (t : List ℕ) (v : Bool) → Leaves 4 (a ∷ b ∷ c ∷ d ∷ t) (check v R.ZeroSerial (got w t))
    spelt w a b c d t true = omega arith
    spelt w a b c d t false = tt

    leaves : (s : List ℕ) → 4 ≤ length s → Leaves 4 s (serial s)
    leaves [] h = absurd (omega arith)
    leaves (a ∷ []) h = absurd (omega arith)
    leaves (a ∷ b ∷ []) h = absurd (omega arith)
    leaves (a ∷ b ∷ c ∷ []) h = absurd (omega arith)
    leaves (a ∷ b ∷ c ∷ d ∷ t) h = let w : ℕ = word_at (a ∷ b ∷ c ∷ d ∷ []) 0 in rw (serial_four a b c d t) (spelt w a b c d t (not (eqb w 0)))

looks_kind : Looks 1 kind_section
unfolding kind_section
looks_kind = looks_then byte _ looks_byte (λ k. looks_check (known_kind k) R.UnknownKind (looks_got (kind_of k)))

looks_roster_serials : (n : ℕ) (seen : List ℕ) → Looks (4 * n) (roster_serials n seen)
unfolding roster_serials
looks_roster_serials zero seen = looks_got seen
looks_roster_serials (suc n) seen =
    looks_more (omega arith) (looks_then serial _ looks_serial (λ x. looks_check (not (holds x seen)) R.Twice (looks_roster_serials n (seen ++ (x ∷ [])))))

-- a count that is too large is refused at once
looks_few : {A : Type 0} (n most : ℕ) {p : List ℕ → Parsed A} → Looks (4 * n) p → Looks (4 * most) (λ s. check (leb n most) R.BadCount (p s))
unfolding check
looks_few {A} n most {p} f = go (leb n most) refl
  where
    go : (b : Bool) → leb n most ≡ b → Looks (4 * most) (λ s. check b R.BadCount (p s))
    go true e = let l : n ≤ most = leb-true n most e in looks_more (omega arith) f
    go false e = record { same = λ s more h. refl; leaves = λ s h. tt }

looks_roster : Looks 513 roster_section
unfolding roster_section
looks_roster = looks_then byte _ looks_byte (λ n. looks_check (leb 1 n) R.BadCount (looks_few n 128 (looks_roster_serials n [])))

looks_head : (alias : ℕ → ℕ) → Looks 518 (head_section alias)
unfolding head_section
looks_head alias =
    looks_then kind_section _ looks_kind (λ k. looks_then serial _ looks_serial (λ own. looks_then roster_section _ looks_roster (λ r. looks_check (is_on alias r own) R.NotOnRoster (looks_got _))))

looks_mourned_serials : (alias : ℕ → ℕ) (m : ℕ) (r : List ℕ) (from : ℕ) (M : Places) → Looks (4 * m) (mourned_serials alias m r from M)
unfolding mourned_serials
looks_mourned_serials alias zero r from M = looks_got M
looks_mourned_serials alias (suc m) r from M =
    looks_more (omega arith)
    (looks_then serial _ looks_serial (λ x. looks_check (is_on alias r x) R.NotOnRoster (looks_check (leb from (place_on alias r x)) R.OutOfOrder (looks_mourned_serials alias m r (suc (place_on alias r x)) (with (place_on alias r x) M)))))

looks_mourned : (alias : ℕ → ℕ) (r : List ℕ) → Looks (1 + 4 * length r) (mourned_section alias r)
unfolding mourned_section
looks_mourned alias r = looks_then byte _ looks_byte (λ m. looks_few m (length r) (looks_mourned_serials alias m r 0 nothing))

-- ---- a whole record

stored_more : (alias : ℕ → ℕ) (s more : List ℕ) → 1031 ≤ length s → stored alias (s ++ more) ≡ onto more (stored alias s)
unfolding stored
stored_more alias s more h =
    then_same {m = 513} (head_section alias) _ (looks_head alias) s more h (λ k rest e. looks_more (omega (arith, (head_back alias s k rest e).sound.few)) (looks_then (mourned_section alias k.roster) _ (looks_mourned alias k.roster) (λ M. looks_got _)))

-- 1,031 bytes from a position on are enough to read the record there
pub enough : (alias : ℕ → ℕ) (b more : List ℕ) (at : ℕ) → at + 1031 ≤ length b → reading alias (b ++ more) at ≡ reading alias b at
unfolding reading reading_of
enough alias b more at h =
    ap₂ (λ (n : ℕ) (p : Parsed Stored). reading_of n at p) (length-append b more)
    (ap (stored alias) (drop-append-le at b more (omega arith)) ∙ stored_more alias (drop at b) more (omega (arith, length-drop at b)))
    ∙ go (stored alias (drop at b))
  where
    go : (p : Parsed Stored) → reading_of (length b + length more) at (onto more p) ≡ reading_of (length b) at p
    go (got x rest) =
        let e : length b + length more - length (rest ++ more) ≡ length b - length rest = omega (arith, length-append rest more) in
        ap (λ (n : ℕ). Ok (record { kind = x.kind; own = record { 0 = x.own }; roster = at + 6; count = length x.roster; mourned = packed x.mourned; next = n })) e
    go (refused j) = refl

-- so a window that has them ahead has enough
pub window_enough : (w : Window) (b : List ℕ) → Inside w b → 1031 ≤ length (ahead w b) → Enough w b
window_enough w b i h more =
    enough itself (take w.have b) more w.at (omega (arith, length-take-le w.have b i.1, length_ahead w b i.1))

-- and so has one that the buffer was filled for, where the reading did not fail
pub filled_enough : {E : Type 0} (r : Result Window E) (b : List ℕ) (n : ℕ) → 1031 ≤ n → IfOk r (λ w. Inside w b)
    → IfOk r (λ w. w.ended ≡ false → length (ahead w b) ≡ n) → IfOk r (λ w. w.ended ≡ false → Enough w b)
filled_enough (Ok w) b n h i l = λ f. window_enough w b i (omega (arith, l f))
filled_enough (Err x) b n h i l = tt
