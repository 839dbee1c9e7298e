-- A roster's serials judged all at once: the first fault of those that are there, then that some are missing. The parser, which goes serial by serial, refuses by the same number. Assumes nothing.
use Rattle.refusals.specs.declared.Refusal.{Refusal}
use Rattle.refusals.specs.declared.Refusal.TheVariants as R
use Rattle.std.specs.Prelude.{Result, Ok, Err, OnOk}
use mathlib.Core.Path.{◌≡◌, refl, sym, ap, ◌∙◌}
use mathlib.Core.Bool.{Bool, true, false, not}
use mathlib.Core.List.{List, [], ◌∷◌, ◌++◌, append_assoc, append-nil}
use Prim.Native.Nat.{ℕ, zero, suc, ◌+◌, ◌*◌, ◌≤◌, ◌<◌}
use native.Mathlib.Omega.{arith}
use lib.Dec.{eqb, ltb, leb-suc-suc}
use lib.ListN.{length, get_or, take, drop, length-drop}
use lib.Seq.{drop-drop, take_all}
use borrow.Author.Tests.{lt-ltb, le-ltb, eqb-true, eqb-false, ne_eqb, ltb-true, ltb-false}
use Rattle.serials.specs.Rosters.{place_of, holds, first_repeat, first_fault}
use Rattle.serials.proofs.Rosters.{past_holds, fault_nil, fault_zero, fault_twice, fault_new, fault_none, fault_some}
use Rattle.serials.specs.Orders.{rising}
use Rattle.serials.proofs.Orders.{rising_zero, rising_repeat}
use Rattle.layouts.specs.Layout.{Parsed, got, then, check, word_at, serial, roster_serials}
use Rattle.layouts.specs.Records.{serials, roster_is}
use Rattle.layouts.specs.Parts.{section_by, unless_cut, roster_fault, Rostered, Like}
use Rattle.layouts.proofs.Sections.{check_yes, check_no, serial_early, serial_zero, serial_got, length_serials}
use Rattle.layouts.proofs.Lists.{laid_take, is_the_list}

-- what holds where a fault is none holds of `Ok`
pub on_ok : {P : Type 0} (f : Result (Unit {0}) Refusal) → (f ≡ Ok tt → P) → OnOk f P
on_ok (Ok tt) h = h refl
on_ok (Err j) h = tt

-- ---- the first fault, by which test decides

module _ (n : ℕ) (seen s : List ℕ) where
  pub fault_there : (j : Refusal) → first_fault seen s ≡ Err j → roster_fault n seen s ≡ Err j
  unfolding roster_fault unless_cut
  fault_there j h = rw h

  module _ (none : first_fault seen s ≡ Ok tt) where
    pub fault_cut : length s < n → roster_fault n seen s ≡ Err R.EndsEarly
    unfolding roster_fault unless_cut
    fault_cut h = rw (none, lt-ltb (length s) n h)

    pub fault_none_there : n ≤ length s → roster_fault n seen s ≡ Ok tt
    unfolding roster_fault unless_cut
    fault_none_there h = rw (none, le-ltb (length s) n h)

-- ---- by the first serial

module _ (n : ℕ) (seen : List ℕ) (x : ℕ) (t : List ℕ) where
  rest_zero : x ≡ 0 → roster_fault (suc n) seen (x ∷ t) ≡ Err R.ZeroSerial
  rest_zero z = fault_there (suc n) seen (x ∷ t) R.ZeroSerial (fault_zero seen x t z)

  module _ (z : x ≡ 0 → ⊥) where
    rest_twice : holds x seen ≡ true → roster_fault (suc n) seen (x ∷ t) ≡ Err R.Twice
    rest_twice h = fault_there (suc n) seen (x ∷ t) R.Twice (fault_twice seen x t z h)

    rest_later : holds x seen ≡ false → roster_fault (suc n) seen (x ∷ t) ≡ roster_fault n (seen ++ (x ∷ [])) t
    unfolding roster_fault unless_cut
    rest_later e = rw (fault_new seen x t z e, leb-suc-suc (suc (length t)) n)

-- one serial that is there, and the parser after it
next : ℕ → List ℕ → ℕ → List ℕ → Parsed (List ℕ)
next n seen y s₁ = check (not (holds y seen)) R.Twice (roster_serials n (seen ++ (y ∷ [])) s₁)

module _ (n m : ℕ) (seen s : List ℕ) (l : 4 ≤ length s)
    (later : roster_serials n (seen ++ (word_at s 0 ∷ [])) (drop 4 s)
    ≡ section_by (roster_fault n (seen ++ (word_at s 0 ∷ [])) (serials m (drop 4 s))) (λ _. (seen ++ (word_at s 0 ∷ [])) ++ serials n (drop 4 s)) (λ _. drop (n * 4) (drop 4 s))) where
  one : (a b : Bool) → eqb (word_at s 0) 0 ≡ a → holds (word_at s 0) seen ≡ b
      → then (serial s) (next n seen) ≡ section_by (roster_fault (suc n) seen ((word_at s 0) ∷ serials m (drop 4 s))) (λ _. seen ++ ((word_at s 0) ∷ serials n (drop 4 s))) (λ _. drop (suc n * 4) s)
  unfolding next section_by
  one true b p q =
      let z : word_at s 0 ≡ 0 = eqb-true (word_at s 0) 0 p in
      serial_zero s 0 (next n seen) l (word_at s 0) refl z ∙ rw (rest_zero n seen (word_at s 0) (serials m (drop 4 s)) z)
  one false true p q =
      let z : word_at s 0 ≡ 0 → ⊥ = eqb-false (word_at s 0) 0 p in
      serial_got s 0 (next n seen) l (word_at s 0) refl z ∙ check_no (not (holds (word_at s 0) seen)) R.Twice _ (ap not q) ∙ rw (rest_twice n seen (word_at s 0) (serials m (drop 4 s)) z q)
  one false false p q =
      let z : word_at s 0 ≡ 0 → ⊥ = eqb-false (word_at s 0) 0 p in
      let e : 4 + n * 4 ≡ suc n * 4 = omega arith in
      serial_got s 0 (next n seen) l (word_at s 0) refl z ∙ check_yes (not (holds (word_at s 0) seen)) R.Twice _ (ap not q) ∙ later
      ∙ rw (rest_later n seen (word_at s 0) (serials m (drop 4 s)) z q, append_assoc, drop-drop, e)

-- the m serials that are there decide
pub roster_judged : (n m : ℕ) (seen s : List ℕ) → m ≤ n → m * 4 ≤ length s → (m < n → length s < m * 4 + 4)
    → roster_serials n seen s ≡ section_by (roster_fault n seen (serials m s)) (λ _. seen ++ serials n s) (λ _. drop (n * 4) s)
unfolding roster_serials serials next section_by
roster_judged zero zero seen s h l e = rw (fault_none_there 0 seen [] (fault_nil seen) (omega arith), append-nil seen)
roster_judged zero (suc m) seen s h l e = absurd (omega arith)
roster_judged (suc n) zero seen s h l e = serial_early s 0 (next n seen) (omega (arith, e (omega arith))) ∙ rw (fault_cut (suc n) seen [] (fault_nil seen) (omega arith))
roster_judged (suc n) (suc m) seen s h l e =
    one n m seen s (omega arith)
    (roster_judged n m (seen ++ (word_at s 0 ∷ [])) (drop 4 s) (omega arith) (omega (arith, length-drop 4 s)) (λ k. omega (arith, length-drop 4 s, e (omega arith))))
    (eqb (word_at s 0) 0) (holds (word_at s 0) seen) refl refl

-- at a position of the bytes
pub judged_at : (b : List ℕ) (at n m : ℕ) → m ≤ n → at + m * 4 ≤ length b → (m < n → length b < at + m * 4 + 4)
    → roster_serials n [] (drop at b) ≡ section_by (roster_fault n [] (serials m (drop at b))) (λ _. serials n (drop at b)) (λ _. drop (at + n * 4) b)
judged_at b at n m h l e =
    roster_judged n m [] (drop at b) h (omega (arith, length-drop at b)) (λ k. omega (arith, length-drop at b, e k)) ∙ rw drop-drop

-- no fault: all are there, and none stands twice
pub faultless : (n : ℕ) (s : List ℕ) → length s ≤ n → roster_fault n [] s ≡ Ok tt → (length s ≡ n) × (first_repeat [] s ≡ length s)
faultless n s h e = go (first_fault [] s) refl (ltb (length s) n) refl
  where
    go : (f : Result (Unit {0}) Refusal) → first_fault [] s ≡ f → (b : Bool) → ltb (length s) n ≡ b → (length s ≡ n) × (first_repeat [] s ≡ length s)
    go (Err j) p b q = cc (fault_there n [] s j p)
    go (Ok tt) p true q = cc (fault_cut n [] s p (ltb-true _ _ q))
    go (Ok tt) p false q =
        let m : n ≤ length s = ltb-false (length s) n q in
        (omega arith, (fault_none [] s p).1)

-- ---- the roster of a record, which is a list without zero and repeat

-- all there, none 0, none twice
sound : (s : List ℕ) → place_of 0 s ≡ length s → first_repeat [] s ≡ length s → roster_fault (length s) [] s ≡ Ok tt
sound s z d = fault_none_there (length s) [] s (go (first_fault [] s) refl) (omega arith)
  where
    go : (f : Result (Unit {0}) Refusal) → first_fault [] s ≡ f → first_fault [] s ≡ Ok tt
    go (Ok tt) e = e
    go (Err j) e = absurd (omega (arith, d, fault_some [] s (λ h. cc) (past_holds 0 s (omega arith))))

pub like_is : (b : List ℕ) (at n : ℕ) (list order : List ℕ) → at < length b → n ≡ get_or b at 0 → 1 ≤ n → n ≤ 128
    → roster_is b (at + 1) n list ≡ true → rising list order ≡ true → Like b at list
unfolding section_by
like_is b at n list order i c s f e r =
    let w = is_the_list b (at + 1) n list e in
    let l : length list ≡ n = ap length (sym w.1) ∙ length_serials n (drop (at + 1) b) in
    let t : take n list ≡ list = take_all n list (omega arith) in
    let none : roster_fault n [] list ≡ Ok tt = rw (← l) (sound list (rising_zero list order r) (rising_repeat list order r)) in
    let parsed : roster_serials n [] (drop (at + 1) b) ≡ got list (drop (at + 1 + n * 4) b) =
    judged_at b (at + 1) n n (omega arith) w.0 (λ k. absurd (omega arith)) ∙ rw (w.1, none) in
    record {
      inside = i;
      some = rw (← c) s;
      few = rw (← c) f;
      parsed = rw (← c, l, t) parsed;
      rostered = rw l (record { there = w.0; few = f; long = rw t l; single = rw t (rising_repeat list order r) });
    }

-- ---- the roster of a record, decoded into the front of a list

-- m of n serials are there and stand at the front of the list, and f is their first fault
module _ (b : List ℕ) (at n m : ℕ) (before now : List ℕ) (most : m ≤ n) (there : at + m * 4 ≤ length b) (missing : m < n → length b < at + m * 4 + 4)
    (few : n ≤ 128) (laid : now ≡ serials m (drop at b) ++ drop m before) (f : Result (Unit {0}) Refusal) (fault : f ≡ roster_fault n [] (take m now)) where
  front : take m now ≡ serials m (drop at b)
  front = laid_take b at m before now laid

  none : f ≡ Ok tt → (m ≡ n) × (first_repeat [] (serials m (drop at b)) ≡ length (serials m (drop at b)))
  none e =
      let l : length (serials m (drop at b)) ≡ m = length_serials m (drop at b) in
      let w = faultless n (serials m (drop at b)) (omega arith) (sym (fault ∙ ap (roster_fault n []) front) ∙ e) in
      (sym l ∙ w.0, w.1)

  -- the parser gives the front of the list, or the fault
  pub roster_parsed : roster_serials n [] (drop at b) ≡ section_by f (λ _. take n now) (λ _. drop (at + n * 4) b)
  unfolding section_by
  roster_parsed = judged_at b at n m most there missing ∙ ap (λ (g : Result (Unit {0}) Refusal). section_by g (λ _. serials n (drop at b)) (λ _. drop (at + n * 4) b)) (sym (fault ∙ ap (roster_fault n []) front)) ∙ go f refl
    where
      go : (g : Result (Unit {0}) Refusal) → f ≡ g → section_by f (λ _. serials n (drop at b)) (λ _. drop (at + n * 4) b) ≡ section_by f (λ _. take n now) (λ _. drop (at + n * 4) b)
      go (Ok tt) e = rw (e, ← (none e).0, front)
      go (Err j) e = rw e

  pub roster_rostered : f ≡ Ok tt → Rostered b at n now
  roster_rostered e =
      let w = none e in
      let same : take n now ≡ serials m (drop at b) = rw (← w.0) front in
      record {
        there = rw (← w.0) there;
        few = few;
        long = rw (same, length_serials m (drop at b)) w.0;
        single = rw same w.1;
      }
