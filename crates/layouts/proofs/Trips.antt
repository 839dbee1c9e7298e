-- Reading and writing undo each other, on lists and in a buffer; how long a record is, where it lies, how it fails. Assumes nothing.
use Rattle.refusals.specs.declared.Refusal.{Refusal}
use Rattle.refusals.specs.Numbers.{number}
use Rattle.refusals.specs.declared.Refusal.TheVariants as R
use Rattle.std.specs.Prelude.{Result, Ok, Err}
use mathlib.Core.Path.{◌≡◌, refl, sym, ap, ap₂, subst, ◌∙◌}
use mathlib.Core.Bool.{Bool, true, false}
use mathlib.Core.Logic.{◌↔◌}
use mathlib.Core.List.{List, [], ◌∷◌, ◌++◌, map, append-nil}
use Prim.Native.Nat.{ℕ, zero, suc, ◌+◌, ◌-◌, ◌*◌, ◌^◌, ◌≤◌, ◌<◌}
use native.Mathlib.Omega.{arith}
use lib.ListN.{length, get_or, take, drop, length-drop, take-append-drop}
use lib.Seq.{drop-drop}
use lib.Dec.{eqb}
use borrow.Author.Tests.{le-leb, lt-ltb, ltb-true, eqb-true}
use Rattle.sets.specs.Sets.{Places, nothing, with, below}
use Rattle.sets.specs.PlaceSets.{packed}
use Rattle.histories.specs.declared.Kind.{Kind}
use Rattle.histories.specs.declared.Kind.TheVariants.{Full}
use Rattle.serials.specs.Rosters.{place_of}
use Rattle.serials.specs.Seconds.{itself, stands_for}
use Rattle.serials.proofs.Seconds.{stands_plain}
use Rattle.layouts.specs.Layout.{Parsed, got, refused, then, check, byte, serial, kind_section, roster_serials, roster_section, place_on, Head, head_section, mourned_serials, mourned_section, Stored, stored, lone, kind_byte, serial_bytes, serials_bytes, chosen, layout}
use Rattle.layouts.specs.Records.{reading_of, reading, serials, put_at}
use Rattle.layouts.proofs.Serials.{roster_apart, place_own}
use Rattle.layouts.proofs.Layouts.{AllBytes, IsStored, bytes_drop, then_got, check_yes, then_back, check_back, word_bytes, serials_below, serials_bytes_lem, serial_read, kind_read, roster_read, chosen_at_most, chosen_all, own_place, mourned_read, Mourning, Heading, head_of, Whole, stored_back, layout_shape, length_layout, length_put, drop_put}

-- ---- what was read

bytes_tail : (a : ℕ) (t : List ℕ) → AllBytes (a ∷ t) → AllBytes t
bytes_tail a t h i = h (suc i)

module _ (alias : ℕ → ℕ) (s : List ℕ) (k : Head) (t : List ℕ) (a : Heading alias s k t) (h : AllBytes s) where
  own_bytes : AllBytes a.from_own
  own_bytes = bytes_tail (kind_byte k.kind) a.from_own (subst AllBytes a.kind h)

  roster_bytes : AllBytes a.from_serials
  roster_bytes = bytes_tail (length k.roster) a.from_serials (subst AllBytes a.count (bytes_drop 4 a.from_own own_bytes))

  rest_bytes : AllBytes t
  rest_bytes = subst AllBytes (sym a.rest) (bytes_drop (4 * length k.roster) a.from_serials roster_bytes)

  roster_below : (p : ℕ) → p < length k.roster → get_or k.roster p 0 < 2 ^ 32
  roster_below p l = subst (λ (r : List ℕ). get_or r p 0 < 2 ^ 32) (sym a.are) (serials_below (length k.roster) a.from_serials roster_bytes p l)

  -- its bytes are those of its parts
  pub head_bytes : s ≡ kind_byte k.kind ∷ (serial_bytes k.own ++ (length k.roster ∷ (serials_bytes k.roster ++ t)))
  head_bytes =
      let n : ℕ = length k.roster in
      let serials-are : a.from_serials ≡ serials_bytes k.roster ++ t =
      serials_bytes_lem n a.from_serials roster_bytes a.there ∙ ap₂ (λ (r l : List ℕ). serials_bytes r ++ l) (sym a.are) (sym a.rest) in
      a.kind
      ∙ ap (λ (l : List ℕ). kind_byte k.kind ∷ l) (word_bytes a.from_own own_bytes a.own_there
      ∙ ap₂ (λ (x : ℕ) (l : List ℕ). serial_bytes x ++ l) (sym a.own_read) (a.count ∙ ap (λ (l : List ℕ). n ∷ l) serials-are))

-- where no serial counts as another, each stands for itself
stands_all : (r l : List ℕ) → map (stands_for itself r) l ≡ l
stands_all r [] = refl
stands_all r (x ∷ l) = ap₂ (λ (y : ℕ) (l : List ℕ). y ∷ l) (stands_plain r x) (stands_all r l)

mourned_bytes : (r s : List ℕ) (M : Places) (t : List ℕ) → Mourning itself r s M t → AllBytes s → s ≡ length (chosen M r) ∷ (serials_bytes (chosen M r) ++ t)
mourned_bytes r s M t a h =
    let m : ℕ = length (chosen M r) in
    let b : AllBytes a.from_serials = bytes_tail m a.from_serials (subst AllBytes a.count h) in
    a.count
    ∙ ap (λ (l : List ℕ). m ∷ l) (serials_bytes_lem m a.from_serials b a.there
    ∙ ap₂ (λ (c l : List ℕ). serials_bytes c ++ l) (sym (a.are ∙ stands_all r (serials m a.from_serials))) (sym a.rest))

pub stored_is : (alias : ℕ → ℕ) (s : List ℕ) (x : Stored) (rest : List ℕ) → AllBytes s → stored alias s ≡ got x rest → IsStored x
stored_is alias s x rest h e =
    let w : Whole alias s x rest = stored_back alias s x rest e in
    record { roster = w.heading.sound; below = roster_below alias s (head_of w.own x) w.between w.heading h; own = w.heading.own_on; mourned = w.mourning.on }

-- ---- reading what was written: in first serials, so that it does not matter what others count as

module _ (alias : ℕ → ℕ) (x : Stored) (i : IsStored x) (rest : List ℕ) where
  roster_is_lem : (t : List ℕ) → roster_section (length x.roster ∷ (serials_bytes x.roster ++ t)) ≡ got x.roster t
  unfolding roster_section then byte
  roster_is_lem t =
      check_yes _ R.BadCount _ (le-leb 1 (length x.roster) i.roster.some) ∙ check_yes _ R.BadCount _ (le-leb (length x.roster) 128 i.roster.few)
      ∙ roster_read x.roster [] t (roster_apart x.roster i.roster) i.below

  head_is : (t : List ℕ) → head_section alias (kind_byte x.kind ∷ (serial_bytes (get_or x.roster x.own 0) ++ (length x.roster ∷ (serials_bytes x.roster ++ t)))) ≡ got (head_of (get_or x.roster x.own 0) x) t
  unfolding head_section
  head_is t =
      let own : ℕ = get_or x.roster x.own 0 in
      let s₂ : List ℕ = length x.roster ∷ (serials_bytes x.roster ++ t) in
      let p : place_of own x.roster ≡ x.own = place_own x.roster i.roster.no_repeat x.own i.own in
      then_got _ x.kind (serial_bytes own ++ s₂) (kind_read x.kind (serial_bytes own ++ s₂))
      ∙ then_got _ own s₂ (serial_read own s₂ (i.roster.no_zero x.own i.own) (i.below x.own i.own))
      ∙ then_got _ x.roster t (roster_is_lem t)
      ∙ check_yes _ R.NotOnRoster _ (own_place alias x.roster own x.own p i.own).0
      ∙ ap (λ (o : ℕ). got (record { kind = x.kind; own = own; place = o; roster = x.roster }) t) (own_place alias x.roster own x.own p i.own).1

  pub read_layout : stored alias (layout x ++ rest) ≡ got x rest
  unfolding stored
  read_layout =
      let s₃ : List ℕ = length (chosen x.mourned x.roster) ∷ (serials_bytes (chosen x.mourned x.roster) ++ rest) in
      ap (stored alias) (layout_shape x rest) ∙ then_got _ (head_of (get_or x.roster x.own 0) x) s₃ (head_is s₃)
      ∙ then_got _ x.mourned rest (mourned_read alias x.roster (roster_apart x.roster i.roster) i.below x.mourned i.mourned rest)

pub layout_lone : (alias : ℕ → ℕ) (x : Stored) → IsStored x → lone alias (layout x) ≡ got x []
unfolding lone check
layout_lone alias x i = then_got _ x [] (ap (stored alias) (sym (append-nil (layout x))) ∙ read_layout alias x i [])

-- ---- writing what was read

-- a record without second serials: its bytes come back
pub layout_read : (s : List ℕ) (x : Stored) (rest : List ℕ) → AllBytes s → stored itself s ≡ got x rest → s ≡ layout x ++ rest
layout_read s x rest h e =
    let w : Whole itself s x rest = stored_back itself s x rest e in
    let a = w.heading in
    head_bytes itself s (head_of w.own x) w.between a h
    ∙ ap₂ (λ (own : ℕ) (l : List ℕ). kind_byte x.kind ∷ (serial_bytes own ++ (length x.roster ∷ (serials_bytes x.roster ++ l))))
    (sym (a.own_is ∙ stands_plain x.roster w.own))
    (mourned_bytes x.roster w.between x.mourned rest w.mourning (rest_bytes itself s (head_of w.own x) w.between a h))
    ∙ sym (layout_shape x rest)

module _ (alias : ℕ → ℕ) (s : List ℕ) (x : Stored) (rest : List ℕ) (h : AllBytes s) where
  -- any record: what was read is written and read again as the same kind, own place, roster and mourned set, whatever serials count as then
  pub same_meaning : stored alias s ≡ got x rest → (other : ℕ → ℕ) (more : List ℕ) → stored other (layout x ++ more) ≡ got x more
  same_meaning e other more = read_layout other x (stored_is alias s x rest h e) more

  -- one without second serials reads the same whatever serials count as
  pub reads_anyway : stored itself s ≡ got x rest → stored alias s ≡ got x rest
  reads_anyway e = ap (stored alias) (layout_read s x rest h e) ∙ read_layout alias x (stored_is itself s x rest h e) rest

  -- and of the records that are read, these are just the ones whose bytes come back
  pub bytes_back : stored alias s ≡ got x rest → (stored itself s ≡ got x rest) ↔ (s ≡ layout x ++ rest)
  bytes_back e = (layout_read s x rest h, λ l. ap (stored itself) l ∙ same_meaning e itself rest)

-- a lone record, and nothing after it
pub lone_back : (alias : ℕ → ℕ) (s : List ℕ) (x : Stored) (rest : List ℕ) → lone alias s ≡ got x rest → (stored alias s ≡ got x rest) × (rest ≡ [])
unfolding lone
lone_back alias s x rest e =
    let w = then_back (stored alias s) _ x rest e in
    let c = check_back (eqb (length w.1) 0) R.BytesAfter (got w.0 w.1) x rest w.3 in
    let q : w.1 ≡ rest = cc in
    (w.2 ∙ c.1, sym q ∙ no_length w.1 (eqb-true (length w.1) 0 c.0))
  where
    no_length : (l : List ℕ) → length l ≡ 0 → l ≡ []
    no_length [] e = refl
    no_length (y ∷ ys) e = absurd (omega arith)

pub lone_layout : (s : List ℕ) (x : Stored) (rest : List ℕ) → AllBytes s → lone itself s ≡ got x rest → s ≡ layout x
lone_layout s x rest h e =
    let w = lone_back itself s x rest e in
    layout_read s x rest h w.0 ∙ ap (λ (l : List ℕ). layout x ++ l) w.1 ∙ append-nil (layout x)

-- ---- lengths

pub longest : (x : Stored) → IsStored x → length (layout x) ≤ 1031
longest x i = omega (arith, length_layout x, chosen_at_most x.mourned x.roster, i.roster.few)

-- 128 serials, every one of them mourned
pub longest_reached : (k : Kind) (own : ℕ) (r : List ℕ) → length r ≡ 128 → length (layout (record { kind = k; own = own; roster = r; mourned = below 128 })) ≡ 1031
longest_reached k own r e =
    let x : Stored = record { kind = k; own = own; roster = r; mourned = below 128 } in
    let c : length (chosen (below 128) r) ≡ length r = ap length (chosen_all (below 128) r (λ p l. lt-ltb p 128 (omega arith))) in
    omega (arith, length_layout x)

-- n serials from a on, each the next number
rising : ℕ → ℕ → List ℕ
rising zero a = []
rising (suc n) a = a ∷ rising n (suc a)

length_rising : (n a : ℕ) → length (rising n a) ≡ n
unfolding rising
length_rising zero a = refl
length_rising (suc n) a = ap suc (length_rising n (suc a))

rising_at : (n a p : ℕ) → p < n → get_or (rising n a) p 0 ≡ a + p
unfolding rising
rising_at zero a p l = absurd (omega arith)
rising_at (suc n) a zero l = omega arith
rising_at (suc n) a (suc p) l = let e : suc a + p ≡ a + suc p = omega arith in rising_at n (suc a) p (omega arith) ∙ e

-- so long a record exists
pub longest_there : (x : Stored) × IsStored x × (length (layout x) ≡ 1031)
longest_there = (record { kind = Full; own = 0; roster = rising 128 1; mourned = below 128 }, is, longest_reached Full 0 (rising 128 1) n)
  where
    n : length (rising 128 1) ≡ 128
    n = length_rising 128 1

    at : (p : ℕ) → p < length (rising 128 1) → get_or (rising 128 1) p 0 ≡ 1 + p
    at p l = rising_at 128 1 p (omega (arith, n))

    is : IsStored (record { kind = Full; own = 0; roster = rising 128 1; mourned = below 128 })
    is = record {
      roster = record {
        some = omega (arith, n);
        few = omega (arith, n);
        no_zero = λ p l e. omega (arith, at p l);
        no_repeat = λ p q l m e. let k : p < length (rising 128 1) = omega arith in omega (arith, at p k, at q m);
      };
      below = λ p l. omega (arith, at p l, n);
      own = omega (arith, n);
      mourned = λ q e. omega (arith, ltb-true q 128 e, n);
    }

-- ---- in a buffer

module _ (alias : ℕ → ℕ) (x : Stored) (i : IsStored x) (out : List ℕ) (at : ℕ) (fits : at + length (layout x) ≤ length out) where
  pub read_back : reading alias (put_at at (layout x) out) at ≡ reading_of (length out) at (got x (drop (at + length (layout x)) out))
  unfolding reading
  read_back =
      ap₂ (λ (n : ℕ) (p : Parsed Stored). reading_of n at p) (length_put at (layout x) out fits)
      (ap (stored alias) (drop_put at (layout x) out fits) ∙ read_layout alias x i (drop (at + length (layout x)) out))

  -- the same, word for word: the record ends where its bytes do
  pub read_back_is : reading alias (put_at at (layout x) out) at
      ≡ Ok (record { kind = x.kind; own = record { 0 = x.own }; roster = at + 6; count = length x.roster; mourned = packed x.mourned; next = at + length (layout x) })
  unfolding reading_of
  read_back_is =
      let e : length out - length (drop (at + length (layout x)) out) ≡ at + length (layout x) = omega (arith, length-drop (at + length (layout x)) out) in
      read_back ∙ ap (λ (n : ℕ). Ok (record { kind = x.kind; own = record { 0 = x.own }; roster = at + 6; count = length x.roster; mourned = packed x.mourned; next = n })) e

-- where a record's roster lies in its bytes, and where it ends
module _ (alias : ℕ → ℕ) (s : List ℕ) (x : Stored) (rest : List ℕ) (w : Whole alias s x rest) where
  serials_from : drop 6 s ≡ w.heading.from_serials
  serials_from = ap (drop 6) w.heading.kind ∙ sym (drop-drop 1 4 w.heading.from_own) ∙ ap (drop 1) w.heading.count

  whole_length : length s ≡ length (layout x) + length rest
  whole_length =
      let n : ℕ = length x.roster in
      let m : ℕ = length (chosen x.mourned x.roster) in
      omega (
        arith,
        ap length w.heading.kind,
        w.heading.own_there,
        sym (length-drop 4 w.heading.from_own) ∙ ap length w.heading.count,
        w.heading.there,
        ap length w.heading.rest ∙ length-drop (4 * n) w.heading.from_serials,
        ap length w.mourning.count,
        w.mourning.there,
        ap length w.mourning.rest ∙ length-drop (4 * m) w.mourning.from_serials,
        length_layout x,
      )

  whole_rest : rest ≡ drop (length (layout x)) s
  whole_rest =
      let n : ℕ = length x.roster in
      let m : ℕ = length (chosen x.mourned x.roster) in
      let after : w.between ≡ drop (6 + 4 * n) s = w.heading.rest ∙ ap (drop (4 * n)) (sym serials_from) ∙ drop-drop (4 * n) 6 s in
      let last : w.mourning.from_serials ≡ drop (6 + 4 * n + 1) s = ap (drop 1) (sym w.mourning.count ∙ after) ∙ drop-drop 1 (6 + 4 * n) s in
      let e : 6 + 4 * n + 1 + 4 * m ≡ length (layout x) = omega (arith, length_layout x) in
      w.mourning.rest ∙ ap (drop (4 * m)) last ∙ drop-drop (4 * m) (6 + 4 * n + 1) s ∙ ap (λ (k : ℕ). drop k s) e

module _ (alias : ℕ → ℕ) (b : List ℕ) (at : ℕ) (x : Stored) (rest : List ℕ) (e : stored alias (drop at b) ≡ got x rest) where
  -- the roster's serials stand six bytes on
  pub serials_read : serials (length x.roster) (drop (at + 6) b) ≡ x.roster
  serials_read =
      let w : Whole alias (drop at b) x rest = stored_back alias (drop at b) x rest e in
      ap (serials (length x.roster)) (sym (drop-drop 6 at b) ∙ serials_from alias (drop at b) x rest w) ∙ sym w.heading.are

  ends : at + length (layout x) + length rest ≡ length b
  ends =
      let w : Whole alias (drop at b) x rest = stored_back alias (drop at b) x rest e in
      omega (arith, whole_length alias (drop at b) x rest w, length-drop at b, length_layout x)

  pub roster_within : at + 6 + 4 * length x.roster ≤ length b
  roster_within = omega (arith, ends, length_layout x)

  -- where the record ends
  pub next_is : length b - length rest ≡ at + length (layout x)
  next_is = omega (arith, ends)

  pub rest_is : rest ≡ drop (at + length (layout x)) b
  rest_is = whole_rest alias (drop at b) x rest (stored_back alias (drop at b) x rest e) ∙ drop-drop (length (layout x)) at b

-- written over itself, a record without second serials changes nothing
pub write_back : (b : List ℕ) (at : ℕ) (x : Stored) (rest : List ℕ) → AllBytes b → stored itself (drop at b) ≡ got x rest → put_at at (layout x) b ≡ b
unfolding put_at
write_back b at x rest h e =
    ap (λ (l : List ℕ). take at b ++ (layout x ++ l)) (sym (rest_is itself b at x rest e))
    ∙ ap (λ (l : List ℕ). take at b ++ l) (sym (layout_read (drop at b) x rest (bytes_drop at b h) e)) ∙ take-append-drop at b

-- ---- which faults there are

-- whatever refuses has a number from 1 to most
abbrev Numbered : {A : Type 0} → ℕ → Parsed A → Type 0
Numbered most (got a s) = Unit {0}
Numbered most (refused j) = (1 ≤ number j) × (number j ≤ most)

then_numbered : {A B : Type 0} (most : ℕ) (p : Parsed A) (next : A → List ℕ → Parsed B) → Numbered most p → ((a : A) (s : List ℕ) → Numbered most (next a s)) → Numbered most (then p next)
unfolding then
then_numbered most (got a s) next g h = h a s
then_numbered most (refused j) next g h = g

check_numbered : {A : Type 0} (most : ℕ) (b : Bool) (j : Refusal) (p : Parsed A) → (1 ≤ number j) × (number j ≤ most) → Numbered most p → Numbered most (check b j p)
unfolding check
check_numbered most true j p l h = h
check_numbered most false j p l h = l

-- as far as the roster's end the largest is 6
module _ (alias : ℕ → ℕ) (most : ℕ) (six : 6 ≤ most) where
  byte_numbered : (s : List ℕ) → Numbered most (byte s)
  unfolding byte
  byte_numbered [] = (omega arith, omega arith)
  byte_numbered (x ∷ s) = tt

  serial_numbered : (s : List ℕ) → Numbered most (serial s)
  unfolding serial
  serial_numbered s = check_numbered most _ R.EndsEarly _ (omega arith, omega arith) (check_numbered most _ R.ZeroSerial _ (omega arith, omega arith) tt)

  serials_numbered : (n : ℕ) (seen s : List ℕ) → Numbered most (roster_serials n seen s)
  unfolding roster_serials
  serials_numbered zero seen s = tt
  serials_numbered (suc n) seen s =
      then_numbered most (serial s) _ (serial_numbered s) (λ x s₁. check_numbered most _ R.Twice _ (omega arith, omega arith) (serials_numbered n (seen ++ (x ∷ [])) s₁))

  head_numbered : (s : List ℕ) → Numbered most (head_section alias s)
  unfolding head_section kind_section roster_section
  head_numbered s =
      then_numbered most (kind_section s) _
      (then_numbered most (byte s) _ (byte_numbered s) (λ k s₁. check_numbered most _ R.UnknownKind _ (omega arith, omega arith) tt))
      (λ k s₁. then_numbered most (serial s₁) _ (serial_numbered s₁) (λ own s₂. then_numbered most (roster_section s₂) _
      (then_numbered most (byte s₂) _ (byte_numbered s₂) (λ n s₃. check_numbered most _ R.BadCount _ (omega arith, omega arith) (check_numbered most _ R.BadCount _ (omega arith, omega arith) (serials_numbered n [] s₃))))
      (λ r s₃. check_numbered most _ R.NotOnRoster _ (omega arith, omega arith) tt)))

-- and in a whole record 7
module _ (alias : ℕ → ℕ) (most : ℕ) (all : 7 ≤ most) where
  six_too : 6 ≤ most
  six_too = omega arith

  mourned_numbered : (m : ℕ) (r : List ℕ) (from : ℕ) (M : Places) (s : List ℕ) → Numbered most (mourned_serials alias m r from M s)
  unfolding mourned_serials
  mourned_numbered zero r from M s = tt
  mourned_numbered (suc m) r from M s =
      then_numbered most (serial s) _ (serial_numbered alias most six_too s) (λ x s₁. check_numbered most _ R.NotOnRoster _ (omega arith, omega arith) (check_numbered most _ R.OutOfOrder _ (omega arith, omega arith)
      (mourned_numbered m r (suc (place_on alias r x)) (with (place_on alias r x) M) s₁)))

  stored_numbered : (s : List ℕ) → Numbered most (stored alias s)
  unfolding stored mourned_section
  stored_numbered s =
      then_numbered most (head_section alias s) _ (head_numbered alias most six_too s) (λ h s₁. then_numbered most (mourned_section alias h.roster s₁) _
      (then_numbered most (byte s₁) _ (byte_numbered alias most six_too s₁) (λ m s₂. check_numbered most _ R.BadCount _ (omega arith, omega arith) (mourned_numbered m h.roster 0 nothing s₂)))
      (λ M s₂. tt))

pub head_faults : (alias : ℕ → ℕ) (s : List ℕ) (j : Refusal) → head_section alias s ≡ refused j → (1 ≤ number j) × (number j ≤ 6)
head_faults alias s j e = subst (Numbered 6) e (head_numbered alias 6 (omega arith) s)

pub stored_faults : (alias : ℕ → ℕ) (s : List ℕ) (j : Refusal) → stored alias s ≡ refused j → (1 ≤ number j) × (number j ≤ 7)
stored_faults alias s j e = subst (Numbered 7) e (stored_numbered alias 7 (omega arith) s)

pub faults : (alias : ℕ → ℕ) (s : List ℕ) (j : Refusal) → lone alias s ≡ refused j → (1 ≤ number j) × (number j ≤ 8)
unfolding lone
faults alias s j e =
    subst (Numbered 8) e (then_numbered 8 (stored alias s) _ (stored_numbered alias 8 (omega arith) s) (λ x s₁. check_numbered 8 _ R.BytesAfter _ (omega arith, omega arith) tt))
