-- What the ticket desk may see, and what it may not (document 02, [5]): theorems over every list of bytes. Assumes nothing.
use Rattle.refusals.specs.declared.Refusal.{Refusal}
use Rattle.refusals.specs.Numbers.{number}
use Rattle.refusals.specs.declared.Refusal.TheVariants as R
use Rattle.std.specs.Prelude.{Result, Ok, Err}
use mathlib.Core.Path.{◌≡◌, refl, sym, ap, ap₂, ◌∙◌}
use mathlib.Core.Bool.{not}
use mathlib.Core.List.{List, [], ◌∷◌, ◌++◌}
use Prim.Native.Nat.{ℕ, zero, suc, ◌+◌, ◌-◌, ◌*◌, ◌≤◌, ◌<◌}
use native.Mathlib.Omega.{arith}
use native.Mathlib.Decide.{dec_lt}
use lib.ListN.{length, get_or, take, drop, length-append, length-take, length-drop, take-append-drop}
use lib.Seq.{length-take-le, take_all, take-append-le, drop-append-le, take-take, take-add, take_at, drop-drop, get_or-take, get_or-drop}
use lib.Dec.{leb}
use borrow.Author.Tests.{le-leb, lt-leb}
use Rattle.sets.specs.Sets.{Places, nothing, with}
use Rattle.sets.specs.PlaceSets.{packed}
use Rattle.serials.specs.Rosters.{holds}
use Rattle.layouts.specs.declared.Record.{Record}
use Rattle.serials.specs.declared.Serial.{Serial}
use Rattle.histories.specs.declared.Kind.{Kind}
use Rattle.layouts.specs.Layout.{Parsed, got, refused, then, check, byte, word_at, serial, known_kind, kind_section, roster_serials, roster_section, is_on, place_on, Head, head_section, mourned_serials, mourned_section, Stored, stored, lone, kind_byte, serial_bytes, serials_bytes}
use Rattle.layouts.specs.Records.{reading_of, reading_lone}
use Rattle.layouts.specs.Desk.{roster_part, shown_of, shown_to_desk, lies_of, roster_end, nobody_mourned, SameToRoster}
use Rattle.layouts.proofs.Sections.{check_no}
use Rattle.layouts.proofs.Layouts.{AllBytes, then_got, check_yes, then_back, check_back, byte_back, serial_back, kind_back, length_serials_bytes, Heading, head_back}
use Rattle.layouts.proofs.Follows.{onto, check_onto, then_onto, byte_onto, serial_onto}
use Rattle.layouts.proofs.Trips.{head_bytes, lone_back, head_faults}

-- ---- the sections as far as the roster's end, where more bytes follow

serials_onto : (n : ℕ) (seen s more : List ℕ) → n * 4 ≤ length s → roster_serials n seen (s ++ more) ≡ onto more (roster_serials n seen s)
unfolding roster_serials
serials_onto zero seen s more h = refl
serials_onto (suc n) seen s more h =
    then_onto more (serial (s ++ more)) (serial s) _ (serial_onto s more (omega arith))
    (λ x s₁ e. check_onto (not (holds x seen)) R.Twice more _ _ (serials_onto n (seen ++ (x ∷ [])) s₁ more (omega (arith, ap length (serial_back s x s₁ e).3, length-drop 4 s))))

roster_onto : (s more : List ℕ) → 1 + get_or s 0 0 * 4 ≤ length s → roster_section (s ++ more) ≡ onto more (roster_section s)
unfolding roster_section
roster_onto s more h =
    then_onto more (byte (s ++ more)) (byte s) _ (byte_onto s more (omega arith))
    (λ n s₁ e. let is : s ≡ n ∷ s₁ = byte_back s n s₁ e in
    check_onto (leb 1 n) R.BadCount more _ _ (check_onto (leb n 128) R.BadCount more _ _ (serials_onto n [] s₁ more (omega (arith, ap length is, ap (λ (l : List ℕ). get_or l 0 0) is)))))

kind_onto : (s more : List ℕ) → 1 ≤ length s → kind_section (s ++ more) ≡ onto more (kind_section s)
unfolding kind_section
kind_onto s more h = then_onto more (byte (s ++ more)) (byte s) _ (byte_onto s more h) (λ k s₁ e. check_onto (known_kind k) R.UnknownKind more _ _ refl)

head_onto : (alias : ℕ → ℕ) (s more : List ℕ) → roster_end s ≤ length s → head_section alias (s ++ more) ≡ onto more (head_section alias s)
unfolding head_section roster_end
head_onto alias s more h =
    then_onto more (kind_section (s ++ more)) (kind_section s) _ (kind_onto s more (omega arith))
    (λ k s₁ e. let is : s ≡ kind_byte k ∷ s₁ = kind_back s k s₁ e in
    then_onto more (serial (s₁ ++ more)) (serial s₁) _ (serial_onto s₁ more (omega (arith, ap length is)))
    (λ own s₂ f. let on : s₂ ≡ drop 4 s₁ = (serial_back s₁ own s₂ f).3 in
    then_onto more (roster_section (s₂ ++ more)) (roster_section s₂) _
    (roster_onto s₂ more (omega (arith, ap length is, ap length on, length-drop 4 s₁, ap (λ (l : List ℕ). get_or l 5 0) is, ap (λ (l : List ℕ). get_or l 0 0) on, get_or-drop 4 s₁ 0 0)))
    (λ r s₃ g. check_onto (is_on alias r own) R.NotOnRoster more _ _ refl)))

-- ---- what is secret

-- a head that was read: its serials are there
module _ (alias : ℕ → ℕ) (s : List ℕ) (h : Head) (t : List ℕ) (a : Heading alias s h t) where
  from_six : drop 6 s ≡ a.from_serials
  from_six = ap (drop 6) a.kind ∙ sym (drop-drop 1 4 a.from_own) ∙ ap (drop 1) a.count

  ends : roster_end s ≡ 6 + length h.roster * 4
  unfolding roster_end
  ends = omega (arith, ap (λ (l : List ℕ). get_or l 5 0) a.kind, get_or-drop 4 a.from_own 0 0, ap (λ (l : List ℕ). get_or l 0 0) a.count)

  inside : 6 + length h.roster * 4 ≤ length s
  inside =
      omega (arith, ap length a.kind, a.own_there, sym (length-drop 4 a.from_own) ∙ ap length a.count, a.there)

  rest_from : t ≡ drop (roster_end s) s
  rest_from =
      let e : 6 + 4 * length h.roster ≡ roster_end s = omega (arith, ends) in
      a.rest ∙ ap (drop (4 * length h.roster)) (sym from_six) ∙ drop-drop (4 * length h.roster) 6 s ∙ ap (λ (k : ℕ). drop k s) e

  own_at : h.own ≡ word_at s 1
  own_at = a.own_read ∙ sym (ap (λ (l : List ℕ). word_at l 1) a.kind)

part_onto : (n : ℕ) (s more : List ℕ) → 6 + n * 4 ≤ length s → roster_part n (s ++ more) ≡ roster_part n s
unfolding roster_part
part_onto n s more h =
    ap (take (n * 4)) (drop-append-le 6 s more (omega arith)) ∙ take-append-le (n * 4) (drop 6 s) more (omega (arith, length-drop 6 s))

-- the roster's end is where the bytes that the desk is judged by end
pub ends_there : (alias : ℕ → ℕ) (s : List ℕ) (h : Head) (t : List ℕ) → head_section alias s ≡ got h t → t ≡ drop (roster_end s) s
ends_there alias s h t e = rest_from alias s h t (head_back alias s h t e)

-- what follows the roster's end adds nothing
shown_onto : (alias : ℕ → ℕ) (s more before : List ℕ) → roster_end s ≤ length s → shown_to_desk alias (s ++ more) before ≡ shown_to_desk alias s before
unfolding shown_to_desk shown_of
shown_onto alias s more before l = ap (shown_of (s ++ more) before) (head_onto alias s more l) ∙ go (head_section alias s) refl
  where
    go : (p : Parsed Head) → head_section alias s ≡ p → shown_of (s ++ more) before (onto more p) ≡ shown_of s before p
    go (got h t) e =
        ap (λ (part : List ℕ). record { answer = (shown_of s before (got h t)).answer; roster = part })
        (part_onto (length h.roster) s more (inside alias s h t (head_back alias s h t e)))
    go (refused j) e = refl

-- a record and what it has as far as the roster's end say the same of where that is
end_take : (s : List ℕ) → roster_end (take (roster_end s) s) ≡ roster_end s
unfolding roster_end
end_take s = ap (λ (n : ℕ). 6 + n * 4) (get_or-take (6 + get_or s 5 0 * 4) s 5 0 (omega arith))

-- secrecy: two records that are the same as far as the roster's end show the desk the same, whatever follows in either
pub nothing_behind : (alias : ℕ → ℕ) (s t before : List ℕ) → SameToRoster s t → shown_to_desk alias s before ≡ shown_to_desk alias t before
nothing_behind alias s t before same = go (dec_lt (length s) (roster_end s))
  where
    -- all that the desk is shown stands before the roster's end
    from_front : (l : List ℕ) → roster_end s ≤ length s → shown_to_desk alias (take (roster_end s) s ++ l) before ≡ shown_to_desk alias (take (roster_end s) s) before
    from_front l h = shown_onto alias (take (roster_end s) s) l before (omega (arith, end_take s, length-take-le (roster_end s) s h))

    go : Dec (length s < roster_end s) → shown_to_desk alias s before ≡ shown_to_desk alias t before
    go (yes l) =
        let short : length t ≤ roster_end s = omega (arith, ap length same, length-take (roster_end s) s, length-take (roster_end s) t) in
        ap (λ (l : List ℕ). shown_to_desk alias l before) (sym (take_all (roster_end s) s (omega arith)) ∙ same ∙ take_all (roster_end s) t short)
    go (no l) =
        let h : roster_end s ≤ length s = omega arith in
        ap (λ (l : List ℕ). shown_to_desk alias l before) (sym (take-append-drop (roster_end s) s)) ∙ from_front (drop (roster_end s) s) h ∙ sym (from_front (drop (roster_end s) t) h)
        ∙ ap (λ (l : List ℕ). shown_to_desk alias l before) (ap (λ (l : List ℕ). l ++ drop (roster_end s) t) same ∙ take-append-drop (roster_end s) t)

-- ---- what is seen

-- a lone record that was read: its head, and the mourned section that ends it
record Parts (alias : ℕ → ℕ) (s : List ℕ) (r : Record) : Type 0 where
  head : Head
  rest : List ℕ
  mourned : Places
  headed : head_section alias s ≡ got head rest
  ended : mourned_section alias head.roster rest ≡ got mourned []
  kind : r.kind ≡ head.kind
  count : r.count ≡ length head.roster

stored_parts : (alias : ℕ → ℕ) (s : List ℕ) (r : Record) (x : Stored) → stored alias s ≡ got x [] → r.kind ≡ x.kind → r.count ≡ length x.roster → Parts alias s r
unfolding stored
stored_parts alias s r x e k n =
    let a = then_back (head_section alias s) _ x [] e in
    let h : Head = a.0 in
    let b = then_back (mourned_section alias h.roster a.1) _ x [] a.3 in
    let g : got (record { kind = h.kind; own = h.place; roster = h.roster; mourned = b.0 }) b.1 ≡ got x [] = b.3 in
    let is : record { kind = h.kind; own = h.place; roster = h.roster; mourned = b.0 } ≡ x = cc in
    let no_more : b.1 ≡ [] = cc in
    record {
      head = h;
      rest = a.1;
      mourned = b.0;
      headed = a.2;
      ended = b.2 ∙ ap (got b.0) no_more;
      kind = k ∙ sym (ap (λ (y : Stored). y.kind) is);
      count = n ∙ sym (ap (λ (y : Stored). length y.roster) is);
    }

parts : (alias : ℕ → ℕ) (s : List ℕ) (r : Record) → reading_lone alias s ≡ Ok r → Parts alias s r
unfolding reading_lone reading_of
parts alias s r e = go (lone alias s) refl e
  where
    go : (p : Parsed Stored) → lone alias s ≡ p → reading_of (length s) 0 p ≡ Ok r → Parts alias s r
    go (got x rest) f g =
        let w = lone_back alias s x rest f in
        let is : record { kind = x.kind; own = record { 0 = x.own }; roster = 6; count = length x.roster; mourned = packed x.mourned; next = length s - length rest } ≡ r = cc in
        stored_parts alias s r x (w.0 ∙ ap (got x) w.1) (sym (ap (λ (y : Record). y.kind) is)) (sym (ap (λ (y : Record). y.count) is))
    go (refused j) f g = let z : ◌≡◌ {A = ℕ} 0 1 = cc in absurd (omega arith)

-- a record that passes 1 to 8 shows the desk its kind, the own serial that stands in it, and its roster
pub sound_seen : (alias : ℕ → ℕ) (s : List ℕ) (r : Record) (before : List ℕ) → reading_lone alias s ≡ Ok r
    → shown_to_desk alias s before ≡ record { answer = Ok (record { kind = r.kind; own = (record { 0 = word_at s 1 }) }); roster = roster_part r.count s }
unfolding shown_to_desk shown_of
sound_seen alias s r before e =
    let p : Parts alias s r = parts alias s r e in
    let k : p.head.kind ≡ r.kind = sym p.kind in
    let own : p.head.own ≡ word_at s 1 = own_at alias s p.head p.rest (head_back alias s p.head p.rest p.headed) in
    let n : length p.head.roster ≡ r.count = sym p.count in
    ap (shown_of s before) p.headed ∙ (λ i. record { answer = Ok (record { kind = k i; own = record { 0 = own i } }); roster = roster_part (n i) s })

-- ---- a record that is cut

-- a section that reads just its first e bytes reads the same whatever follows them
front_got : {A : Type 0} (p : List ℕ → Parsed A) (e : ℕ) (s : List ℕ) → ((more : List ℕ) → p (take e s ++ more) ≡ onto more (p (take e s)))
    → (a : A) → p s ≡ got a (drop e s) → (more : List ℕ) → p (take e s ++ more) ≡ got a more
front_got {A} p e s same a g more = same more ∙ go (p (take e s)) (sym (same (drop e s)) ∙ ap p (take-append-drop e s) ∙ g)
  where
    no_length : (l : List ℕ) → length l ≡ 0 → l ≡ []
    no_length [] e = refl
    no_length (y ∷ ys) e = absurd (omega arith)

    go : (q : Parsed A) → onto (drop e s) q ≡ got a (drop e s) → onto more q ≡ got a more
    go (got b l) f =
        let v : b ≡ a = cc in
        let w : l ++ drop e s ≡ drop e s = cc in
        let z : l ≡ [] = no_length l (omega (arith, ap length w, length-append l (drop e s))) in
        ap₂ (λ (c : A) (m : List ℕ). got c (m ++ more)) v z
    go (refused i) f = cc

head_front : (alias : ℕ → ℕ) (s : List ℕ) (h : Head) (t : List ℕ) → head_section alias s ≡ got h t → (more : List ℕ) → head_section alias (take (roster_end s) s ++ more) ≡ got h more
head_front alias s h t e =
    let a = head_back alias s h t e in
    let n : roster_end (take (roster_end s) s) ≤ length (take (roster_end s) s) =
    omega (arith, end_take s, length-take-le (roster_end s) s (omega (arith, ends alias s h t a, inside alias s h t a))) in
    front_got (head_section alias) (roster_end s) s (λ more. head_onto alias (take (roster_end s) s) more n) h (e ∙ ap (got h) (rest_from alias s h t a))

-- a serial that was read, in bytes that are cut after it, or in it
serial_kept : (s : List ℕ) (x : ℕ) (t : List ℕ) → serial s ≡ got x t → (j : ℕ) → serial (take (4 + j) s) ≡ got x (take j t)
serial_kept s x t e j =
    let v = serial_back s x t e in
    let l : 4 ≤ length (take 4 s) = omega (arith, length-take-le 4 s v.0) in
    ap serial (take-add 4 j s) ∙ front_got serial 4 s (λ more. serial_onto (take 4 s) more l) x (e ∙ ap (got x) v.3) (take j (drop 4 s)) ∙ ap (λ (m : List ℕ). got x (take j m)) (sym v.3)

serial_cut : (s : List ℕ) (j : ℕ) → j < 4 → serial (take j s) ≡ refused R.EndsEarly
unfolding serial
serial_cut s j l = check_no _ R.EndsEarly _ (lt-leb 4 (length (take j s)) (omega (arith, length-take j s)))

then_refused : {A B : Type 0} {p : Parsed A} (next : A → List ℕ → Parsed B) (j : Refusal) → p ≡ refused j → then p next ≡ refused j
unfolding then
then_refused next j e = rw e

-- mourned serials that end the bytes, and are cut
serials_cut : (alias : ℕ → ℕ) (m : ℕ) (r : List ℕ) (from : ℕ) (M : Places) (s : List ℕ) (P : Places) (j : ℕ)
    → mourned_serials alias m r from M s ≡ got P [] → j < length s → mourned_serials alias m r from M (take j s) ≡ refused R.EndsEarly
unfolding mourned_serials
serials_cut alias zero r from M s P j e l = let z : s ≡ [] = cc in absurd (omega (arith, ap length z))
serials_cut alias (suc m) r from M s P j e l =
    let w = then_back (serial s) _ P [] e in
    let x : ℕ = w.0 in
    let s₁ : List ℕ = w.1 in
    let p : ℕ = place_on alias r x in
    let v = serial_back s x s₁ w.2 in
    let c = check_back (is_on alias r x) R.NotOnRoster (check (leb from p) R.OutOfOrder (mourned_serials alias m r (suc p) (with p M) s₁)) P [] w.3 in
    let d = check_back (leb from p) R.OutOfOrder (mourned_serials alias m r (suc p) (with p M) s₁) P [] c.1 in
    go (dec_lt j 4) (λ b. let i : 4 + (j - 4) ≡ j = omega arith in
    ap (λ (k : ℕ). mourned_serials alias (suc m) r from M (take k s)) (sym i)
    ∙ then_got _ x (take (j - 4) s₁) (serial_kept s x s₁ w.2 (j - 4))
    ∙ check_yes _ R.NotOnRoster _ c.0 ∙ check_yes _ R.OutOfOrder _ d.0
    ∙ serials_cut alias m r (suc p) (with p M) s₁ P (j - 4) d.1 (omega (arith, v.0, ap length v.3, length-drop 4 s)))
  where
    go : Dec (j < 4) → (¬ (j < 4) → mourned_serials alias (suc m) r from M (take j s) ≡ refused R.EndsEarly) → mourned_serials alias (suc m) r from M (take j s) ≡ refused R.EndsEarly
    go (yes b) later = then_refused _ R.EndsEarly (serial_cut s j b)
    go (no b) later = later b

mourned_cut : (alias : ℕ → ℕ) (r s : List ℕ) (P : Places) (j : ℕ) → mourned_section alias r s ≡ got P [] → j < length s → mourned_section alias r (take j s) ≡ refused R.EndsEarly
unfolding mourned_section then byte
mourned_cut alias r [] P j e l = absurd (omega arith)
mourned_cut alias r (m ∷ s) P zero e l = refl
mourned_cut alias r (m ∷ s) P (suc j) e l =
    let c = check_back (leb m (length r)) R.BadCount (mourned_serials alias m r 0 nothing s) P [] e in
    check_yes _ R.BadCount _ c.0 ∙ serials_cut alias m r 0 nothing s P j c.1 (omega arith)

-- a sound record that is cut anywhere in its mourned section, at the count or later, shows the desk the same, and whoever reads it all meets 1
pub record Cut (alias : ℕ → ℕ) (s before : List ℕ) (r : Record) (k : ℕ) : Type 0 where
  pub seen : shown_to_desk alias (take k s) before ≡ record { answer = Ok (record { kind = r.kind; own = (record { 0 = word_at s 1 }) }); roster = roster_part r.count s }
  pub unread : reading_lone alias (take k s) ≡ Err R.EndsEarly

lone_cut : (alias : ℕ → ℕ) (s : List ℕ) (r : Record) (k : ℕ) → Parts alias s r → roster_end s ≤ k → k < length s → lone alias (take k s) ≡ refused R.EndsEarly
unfolding lone stored
lone_cut alias s r k p f l =
    let h : Head = p.head in
    let t : List ℕ = p.rest in
    let e : ℕ = roster_end s in
    let d : t ≡ drop e s = rest_from alias s h t (head_back alias s h t p.headed) in
    let i : e + (k - e) ≡ k = omega arith in
    let kept : head_section alias (take k s) ≡ got h (take (k - e) t) =
    ap (λ (m : ℕ). head_section alias (take m s)) (sym i) ∙ ap (head_section alias) (take-add e (k - e) s) ∙ head_front alias s h t p.headed (take (k - e) (drop e s))
    ∙ ap (λ (m : List ℕ). got h (take (k - e) m)) (sym d) in
    then_refused _ R.EndsEarly (then_got _ h (take (k - e) t) kept
    ∙ then_refused _ R.EndsEarly (mourned_cut alias h.roster t p.mourned (k - e) p.ended (omega (arith, ap length d, length-drop e s))))

pub cut_behind : (alias : ℕ → ℕ) (s before : List ℕ) (r : Record) (k : ℕ) → reading_lone alias s ≡ Ok r → roster_end s ≤ k → k < length s → Cut alias s before r k
unfolding reading_lone reading_of
cut_behind alias s before r k e f l =
    record {
      seen = sym (nothing_behind alias s (take k s) before (sym (take-take (roster_end s) k s f))) ∙ sound_seen alias s r before e;
      unread = ap (reading_of (length (take k s)) 0) (lone_cut alias s r k (parts alias s r e) f l);
    }

-- ---- what is refused

-- the desk is refused what the head is refused by
desk_refused : (alias : ℕ → ℕ) (s before : List ℕ) (j : Refusal) → (shown_to_desk alias s before).answer ≡ Err j → head_section alias s ≡ refused j
unfolding shown_to_desk shown_of
desk_refused alias s before j e = go (head_section alias s) e
  where
    go : (p : Parsed Head) → (shown_of s before p).answer ≡ Err j → p ≡ refused j
    go (got h t) f = let z : ◌≡◌ {A = ℕ} 0 1 = cc in absurd (omega arith)
    go (refused i) f = cc

-- what the desk is refused, whoever reads it all is refused by the same number
pub refused_both : (alias : ℕ → ℕ) (s before : List ℕ) (j : Refusal) → (shown_to_desk alias s before).answer ≡ Err j → reading_lone alias s ≡ Err j
unfolding reading_lone reading_of lone stored
refused_both alias s before j e = ap (reading_of (length s) 0) (then_refused _ j (then_refused _ j (desk_refused alias s before j e)))

-- the desk is refused by 1 to 6
pub desk_faults : (alias : ℕ → ℕ) (s before : List ℕ) (j : Refusal) → (shown_to_desk alias s before).answer ≡ Err j → (1 ≤ number j) × (number j ≤ 6)
desk_faults alias s before j e = head_faults alias s j (desk_refused alias s before j e)

-- a refused record leaves the desk the slice that it had
pub refused_kept : (alias : ℕ → ℕ) (s before : List ℕ) (j : Refusal) → (shown_to_desk alias s before).answer ≡ Err j → (shown_to_desk alias s before).roster ≡ before
unfolding shown_to_desk shown_of
refused_kept alias s before j e = go (head_section alias s) e
  where
    go : (p : Parsed Head) → (shown_of s before p).answer ≡ Err j → (shown_of s before p).roster ≡ before
    go (got h t) g = let z : ◌≡◌ {A = ℕ} 0 1 = cc in absurd (omega arith)
    go (refused i) g = refl

-- where the part is said to lie: in the block of the lent bytes, as many bytes on as it starts in them
pub lies_as_part : (n : ℕ) (s : List ℕ) (k : Kind) (own : Serial) (bytes had : ℕ × ℕ)
    → (d : ℕ) × (lies_of (Ok (record { kind = k; own = own })) bytes had ≡ (bytes.0, d + bytes.1)) × (roster_part n s ≡ take (n * 4) (drop d s))
unfolding lies_of roster_part
lies_as_part n s k own bytes had = (6, refl, refl)

-- what was seen, as the head that was read
seen_head : (alias : ℕ → ℕ) (s before : List ℕ) (k : Kind) (own : Serial) → (shown_to_desk alias s before).answer ≡ Ok (record { kind = k; own = own }) → (h : Head) × (t : List ℕ) × (head_section alias s ≡ got h t)
unfolding shown_to_desk shown_of
seen_head alias s before k own e = go (head_section alias s) refl e
  where
    go : (p : Parsed Head) → head_section alias s ≡ p → (shown_of s before p).answer ≡ Ok (record { kind = k; own = own }) → (h : Head) × (t : List ℕ) × (head_section alias s ≡ got h t)
    go (got h t) f g = (h, t, f)
    go (refused j) f g = let z : ◌≡◌ {A = ℕ} 0 1 = cc in absurd (omega arith)

-- the desk is shown something only where the record would pass 1 to 8 with nobody mourned
pub seen_sound : (alias : ℕ → ℕ) (s before : List ℕ) (k : Kind) (own : Serial) → (shown_to_desk alias s before).answer ≡ Ok (record { kind = k; own = own })
    → (r : Record) × (reading_lone alias (nobody_mourned s) ≡ Ok r)
unfolding reading_lone reading_of lone stored mourned_section mourned_serials byte then check nobody_mourned
seen_sound alias s before k own e =
    let w = seen_head alias s before k own e in
    let h : Head = w.0 in
    let x : Stored = record { kind = h.kind; own = h.place; roster = h.roster; mourned = nothing } in
    let mourned : mourned_section alias h.roster (0 ∷ []) ≡ got nothing [] = check_yes _ R.BadCount _ (le-leb 0 (length h.roster) (omega arith)) in
    let whole : stored alias (nobody_mourned s) ≡ got x [] =
    then_got _ h (0 ∷ []) (head_front alias s h w.1 w.2 (0 ∷ [])) ∙ then_got _ nothing [] mourned in
    (_, ap (reading_of (length (nobody_mourned s)) 0) (then_got _ x [] whole))

-- ---- what is handed back

-- the part is that of as many serials as the roster's count says, and it is all there
module _ (alias : ℕ → ℕ) (s before : List ℕ) (k : Kind) (own : Serial) (e : (shown_to_desk alias s before).answer ≡ Ok (record { kind = k; own = own })) where
  counted : (h : Head) (t : List ℕ) → head_section alias s ≡ got h t → length h.roster ≡ get_or s 5 0
  unfolding roster_end
  counted h t f = omega (arith, ends alias s h t (head_back alias s h t f))

  pub part_counted : (shown_to_desk alias s before).roster ≡ roster_part (get_or s 5 0) s
  unfolding shown_to_desk shown_of
  part_counted =
      let w = seen_head alias s before k own e in
      ap (λ (p : Parsed Head). (shown_of s before p).roster) w.2 ∙ ap (λ (n : ℕ). roster_part n s) (counted w.0 w.1 w.2)

  pub part_long : length (shown_to_desk alias s before).roster ≡ get_or s 5 0 * 4
  unfolding roster_part
  part_long =
      let w = seen_head alias s before k own e in
      let l : 6 + get_or s 5 0 * 4 ≤ length s = omega (arith, inside alias s w.0 w.1 (head_back alias s w.0 w.1 w.2), counted w.0 w.1 w.2) in
      ap length part_counted ∙ length-take-le (get_or s 5 0 * 4) (drop 6 s) (omega (arith, length-drop 6 s))

-- and what is handed back is the bytes of the roster's serials, and no others
pub part_bytes : (alias : ℕ → ℕ) (s before : List ℕ) (h : Head) (t : List ℕ) → AllBytes s → head_section alias s ≡ got h t → (shown_to_desk alias s before).roster ≡ serials_bytes h.roster
unfolding shown_to_desk shown_of roster_part serial_bytes
part_bytes alias s before h t b e =
    ap (λ (p : Parsed Head). (shown_of s before p).roster) e
    ∙ ap (λ (l : List ℕ). take (length h.roster * 4) (drop 6 l)) (head_bytes alias s h t (head_back alias s h t e) b)
    ∙ take_at (serials_bytes h.roster) t (length h.roster * 4) (omega (arith, length_serials_bytes h.roster))
