-- The head of a record at a position of the bytes, section by section: one law for each way that a section goes.
-- Assumes nothing.
use Rattle.refusals.specs.declared.Refusal.{Refusal}
use Rattle.refusals.specs.declared.Refusal.TheVariants as R
use Rattle.std.specs.Prelude.{Result, Ok, Err}
use mathlib.Core.Path.{◌≡◌, refl, sym, ap, ◌∙◌}
use mathlib.Core.Bool.{Bool, true, false, cond}
use mathlib.Core.List.{List, []}
use Prim.Native.Nat.{ℕ, zero, suc, ◌+◌, ◌*◌, ◌≤◌, ◌<◌}
use lib.Dec.{leb}
use lib.ListN.{length, get_or, take, drop}
use borrow.Author.Tests.{le-leb, lt-leb, ne_eqb}
use Rattle.sets.specs.PlaceSets.{found}
use Rattle.sets.specs.declared.Place.{Place}
use Rattle.std.specs.Prelude.{Option, Some, None, Result, Ok, Err}
use Rattle.sets.proofs.Laws.{found_at}
use Rattle.histories.specs.declared.Kind.{Kind}
use Rattle.histories.specs.declared.Kind.TheVariants.{Full, Short}
use Rattle.serials.specs.Rosters.{place_from}
use Rattle.serials.specs.declared.Serial.{Serial}
use Rattle.serials.specs.Seconds.{stands_for}
use Rattle.serials.proofs.Rosters.{found_holds, found_lacks}
use Rattle.serials.proofs.Seconds.{from_start}
use Rattle.layouts.specs.Layout.{Parsed, got, refused, then, check, word_at, serial, known_kind, kind_of, kind_section, roster_serials, roster_section, is_on, place_on, Head, head_section}
use Rattle.layouts.specs.Parts.{roster_after, own_after, section_by, head_on, head_of, Rostered, HeadIn, Like}
use Rattle.layouts.proofs.Sections.{check_yes, check_no, byte_early, byte_got, serial_early, serial_zero, serial_got}

-- ---- a serial

alone : {A : Type 0} (q : Parsed A) → then q got ≡ q
unfolding then
alone (got a s) = refl
alone (refused j) = refl

-- what a serial that was read says of the bytes
abbrev pub serial_by : Result Serial Refusal → List ℕ → ℕ → Parsed ℕ
serial_by x s p = section_by x (λ y. y.0) (λ _. drop (p + 4) s)

module _ (s : List ℕ) (p : ℕ) where
  pub serial_missing : length s < p + 4 → serial (drop p s) ≡ serial_by (Err R.EndsEarly) s p
  unfolding section_by
  serial_missing h = sym (alone (serial (drop p s))) ∙ serial_early s p got h

  module _ (h : p + 4 ≤ length s) (x : Serial) (w : x.0 ≡ word_at s p) where
    pub serial_nil : x.0 ≡ 0 → serial (drop p s) ≡ serial_by (Err R.ZeroSerial) s p
    unfolding section_by
    serial_nil z = sym (alone (serial (drop p s))) ∙ serial_zero s p got h x.0 w z

    pub serial_some : (x.0 ≡ 0 → ⊥) → serial (drop p s) ≡ serial_by (Ok x) s p
    unfolding section_by
    serial_some z = sym (alone (serial (drop p s))) ∙ serial_got s p got h x.0 w z

-- what follows a serial that was read so
module _ {A : Type 0} (s : List ℕ) (p : ℕ) (x : Result Serial Refusal) (read : serial (drop p s) ≡ serial_by x s p) (next : ℕ → List ℕ → Parsed A) where
  pub serial_fault : (j : Refusal) → x ≡ Err j → then (serial (drop p s)) next ≡ refused j
  unfolding then section_by
  serial_fault j z = ap (λ (q : Parsed ℕ). then q next) (read ∙ ap (λ (y : Result Serial Refusal). serial_by y s p) z)

  pub serial_read : (y : Serial) → x ≡ Ok y → then (serial (drop p s)) next ≡ next y.0 (drop (p + 4) s)
  unfolding then section_by
  serial_read y z = ap (λ (q : Parsed ℕ). then q next) (read ∙ ap (λ (y : Result Serial Refusal). serial_by y s p) z)

-- ---- the roster's count, and its serials

counted : ℕ → List ℕ → Parsed (List ℕ)
counted n s = check (leb 1 n) R.BadCount (check (leb n 128) R.BadCount (roster_serials n [] s))

module _ (s : List ℕ) (p : ℕ) where
  pub roster_early : length s ≤ p → roster_section (drop p s) ≡ refused R.EndsEarly
  unfolding roster_section counted
  roster_early h = byte_early s p counted h

  module _ (h : p < length s) where
    pub roster_few : get_or s p 0 < 1 → roster_section (drop p s) ≡ refused R.BadCount
    unfolding roster_section counted
    roster_few e = byte_got s p counted h ∙ check_no _ R.BadCount _ (lt-leb _ _ e)

    pub roster_many : 1 ≤ get_or s p 0 → 128 < get_or s p 0 → roster_section (drop p s) ≡ refused R.BadCount
    unfolding roster_section counted
    roster_many f e = byte_got s p counted h ∙ check_yes _ R.BadCount _ (le-leb _ _ f) ∙ check_no _ R.BadCount _ (lt-leb _ _ e)

    pub roster_counted : 1 ≤ get_or s p 0 → get_or s p 0 ≤ 128 → roster_section (drop p s) ≡ roster_serials (get_or s p 0) [] (drop (p + 1) s)
    unfolding roster_section counted
    roster_counted f e = byte_got s p counted h ∙ check_yes _ R.BadCount _ (le-leb _ _ f) ∙ check_yes _ R.BadCount _ (le-leb _ _ e)

-- what a roster's section that was read says of the bytes: its serials stand at the front of a list
abbrev pub roster_by : Result ℕ Refusal → List ℕ → ℕ → List ℕ → Parsed (List ℕ)
roster_by x s p l = section_by x (λ n. take n l) (λ n. drop (p + 1 + n * 4) s)

module _ (s : List ℕ) (p : ℕ) (l : List ℕ) where
  pub section_early : length s ≤ p → roster_section (drop p s) ≡ roster_by (Err R.EndsEarly) s p l
  unfolding section_by
  section_early h = roster_early s p h

  module _ (h : p < length s) where
    pub section_few : get_or s p 0 < 1 → roster_section (drop p s) ≡ roster_by (Err R.BadCount) s p l
    unfolding section_by
    section_few e = roster_few s p h e

    pub section_many : 1 ≤ get_or s p 0 → 128 < get_or s p 0 → roster_section (drop p s) ≡ roster_by (Err R.BadCount) s p l
    unfolding section_by
    section_many f e = roster_many s p h f e

    module _ (f : 1 ≤ get_or s p 0) (e : get_or s p 0 ≤ 128) (x : Result (Unit {0}) Refusal)
        (r : roster_serials (get_or s p 0) [] (drop (p + 1) s) ≡ section_by x (λ _. take (get_or s p 0) l) (λ _. drop (p + 1 + get_or s p 0 * 4) s)) where
      pub section_fault : (j : Refusal) → x ≡ Err j → roster_section (drop p s) ≡ roster_by (Err j) s p l
      unfolding section_by
      section_fault j z = roster_counted s p h f e ∙ r ∙ rw z

      pub section_read : x ≡ Ok tt → roster_section (drop p s) ≡ roster_by (Ok (get_or s p 0)) s p l
      unfolding section_by
      section_read z = roster_counted s p h f e ∙ r ∙ rw z

-- the section that is known to be of a list
pub like_section : (b : List ℕ) (at : ℕ) (list : List ℕ) → Like b at list → roster_section (drop at b) ≡ roster_by (Ok (length list)) b at list
unfolding section_by
like_section b at list w = roster_counted b at w.inside w.some w.few ∙ w.parsed

-- ---- with the own serial looked up on it

module _ (alias : ℕ → ℕ) (k : Kind) (own at n : ℕ) (r : List ℕ) (f : Option Place) (e : f ≡ found (length r) (place_from 0 (stands_for alias r own) r)) where
  is : f ≡ found (length r) (place_on alias r own)
  is = e ∙ ap (found (length r)) (from_start r (stands_for alias r own))

  pub own_lost : f ≡ None → Err R.NotOnRoster ≡ head_on alias k own at n r
  unfolding head_on
  own_lost a = rw (found_lacks (stands_for alias r own) r f is a)

  pub own_found : (q : Place) → f ≡ Some q → Ok (record { kind = k; own = record { 0 = own }; place = q; roster = at; count = n }) ≡ head_on alias k own at n r
  unfolding head_on
  own_found q a =
      let p : place_on alias r own ≡ q.0 = (found_at (length r) (place_on alias r own) q (sym is ∙ a)).0 in
      rw (found_holds (stands_for alias r own) r f is q a, p)

module _ (alias : ℕ → ℕ) (k : Kind) (own : ℕ) where
  judge : List ℕ → List ℕ → Parsed Head
  judge r s₁ = check (is_on alias r own) R.NotOnRoster (got (record { kind = k; own = own; place = place_on alias r own; roster = r }) s₁)

  after : (s : List ℕ) (q : Parsed (List ℕ)) → roster_section s ≡ q → roster_after alias k own s ≡ then q judge
  unfolding roster_after judge
  after s q e = ap (λ (z : Parsed (List ℕ)). then z judge) e

  -- the own serial looked up on the first n of a list
  module _ (b list : List ℕ) (at n : ℕ) where
    on_head : judge (take n list) (drop (at + n * 4) b) ≡ head_of (head_on alias k own at n (take n list)) b list
    unfolding judge head_on head_of check
    on_head = go (is_on alias (take n list) own)
      where
        h : Head
        h = record { kind = k; own = own; place = place_on alias (take n list) own; roster = take n list }

        go : (t : Bool) → check t R.NotOnRoster (got h (drop (at + n * 4) b))
            ≡ head_of (cond t (Ok (record { kind = k; own = record { 0 = own }; place = record { 0 = place_on alias (take n list) own }; roster = at; count = n })) (Err R.NotOnRoster)) b list
        go true = refl
        go false = refl

    pub on_in : Rostered b at n list → HeadIn (head_on alias k own at n (take n list)) b at list
    unfolding head_on
    on_in r = go (is_on alias (take n list) own)
      where
        go : (t : Bool) → HeadIn (cond t (Ok (record { kind = k; own = record { 0 = own }; place = record { 0 = place_on alias (take n list) own }; roster = at; count = n })) (Err R.NotOnRoster)) b at list
        go true = record { starts = refl; rostered = r }
        go false = tt

  -- the section was read: the first n of a list, or a fault
  module _ (s : List ℕ) (p : ℕ) (x : Result ℕ Refusal) (list : List ℕ) (read : roster_section (drop p s) ≡ roster_by x s p list) where
    pub after_fault : (j : Refusal) → x ≡ Err j → roster_after alias k own (drop p s) ≡ refused j
    unfolding then section_by
    after_fault j z = after (drop p s) (refused j) (read ∙ ap (λ (y : Result ℕ Refusal). roster_by y s p list) z)

    pub after_read : (n : ℕ) → x ≡ Ok n → roster_after alias k own (drop p s) ≡ head_of (head_on alias k own (p + 1) n (take n list)) s list
    unfolding then section_by
    after_read n z = after (drop p s) (got (take n list) (drop (p + 1 + n * 4) s)) (read ∙ ap (λ (y : Result ℕ Refusal). roster_by y s p list) z) ∙ on_head s list (p + 1) n

-- ---- the own serial, and the roster after it

module _ (alias : ℕ → ℕ) (k : Kind) (s : List ℕ) (p : ℕ) (x : Result Serial Refusal) (read : serial (drop p s) ≡ serial_by x s p) where
  pub own_fault : (j : Refusal) → x ≡ Err j → own_after alias k (drop p s) ≡ refused j
  unfolding own_after
  own_fault j z = serial_fault s p x read (roster_after alias k) j z

  pub own_got : (y : Serial) → x ≡ Ok y → own_after alias k (drop p s) ≡ roster_after alias k y.0 (drop (p + 4) s)
  unfolding own_after
  own_got y z = serial_read s p x read (roster_after alias k) y z

-- ---- the kind, and the own serial after it

known : ℕ → List ℕ → Parsed Kind
known b s = check (known_kind b) R.UnknownKind (got (kind_of b) s)

module _ (alias : ℕ → ℕ) (s : List ℕ) (p : ℕ) where
  head_is : head_section alias (drop p s) ≡ then (kind_section (drop p s)) (own_after alias)
  unfolding head_section own_after roster_after
  head_is = refl

  pub head_early : length s ≤ p → head_section alias (drop p s) ≡ refused R.EndsEarly
  unfolding kind_section known then
  head_early h = head_is ∙ ap (λ (z : Parsed Kind). then z (own_after alias)) (byte_early s p known h)

  module _ (h : p < length s) where
    strange : known_kind (get_or s p 0) ≡ false → head_section alias (drop p s) ≡ refused R.UnknownKind
    unfolding kind_section known then
    strange e = head_is ∙ ap (λ (z : Parsed Kind). then z (own_after alias)) (byte_got s p known h ∙ check_no _ R.UnknownKind _ e)

    kinded : known_kind (get_or s p 0) ≡ true → head_section alias (drop p s) ≡ own_after alias (kind_of (get_or s p 0)) (drop (p + 1) s)
    unfolding kind_section known then
    kinded e = head_is ∙ ap (λ (z : Parsed Kind). then z (own_after alias)) (byte_got s p known h ∙ check_yes _ R.UnknownKind _ e)

    pub head_full : get_or s p 0 ≡ 1 → head_section alias (drop p s) ≡ own_after alias Full (drop (p + 1) s)
    unfolding known_kind kind_of
    head_full e = kinded (rw e) ∙ rw e

    pub head_short : get_or s p 0 ≡ 2 → head_section alias (drop p s) ≡ own_after alias Short (drop (p + 1) s)
    unfolding known_kind kind_of
    head_short e = kinded (rw e) ∙ rw e

    pub head_unknown : (get_or s p 0 ≡ 1 → ⊥) → (get_or s p 0 ≡ 2 → ⊥) → head_section alias (drop p s) ≡ refused R.UnknownKind
    unfolding known_kind
    head_unknown a b = strange (rw (ne_eqb (get_or s p 0) 1 a, ne_eqb (get_or s p 0) 2 b))
