-- Laws of the layout, section by section: it reads what it lays down, and what the bytes were where it reads. Assumes nothing.
use Rattle.refusals.specs.declared.Refusal.{Refusal}
use Rattle.refusals.specs.declared.Refusal.TheVariants as R
use Rattle.std.specs.Prelude.{Result, Ok, Err}
use mathlib.Core.Path.{◌≡◌, refl, sym, ap, ap₂, subst, fun_ext, ◌∙◌}
use mathlib.Core.Bool.{Bool, true, false, not, cond, ◌&&◌, ◌||◌, or-true, or-false, and-true, and-false}
use mathlib.Core.Logic.{◌⊎◌, inl, inr}
use mathlib.Core.List.{List, [], ◌∷◌, ◌++◌, map, append_assoc, append-nil}
use Prim.Native.Nat.{ℕ, zero, suc, ◌+◌, ◌-◌, ◌*◌, ◌/◌, ◌%◌, ◌^◌, ◌≤◌, ◌<◌}
use native.Mathlib.Omega.{arith}
use native.Mathlib.Decide.{ℕ_discrete}
use lib.ListN.{length, get_or, take, drop, length-append, length-drop, length-map, drop_of_length-le}
use lib.Seq.{drop-cons, drop-drop, drop_at, get_or-drop, get_or-append_seam, length-take-le}
use lib.Dec.{eqb, leb, ltb}
use borrow.Author.Tests.{leb-true, le-leb, lt-ltb, eqb-true, eqb-false, eq-eqb, ne_eqb, ltb-true, le-ltb}
use Rattle.sets.specs.Sets.{Places, nothing, with}
use Rattle.sets.proofs.Booleans.{clash, both_ways, and_intro, or_cases, or_right, not_true, not_intro, eqb_self}
use Rattle.histories.specs.declared.Kind.{Kind}
use Rattle.histories.specs.declared.Kind.TheVariants.{Full, Short}
use Rattle.serials.specs.Rosters.{place_of, holds, IsRoster}
use Rattle.serials.specs.Seconds.{stands_for}
use Rattle.serials.proofs.Seconds.{stands_itself}
use Rattle.layouts.specs.Layout.{Parsed, got, refused, then, check, byte, word_at, serial, known_kind, kind_of, kind_section, roster_serials, roster_section, is_on, place_on, Head, head_section, mourned_serials, mourned_section, Stored, stored, kind_byte, serial_bytes, serials_bytes, chosen, layout}
use Rattle.layouts.specs.Records.{serials, put_at}
use Rattle.layouts.proofs.Serials.{Apart, apart_nil, apart_more, apart_seam, place_at_lem, place_own, holds_below, below_holds}

-- every element is a byte
abbrev pub AllBytes : List ℕ → Type 0
AllBytes s = (i : ℕ) → get_or s i 0 < 256

-- a record that bytes can hold
pub record IsStored (x : Stored) : Type 0 where
  pub roster : IsRoster x.roster
  pub below : (p : ℕ) → p < length x.roster → get_or x.roster p 0 < 2 ^ 32
  pub own : x.own < length x.roster
  pub mourned : (q : ℕ) → x.mourned q ≡ true → q < length x.roster

pub bytes_drop : (n : ℕ) (s : List ℕ) → AllBytes s → AllBytes (drop n s)
bytes_drop n s h i = rw (get_or-drop n s i 0) (h (n + i))

-- ---- a section after another, and a test

pub then_got : {A B : Type 0} {p : Parsed A} (next : A → List ℕ → Parsed B) (a : A) (s : List ℕ) → p ≡ got a s → then p next ≡ next a s
unfolding then
then_got next a s e = rw e

pub check_yes : {A : Type 0} (b : Bool) (j : Refusal) (p : Parsed A) → b ≡ true → check b j p ≡ p
unfolding check
check_yes b j p e = rw e

pub then_back : {A B : Type 0} (p : Parsed A) (next : A → List ℕ → Parsed B) (b : B) (t : List ℕ) → then p next ≡ got b t
    → (a : A) × (s : List ℕ) × (p ≡ got a s) × (next a s ≡ got b t)
unfolding then
then_back (got a s) next b t e = (a, s, refl, e)
then_back (refused j) next b t e = let z : ◌≡◌ {A = ℕ} 0 1 = cc in absurd (omega arith)

pub check_back : {A : Type 0} (b : Bool) (j : Refusal) (p : Parsed A) (a : A) (t : List ℕ) → check b j p ≡ got a t → (b ≡ true) × (p ≡ got a t)
unfolding check
check_back true j p a t e = (refl, e)
check_back false j p a t e = let z : ◌≡◌ {A = ℕ} 0 1 = cc in absurd (omega arith)

-- ---- a byte

pub byte_back : (s : List ℕ) (a : ℕ) (t : List ℕ) → byte s ≡ got a t → s ≡ a ∷ t
unfolding byte
byte_back [] a t e = let z : ◌≡◌ {A = ℕ} 0 1 = cc in absurd (omega arith)
byte_back (y ∷ ys) a t e = cc

-- ---- a serial

-- a number that fits four bytes, put together again from them
word_serial : (x : ℕ) → x < 2 ^ 32 → x / 16777216 % 256 * 16777216 + x / 65536 % 256 * 65536 + x / 256 % 256 * 256 + x % 256 ≡ x
word_serial x h = let top : x / 16777216 % 256 ≡ x / 16777216 = omega arith in omega arith

pub serial_read : (x : ℕ) (t : List ℕ) → ¬ (x ≡ 0) → x < 2 ^ 32 → serial (serial_bytes x ++ t) ≡ got x t
unfolding serial serial_bytes
serial_read x t z h =
    let w : x / 16777216 % 256 * 16777216 + x / 65536 % 256 * 65536 + x / 256 % 256 * 256 + x % 256 ≡ x = word_serial x h in
    check_yes _ R.EndsEarly _ (le-leb 4 (suc (suc (suc (suc (length t))))) (omega arith))
    ∙ check_yes _ R.ZeroSerial _ (not_intro (ne_eqb (x / 16777216 % 256 * 16777216 + x / 65536 % 256 * 65536 + x / 256 % 256 * 256 + x % 256) 0 (λ e. z (sym w ∙ e))))
    ∙ ap (λ (v : ℕ). got v t) w

pub serial_back : (s : List ℕ) (x : ℕ) (t : List ℕ) → serial s ≡ got x t → (4 ≤ length s) × (¬ (x ≡ 0)) × (x ≡ word_at s 0) × (t ≡ drop 4 s)
unfolding serial
serial_back s x t e =
    let a = check_back (leb 4 (length s)) R.EndsEarly (check (not (eqb (word_at s 0) 0)) R.ZeroSerial (got (word_at s 0) (drop 4 s))) x t e in
    let b = check_back (not (eqb (word_at s 0) 0)) R.ZeroSerial (got (word_at s 0) (drop 4 s)) x t a.1 in
    let g : got (word_at s 0) (drop 4 s) ≡ got x t = b.1 in
    let v : word_at s 0 ≡ x = cc in
    let r : drop 4 s ≡ t = cc in
    (leb-true 4 (length s) a.0, λ z. eqb-false (word_at s 0) 0 (not_true (eqb (word_at s 0) 0) b.0) (v ∙ z), sym v, sym r)

-- the number's bytes are the four that spell it
spelt : (a b c d : ℕ) → a < 256 → b < 256 → c < 256 → d < 256 → (x : ℕ) → x ≡ a * 16777216 + b * 65536 + c * 256 + d
    → (a ≡ x / 16777216 % 256) × (b ≡ x / 65536 % 256) × (c ≡ x / 256 % 256) × (d ≡ x % 256)
spelt a b c d ha hb hc hd x e = (omega arith, omega arith, omega arith, omega arith)

pub word_below : (s : List ℕ) → AllBytes s → word_at s 0 < 2 ^ 32
word_below s h = omega (arith, h 0, h 1, h 2, h 3)

pub word_bytes : (s : List ℕ) → AllBytes s → 4 ≤ length s → s ≡ serial_bytes (word_at s 0) ++ drop 4 s
unfolding serial_bytes
word_bytes [] h l = absurd (omega arith)
word_bytes (a ∷ []) h l = absurd (omega arith)
word_bytes (a ∷ b ∷ []) h l = absurd (omega arith)
word_bytes (a ∷ b ∷ c ∷ []) h l = absurd (omega arith)
word_bytes (a ∷ b ∷ c ∷ d ∷ t) h l =
    let p = spelt a b c d (h 0) (h 1) (h 2) (h 3) (a * 16777216 + b * 65536 + c * 256 + d) refl in
    λ i. p.0 i ∷ p.1 i ∷ p.2 i ∷ p.3 i ∷ t

-- ---- serials one after another

pub length_serials : (n : ℕ) (s : List ℕ) → length (serials n s) ≡ n
unfolding serials
length_serials zero s = refl
length_serials (suc n) s = ap suc (length_serials n (drop 4 s))

pub serials_below : (n : ℕ) (s : List ℕ) → AllBytes s → (p : ℕ) → p < n → get_or (serials n s) p 0 < 2 ^ 32
unfolding serials
serials_below zero s h p l = absurd (omega arith)
serials_below (suc n) s h zero l = word_below s h
serials_below (suc n) s h (suc p) l = serials_below n (drop 4 s) (bytes_drop 4 s h) p (omega arith)

-- four bytes more are dropped
four_more : (n : ℕ) (s : List ℕ) → drop (4 * n) (drop 4 s) ≡ drop (4 * suc n) s
four_more n s = let e : 4 + 4 * n ≡ 4 * suc n = omega arith in drop-drop (4 * n) 4 s ∙ ap (λ (k : ℕ). drop k s) e

pub serials_bytes_lem : (n : ℕ) (s : List ℕ) → AllBytes s → 4 * n ≤ length s → s ≡ serials_bytes (serials n s) ++ drop (4 * n) s
unfolding serials serials_bytes
serials_bytes_lem zero s h l = refl
serials_bytes_lem (suc n) s h l =
    word_bytes s h (omega arith)
    ∙ ap (λ (t : List ℕ). serial_bytes (word_at s 0) ++ t) (serials_bytes_lem n (drop 4 s) (bytes_drop 4 s h) (omega (arith, length-drop 4 s)) ∙ ap (λ (t : List ℕ). serials_bytes (serials n (drop 4 s)) ++ t) (four_more n s))
    ∙ sym (append_assoc (serial_bytes (word_at s 0)) (serials_bytes (serials n (drop 4 s))) (drop (4 * suc n) s))

pub length_serials_bytes : (r : List ℕ) → length (serials_bytes r) ≡ 4 * length r
unfolding serials_bytes serial_bytes
length_serials_bytes [] = refl
length_serials_bytes (x ∷ r) = omega (arith, length_serials_bytes r)

-- the serials that bytes were made of
pub bytes_serials : (r t : List ℕ) → ((p : ℕ) → p < length r → get_or r p 0 < 2 ^ 32) → serials (length r) (serials_bytes r ++ t) ≡ r
unfolding serials serials_bytes serial_bytes
bytes_serials [] t h = refl
bytes_serials (x ∷ r) t h = λ i. word_serial x (h 0 (omega arith)) i ∷ bytes_serials r t (λ p l. h (suc p) (omega arith)) i

-- ---- the kind

pub kind_read : (k : Kind) (t : List ℕ) → kind_section (kind_byte k ∷ t) ≡ got k t
unfolding kind_section then byte check known_kind kind_of kind_byte
kind_read Full t = refl
kind_read Short t = refl

kind_known : (b : ℕ) → known_kind b ≡ true → b ≡ kind_byte (kind_of b)
unfolding known_kind kind_of kind_byte
kind_known b e = go (eqb b 1) refl e
  where
    go : (t : Bool) → eqb b 1 ≡ t → t || eqb b 2 ≡ true → b ≡ kind_byte (cond t Full Short)
    go true q f = eqb-true b 1 q
    go false q f = eqb-true b 2 f

pub kind_back : (s : List ℕ) (k : Kind) (t : List ℕ) → kind_section s ≡ got k t → s ≡ kind_byte k ∷ t
unfolding kind_section
kind_back s k t e =
    let w = then_back (byte s) (λ b s₁. check (known_kind b) R.UnknownKind (got (kind_of b) s₁)) k t e in
    let c = check_back (known_kind w.0) R.UnknownKind (got (kind_of w.0) w.1) k t w.3 in
    let g : got (kind_of w.0) w.1 ≡ got k t = c.1 in
    let r : w.1 ≡ t = cc in
    let b : kind_of w.0 ≡ k = cc in
    byte_back s w.0 w.1 w.2 ∙ ap₂ (λ (x : ℕ) (l : List ℕ). x ∷ l) (kind_known w.0 c.0 ∙ ap kind_byte b) r

-- ---- the roster

pub roster_read : (ys seen t : List ℕ) → Apart (seen ++ ys) → ((p : ℕ) → p < length (seen ++ ys) → get_or (seen ++ ys) p 0 < 2 ^ 32)
    → roster_serials (length ys) seen (serials_bytes ys ++ t) ≡ got (seen ++ ys) t
unfolding roster_serials serials_bytes
roster_read [] seen t a h = ap (λ (l : List ℕ). got l t) (sym (append-nil seen))
roster_read (y ∷ ys) seen t a h =
    let on : length seen < length (seen ++ (y ∷ ys)) = omega (arith, length-append seen (y ∷ ys)) in
    let is : get_or (seen ++ (y ∷ ys)) (length seen) 0 ≡ y = get_or-append_seam seen y ys 0 in
    let one : (seen ++ (y ∷ [])) ++ ys ≡ seen ++ (y ∷ ys) = append_assoc seen (y ∷ []) ys in
    ap (roster_serials (suc (length ys)) seen) (append_assoc (serial_bytes y) (serials_bytes ys) t)
    ∙ then_got _ y (serials_bytes ys ++ t) (serial_read y (serials_bytes ys ++ t) (λ z. a.no_zero (length seen) on (is ∙ z)) (rw is at (h (length seen) on)))
    ∙ check_yes _ R.Twice _ (not_intro (apart_seam seen y ys a))
    ∙ roster_read ys (seen ++ (y ∷ [])) t (rw one a) (rw one h)
    ∙ ap (λ (l : List ℕ). got l t) one

pub roster_back : (n : ℕ) (seen s r t : List ℕ) → Apart seen → roster_serials n seen s ≡ got r t
    → (4 * n ≤ length s) × (t ≡ drop (4 * n) s) × (r ≡ seen ++ serials n s) × Apart r
unfolding roster_serials serials
roster_back zero seen s r t a e =
    let v : seen ≡ r = cc in
    let w : s ≡ t = cc in
    (omega arith, sym w, sym v ∙ sym (append-nil seen), rw v at a)
roster_back (suc n) seen s r t a e =
    let w = then_back (serial s) (λ x s₁. check (not (holds x seen)) R.Twice (roster_serials n (seen ++ (x ∷ [])) s₁)) r t e in
    let x : ℕ = w.0 in
    let s₁ : List ℕ = w.1 in
    let v = serial_back s x s₁ w.2 in
    let c = check_back (not (holds x seen)) R.Twice (roster_serials n (seen ++ (x ∷ [])) s₁) r t w.3 in
    let u = roster_back n (seen ++ (x ∷ [])) s₁ r t (apart_more seen x a v.1 (not_true (holds x seen) c.0)) c.1 in
    let d : s₁ ≡ drop 4 s = v.3 in (
      omega (arith, v.0, u.0, ap length d ∙ length-drop 4 s),
      u.1 ∙ ap (drop (4 * n)) d ∙ four_more n s,
      u.2 ∙ append_assoc seen (x ∷ []) (serials n s₁) ∙ ap₂ (λ (y : ℕ) (l : List ℕ). seen ++ (y ∷ serials n l)) v.2 d,
      u.3,
    )

-- ---- the serials of the places in a set

pub chosen_at_most : (M : Places) (r : List ℕ) → length (chosen M r) ≤ length r
unfolding chosen
chosen_at_most M [] = omega arith
chosen_at_most M (x ∷ xs) = go (M 0) (chosen_at_most (λ k. M (suc k)) xs)
  where
    go : (b : Bool) → length (chosen (λ k. M (suc k)) xs) ≤ length xs → length (cond b (x ∷ chosen (λ k. M (suc k)) xs) (chosen (λ k. M (suc k)) xs)) ≤ suc (length xs)
    go true h = omega arith
    go false h = omega arith

pub chosen_all : (M : Places) (r : List ℕ) → ((k : ℕ) → k < length r → M k ≡ true) → chosen M r ≡ r
unfolding chosen
chosen_all M [] h = refl
chosen_all M (x ∷ xs) h = rw (h 0 (omega arith)) (ap (λ (l : List ℕ). x ∷ l) (chosen_all (λ k. M (suc k)) xs (λ k l. h (suc k) (omega arith))))

chosen_none : (M : Places) (r : List ℕ) → ((k : ℕ) → M k ≡ false) → chosen M r ≡ []
unfolding chosen
chosen_none M [] h = refl
chosen_none M (x ∷ xs) h = rw (h 0) (chosen_none (λ k. M (suc k)) xs (λ k. h (suc k)))

-- those from a place on
unfoldable pub chosen_from : Places → ℕ → List ℕ → List ℕ
chosen_from M o r = chosen (λ k. M (o + k)) (drop o r)

pub from_zero : (M : Places) (r : List ℕ) → chosen_from M 0 r ≡ chosen M r
unfolding chosen_from
from_zero M r = ap (λ (S : Places). chosen S r) (fun_ext (λ k. let e : 0 + k ≡ k = omega arith in ap M e))

pub from_end : (M : Places) (o : ℕ) (r : List ℕ) → length r ≤ o → chosen_from M o r ≡ []
unfolding chosen_from chosen
from_end M o r l = ap (chosen (λ k. M (o + k))) (drop_of_length-le r l)

pub from_none : (M : Places) (o : ℕ) (r : List ℕ) → ((k : ℕ) → o ≤ k → M k ≡ false) → chosen_from M o r ≡ []
unfolding chosen_from
from_none M o r h = chosen_none (λ k. M (o + k)) (drop o r) (λ k. h (o + k) (omega arith))

from_step : (M : Places) (o : ℕ) (r : List ℕ) → o < length r → chosen_from M o r ≡ cond (M o) (get_or r o 0 ∷ chosen_from M (suc o) r) (chosen_from M (suc o) r)
unfolding chosen_from chosen
from_step M o r l = ap (chosen (λ k. M (o + k))) (drop-cons r o 0 l) ∙ (λ i. cond (M (here i)) (get_or r o 0 ∷ chosen (later i) (drop (suc o) r)) (chosen (later i) (drop (suc o) r)))
  where
    here : o + 0 ≡ o
    here = omega arith

    later : ◌≡◌ {A = Places} (λ k. M (o + suc k)) (λ k. M (suc o + k))
    later = fun_ext (λ k. let e : o + suc k ≡ suc o + k = omega arith in ap M e)

-- the place is in the set, or it is not
pub from_in : (M : Places) (o : ℕ) (r : List ℕ) → o < length r → M o ≡ true → chosen_from M o r ≡ get_or r o 0 ∷ chosen_from M (suc o) r
from_in M o r l e = from_step M o r l ∙ ap (λ (b : Bool). cond b (get_or r o 0 ∷ chosen_from M (suc o) r) (chosen_from M (suc o) r)) e

pub from_out : (M : Places) (o : ℕ) (r : List ℕ) → o < length r → M o ≡ false → chosen_from M o r ≡ chosen_from M (suc o) r
from_out M o r l e = from_step M o r l ∙ ap (λ (b : Bool). cond b (get_or r o 0 ∷ chosen_from M (suc o) r) (chosen_from M (suc o) r)) e

-- none of the next d places is
pub from_skip : (M : Places) (d o : ℕ) (r : List ℕ) → o + d ≤ length r → ((k : ℕ) → o ≤ k → k < o + d → M k ≡ false) → chosen_from M o r ≡ chosen_from M (o + d) r
from_skip M zero o r l h = let e : o ≡ o + 0 = omega arith in ap (λ (k : ℕ). chosen_from M k r) e
from_skip M (suc d) o r l h =
    let e : suc o + d ≡ o + suc d = omega arith in
    from_out M o r (omega arith) (h o (omega arith) (omega arith)) ∙ from_skip M d (suc o) r (omega arith) (λ k a b. h k (omega arith) (omega arith)) ∙ ap (λ (k : ℕ). chosen_from M k r) e

-- ---- the mourned

-- a serial of the roster stands for itself, whatever others count as
pub own_place : (alias : ℕ → ℕ) (r : List ℕ) (x o : ℕ) → place_of x r ≡ o → o < length r → (is_on alias r x ≡ true) × (place_on alias r x ≡ o)
own_place alias r x o p on =
    let h : holds x r ≡ true = below_holds x r (omega arith) in
    let e : stands_for alias r x ≡ x = stands_itself alias r x h in
    (ap (λ (y : ℕ). holds y r) e ∙ h, ap (λ (y : ℕ). place_of y r) e ∙ p)

mourned_step : (alias : ℕ → ℕ) (m : ℕ) (r : List ℕ) (from : ℕ) (A : Places) (x o : ℕ) (t : List ℕ) → ¬ (x ≡ 0) → x < 2 ^ 32 → place_of x r ≡ o → o < length r → from ≤ o
    → mourned_serials alias (suc m) r from A (serial_bytes x ++ t) ≡ mourned_serials alias m r (suc o) (with o A) t
unfolding mourned_serials
mourned_step alias m r from A x o t z h p on l =
    let w = own_place alias r x o p on in
    let g : from ≤ place_on alias r x = omega (arith, w.1) in
    then_got _ x t (serial_read x t z h) ∙ check_yes _ R.NotOnRoster _ w.0 ∙ check_yes _ R.OutOfOrder _ (le-leb from (place_on alias r x) g)
    ∙ ap (λ (k : ℕ). mourned_serials alias m r (suc k) (with k A) t) w.1

-- M as far as a place
abbrev up_to : ℕ → Places → Places
up_to o M k = M k && ltb k o

up_other : (k o : ℕ) → ¬ (k ≡ o) → ltb k o ≡ ltb k (suc o)
up_other k o d =
    both_ways (ltb k o) (ltb k (suc o)) (λ e. let l : k < o = ltb-true k o e in lt-ltb k (suc o) (omega arith)) (λ e. let l : k < suc o = ltb-true k (suc o) e in lt-ltb k o (omega arith))

up_in : (M : Places) (o : ℕ) → M o ≡ true → with o (up_to o M) ≡ up_to (suc o) M
up_in M o e = fun_ext (λ k. go k (ℕ_discrete k o))
  where
    go : (k : ℕ) → Dec (k ≡ o) → (M k && ltb k o) || eqb k o ≡ M k && ltb k (suc o)
    go k (yes q) =
        ap (λ (b : Bool). (M k && ltb k o) || b) (eq-eqb k o q) ∙ or-true (M k && ltb k o) ∙ sym (and_intro (ap M q ∙ e) (lt-ltb k (suc o) (omega arith)))
    go k (no q) =
        ap (λ (b : Bool). (M k && ltb k o) || b) (ne_eqb k o q) ∙ or-false (M k && ltb k o) ∙ ap (λ (b : Bool). M k && b) (up_other k o q)

up_out : (M : Places) (o : ℕ) → M o ≡ false → up_to o M ≡ up_to (suc o) M
up_out M o e = fun_ext (λ k. go k (ℕ_discrete k o))
  where
    go : (k : ℕ) → Dec (k ≡ o) → M k && ltb k o ≡ M k && ltb k (suc o)
    go k (yes q) = let m : M k ≡ false = ap M q ∙ e in ap (λ (b : Bool). b && ltb k o) m ∙ sym (ap (λ (b : Bool). b && ltb k (suc o)) m)
    go k (no q) = ap (λ (b : Bool). M k && b) (up_other k o q)

up_none : (M : Places) → up_to 0 M ≡ nothing
up_none M = fun_ext (λ k. ap (λ (b : Bool). M k && b) (le-ltb k 0 (omega arith)) ∙ and-false (M k))

up_all : (M : Places) (o : ℕ) → ((k : ℕ) → M k ≡ true → k < o) → up_to o M ≡ M
up_all M o h = fun_ext (λ k. go k (M k) refl)
  where
    go : (k : ℕ) (b : Bool) → M k ≡ b → M k && ltb k o ≡ M k
    go k true e = ap (λ (b : Bool). M k && b) (lt-ltb k o (h k e)) ∙ and-true (M k)
    go k false e = ap (λ (b : Bool). b && ltb k o) e ∙ sym e

module _ (alias : ℕ → ℕ) (r : List ℕ) (a : Apart r) (few : (p : ℕ) → p < length r → get_or r p 0 < 2 ^ 32) (M : Places) (on : (k : ℕ) → M k ≡ true → k < length r) (t : List ℕ) where
  -- n places are still to come, the places before o are read
  mourned_rest : (n o from : ℕ) → o + n ≡ length r → from ≤ o
      → mourned_serials alias (length (chosen_from M o r)) r from (up_to o M) (serials_bytes (chosen_from M o r) ++ t) ≡ got M t
  unfolding mourned_serials serials_bytes
  mourned_rest zero o from e l =
      ap (λ (c : List ℕ). mourned_serials alias (length c) r from (up_to o M) (serials_bytes c ++ t)) (from_end M o r (omega arith))
      ∙ ap (λ (S : Places). got S t) (up_all M o (λ k h. omega (arith, on k h)))
  mourned_rest (suc n) o from e l = go (M o) refl (mourned_rest n (suc o))
    where
      c : List ℕ
      c = chosen_from M (suc o) r

      go : (b : Bool) → M o ≡ b
          → ((from : ℕ) → suc o + n ≡ length r → from ≤ suc o → mourned_serials alias (length c) r from (up_to (suc o) M) (serials_bytes c ++ t) ≡ got M t)
          → mourned_serials alias (length (chosen_from M o r)) r from (up_to o M) (serials_bytes (chosen_from M o r) ++ t) ≡ got M t
      go true h next =
          ap (λ (l : List ℕ). mourned_serials alias (length l) r from (up_to o M) (serials_bytes l ++ t)) (from_in M o r (omega arith) h)
          ∙ ap (mourned_serials alias (suc (length c)) r from (up_to o M)) (append_assoc (serial_bytes (get_or r o 0)) (serials_bytes c) t)
          ∙ mourned_step alias (length c) r from (up_to o M) (get_or r o 0) o (serials_bytes c ++ t) (a.no_zero o (omega arith)) (few o (omega arith)) (place_own r a.no_repeat o (omega arith)) (omega arith) l
          ∙ ap (λ (S : Places). mourned_serials alias (length c) r (suc o) S (serials_bytes c ++ t)) (up_in M o h)
          ∙ next (suc o) (omega arith) (omega arith)
      go false h next =
          ap (λ (l : List ℕ). mourned_serials alias (length l) r from (up_to o M) (serials_bytes l ++ t)) (from_out M o r (omega arith) h)
          ∙ ap (λ (S : Places). mourned_serials alias (length c) r from S (serials_bytes c ++ t)) (up_out M o h)
          ∙ next from (omega arith) (omega arith)

  pub mourned_read : mourned_section alias r (length (chosen M r) ∷ (serials_bytes (chosen M r) ++ t)) ≡ got M t
  unfolding mourned_section then byte
  mourned_read =
      check_yes _ R.BadCount _ (le-leb (length (chosen M r)) (length r) (chosen_at_most M r))
      ∙ ap (λ (l : List ℕ). mourned_serials alias (length l) r 0 nothing (serials_bytes l ++ t)) (sym (from_zero M r))
      ∙ ap (λ (S : Places). mourned_serials alias (length (chosen_from M 0 r)) r 0 S (serials_bytes (chosen_from M 0 r) ++ t)) (sym (up_none M))
      ∙ mourned_rest (length r) 0 0 (omega arith) (omega arith)

with_self : (A : Places) (p : ℕ) → with p A p ≡ true
with_self A p = or_right (A p) (eqb_self p)

with_other : (A : Places) (p k : ℕ) → ¬ (k ≡ p) → with p A k ≡ A k
with_other A p k d = ap (λ (b : Bool). A k || b) (ne_eqb k p d) ∙ or-false (A k)

with_on : (A : Places) (p : ℕ) (r : List ℕ) → p < length r → ((k : ℕ) → A k ≡ true → k < length r) → (k : ℕ) → with p A k ≡ true → k < length r
with_on A p r l on k e = go (or_cases (A k) (eqb k p) e)
  where
    go : (A k ≡ true) ⊎ (eqb k p ≡ true) → k < length r
    go (inl h) = on k h
    go (inr h) = rw (eqb-true k p h) l

-- after the reading the set has, from `from` on, just the places of what those serials stand for
pub mourned_back : (alias : ℕ → ℕ) (m : ℕ) (r : List ℕ) (from : ℕ) (A : Places) (s : List ℕ) (S : Places) (t : List ℕ)
    → ((k : ℕ) → from ≤ k → A k ≡ false) → ((k : ℕ) → A k ≡ true → k < length r) → mourned_serials alias m r from A s ≡ got S t
    → (4 * m ≤ length s) × (t ≡ drop (4 * m) s) × (chosen_from S from r ≡ map (stands_for alias r) (serials m s)) × ((k : ℕ) → k < from → S k ≡ A k) × ((k : ℕ) → S k ≡ true → k < length r)
unfolding mourned_serials serials
mourned_back alias zero r from A s S t z on e =
    let w : A ≡ S = cc in
    let u : s ≡ t = cc in
    (omega arith, sym u, from_none S from r (rw w at z), λ k l. ap (λ (B : Places). B k) (sym w), rw w at on)
mourned_back alias (suc m) r from A s S t z on e =
    let w = then_back (serial s) (λ x s₁. check (is_on alias r x) R.NotOnRoster (check (leb from (place_on alias r x)) R.OutOfOrder (mourned_serials alias m r (suc (place_on alias r x)) (with (place_on alias r x) A) s₁))) S t e in
    let x : ℕ = w.0 in
    let s₁ : List ℕ = w.1 in
    let p : ℕ = place_on alias r x in
    let v = serial_back s x s₁ w.2 in
    let c = check_back (is_on alias r x) R.NotOnRoster (check (leb from p) R.OutOfOrder (mourned_serials alias m r (suc p) (with p A) s₁)) S t w.3 in
    let d = check_back (leb from p) R.OutOfOrder (mourned_serials alias m r (suc p) (with p A) s₁) S t c.1 in
    let lp : p < length r = holds_below (stands_for alias r x) r c.0 in
    let lf : from ≤ p = leb-true from p d.0 in
    let u = mourned_back alias m r (suc p) (with p A) s₁ S t (λ k l. with_other A p k (λ q. omega arith) ∙ z k (omega arith)) (with_on A p r lp on) d.1 in
    let j : from + (p - from) ≡ p = omega arith in
    let next : chosen_from S from r ≡ get_or r p 0 ∷ chosen_from S (suc p) r =
    from_skip S (p - from) from r (omega arith) (λ k f b. u.3 k (omega arith) ∙ with_other A p k (λ q. omega arith) ∙ z k f)
    ∙ ap (λ (k : ℕ). chosen_from S k r) j ∙ from_in S p r lp (u.3 p (omega arith) ∙ with_self A p) in (
      omega (arith, v.0, u.0, ap length v.3 ∙ length-drop 4 s),
      u.1 ∙ ap (drop (4 * m)) v.3 ∙ four_more m s,
      next ∙ ap₂ (λ (y : ℕ) (l : List ℕ). y ∷ l) (place_at_lem (stands_for alias r x) r lp ∙ ap (stands_for alias r) v.2) (u.2 ∙ ap (λ (l : List ℕ). map (stands_for alias r) (serials m l)) v.3),
      λ k l. u.3 k (omega arith) ∙ with_other A p k (λ q. omega arith),
      u.4,
    )

-- the mourned section: its count, its serials, and the bytes after it
pub record Mourning (alias : ℕ → ℕ) (r s : List ℕ) (M : Places) (t : List ℕ) : Type 0 where
  pub from_serials : List ℕ
  pub count : s ≡ length (chosen M r) ∷ from_serials
  pub there : 4 * length (chosen M r) ≤ length from_serials
  pub are : chosen M r ≡ map (stands_for alias r) (serials (length (chosen M r)) from_serials)
  pub rest : t ≡ drop (4 * length (chosen M r)) from_serials
  pub on : (k : ℕ) → M k ≡ true → k < length r

pub section_back : (alias : ℕ → ℕ) (r s : List ℕ) (M : Places) (t : List ℕ) → mourned_section alias r s ≡ got M t → Mourning alias r s M t
unfolding mourned_section
section_back alias r s M t e =
    let w = then_back (byte s) _ M t e in
    let m : ℕ = w.0 in
    let u : List ℕ = w.1 in
    let c = check_back (leb m (length r)) R.BadCount (mourned_serials alias m r 0 nothing u) M t w.3 in
    let v = mourned_back alias m r 0 nothing u M t (λ k l. refl) (λ k h. clash h refl) c.1 in
    let are : chosen M r ≡ map (stands_for alias r) (serials m u) = sym (from_zero M r) ∙ v.2 in
    let n : m ≡ length (chosen M r) = sym (ap length are ∙ length-map (serials m u) (stands_for alias r) ∙ length_serials m u) in
    record {
      from_serials = u;
      count = byte_back s m u w.2 ∙ ap (λ (k : ℕ). k ∷ u) n;
      there = omega (arith, v.0);
      are = are ∙ ap (λ (k : ℕ). map (stands_for alias r) (serials k u)) n;
      rest = v.1 ∙ ap (λ (k : ℕ). drop (4 * k) u) n;
      on = v.4;
    }

-- the sections before the mourned
pub record Heading (alias : ℕ → ℕ) (s : List ℕ) (h : Head) (t : List ℕ) : Type 0 where
  pub from_own : List ℕ
  pub from_serials : List ℕ
  pub kind : s ≡ kind_byte h.kind ∷ from_own
  pub own_there : 4 ≤ length from_own
  pub own_read : h.own ≡ word_at from_own 0
  pub own_is : get_or h.roster h.place 0 ≡ stands_for alias h.roster h.own
  pub count : drop 4 from_own ≡ length h.roster ∷ from_serials
  pub there : 4 * length h.roster ≤ length from_serials
  pub are : h.roster ≡ serials (length h.roster) from_serials
  pub rest : t ≡ drop (4 * length h.roster) from_serials
  pub own_on : h.place < length h.roster
  pub sound : IsRoster h.roster

-- the roster: its count, its serials, and the bytes after it
record Listing (s r t : List ℕ) : Type 0 where
  from_serials : List ℕ
  count : s ≡ length r ∷ from_serials
  there : 4 * length r ≤ length from_serials
  are : r ≡ serials (length r) from_serials
  rest : t ≡ drop (4 * length r) from_serials
  sound : IsRoster r

listing_back : (s r t : List ℕ) → roster_section s ≡ got r t → Listing s r t
unfolding roster_section
listing_back s r t e =
    let w = then_back (byte s) _ r t e in
    let n : ℕ = w.0 in
    let u : List ℕ = w.1 in
    let c = check_back (leb 1 n) R.BadCount (check (leb n 128) R.BadCount (roster_serials n [] u)) r t w.3 in
    let d = check_back (leb n 128) R.BadCount (roster_serials n [] u) r t c.1 in
    let v = roster_back n [] u r t apart_nil d.1 in
    let is : n ≡ length r = sym (ap length v.2 ∙ length_serials n u) in
    record {
      from_serials = u;
      count = byte_back s n u w.2 ∙ ap (λ (k : ℕ). k ∷ u) is;
      there = omega (arith, v.0);
      are = v.2 ∙ ap (λ (k : ℕ). serials k u) is;
      rest = v.1 ∙ ap (λ (k : ℕ). drop (4 * k) u) is;
      sound = record {
        some = omega (arith, leb-true 1 n c.0);
        few = omega (arith, leb-true n 128 d.0);
        no_zero = v.3.no_zero;
        no_repeat = v.3.no_repeat;
      };
    }

heading_is : (alias : ℕ → ℕ) (s : List ℕ) (g h : Head) (u t : List ℕ) → got g u ≡ got h t → Heading alias s g u → Heading alias s h t
heading_is alias s g h u t e a =
    let p : g ≡ h = cc in
    let q : u ≡ t = cc in
    subst (λ (k : Head). Heading alias s k t) p (subst (λ (l : List ℕ). Heading alias s g l) q a)

pub head_back : (alias : ℕ → ℕ) (s : List ℕ) (h : Head) (t : List ℕ) → head_section alias s ≡ got h t → Heading alias s h t
unfolding head_section
head_back alias s h t e =
    let a = then_back (kind_section s) _ h t e in
    let b = then_back (serial a.1) _ h t a.3 in
    let own : ℕ = b.0 in
    let c = then_back (roster_section b.1) _ h t b.3 in
    let r : List ℕ = c.0 in
    let d = check_back (is_on alias r own) R.NotOnRoster _ h t c.3 in
    let v = serial_back a.1 own b.1 b.2 in
    let w : Listing b.1 r c.1 = listing_back b.1 r c.1 c.2 in
    let on : place_on alias r own < length r = holds_below (stands_for alias r own) r d.0 in
    heading_is alias s (record { kind = a.0; own = own; place = place_on alias r own; roster = r }) h c.1 t d.1 (record {
      from_own = a.1;
      from_serials = w.from_serials;
      kind = kind_back s a.0 a.1 a.2;
      own_there = v.0;
      own_read = v.2;
      own_is = place_at_lem (stands_for alias r own) r on;
      count = sym v.3 ∙ w.count;
      there = w.there;
      are = w.are;
      rest = w.rest;
      own_on = on;
      sound = w.sound;
    })

-- ---- a whole record

-- a record without its mourned set, and its own serial as stored
abbrev pub head_of : ℕ → Stored → Head
head_of own x = record { kind = x.kind; own = own; place = x.own; roster = x.roster }

pub record Whole (alias : ℕ → ℕ) (s : List ℕ) (x : Stored) (t : List ℕ) : Type 0 where
  pub between : List ℕ
  pub own : ℕ
  pub heading : Heading alias s (head_of own x) between
  pub mourning : Mourning alias x.roster between x.mourned t

whole_is : (alias : ℕ → ℕ) (s : List ℕ) (y x : Stored) (u t : List ℕ) → got y u ≡ got x t → Whole alias s y u → Whole alias s x t
whole_is alias s y x u t e a =
    let p : y ≡ x = cc in
    let q : u ≡ t = cc in
    subst (λ (k : Stored). Whole alias s k t) p (subst (λ (l : List ℕ). Whole alias s y l) q a)

pub stored_back : (alias : ℕ → ℕ) (s : List ℕ) (x : Stored) (t : List ℕ) → stored alias s ≡ got x t → Whole alias s x t
unfolding stored
stored_back alias s x t e =
    let a = then_back (head_section alias s) _ x t e in
    let h : Head = a.0 in
    let b = then_back (mourned_section alias h.roster a.1) _ x t a.3 in
    whole_is alias s (record { kind = h.kind; own = h.place; roster = h.roster; mourned = b.0 }) x b.1 t b.3 (record {
      between = a.1;
      own = h.own;
      heading = head_back alias s h a.1 a.2;
      mourning = section_back alias h.roster a.1 b.0 b.1 b.2;
    })

-- the bytes of a record before others, laid out flat
pub layout_shape : (x : Stored) (t : List ℕ) → layout x ++ t
    ≡ kind_byte x.kind ∷ (serial_bytes (get_or x.roster x.own 0) ++ (length x.roster ∷ (serials_bytes x.roster ++ (length (chosen x.mourned x.roster) ∷ (serials_bytes (chosen x.mourned x.roster) ++ t)))))
unfolding layout
layout_shape x t =
    append_assoc (kind_byte x.kind ∷ serial_bytes (get_or x.roster x.own 0)) ((length x.roster ∷ serials_bytes x.roster) ++ (length (chosen x.mourned x.roster) ∷ serials_bytes (chosen x.mourned x.roster))) t
    ∙ ap (λ (l : List ℕ). kind_byte x.kind ∷ (serial_bytes (get_or x.roster x.own 0) ++ l)) (append_assoc (length x.roster ∷ serials_bytes x.roster) (length (chosen x.mourned x.roster) ∷ serials_bytes (chosen x.mourned x.roster)) t)

pub length_layout : (x : Stored) → length (layout x) ≡ 7 + 4 * length x.roster + 4 * length (chosen x.mourned x.roster)
unfolding layout serial_bytes
length_layout x = simp (length-append, length_serials_bytes) (omega arith)

-- ---- a buffer with some bytes put in

module _ (at : ℕ) (bytes out : List ℕ) (fits : at + length bytes ≤ length out) where
  pub length_put : length (put_at at bytes out) ≡ length out
  unfolding put_at
  length_put = simp (length-append, length-drop, length-take-le at out (omega arith)) (omega arith)

  pub drop_put : drop at (put_at at bytes out) ≡ bytes ++ drop (at + length bytes) out
  unfolding put_at
  drop_put = drop_at (take at out) (bytes ++ drop (at + length bytes) out) at (length-take-le at out (omega arith))
