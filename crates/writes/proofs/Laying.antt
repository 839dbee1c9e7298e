-- Bytes laid into a buffer: a store at the seam, and a part lent from the seam on to a writer, each make the front longer. And the
-- bytes of serials, and of those chosen. Assumes nothing.
use Rattle.refusals.specs.declared.Refusal.TheVariants as R
use Rattle.std.specs.Prelude.{Option, Some, None, Result, Ok, Err}
use mathlib.Core.Path.{◌≡◌, refl, sym, ap, ap₂, ◌∙◌}
use mathlib.Core.Bool.{Bool, true, false, cond, ◌&&◌, and-true, and-false}
use mathlib.Core.List.{List, [], ◌∷◌, ◌++◌, append_assoc, append-nil}
use Prim.Native.Nat.{ℕ, zero, suc, ◌+◌, ◌-◌, ◌*◌, ◌≤◌, ◌<◌}
use native.Mathlib.Nat.{add-zero, le_of_suc-le-suc}
use native.Mathlib.Numerals.{add-one}
use native.Mathlib.Omega.{arith}
use lib.Dec.{leb, ltb}
use lib.ListN.{length, get_or, take, drop, set, length-set, length-append, length-drop, drop_of_length-le}
use lib.Seq.{take_all, drop-drop, take-suc}
use borrow.Author.Tests.{le-leb, lt-leb, lt-ltb, le-ltb}
use borrow.Rule.Slice.PartMut.{put_mid}
use Rattle.sets.specs.Sets.{Places, nothing, below, intersection, count}
use Rattle.sets.specs.PlaceSets.{has, kept}
use Rattle.sets.specs.declared.PlaceSet.{PlaceSet}
use Rattle.sets.proofs.Counting.{count_same, count_first, count_add, count_nothing}
use Rattle.histories.specs.declared.Kind.{Kind}
use Rattle.layouts.specs.Layout.{kind_byte, serial_bytes, serials_bytes, chosen, layout}
use Rattle.layouts.specs.Records.{unwritten, put_at, written_at, written}
use Rattle.layouts.specs.Parts.{record_bytes}
use Rattle.layouts.specs.Fronts.{front}
use Rattle.layouts.proofs.Fronts.{front_none, front_byte, front_part}

-- how long the part from k on is
pub part_long : (m : List ℕ) (k : ℕ) → k ≤ length m → length (take (length m - k) (drop k m)) ≡ length m - k
part_long m k h = ap length (take_all (length m - k) (drop k m) (omega (arith, length-drop k m))) ∙ length-drop k m

-- a section: its first byte stored, and the part after it lent to a writer that laid bs into its front
module _ (out : List ℕ) (b : ℕ) (h : 1 ≤ length out) where
  pub section_long : length (take (length (set out 0 b) - 1) (drop 1 (set out 0 b))) ≡ length out - 1
  section_long = part_long (set out 0 b) 1 (simp length-set h) ∙ simp length-set

  pub section_laid : (bs ys : List ℕ) → ys ≡ front bs (take (length (set out 0 b) - 1) (drop 1 (set out 0 b)))
      → put_mid 1 (length (set out 0 b) - 1) (set out 0 b) ys ≡ front (b ∷ bs) out
  section_laid bs ys q = front_part (b ∷ []) out (set out 0 b) 1 (front_byte [] out out 0 (front_none out) refl b h) refl bs ys q

-- ---- the bytes of serials

pub serial_long : (x : ℕ) → length (serial_bytes x) ≡ 4
unfolding serial_bytes
serial_long x = refl

pub serials_long : (s : List ℕ) → length (serials_bytes s) ≡ length s * 4
unfolding serials_bytes
serials_long [] = refl
serials_long (x ∷ s) = simp (length-append, serial_long, serials_long s) (omega arith)

bytes_append : (s t : List ℕ) → serials_bytes (s ++ t) ≡ serials_bytes s ++ serials_bytes t
unfolding serials_bytes
bytes_append [] t = refl
bytes_append (x ∷ s) t =
    ap (λ (l : List ℕ). serial_bytes x ++ l) (bytes_append s t) ∙ sym (append_assoc (serial_bytes x) (serials_bytes s) (serials_bytes t))

bytes_one : (x : ℕ) → serials_bytes (x ∷ []) ≡ serial_bytes x
unfolding serials_bytes
bytes_one x = append-nil (serial_bytes x)

-- the first i + 1 of a list
pub bytes_more : (s : List ℕ) (i : ℕ) → i < length s → serials_bytes (take (i + 1) s) ≡ serials_bytes (take i s) ++ serial_bytes (get_or s i 0)
bytes_more s i h =
    rw (add-one i, take-suc s i 0 h) (bytes_append (take i s) (get_or s i 0 ∷ []) ∙ ap (λ (l : List ℕ). serials_bytes (take i s) ++ l) (bytes_one (get_or s i 0)))

-- ---- those chosen

cond_append : (b : Bool) (x : ℕ) (s t : List ℕ) → cond b (x ∷ (s ++ t)) (s ++ t) ≡ cond b (x ∷ s) s ++ t
cond_append true x s t = refl
cond_append false x s t = refl

chosen_more : (M : Places) (s : List ℕ) (i : ℕ) → i < length s → chosen M (take (suc i) s) ≡ chosen M (take i s) ++ cond (M i) (get_or s i 0 ∷ []) []
unfolding chosen
chosen_more M [] i h = absurd (omega arith)
chosen_more M (x ∷ s) zero h = refl
chosen_more M (x ∷ s) (suc i) h =
    ap (λ (l : List ℕ). cond (M 0) (x ∷ l) l) (chosen_more (λ k. M (suc k)) s i (le_of_suc-le-suc h))
    ∙ cond_append (M 0) x (chosen (λ k. M (suc k)) (take i s)) (cond (M (suc i)) (get_or s i 0 ∷ []) [])

cond_bytes : (b : Bool) (x : ℕ) → serials_bytes (cond b (x ∷ []) []) ≡ cond b (serial_bytes x) []
unfolding serials_bytes
cond_bytes true x = append-nil (serial_bytes x)
cond_bytes false x = refl

module _ (M : Places) (s : List ℕ) (i : ℕ) (h : i < length s) where
  pub chosen_bytes : serials_bytes (chosen M (take (i + 1) s)) ≡ serials_bytes (chosen M (take i s)) ++ cond (M i) (serial_bytes (get_or s i 0)) []
  chosen_bytes =
      rw (add-one i, chosen_more M s i h) (bytes_append (chosen M (take i s)) (cond (M i) (get_or s i 0 ∷ []) [])
      ∙ ap (λ (l : List ℕ). serials_bytes (chosen M (take i s)) ++ l) (cond_bytes (M i) (get_or s i 0)))

-- a longer list has no fewer chosen
chosen_part : (M : Places) (s : List ℕ) (i : ℕ) → length (chosen M (take i s)) ≤ length (chosen M s)
unfolding chosen
chosen_part M [] zero = omega arith
chosen_part M [] (suc i) = omega arith
chosen_part M (x ∷ s) zero = omega arith
chosen_part M (x ∷ s) (suc i) = go (M 0) (chosen_part (λ k. M (suc k)) s i)
  where
    go : (b : Bool) → length (chosen (λ k. M (suc k)) (take i s)) ≤ length (chosen (λ k. M (suc k)) s)
        → length (cond b (x ∷ chosen (λ k. M (suc k)) (take i s)) (chosen (λ k. M (suc k)) (take i s))) ≤ length (cond b (x ∷ chosen (λ k. M (suc k)) s) (chosen (λ k. M (suc k)) s))
    go true l = omega arith
    go false l = l

-- a place that is not chosen adds nothing
pub none_more : (M : Places) (s : List ℕ) (i : ℕ) → i < length s → M i ≡ false → serials_bytes (chosen M (take i s)) ≡ serials_bytes (chosen M (take (i + 1) s))
none_more M s i h e = sym (rw e at (chosen_bytes M s i h) ∙ append-nil (serials_bytes (chosen M (take i s))))

-- a place that is chosen: the chosen bytes of the first i stand at the front, p of them, and a writer was lent the part from there on
module _ (M : Places) (s : List ℕ) (i : ℕ) (h : i < length s) (out₀ out : List ℕ) (p : ℕ)
    (size : p ≡ length (serials_bytes (chosen M (take i s)))) (laid : out ≡ front (serials_bytes (chosen M (take i s))) out₀) (on : M i ≡ true) where
  one_more : serials_bytes (chosen M (take (i + 1) s)) ≡ serials_bytes (chosen M (take i s)) ++ serial_bytes (get_or s i 0)
  one_more = rw on at (chosen_bytes M s i h)

  pub turn_size : p + 4 ≡ length (serials_bytes (chosen M (take (i + 1) s)))
  turn_size = rw (one_more, length-append, ← size, serial_long)

  pub turn_room : p + 4 ≤ length (chosen M s) * 4
  turn_room = omega (arith, turn_size, serials_long (chosen M (take (i + 1) s)), chosen_part M s (i + 1))

  pub turn_laid : (ys : List ℕ) → ys ≡ front (serial_bytes (get_or s i 0)) (take (length out - p) (drop p out))
      → put_mid p (length out - p) out ys ≡ front (serials_bytes (chosen M (take (i + 1) s))) out₀
  turn_laid ys e =
      front_part (serials_bytes (chosen M (take i s))) out₀ out p laid (sym size) (serial_bytes (get_or s i 0)) ys e
      ∙ ap (λ (l : List ℕ). front l out₀) (sym one_more)

-- how many are chosen is how many places of the list are members
pub chosen_count : (M : Places) (s : List ℕ) → length (chosen M s) ≡ count (length s) M
unfolding chosen count
chosen_count M [] = refl
chosen_count M (x ∷ s) = go (M 0) refl (chosen_count (λ k. M (suc k)) s) ∙ sym (count_first (length s) M)
  where
    go : (b : Bool) → M 0 ≡ b → length (chosen (λ k. M (suc k)) s) ≡ count (length s) (λ k. M (suc k))
        → length (cond (M 0) (x ∷ chosen (λ k. M (suc k)) s) (chosen (λ k. M (suc k)) s)) ≡ cond (M 0) 1 0 + count (length s) (λ k. M (suc k))
    go true e l = rw e (omega arith)
    go false e l = rw e (omega arith)

-- the members below n, counted in all 128 places
pub count_on : (s o : PlaceSet) (n : ℕ) (f : Places) → n ≤ 128 → f ≡ kept (below n) → has o ≡ intersection (has s) f → count 128 (has o) ≡ count n (has s)
count_on s o n f h e i =
    let q : 128 ≡ n + (128 - n) = omega arith in
    ap (λ (k : ℕ). count k (has o)) q ∙ count_add (128 - n) n (has o)
    ∙ ap₂ (λ (a b : ℕ). a + b) (count_same n (has o) (has s) on) (count_same (128 - n) (λ k. has o (n + k)) nothing off ∙ count_nothing (128 - n))
    ∙ add-zero (count n (has s))
  where
    at : (k : ℕ) → has o k ≡ has s k && (ltb k n && ltb k 128)
    at k = ap (λ (S : Places). S k) (i ∙ ap (intersection (has s)) e)

    on : (k : ℕ) → k < n → has o k ≡ has s k
    on k l =
        let b : k < 128 = omega arith in
        at k ∙ rw (lt-ltb k n l, lt-ltb k 128 b) (and-true (has s k))

    off : (k : ℕ) → k < 128 - n → has o (n + k) ≡ false
    off k l =
        let b : n ≤ n + k = omega arith in
        at (n + k) ∙ rw (le-ltb (n + k) n b) (and-false (has s (n + k)))

-- ---- a whole record, from a position on

-- the three sections one after the other: m is the buffer after each
pub record_laid : (k : Kind) (own : ℕ) (s : List ℕ) (M : Places) (n : ℕ) → n ≡ length (chosen M s) → (out m ys zs : List ℕ)
    → m ≡ front (kind_byte k ∷ serial_bytes (get_or s own 0)) out
    → ys ≡ front (length s ∷ serials_bytes s) (take (length m - 5) (drop 5 m))
    → zs ≡ front (n ∷ serials_bytes (chosen M s)) (take (length (put_mid 5 (length m - 5) m ys) - (6 + length s * 4)) (drop (6 + length s * 4) (put_mid 5 (length m - 5) m ys)))
    → put_mid (6 + length s * 4) (length (put_mid 5 (length m - 5) m ys) - (6 + length s * 4)) (put_mid 5 (length m - 5) m ys) zs ≡ front (record_bytes k own s M) out
unfolding layout
record_laid k own s M n c out m ys zs first second third =
    let a = kind_byte k ∷ serial_bytes (get_or s own 0) in
    let b = length s ∷ serials_bytes s in
    let la : length a ≡ 5 = ap suc (serial_long (get_or s own 0)) in
    let e : put_mid 5 (length m - 5) m ys ≡ front (a ++ b) out = front_part a out m 5 first la b ys second in
    let lb : length (a ++ b) ≡ 6 + length s * 4 = length-append a b ∙ omega (arith, serials_long s) in
    front_part (a ++ b) out (put_mid 5 (length m - 5) m ys) (6 + length s * 4) e lb (n ∷ serials_bytes (chosen M s)) zs third
    ∙ rw (append_assoc, c)

pub record_long : (k : Kind) (own : ℕ) (s : List ℕ) (M : Places) → length (record_bytes k own s M) ≡ 7 + length s * 4 + length (chosen M s) * 4
unfolding layout
record_long k own s M = simp (length-append, serial_long, serials_long) (omega arith)

module _ (k : Kind) (own : ℕ) (s : List ℕ) (M : Places) (out : List ℕ) (at : ℕ) where
  pub write_12 : length s ≤ own → (Err R.OffRoster ≡ (written k own s M out at).answer) × (out ≡ (written k own s M out at).buffer)
  unfolding written unwritten
  write_12 h = (rw (le-ltb own (length s) h), rw (le-ltb own (length s) h))

  module _ (on : own < length s) where
    pub write_3 : 128 < length s → (Err R.BadCount ≡ (written k own s M out at).answer) × (out ≡ (written k own s M out at).buffer)
    unfolding written unwritten
    write_3 h = (rw (lt-ltb own (length s) on, lt-leb (length s) 128 h), rw (lt-ltb own (length s) on, lt-leb (length s) 128 h))

    -- size is how many bytes the record has
    module _ (few : length s ≤ 128) (size : ℕ) (long : size ≡ 7 + length s * 4 + length (chosen M s) * 4) where
      sized : length (record_bytes k own s M) ≡ size
      sized = record_long k own s M ∙ sym long

      pub write_13 : length out < at + size → (Err R.TooShort ≡ (written k own s M out at).answer) × (out ≡ (written k own s M out at).buffer)
      unfolding written written_at unwritten
      write_13 h =
          let f : leb (at + length (record_bytes k own s M)) (length out) ≡ false = lt-leb (at + length (record_bytes k own s M)) (length out) (rw sized h) in
          (rw (lt-ltb own (length s) on, le-leb (length s) 128 few, f), rw (lt-ltb own (length s) on, le-leb (length s) 128 few, f))

      -- ys is the part from the position on, where the record was laid
      pub write_done : at + size ≤ length out → (ys : List ℕ) → ys ≡ front (record_bytes k own s M) (take (length out - at) (drop at out))
          → (Ok (at + size) ≡ (written k own s M out at).answer) × (put_mid at (length out - at) out ys ≡ (written k own s M out at).buffer)
      unfolding written written_at put_at front
      write_done h ys q =
          let bs = record_bytes k own s M in
          let f : leb (at + length bs) (length out) ≡ true = le-leb (at + length bs) (length out) (rw sized h) in
          let n : length (drop at out) ≤ length out - at = omega (arith, length-drop at out) in (
            rw (lt-ltb own (length s) on, le-leb (length s) 128 few, f, sized),
            rw (lt-ltb own (length s) on, le-leb (length s) 128 few, f)
                (ap (λ (z : List ℕ). take at out ++ (ys ++ z)) (drop_of_length-le (drop at out) n)
                ∙ ap (λ (z : List ℕ). take at out ++ z) (append-nil ys ∙ q ∙ ap (λ (z : List ℕ). bs ++ drop (length bs) z) (take_all (length out - at) (drop at out) n)
                ∙ ap (λ (z : List ℕ). bs ++ z) (drop-drop (length bs) at out))),
          )
