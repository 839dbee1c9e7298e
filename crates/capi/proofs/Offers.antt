-- Offering over a recovery in the caller's memory: what a reply leaves there, and that it is what offering leaves. Assumes nothing.
use Rattle.refusals.specs.Numbers.{number}
use Rattle.refusals.specs.declared.Refusal.{Refusal}
use Rattle.refusals.specs.declared.Refusal.TheVariants as R
use Rattle.std.specs.Prelude.{Option, Some, None, Result, Ok, Err}
use mathlib.Core.Path.{◌≡◌, refl, sym, ap, ◌∙◌}
use mathlib.Core.List.{List, [], ◌∷◌}
use Prim.Native.Nat.{ℕ}
use native.Mathlib.Omega.{arith}
use lib.ListN.{length, get_or}
use Rattle.sets.specs.Sets.{union, with}
use Rattle.sets.specs.PlaceSets.{has, kept, Words, packed}
use Rattle.sets.specs.declared.PlaceSet.{PlaceSet}
use Rattle.sets.proofs.Laws.{packed_is, kept_has}
use Rattle.histories.specs.declared.Kind.{Kind}
use Rattle.histories.specs.declared.Kind.TheVariants.{Full, Short}
use Rattle.histories.specs.Histories.{Row}
use Rattle.rows.specs.Rows.{with_row}
use Rattle.layouts.specs.declared.Record.{Record}
use Rattle.layouts.specs.Records.{reading_lone}
use Rattle.answers.specs.Groups.{alias_in}
use Rattle.answers.specs.declared.Reply.{Reply}
use Rattle.answers.specs.declared.Reply.TheVariants as O
use Rattle.answers.specs.Replies.{judgement}
use Rattle.calls.specs.declared.Recovery.{Recovery}
use Rattle.calls.specs.declared.Offered.{Offered}
use Rattle.calls.specs.Promises.{saying, keeping_full, keeping_row, keeping, answered, offered}
use Rattle.calls.proofs.Offers.{offered_read, offered_unread}
use Rattle.boundary.specs.declared.Head.{Head}
use Rattle.boundary.specs.Words.{set_at}
use Rattle.boundary.specs.Recoveries.{recovery_in, head_words, head_of, reply_code, offered_held}
use Rattle.boundary.proofs.Calls.{Says, held}

-- the words of the recovery in memory are those in memory
pub same_head : (head : List ℕ) → length head ≡ 9 → (serials seconds rows : List ℕ) → head ≡ head_of (recovery_in head serials seconds rows)
unfolding head_of head_words recovery_in set_at
same_head (a ∷ b ∷ c ∷ d ∷ e ∷ f ∷ g ∷ h ∷ i ∷ []) l serials seconds rows = refl
same_head [] l serials seconds rows = absurd (omega arith)
same_head (a ∷ []) l serials seconds rows = absurd (omega arith)
same_head (a ∷ b ∷ []) l serials seconds rows = absurd (omega arith)
same_head (a ∷ b ∷ c ∷ []) l serials seconds rows = absurd (omega arith)
same_head (a ∷ b ∷ c ∷ d ∷ []) l serials seconds rows = absurd (omega arith)
same_head (a ∷ b ∷ c ∷ d ∷ e ∷ []) l serials seconds rows = absurd (omega arith)
same_head (a ∷ b ∷ c ∷ d ∷ e ∷ f ∷ []) l serials seconds rows = absurd (omega arith)
same_head (a ∷ b ∷ c ∷ d ∷ e ∷ f ∷ g ∷ []) l serials seconds rows = absurd (omega arith)
same_head (a ∷ b ∷ c ∷ d ∷ e ∷ f ∷ g ∷ h ∷ []) l serials seconds rows = absurd (omega arith)
same_head (a ∷ b ∷ c ∷ d ∷ e ∷ f ∷ g ∷ h ∷ i ∷ x ∷ xs) l serials seconds rows = absurd (omega arith)

-- the recovery of a recovery's words is that recovery
put_back : (r : Recovery) → recovery_in (head_of r) r.serials r.seconds r.rows ≡ r
unfolding head_of head_words recovery_in set_at
put_back r = refl

-- ---- the words with a record that is kept

-- a place and those whom it mourns, in the words of two sets
module _ (p : ℕ) (s w n g m : PlaceSet) (ww : Words w) (ew : has w ≡ kept (with p (has s))) (wg : Words g) (eg : has g ≡ union (has n) (has m)) where
  with_is : w ≡ packed (with p (has s))
  with_is = packed_is w (with p (has s)) ww ew

  union_is : g ≡ packed (union (has n) (has m))
  union_is = packed_is g (union (has n) (has m)) wg (sym (kept_has g) ∙ ap kept eg)

  pub full_kept : (head : List ℕ) (h : Head) → Says head h → s ≡ h.full → n ≡ h.earlier → (after : List ℕ) → after ≡ head_words h.count h.returned w h.mourned g
      → (serials seconds rows : List ℕ) → after ≡ head_of (keeping_full (recovery_in head serials seconds rows) p (has m))
  unfolding head_of keeping_full
  full_kept head h says es en after e serials seconds rows =
      e ∙ (λ i. head_words h.count h.returned (with_is i) h.mourned (union_is i))
      ∙ (λ i. head_words h.count h.returned (packed (with p (has (es i)))) h.mourned (packed (union (has (en i)) (has m))))
      ∙ ap (λ (r : Recovery). head_of (keeping_full r p (has m))) (held head h says serials seconds rows)

  pub back_kept : (head : List ℕ) (h : Head) → Says head h → s ≡ h.returned → n ≡ h.mourned → (after : List ℕ) → after ≡ head_words h.count w h.full g h.earlier
      → (serials seconds rows : List ℕ) → after ≡ head_of (keeping_row (recovery_in head serials seconds rows) p (has m))
  unfolding head_of keeping_row
  back_kept head h says es en after e serials seconds rows =
      e ∙ (λ i. head_words h.count (with_is i) h.full (union_is i) h.earlier)
      ∙ (λ i. head_words h.count (packed (with p (has (es i)))) h.full (packed (union (has (en i)) (has m))) h.earlier)
      ∙ ap (λ (r : Recovery). head_of (keeping_row r p (has m))) (held head h says serials seconds rows)

module _ (head : List ℕ) (p : ℕ) (k : Kind) (M : Row) where
  -- the words with the record of p
  abbrev pub Kept : List ℕ → Type 0
  Kept after = (serials seconds rows : List ℕ) → after ≡ head_of (keeping (recovery_in head serials seconds rows) p k M)

  pub keeps_full : k ≡ Full → (between after : List ℕ) → ((serials seconds rows : List ℕ) → between ≡ head_of (keeping_full (recovery_in head serials seconds rows) p M))
      → ((serials seconds rows : List ℕ) → after ≡ head_of (keeping_row (recovery_in between serials seconds rows) p M)) → Kept after
  unfolding keeping keeping_full recovery_in head_of
  keeps_full e between after f g serials seconds rows =
      rw e (g serials seconds rows
      ∙ ap (λ (b : List ℕ). head_of (keeping_row (recovery_in b serials seconds rows) p M)) (f serials seconds rows)
      ∙ ap (λ (r : Recovery). head_of (keeping_row r p M)) (put_full (recovery_in head serials seconds rows)))
    where
      put_full : (r : Recovery) → recovery_in (head_of (keeping_full r p M)) r.serials r.seconds r.rows ≡ keeping_full r p M
      put_full r = put_back (keeping_full r p M)

  pub keeps_short : k ≡ Short → (after : List ℕ) → ((serials seconds rows : List ℕ) → after ≡ head_of (keeping_row (recovery_in head serials seconds rows) p M)) → Kept after
  unfolding keeping
  keeps_short e after f serials seconds rows = rw e (f serials seconds rows)

keeping_rows : (r : Recovery) (p : ℕ) (k : Kind) (M : Row) → with_row r.rows p (packed M) ≡ (keeping r p k M).rows
unfolding keeping keeping_row keeping_full
keeping_rows r p Full M = refl
keeping_rows r p Short M = refl

-- ---- what a reply leaves

module _ (head rows : List ℕ) (p : ℕ) (k : Kind) (M : Row) (reply : Result Reply Refusal) where
  -- the number of a reply to the record of p, and the words and the rows that it leaves
  abbrev pub Leaves : ℕ → List ℕ → List ℕ → Type 0
  Leaves c h t =
      (c ≡ reply_code reply)
      × (((serials seconds : List ℕ) → h ≡ head_of (answered (recovery_in head serials seconds rows) p k M reply).recovery)
      × ((serials seconds : List ℕ) → t ≡ (answered (recovery_in head serials seconds rows) p k M reply).recovery.rows)
      )

  module _ (l : length head ≡ 9) where
    pub leaves_repeated : reply ≡ Ok O.Repeated → Leaves 32 head rows
    unfolding reply_code answered saying recovery_in
    leaves_repeated e = rw e (refl, (λ serials seconds. same_head head l serials seconds rows, λ serials seconds. refl))

    pub leaves_refused : (j : Refusal) (c : ℕ) → c ≡ number j → reply ≡ Err j → Leaves c head rows
    unfolding reply_code answered saying recovery_in
    leaves_refused j c n e = rw e (n, (λ serials seconds. same_head head l serials seconds rows, λ serials seconds. refl))

pub leaves_taken : (head rows : List ℕ) (p : ℕ) (k : Kind) (m : PlaceSet) (reply : Result Reply Refusal) (h t : List ℕ) → reply ≡ Ok O.Taken → Kept head p k (has m) h → Words m → t ≡ with_row rows p m
    → Leaves head rows p k (has m) reply 0 h t
unfolding reply_code answered recovery_in
leaves_taken head rows p k m reply h t e f w g =
    rw e (refl, (λ serials seconds. f serials seconds rows, λ serials seconds. g ∙ ap (with_row rows p) (packed_is m (has m) w (sym (kept_has m))) ∙ keeping_rows (recovery_in head serials seconds rows) p k (has m)))

answered_reply : (r : Recovery) (p : ℕ) (k : Kind) (M : Row) (a : Result Reply Refusal) → a ≡ (answered r p k M a).answer
unfolding answered saying
answered_reply r p k M (Ok O.Taken) = refl
answered_reply r p k M (Ok O.Repeated) = refl
answered_reply r p k M (Err j) = refl

-- ---- offering

module _ (head serials seconds rows bytes : List ℕ) where
  -- what a call answers and leaves is what offering does
  abbrev pub Offers : ℕ → List ℕ → List ℕ → Type 0
  Offers c h t =
      (c ≡ (offered_held head serials seconds rows bytes).code)
      × ((h ≡ (offered_held head serials seconds rows bytes).head) × (t ≡ (offered_held head serials seconds rows bytes).rows))

  pub offers_read : (h : Head) → Says head h → (x : Record) → reading_lone (alias_in h.count serials seconds) bytes ≡ Ok x
      → (reply : Result Reply Refusal) → reply ≡ judgement h.count serials (has h.returned) (has h.full) rows bytes x
      → (c : ℕ) (after t : List ℕ) → Leaves head rows x.own.0 x.kind (has x.mourned) reply c after t → Offers c after t
  unfolding offered_held recovery_in
  offers_read h says x e reply f c after t (lc, (lh, lt)) = (
    lc ∙ ap reply_code (answered_reply r p k M reply) ∙ ap (λ (o : Offered). reply_code o.answer) is,
    (lh serials seconds ∙ ap (λ (o : Offered). head_of o.recovery) is, lt serials seconds ∙ ap (λ (o : Offered). o.recovery.rows) is),
  )
    where
      r : Recovery
      r = recovery_in head serials seconds rows

      p : ℕ
      p = x.own.0

      k : Kind
      k = x.kind

      M : Row
      M = has x.mourned

      judged : reply ≡ judgement (get_or head 0 0) serials (has (set_at head 1)) (has (set_at head 3)) rows bytes x
      judged = f ∙ (λ i. judgement (says.0 i) serials (has (says.1.0 i)) (has (says.1.1.0 i)) rows bytes x)

      is : answered r p k M reply ≡ offered r bytes
      is = ap (answered r p k M) judged ∙ offered_read r bytes x (ap (λ (n : ℕ). reading_lone (alias_in n serials seconds) bytes) (sym says.0) ∙ e)

  pub offers_unread : (h : Head) → Says head h → (j : Refusal) (c : ℕ) → c ≡ number j → reading_lone (alias_in h.count serials seconds) bytes ≡ Err j → length head ≡ 9 → Offers c head rows
  unfolding offered_held recovery_in reply_code saying
  offers_unread h says j c n e l =
      let is = offered_unread (recovery_in head serials seconds rows) bytes j (ap (λ (n : ℕ). reading_lone (alias_in n serials seconds) bytes) (sym says.0) ∙ e) in (
        n ∙ ap (λ (o : Offered). reply_code o.answer) is,
        (same_head head l serials seconds rows ∙ ap (λ (o : Offered). head_of o.recovery) is, ap (λ (o : Offered). o.recovery.rows) is),
      )
