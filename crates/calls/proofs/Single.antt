-- One outcome is dictated to a call, but for the rows of two shown histories, and one set of records after it. Assumes nothing.
use Rattle.refusals.specs.Numbers as N
use Rattle.refusals.specs.declared.Refusal.{Refusal}
use Rattle.refusals.specs.declared.Refusal.TheVariants as R
use Rattle.std.specs.Prelude.{Option, Some, None, Result, Ok, Err}
use mathlib.Core.Path.{◌≡◌, refl, sym, ap, ap₂, ◌∙◌, subst, fun_ext}
use mathlib.Core.Bool.{Bool, true, false, cond}
use mathlib.Core.Logic.{◌⊎◌, inl, inr, ◌↔◌}
use mathlib.Core.List.{List, [], ◌∷◌, ◌++◌, map}
use Prim.Native.Nat.{ℕ, ◌+◌, ◌-◌, ◌*◌, ◌<◌, ◌≤◌}
use native.Mathlib.Omega.{arith}
use native.Mathlib.Decide.{dec_lt}
use lib.ListN.{length, get_or, take, drop, take-append-drop}
use lib.Seq.{get_or-drop, ext_get_or}
use Rattle.sets.specs.Sets.{count}
use Rattle.sets.proofs.Booleans.{clash, both_ways}
use Rattle.histories.specs.Histories.{Row, History, Accepted, lay, Fits}
use Rattle.histories.proofs.Exact.{none_fitted, all_none, all_open, none_open_lem, decided_open}
use Rattle.answers.specs.Fetches.{MayHaveHeard}
use Rattle.serials.specs.Rosters.{IsRoster}
use Rattle.serials.specs.Seconds.{counts_as, itself}
use Rattle.layouts.specs.Layout.{Parsed, got, Stored, stored, lone, layout}
use Rattle.layouts.specs.Layout as L
use Rattle.layouts.proofs.Layouts.{AllBytes, bytes_drop}
use Rattle.layouts.proofs.Trips.{layout_read}
use Rattle.calls.specs.Demand as D
use Rattle.calls.specs.Demand.{Said, refused, Call, Ledger, begun, KnownSerial, AreSeconds, Outcome, says, lent, lent_one, places, number, OfGroup, SameRecord, Mourned, Unmourned, record_in, end_in, ByteOf, byte_not, byte_last, byte_open, Dictates, faulty, foreign, repeats, differs, takes, none_fits, asked_off, asked_last, asked_not, asked_open, showed_off, showed_decided, showed_short, showed, checked_short, checked_off, checked_fits, checked_not, whole_settled, whole_open, fetched_none, fetched_next, gave_unmourned, gave_absent, gave_count, found_first, found_second, found_none, gave_off, gave_zero, gave_known, gave, wrote_off, wrote_absent, wrote_short, wrote, listed_short, listed_all, Whole, end, then}
use Rattle.calls.proofs.Swaps.{seconds_none, seconds_noted}

-- ---- outcomes

unfoldable pub showing : Said → Bool
showing D.opened = false
showing D.taken = false
showing D.repeated = false
showing D.is_last = false
showing D.not_last = false
showing D.is_open = false
showing D.decided = false
showing D.shown = true
showing D.fits = false
showing D.fits_not = false
showing D.settled = false
showing D.unsettled = false
showing D.given = false
showing D.not_found = false
showing D.listed = false
showing (D.first_of p) = false
showing (D.second_of p) = false
showing (D.ends e) = false
showing (D.fetches k p) = false
showing (refused j) = false

-- forgets the rows of two histories that are shown, for a roster of n, and nothing else
unfoldable pub plain : ℕ → Outcome → Outcome
plain n (says s) = says s
plain n (lent s a b) = cond (showing s) (lent s (drop (16 * n) a) (drop (16 * n) b)) (lent s a b)
plain n (lent_one s b) = lent_one s b
plain n (places S) = places S
plain n (number m) = number m

-- lent buffers are bytes
abbrev pub InBytes : Outcome → Type 0
InBytes (says s) = Unit {0}
InBytes (lent s a b) = AllBytes a × AllBytes b
InBytes (lent_one s b) = AllBytes b
InBytes (places S) = Unit {0}
InBytes (number m) = Unit {0}

abbrev pub AllInBytes : List Outcome → Type 0
AllInBytes [] = Unit {0}
AllInBytes (o ∷ os) = InBytes o × AllInBytes os

-- the serials of a group
pub record Sound (firsts given : List ℕ) : Type 0 where
  pub roster : IsRoster firsts
  pub seconds : AreSeconds firsts given

-- ---- what cannot be both

off : {X : Type 0} {m i : ℕ} → m ≤ i → i < m → X
off x y = absurd (omega arith)

room : {X : Type 0} {m a b : ℕ} → (a < m) ⊎ (b < m) → m ≤ a → m ≤ b → X
room (inl s) x y = absurd (omega arith)
room (inr s) x y = absurd (omega arith)

-- ---- the same bytes read twice

same_fault : {p : Parsed Stored} {i j : Refusal} → p ≡ L.refused i → p ≡ L.refused j → i ≡ j
same_fault e h = cc

pub read_clash : {X : Type 0} {p : Parsed Stored} {rest : List ℕ} {j : Refusal} {x : Stored} → p ≡ L.refused j → p ≡ got x rest → X
read_clash e h = let z : ◌≡◌ {A = ℕ} 0 1 = cc in absurd (omega arith)

pub same_record : {p : Parsed Stored} {u v : List ℕ} {x y : Stored} → p ≡ got x u → p ≡ got y v → x ≡ y
same_record e h = cc

module _ {roster seconds : List ℕ} {bytes : List ℕ} where
  group_clash : {X : Type 0} {rest : List ℕ} {x y : Stored} → lone (counts_as roster seconds) bytes ≡ got x rest → ¬ (x.roster ≡ roster) → OfGroup roster seconds bytes y → X
  group_clash e z s =
      absurd (z (subst (λ (x : Stored). x.roster ≡ roster) (same_record s.reads e) s.same_roster))

  module _ (A : Accepted) {x y : Stored} (s : OfGroup roster seconds bytes x) (t : OfGroup roster seconds bytes y) where
    move_back : A.returned x.own ≡ true → A.returned y.own ≡ true
    move_back = subst (λ (x : Stored). A.returned x.own ≡ true) (same_record s.reads t.reads)

    move_row : SameRecord A x → SameRecord A y
    move_row = subst (SameRecord A) (same_record s.reads t.reads)

    move_fits : {G : History} → Fits (length roster) (lay A x.own x.kind x.mourned) G → Fits (length roster) (lay A y.own y.kind y.mourned) G
    move_fits {G} = subst (λ (x : Stored). Fits (length roster) (lay A x.own x.kind x.mourned) G) (same_record s.reads t.reads)

    same_lay : lay A x.own x.kind x.mourned ≡ lay A y.own y.kind y.mourned
    same_lay = ap (λ (x : Stored). lay A x.own x.kind x.mourned) (same_record s.reads t.reads)

-- ---- the same set, place and buffer

same_set : (P : ℕ → Type 0) {S U : Row} → ((q : ℕ) → (S q ≡ true) ↔ P q) → ((q : ℕ) → (U q ≡ true) ↔ P q) → S ≡ U
same_set P {S} {U} u v = fun_ext (λ q. both_ways (S q) (U q) (λ e. (v q).1 ((u q).0 e)) (λ e. (u q).1 ((v q).0 e)))

-- a set has one lowest member
same_lowest : {S : Row} {p q : ℕ} → S p ≡ true → ((j : ℕ) → j < p → S j ≡ false) → S q ≡ true → ((j : ℕ) → j < q → S j ≡ false) → p ≡ q
same_lowest {p = p} {q} a l b m = go (dec_lt p q) (dec_lt q p)
  where
    go : Dec (p < q) → Dec (q < p) → p ≡ q
    go (yes h) d = clash a (m p h)
    go (no h) (yes k) = clash b (l q k)
    go (no h) (no k) = omega arith

same_unmourned : {n : ℕ} (A : Accepted) {S U : Row} → Unmourned n A S → Unmourned n A U → S ≡ U
same_unmourned {n} A = same_set (λ q. (q < n) × (¬ (Mourned A q)))

same_absent : {n : ℕ} (A : Accepted) {S T U W : Row} → Unmourned n A U → Unmourned n A W
    → ((q : ℕ) → (S q ≡ true) ↔ ((U q ≡ true) × (A.returned q ≡ false))) → ((q : ℕ) → (T q ≡ true) ↔ ((W q ≡ true) × (A.returned q ≡ false))) → S ≡ T
same_absent A {S} {T} u v a b =
    fun_ext (λ q. both_ways (S q) (T q) (λ e. let w = (a q).0 e in (b q).1 ((v q).1 ((u q).0 w.0), w.1)) (λ e. let w = (b q).0 e in (a q).1 ((u q).1 ((v q).0 w.0), w.1)))

same_place : {s : List ℕ} → IsRoster s → {p q : ℕ} → p < length s → q < length s → get_or s p 0 ≡ get_or s q 0 → p ≡ q
same_place r {p} {q} l m e = go (dec_lt p q) (dec_lt q p)
  where
    go : Dec (p < q) → Dec (q < p) → p ≡ q
    go (yes h) d = absurd (r.no_repeat p q h m e)
    go (no h) (yes k) = absurd (r.no_repeat q p k l (sym e))
    go (no h) (no k) = omega arith

same_second : {roster seconds : List ℕ} → AreSeconds roster seconds → {p q x : ℕ} → p < length roster → q < length roster → ¬ (x ≡ 0) → get_or seconds p 0 ≡ x → get_or seconds q 0 ≡ x → p ≡ q
same_second s {p} {q} l m z d e = go (dec_lt p q) (dec_lt q p)
  where
    go : Dec (p < q) → Dec (q < p) → p ≡ q
    go (yes h) k = absurd (z (sym d ∙ s.no_repeat p q h m (d ∙ sym e)))
    go (no h) (yes k) = absurd (z (sym e ∙ s.no_repeat q p k l (e ∙ sym d)))
    go (no h) (no k) = omega arith

-- a serial is known and not 0, or it is unknown
not_known : {X : Type 0} {roster seconds : List ℕ} {x : ℕ} → Sound roster seconds → ¬ (x ≡ 0) → KnownSerial roster seconds x → (x ≡ 0) ⊎ (¬ (KnownSerial roster seconds x)) → X
not_known s z k (inl e) = absurd (z e)
not_known s z k (inr n) = absurd (n k)

not_new : {X K E : Type 0} → K ⊎ (¬ E) → ¬ K → E → X
not_new (inl k) n e = absurd (n k)
not_new (inr d) n e = absurd (d e)

-- a buffer of bytes from which the record is read
written_is : (x : Stored) (at : ℕ) (out new : List ℕ) → AllBytes new → take at new ≡ take at out → drop (at + length (layout x)) new ≡ drop (at + length (layout x)) out
    → stored itself (drop at new) ≡ got x (drop (at + length (layout x)) new) → new ≡ take at out ++ (layout x ++ drop (at + length (layout x)) out)
written_is x at out new h t d e =
    sym (take-append-drop at new) ∙ ap₂ (λ (a b : List ℕ). a ++ b) t (layout_read (drop at new) x (drop (at + length (layout x)) new) (bytes_drop at new h) e ∙ ap (λ (b : List ℕ). layout x ++ b) d)

-- a place has one byte
same_byte : {n : ℕ} {A : Accepted} {H : History} → Fits n A H → {i b c : ℕ} → ByteOf n A i b → ByteOf n A i c → b ≡ c
same_byte f (byte_not x) (byte_not y) = refl
same_byte f (byte_not x) (byte_last y) = all_none f y x
same_byte f (byte_not x) (byte_open y) = none_open_lem x y
same_byte f (byte_last x) (byte_not y) = all_none f x y
same_byte f (byte_last x) (byte_last y) = refl
same_byte f (byte_last x) (byte_open y) = all_open x y
same_byte f (byte_open x) (byte_not y) = none_open_lem y x
same_byte f (byte_open x) (byte_last y) = all_open y x
same_byte f (byte_open x) (byte_open y) = refl

-- buffers that agree on the first n bytes and behind them
same_buffer : (n : ℕ) (a b : List ℕ) → length a ≡ length b → drop n a ≡ drop n b → ((i : ℕ) → i < n → get_or a i 0 ≡ get_or b i 0) → a ≡ b
same_buffer n a b e d h = ext_get_or 0 a b e (λ i _. go i (dec_lt i n))
  where
    go : (i : ℕ) → Dec (i < n) → get_or a i 0 ≡ get_or b i 0
    go i (yes l) = h i l
    go i (no l) =
        let k : n + (i - n) ≡ i = omega arith in
        ap (λ (j : ℕ). get_or a j 0) (sym k) ∙ sym (get_or-drop n a (i - n) 0) ∙ ap (λ (x : List ℕ). get_or x (i - n) 0) d ∙ get_or-drop n b (i - n) 0 ∙ ap (λ (j : ℕ). get_or b j 0) k

-- ---- the theorem

pub single : {roster : List ℕ} {A : Ledger} {H : History} → Fits (length roster) A.accepted H → Sound roster A.seconds
    → {c : Call} {o₁ o₂ : Outcome} {B₁ B₂ : Ledger} → Dictates roster A c o₁ B₁ → Dictates roster A c o₂ B₂ → InBytes o₁ → InBytes o₂
    → (plain (length roster) o₁ ≡ plain (length roster) o₂) × (B₁ ≡ B₂)
unfolding plain showing
single f s (faulty e₁ l₁ m₁) (faulty e₂ l₂ m₂) c₁ c₂ = (ap (λ (j : Refusal). says (refused (N.number j))) (same_fault e₁ e₂), refl)
single f s (faulty e₁ l₁ m₁) (foreign e₂ z₂) c₁ c₂ = read_clash e₁ e₂
single f s (faulty e₁ l₁ m₁) (repeats s₂ b₂ q₂) c₁ c₂ = read_clash e₁ s₂.reads
single f s (faulty e₁ l₁ m₁) (differs s₂ b₂ q₂) c₁ c₂ = read_clash e₁ s₂.reads
single f s (faulty e₁ l₁ m₁) (takes s₂ b₂ f₂) c₁ c₂ = read_clash e₁ s₂.reads
single f s (faulty e₁ l₁ m₁) (none_fits s₂ b₂ z₂) c₁ c₂ = read_clash e₁ s₂.reads
single f s (foreign e₁ z₁) (faulty e₂ l₂ m₂) c₁ c₂ = read_clash e₂ e₁
single f s (foreign e₁ z₁) (foreign e₂ z₂) c₁ c₂ = (refl, refl)
single f s (foreign e₁ z₁) (repeats s₂ b₂ q₂) c₁ c₂ = group_clash e₁ z₁ s₂
single f s (foreign e₁ z₁) (differs s₂ b₂ q₂) c₁ c₂ = group_clash e₁ z₁ s₂
single f s (foreign e₁ z₁) (takes s₂ b₂ f₂) c₁ c₂ = group_clash e₁ z₁ s₂
single f s (foreign e₁ z₁) (none_fits s₂ b₂ z₂) c₁ c₂ = group_clash e₁ z₁ s₂
single f s (repeats s₁ b₁ q₁) (faulty e₂ l₂ m₂) c₁ c₂ = read_clash e₂ s₁.reads
single f s (repeats s₁ b₁ q₁) (foreign e₂ z₂) c₁ c₂ = group_clash e₂ z₂ s₁
single f s (repeats s₁ b₁ q₁) (repeats s₂ b₂ q₂) c₁ c₂ = (refl, refl)
single {A = A} f s (repeats s₁ b₁ q₁) (differs s₂ b₂ q₂) c₁ c₂ = absurd (q₂ (move_row A.accepted s₁ s₂ q₁))
single {A = A} f s (repeats s₁ b₁ q₁) (takes s₂ b₂ f₂) c₁ c₂ = clash (move_back A.accepted s₁ s₂ b₁) b₂
single {A = A} f s (repeats s₁ b₁ q₁) (none_fits s₂ b₂ z₂) c₁ c₂ = clash (move_back A.accepted s₁ s₂ b₁) b₂
single f s (differs s₁ b₁ q₁) (faulty e₂ l₂ m₂) c₁ c₂ = read_clash e₂ s₁.reads
single f s (differs s₁ b₁ q₁) (foreign e₂ z₂) c₁ c₂ = group_clash e₂ z₂ s₁
single {A = A} f s (differs s₁ b₁ q₁) (repeats s₂ b₂ q₂) c₁ c₂ = absurd (q₁ (move_row A.accepted s₂ s₁ q₂))
single f s (differs s₁ b₁ q₁) (differs s₂ b₂ q₂) c₁ c₂ = (refl, refl)
single {A = A} f s (differs s₁ b₁ q₁) (takes s₂ b₂ f₂) c₁ c₂ = clash (move_back A.accepted s₁ s₂ b₁) b₂
single {A = A} f s (differs s₁ b₁ q₁) (none_fits s₂ b₂ z₂) c₁ c₂ = clash (move_back A.accepted s₁ s₂ b₁) b₂
single f s (takes s₁ b₁ f₁) (faulty e₂ l₂ m₂) c₁ c₂ = read_clash e₂ s₁.reads
single f s (takes s₁ b₁ f₁) (foreign e₂ z₂) c₁ c₂ = group_clash e₂ z₂ s₁
single {A = A} f s (takes s₁ b₁ f₁) (repeats s₂ b₂ q₂) c₁ c₂ = clash (move_back A.accepted s₂ s₁ b₂) b₁
single {A = A} f s (takes s₁ b₁ f₁) (differs s₂ b₂ q₂) c₁ c₂ = clash (move_back A.accepted s₂ s₁ b₂) b₁
single {A = A} f s (takes s₁ b₁ f₁) (takes s₂ b₂ f₂) c₁ c₂ = (refl, ap (λ (B : Accepted). record { accepted = B; seconds = A.seconds }) (same_lay A.accepted s₁ s₂))
single {A = A} f s (takes s₁ b₁ f₁) (none_fits s₂ b₂ z₂) c₁ c₂ = absurd (z₂ _ (move_fits A.accepted s₁ s₂ f₁))
single f s (none_fits s₁ b₁ z₁) (faulty e₂ l₂ m₂) c₁ c₂ = read_clash e₂ s₁.reads
single f s (none_fits s₁ b₁ z₁) (foreign e₂ z₂) c₁ c₂ = group_clash e₂ z₂ s₁
single {A = A} f s (none_fits s₁ b₁ z₁) (repeats s₂ b₂ q₂) c₁ c₂ = clash (move_back A.accepted s₂ s₁ b₂) b₁
single {A = A} f s (none_fits s₁ b₁ z₁) (differs s₂ b₂ q₂) c₁ c₂ = clash (move_back A.accepted s₂ s₁ b₂) b₁
single {A = A} f s (none_fits s₁ b₁ z₁) (takes s₂ b₂ f₂) c₁ c₂ = absurd (z₁ _ (move_fits A.accepted s₂ s₁ f₂))
single f s (none_fits s₁ b₁ z₁) (none_fits s₂ b₂ z₂) c₁ c₂ = (refl, refl)
single f s (asked_off x₁) (asked_off x₂) c₁ c₂ = (refl, refl)
single f s (asked_off x₁) (asked_last x₂ a₂) c₁ c₂ = off x₁ x₂
single f s (asked_off x₁) (asked_not x₂ n₂) c₁ c₂ = off x₁ x₂
single f s (asked_off x₁) (asked_open x₂ d₂) c₁ c₂ = off x₁ x₂
single f s (asked_last x₁ a₁) (asked_off x₂) c₁ c₂ = off x₂ x₁
single f s (asked_last x₁ a₁) (asked_last x₂ a₂) c₁ c₂ = (refl, refl)
single f s (asked_last x₁ a₁) (asked_not x₂ n₂) c₁ c₂ = all_none f a₁ n₂
single f s (asked_last x₁ a₁) (asked_open x₂ d₂) c₁ c₂ = all_open a₁ d₂
single f s (asked_not x₁ n₁) (asked_off x₂) c₁ c₂ = off x₂ x₁
single f s (asked_not x₁ n₁) (asked_last x₂ a₂) c₁ c₂ = all_none f a₂ n₁
single f s (asked_not x₁ n₁) (asked_not x₂ n₂) c₁ c₂ = (refl, refl)
single f s (asked_not x₁ n₁) (asked_open x₂ d₂) c₁ c₂ = none_open_lem n₁ d₂
single f s (asked_open x₁ d₁) (asked_off x₂) c₁ c₂ = off x₂ x₁
single f s (asked_open x₁ d₁) (asked_last x₂ a₂) c₁ c₂ = all_open a₂ d₁
single f s (asked_open x₁ d₁) (asked_not x₂ n₂) c₁ c₂ = none_open_lem n₂ d₁
single f s (asked_open x₁ d₁) (asked_open x₂ d₂) c₁ c₂ = (refl, refl)
single f s (showed_off x₁) (showed_off x₂) c₁ c₂ = (refl, refl)
single f s (showed_off x₁) (showed_decided x₂ w₂) c₁ c₂ = off x₁ x₂
single f s (showed_off x₁) (showed_short x₂ d₂ s₂) c₁ c₂ = off x₁ x₂
single f s (showed_off x₁) (showed x₂ u₂ v₂ d₂ y₂ k₂) c₁ c₂ = off x₁ x₂
single f s (showed_decided x₁ w₁) (showed_off x₂) c₁ c₂ = off x₂ x₁
single f s (showed_decided x₁ w₁) (showed_decided x₂ w₂) c₁ c₂ = (refl, refl)
single f s (showed_decided x₁ w₁) (showed_short x₂ d₂ s₂) c₁ c₂ = decided_open w₁ d₂
single f s (showed_decided x₁ w₁) (showed x₂ u₂ v₂ d₂ y₂ k₂) c₁ c₂ = decided_open w₁ d₂
single f s (showed_short x₁ d₁ s₁) (showed_off x₂) c₁ c₂ = off x₂ x₁
single f s (showed_short x₁ d₁ s₁) (showed_decided x₂ w₂) c₁ c₂ = decided_open w₂ d₁
single f s (showed_short x₁ d₁ s₁) (showed_short x₂ d₂ s₂) c₁ c₂ = (refl, refl)
single f s (showed_short x₁ d₁ s₁) (showed x₂ u₂ v₂ d₂ y₂ k₂) c₁ c₂ = room s₁ u₂ v₂
single f s (showed x₁ u₁ v₁ d₁ y₁ k₁) (showed_off x₂) c₁ c₂ = off x₂ x₁
single f s (showed x₁ u₁ v₁ d₁ y₁ k₁) (showed_decided x₂ w₂) c₁ c₂ = decided_open w₂ d₁
single f s (showed x₁ u₁ v₁ d₁ y₁ k₁) (showed_short x₂ d₂ s₂) c₁ c₂ = room s₂ u₁ v₁
single f s (showed x₁ u₁ v₁ d₁ y₁ k₁) (showed x₂ u₂ v₂ d₂ y₂ k₂) c₁ c₂ =
    (ap₂ (λ (a b : List ℕ). lent D.shown a b) (y₁.same_rest ∙ sym y₂.same_rest) (k₁.same_rest ∙ sym k₂.same_rest), refl)
single f s (checked_short s₁) (checked_short s₂) c₁ c₂ = (refl, refl)
single f s (checked_short s₁) (checked_off p₂ q₂ l₂ t₂ h₂) c₁ c₂ = off l₂ s₁
single f s (checked_short s₁) (checked_fits l₂ f₂) c₁ c₂ = off l₂ s₁
single f s (checked_short s₁) (checked_not l₂ i₂ z₂) c₁ c₂ = off l₂ s₁
single f s (checked_off p₁ q₁ l₁ t₁ h₁) (checked_short s₂) c₁ c₂ = off l₁ s₂
single f s (checked_off p₁ q₁ l₁ t₁ h₁) (checked_off p₂ q₂ l₂ t₂ h₂) c₁ c₂ = (refl, refl)
single f s (checked_off p₁ q₁ l₁ t₁ h₁) (checked_fits l₂ f₂) c₁ c₂ = off h₁ (f₂.history.inside p₁ q₁ t₁).1
single f s (checked_off p₁ q₁ l₁ t₁ h₁) (checked_not l₂ i₂ z₂) c₁ c₂ = off h₁ (i₂ p₁ q₁ t₁)
single f s (checked_fits l₁ f₁) (checked_short s₂) c₁ c₂ = off l₁ s₂
single f s (checked_fits l₁ f₁) (checked_off p₂ q₂ l₂ t₂ h₂) c₁ c₂ = off h₂ (f₁.history.inside p₂ q₂ t₂).1
single f s (checked_fits l₁ f₁) (checked_fits l₂ f₂) c₁ c₂ = (refl, refl)
single f s (checked_fits l₁ f₁) (checked_not l₂ i₂ z₂) c₁ c₂ = absurd (z₂ f₁)
single f s (checked_not l₁ i₁ z₁) (checked_short s₂) c₁ c₂ = off l₁ s₂
single f s (checked_not l₁ i₁ z₁) (checked_off p₂ q₂ l₂ t₂ h₂) c₁ c₂ = off h₂ (i₁ p₂ q₂ t₂)
single f s (checked_not l₁ i₁ z₁) (checked_fits l₂ f₂) c₁ c₂ = absurd (z₁ f₂)
single f s (checked_not l₁ i₁ z₁) (checked_not l₂ i₂ z₂) c₁ c₂ = (refl, refl)
single f s (whole_settled a₁) (whole_settled a₂) c₁ c₂ = (refl, refl)
single f s (whole_settled a₁) (whole_open {i = i} x₂ d₂) c₁ c₂ = decided_open (a₁ i x₂) d₂
single f s (whole_open {i = i} x₁ d₁) (whole_settled a₂) c₁ c₂ = decided_open (a₂ i x₁) d₁
single f s (whole_open x₁ d₁) (whole_open x₂ d₂) c₁ c₂ = (refl, refl)
single f s (fetched_none z₁) (fetched_none z₂) c₁ c₂ = (refl, refl)
single f s (fetched_none z₁) (fetched_next {p = p} h₂ m₂ l₂) c₁ c₂ = absurd (z₁ p ((h₂ p).0 m₂))
single f s (fetched_next {p = p} h₁ m₁ l₁) (fetched_none z₂) c₁ c₂ = absurd (z₂ p ((h₁ p).0 m₁))
single {roster = roster} {A = A} f s (fetched_next {S = S₁} {p = p} h₁ m₁ l₁) (fetched_next {S = S₂} {p = q} h₂ m₂ l₂) c₁ c₂ =
    let e : S₁ ≡ S₂ = same_set (MayHaveHeard (length roster) A.accepted) h₁ h₂ in
    (ap₂ (λ (S : Row) (p : ℕ). says (D.fetches (count (length roster) S) p)) e (same_lowest m₁ l₁ (ap (λ (S : Row). S q) e ∙ m₂) (λ j x. ap (λ (S : Row). S j) e ∙ l₂ j x)), refl)
single {A = A} f s (gave_unmourned u₁) (gave_unmourned u₂) c₁ c₂ = (ap places (same_unmourned A.accepted u₁ u₂), refl)
single {A = A} f s (gave_absent u₁ a₁) (gave_absent u₂ a₂) c₁ c₂ = (ap places (same_absent A.accepted u₁ u₂ a₁ a₂), refl)
single {roster = roster} {A = A} f s (gave_count u₁) (gave_count u₂) c₁ c₂ = (ap (λ (S : Row). number (count (length roster) S)) (same_unmourned A.accepted u₁ u₂), refl)
single f s (found_first l₁ e₁) (found_first l₂ e₂) c₁ c₂ = (ap (λ (p : ℕ). says (D.first_of p)) (same_place s.roster l₁ l₂ (e₁ ∙ sym e₂)), refl)
single f s (found_first l₁ e₁) (found_second l₂ z₂ e₂) c₁ c₂ = absurd (s.seconds.not_first _ _ l₂ l₁ (e₂ ∙ sym e₁))
single f s (found_first l₁ e₁) (found_none z₂) c₁ c₂ = not_known s (λ x. s.roster.no_zero _ l₁ (e₁ ∙ x)) (_, l₁, inl e₁) z₂
single f s (found_second l₁ z₁ e₁) (found_first l₂ e₂) c₁ c₂ = absurd (s.seconds.not_first _ _ l₁ l₂ (e₁ ∙ sym e₂))
single f s (found_second l₁ z₁ e₁) (found_second l₂ z₂ e₂) c₁ c₂ = (ap (λ (p : ℕ). says (D.second_of p)) (same_second s.seconds l₁ l₂ z₁ e₁ e₂), refl)
single f s (found_second l₁ z₁ e₁) (found_none z₂) c₁ c₂ = not_known s z₁ (_, l₁, inr e₁) z₂
single f s (found_none z₁) (found_first l₂ e₂) c₁ c₂ = not_known s (λ x. s.roster.no_zero _ l₂ (e₂ ∙ x)) (_, l₂, inl e₂) z₁
single f s (found_none z₁) (found_second l₂ z₂ e₂) c₁ c₂ = not_known s z₂ (_, l₂, inr e₂) z₁
single f s (found_none z₁) (found_none z₂) c₁ c₂ = (refl, refl)
single f s (gave_off x₁) (gave_off x₂) c₁ c₂ = (refl, refl)
single f s (gave_off x₁) (gave_zero x₂ z₂) c₁ c₂ = off x₁ x₂
single f s (gave_off x₁) (gave_known x₂ z₂ w₂) c₁ c₂ = off x₁ x₂
single f s (gave_off x₁) (gave x₂ z₂ n₂ e₂) c₁ c₂ = off x₁ x₂
single f s (gave_zero x₁ z₁) (gave_off x₂) c₁ c₂ = off x₂ x₁
single f s (gave_zero x₁ z₁) (gave_zero x₂ z₂) c₁ c₂ = (refl, refl)
single f s (gave_zero x₁ z₁) (gave_known x₂ z₂ w₂) c₁ c₂ = absurd (z₂ z₁)
single f s (gave_zero x₁ z₁) (gave x₂ z₂ n₂ e₂) c₁ c₂ = absurd (z₂ z₁)
single f s (gave_known x₁ z₁ w₁) (gave_off x₂) c₁ c₂ = off x₂ x₁
single f s (gave_known x₁ z₁ w₁) (gave_zero x₂ z₂) c₁ c₂ = absurd (z₁ z₂)
single f s (gave_known x₁ z₁ w₁) (gave_known x₂ z₂ w₂) c₁ c₂ = (refl, refl)
single f s (gave_known x₁ z₁ w₁) (gave x₂ z₂ n₂ e₂) c₁ c₂ = not_new w₁ n₂ e₂
single f s (gave x₁ z₁ n₁ e₁) (gave_off x₂) c₁ c₂ = off x₂ x₁
single f s (gave x₁ z₁ n₁ e₁) (gave_zero x₂ z₂) c₁ c₂ = absurd (z₁ z₂)
single f s (gave x₁ z₁ n₁ e₁) (gave_known x₂ z₂ w₂) c₁ c₂ = not_new w₂ n₁ e₁
single f s (gave x₁ z₁ n₁ e₁) (gave x₂ z₂ n₂ e₂) c₁ c₂ = (refl, refl)
single f s (wrote_off x₁) (wrote_off x₂) c₁ c₂ = (refl, refl)
single f s (wrote_off x₁) (wrote_absent x₂ b₂) c₁ c₂ = off x₁ x₂
single f s (wrote_off x₁) (wrote_short x₂ b₂ s₂) c₁ c₂ = off x₁ x₂
single f s (wrote_off x₁) (wrote x₂ b₂ u₂ n₂ t₂ d₂ y₂) c₁ c₂ = off x₁ x₂
single f s (wrote_absent x₁ b₁) (wrote_off x₂) c₁ c₂ = off x₂ x₁
single f s (wrote_absent x₁ b₁) (wrote_absent x₂ b₂) c₁ c₂ = (refl, refl)
single f s (wrote_absent x₁ b₁) (wrote_short x₂ b₂ s₂) c₁ c₂ = clash b₂ b₁
single f s (wrote_absent x₁ b₁) (wrote x₂ b₂ u₂ n₂ t₂ d₂ y₂) c₁ c₂ = clash b₂ b₁
single f s (wrote_short x₁ b₁ s₁) (wrote_off x₂) c₁ c₂ = off x₂ x₁
single f s (wrote_short x₁ b₁ s₁) (wrote_absent x₂ b₂) c₁ c₂ = clash b₁ b₂
single f s (wrote_short x₁ b₁ s₁) (wrote_short x₂ b₂ s₂) c₁ c₂ = (refl, refl)
single f s (wrote_short x₁ b₁ s₁) (wrote x₂ b₂ u₂ n₂ t₂ d₂ y₂) c₁ c₂ = off u₂ s₁
single f s (wrote x₁ b₁ u₁ n₁ t₁ d₁ y₁) (wrote_off x₂) c₁ c₂ = off x₂ x₁
single f s (wrote x₁ b₁ u₁ n₁ t₁ d₁ y₁) (wrote_absent x₂ b₂) c₁ c₂ = clash b₁ b₂
single f s (wrote x₁ b₁ u₁ n₁ t₁ d₁ y₁) (wrote_short x₂ b₂ s₂) c₁ c₂ = off u₁ s₂
single {roster} {A} f s (wrote {p = p} {at = at} {out = out} {out' = new₁} x₁ b₁ u₁ n₁ t₁ d₁ y₁) (wrote {out' = new₂} x₂ b₂ u₂ n₂ t₂ d₂ y₂) c₁ c₂ =
    let x : Stored = record_in roster A.accepted p in
    (ap (lent_one (D.ends (end_in roster A.accepted p at))) (written_is x at out new₁ c₁ t₁ d₁ y₁ ∙ sym (written_is x at out new₂ c₂ t₂ d₂ y₂)), refl)
single f s (listed_short x₁) (listed_short x₂) c₁ c₂ = (refl, refl)
single f s (listed_short x₁) (listed_all x₂ n₂ d₂ b₂) c₁ c₂ = off x₂ x₁
single f s (listed_all x₁ n₁ d₁ b₁) (listed_short x₂) c₁ c₂ = off x₁ x₂
single {roster} {A} f s (listed_all {out' = new₁} x₁ n₁ d₁ b₁) (listed_all {out' = new₂} x₂ n₂ d₂ b₂) c₁ c₂ =
    (ap (lent_one D.listed) (same_buffer (length roster) new₁ new₂ (n₁ ∙ sym n₂) (d₁ ∙ sym d₂) (λ i l. same_byte f (b₁ i l) (b₂ i l))), refl)

-- ---- a list of calls

-- some history fits what is left
left_fits : {roster : List ℕ} {A B : Ledger} {H : History} → Fits (length roster) A.accepted H → {c : Call} {o : Outcome} → Dictates roster A c o B
    → (G : History) × Fits (length roster) B.accepted G
left_fits {H = H} f (faulty a b d) = (H, f)
left_fits {H = H} f (foreign a b) = (H, f)
left_fits {H = H} f (repeats a b d) = (H, f)
left_fits {H = H} f (differs a b d) = (H, f)
left_fits f (takes {H = G} a b g) = (G, g)
left_fits {H = H} f (none_fits a b d) = (H, f)
left_fits {H = H} f (asked_off a) = (H, f)
left_fits {H = H} f (asked_last a b) = (H, f)
left_fits {H = H} f (asked_not a b) = (H, f)
left_fits {H = H} f (asked_open a b) = (H, f)
left_fits {H = H} f (showed_off a) = (H, f)
left_fits {H = H} f (showed_decided a b) = (H, f)
left_fits {H = H} f (showed_short a b d) = (H, f)
left_fits {H = H} f (showed a b d e m n) = (H, f)
left_fits {H = H} f (checked_short a) = (H, f)
left_fits {H = H} f (checked_off a b d e m) = (H, f)
left_fits {H = H} f (checked_fits a b) = (H, f)
left_fits {H = H} f (checked_not a b d) = (H, f)
left_fits {H = H} f (whole_settled a) = (H, f)
left_fits {H = H} f (whole_open a b) = (H, f)
left_fits {H = H} f (fetched_none a) = (H, f)
left_fits {H = H} f (fetched_next a b d) = (H, f)
left_fits {H = H} f (gave_unmourned a) = (H, f)
left_fits {H = H} f (gave_absent a b) = (H, f)
left_fits {H = H} f (gave_count a) = (H, f)
left_fits {H = H} f (found_first a b) = (H, f)
left_fits {H = H} f (found_second a b d) = (H, f)
left_fits {H = H} f (found_none a) = (H, f)
left_fits {H = H} f (gave_off a) = (H, f)
left_fits {H = H} f (gave_zero a b) = (H, f)
left_fits {H = H} f (gave_known a b d) = (H, f)
left_fits {H = H} f (gave a b d e) = (H, f)
left_fits {H = H} f (wrote_off a) = (H, f)
left_fits {H = H} f (wrote_absent a b) = (H, f)
left_fits {H = H} f (wrote_short a b d) = (H, f)
left_fits {H = H} f (wrote a b d e m n p) = (H, f)
left_fits {H = H} f (listed_short a) = (H, f)
left_fits {H = H} f (listed_all a b d e) = (H, f)

-- and the second serials stay apart
left_seconds : {roster : List ℕ} {A B : Ledger} → AreSeconds roster A.seconds → {c : Call} {o : Outcome} → Dictates roster A c o B → AreSeconds roster B.seconds
left_seconds s (faulty a b d) = s
left_seconds s (foreign a b) = s
left_seconds s (repeats a b d) = s
left_seconds s (differs a b d) = s
left_seconds s (takes a b d) = s
left_seconds s (none_fits a b d) = s
left_seconds s (asked_off a) = s
left_seconds s (asked_last a b) = s
left_seconds s (asked_not a b) = s
left_seconds s (asked_open a b) = s
left_seconds s (showed_off a) = s
left_seconds s (showed_decided a b) = s
left_seconds s (showed_short a b d) = s
left_seconds s (showed a b d e m n) = s
left_seconds s (checked_short a) = s
left_seconds s (checked_off a b d e m) = s
left_seconds s (checked_fits a b) = s
left_seconds s (checked_not a b d) = s
left_seconds s (whole_settled a) = s
left_seconds s (whole_open a b) = s
left_seconds s (fetched_none a) = s
left_seconds s (fetched_next a b d) = s
left_seconds s (gave_unmourned a) = s
left_seconds s (gave_absent a b) = s
left_seconds s (gave_count a) = s
left_seconds s (found_first a b) = s
left_seconds s (found_second a b d) = s
left_seconds s (found_none a) = s
left_seconds s (gave_off a) = s
left_seconds s (gave_zero a b) = s
left_seconds s (gave_known a b d) = s
left_seconds {roster = roster} {A = A} s (gave {p = p} {x = x} a b d e) = seconds_noted roster A.seconds p x s a b d
left_seconds s (wrote_off a) = s
left_seconds s (wrote_absent a b) = s
left_seconds s (wrote_short a b d) = s
left_seconds s (wrote a b d e m n p) = s
left_seconds s (listed_short a) = s
left_seconds s (listed_all a b d e) = s

single_from : {roster : List ℕ} {A : Ledger} {H : History} → Fits (length roster) A.accepted H → Sound roster A.seconds → {cs : List Call} {os₁ os₂ : List Outcome}
    → Whole roster A cs os₁ → Whole roster A cs os₂ → AllInBytes os₁ → AllInBytes os₂ → map (plain (length roster)) os₁ ≡ map (plain (length roster)) os₂
single_from f s end end c₁ c₂ = refl
single_from {roster} f s (then {cs = cs} d₁ w₁) (then {os = os} d₂ w₂) c₁ c₂ =
    let e = single f s d₁ d₂ c₁.0 c₂.0 in
    ap₂ (λ (o : Outcome) (os : List Outcome). o ∷ os) e.0
    (single_from (left_fits f d₁).1 (record { roster = s.roster; seconds = left_seconds s.seconds d₁ }) w₁ (subst (λ (B : Ledger). Whole roster B cs os) (sym e.1) w₂) c₁.1 c₂.1)

-- so a list of calls from the opening on has one list of outcomes
pub single_whole : {roster : List ℕ} → IsRoster roster → {cs : List Call} {os₁ os₂ : List Outcome}
    → Whole roster (begun roster) cs os₁ → Whole roster (begun roster) cs os₂ → AllInBytes os₁ → AllInBytes os₂ → map (plain (length roster)) os₁ ≡ map (plain (length roster)) os₂
single_whole {roster} s = single_from (none_fitted (length roster)) (record { roster = s; seconds = seconds_none roster s.no_zero })
