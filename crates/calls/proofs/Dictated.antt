-- What a dictated outcome tells of the records, and what the records allow: call by call, for the statements about whole lists.
-- Assumes nothing.
use mathlib.Core.Path.{◌≡◌, refl, sym, ap, ◌∙◌, subst, fun_ext}
use mathlib.Core.Bool.{Bool, true, false, cond}
use mathlib.Core.Logic.{◌⊎◌, inl, inr, ◌↔◌}
use mathlib.Core.List.{List, [], ◌∷◌}
use Prim.Native.Nat.{ℕ, ◌<◌}
use native.Mathlib.Omega.{arith}
use lib.ListN.{length}
use lib.Dec.{eqb}
use borrow.Author.Tests.{eqb-true}
use Rattle.sets.proofs.Booleans.{clash, or_cases, or_right, eqb_self}
use Rattle.histories.specs.declared.Kind.{Kind}
use Rattle.histories.specs.declared.Kind.TheVariants.{Full}
use Rattle.histories.specs.Histories.{Row, History, Before, Accepted, lay, Fits, LastInAll, LastInNone, Decided}
use Rattle.histories.proofs.Fewer.{Within, within_self, within_trans, within_lay, fits_lay}
use Rattle.histories.proofs.Exact.{all_none, all_open, none_open_lem, decided_open}
use Rattle.layouts.specs.Layout.{Stored}
use Rattle.calls.specs.declared.Recovery.{Recovery}
use Rattle.calls.specs.Promises.{accepted_of}
use Rattle.calls.specs.Demand as D
use Rattle.calls.specs.Demand.{Ledger, Call, offer, ask, show, whole, Outcome, says, lent, OfGroup, Dictates, faulty, foreign, repeats, differs, takes, none_fits, asked_off, asked_last, asked_not, asked_open, showed_off, showed_decided, showed_short, showed, checked_short, checked_off, checked_fits, checked_not, whole_settled, whole_open, fetched_none, fetched_next, gave_unmourned, gave_absent, gave_count, found_first, found_second, found_none, gave_off, gave_zero, gave_known, gave, wrote_off, wrote_absent, wrote_short, wrote, listed_short, listed_all}
use Rattle.calls.specs.Run.{left, next}
use Rattle.calls.proofs.Demand.{Good, step, good_next}
use Rattle.calls.proofs.Single.{read_clash, same_record}

-- ---- the accepted records stay, whatever is called

pub grows : {roster : List ℕ} {A B : Ledger} {c : Call} {o : Outcome} → Dictates roster A c o B → Within A.accepted B.accepted
grows {A = A} (takes {x = x} s b f) = within_lay A.accepted x.own x.kind x.mourned b
grows (faulty a b d) = within_self
grows (foreign a b) = within_self
grows (repeats a b d) = within_self
grows (differs a b d) = within_self
grows (none_fits a b d) = within_self
grows (asked_off a) = within_self
grows (asked_last a b) = within_self
grows (asked_not a b) = within_self
grows (asked_open a b) = within_self
grows (showed_off a) = within_self
grows (showed_decided a b) = within_self
grows (showed_short a b d) = within_self
grows (showed a b d f m n) = within_self
grows (checked_short a) = within_self
grows (checked_off a b d f m) = within_self
grows (checked_fits a b) = within_self
grows (checked_not a b d) = within_self
grows (whole_settled a) = within_self
grows (whole_open a b) = within_self
grows (fetched_none a) = within_self
grows (fetched_next a b d) = within_self
grows (gave_unmourned a) = within_self
grows (gave_absent a b) = within_self
grows (gave_count a) = within_self
grows (found_first a b) = within_self
grows (found_second a b d) = within_self
grows (found_none a) = within_self
grows (gave_off a) = within_self
grows (gave_zero a b) = within_self
grows (gave_known a b d) = within_self
grows (gave a b d f) = within_self
grows (wrote_off a) = within_self
grows (wrote_absent a b) = within_self
grows (wrote_short a b d) = within_self
grows (wrote a b d f m n q) = within_self
grows (listed_short a) = within_self
grows (listed_all a b d f) = within_self

-- and so do the second serials, whatever record is offered
pub offers_none : {roster : List ℕ} {A B : Ledger} {bytes : List ℕ} {o : Outcome} → Dictates roster A (offer bytes) o B → B.seconds ≡ A.seconds
offers_none (faulty a b d) = refl
offers_none (foreign a b) = refl
offers_none (repeats a b d) = refl
offers_none (differs a b d) = refl
offers_none (takes a b d) = refl
offers_none (none_fits a b d) = refl

pub within_left : {roster : List ℕ} {r : Recovery} → Good roster r → (cs : List Call) → Within (accepted_of r) (accepted_of (left r cs))
unfolding left
within_left g [] = within_self
within_left {roster = roster} {r = r} g (c ∷ cs) = within_trans (grows (step g c)) (within_left {r = next r c} (good_next g c) cs)

-- ---- what is said of a place

pub last_iff : {roster : List ℕ} {A B : Ledger} {i : ℕ} {o : Outcome} {H : History} → Fits (length roster) A.accepted H → Dictates roster A (ask i) o B
    → (o ≡ says D.is_last) ↔ ((i < length roster) × LastInAll (length roster) A.accepted i)
last_iff f (asked_off l) = (λ e. let z : ◌≡◌ {A = ℕ} 0 1 = cc in absurd (omega arith), λ w. absurd (omega (arith, w.0)))
last_iff f (asked_last l a) = (λ e. (l, a), λ w. refl)
last_iff f (asked_not l a) = (λ e. let z : ◌≡◌ {A = ℕ} 0 1 = cc in absurd (omega arith), λ w. all_none f w.1 a)
last_iff f (asked_open l d) = (λ e. let z : ◌≡◌ {A = ℕ} 0 1 = cc in absurd (omega arith), λ w. all_open w.1 d)

pub not_last_iff : {roster : List ℕ} {A B : Ledger} {i : ℕ} {o : Outcome} {H : History} → Fits (length roster) A.accepted H → Dictates roster A (ask i) o B
    → (o ≡ says D.not_last) ↔ ((i < length roster) × LastInNone (length roster) A.accepted i)
not_last_iff f (asked_off l) = (λ e. let z : ◌≡◌ {A = ℕ} 0 1 = cc in absurd (omega arith), λ w. absurd (omega (arith, w.0)))
not_last_iff f (asked_last l a) = (λ e. let z : ◌≡◌ {A = ℕ} 0 1 = cc in absurd (omega arith), λ w. all_none f a w.1)
not_last_iff f (asked_not l a) = (λ e. (l, a), λ w. refl)
not_last_iff f (asked_open l d) = (λ e. let z : ◌≡◌ {A = ℕ} 0 1 = cc in absurd (omega arith), λ w. none_open_lem w.1 d)

pub decided_elim : {roster : List ℕ} {A B : Ledger} {i : ℕ} {a b c d : List ℕ} {o : Outcome} → Dictates roster A (show i a b) o B → o ≡ lent D.decided c d
    → (i < length roster) × Decided (length roster) A.accepted i
decided_elim (showed_off l) e = let z : ◌≡◌ {A = ℕ} 0 1 = cc in absurd (omega arith)
decided_elim (showed_decided l a) e = (l, a)
decided_elim (showed_short l d s) e = let z : ◌≡◌ {A = ℕ} 0 1 = cc in absurd (omega arith)
decided_elim (showed l u v d x y) e = let z : ◌≡◌ {A = ℕ} 0 1 = cc in absurd (omega arith)

pub decided_intro : {roster : List ℕ} {A B : Ledger} {i : ℕ} {a b : List ℕ} {o : Outcome} → Dictates roster A (show i a b) o B → i < length roster
    → Decided (length roster) A.accepted i → o ≡ lent D.decided a b
decided_intro (showed_off l) m w = absurd (omega arith)
decided_intro (showed_decided l a) m w = refl
decided_intro (showed_short l d s) m w = decided_open w d
decided_intro (showed l u v d x y) m w = decided_open w d

pub settled_iff : {roster : List ℕ} {A B : Ledger} {o : Outcome} → Dictates roster A whole o B
    → (o ≡ says D.settled) ↔ ((i : ℕ) → i < length roster → Decided (length roster) A.accepted i)
settled_iff (whole_settled a) = (λ e. a, λ w. refl)
settled_iff (whole_open {i = i} l d) = (λ e. let z : ◌≡◌ {A = ℕ} 0 1 = cc in absurd (omega arith), λ w. decided_open (w i l) d)

-- ---- what is said of a record

-- the bytes are a record of this group: its kind is its member's in K, its mourned set its member's row in H, and a full one holds
-- everyone before it there
pub record Agrees (roster seconds : List ℕ) (H : History) (K : ℕ → Kind) (bytes : List ℕ) : Type 0 where
  pub stored : Stored
  pub is_of_group : OfGroup roster seconds bytes stored
  pub kind : stored.kind ≡ K stored.own
  pub row : H stored.own ≡ stored.mourned
  pub duty : stored.kind ≡ Full → (q : ℕ) → Before H q stored.own → H stored.own q ≡ true

-- the kinds of those that are back are theirs in K
abbrev pub Kinds : Accepted → (ℕ → Kind) → Type 0
Kinds A K = (p : ℕ) → A.returned p ≡ true → A.kind p ≡ K p

module _ {roster seconds : List ℕ} {H : History} {K : ℕ → Kind} {bytes : List ℕ} {x : Stored} (a : Agrees roster seconds H K bytes) (y : OfGroup roster seconds bytes x) where
  agrees_kind : x.kind ≡ K x.own
  agrees_kind = subst (λ (x : Stored). x.kind ≡ K x.own) (same_record a.is_of_group.reads y.reads) a.kind

  agrees_row : H x.own ≡ x.mourned
  agrees_row = subst (λ (x : Stored). H x.own ≡ x.mourned) (same_record a.is_of_group.reads y.reads) a.row

  agrees_duty : x.kind ≡ Full → (q : ℕ) → Before H q x.own → H x.own q ≡ true
  agrees_duty = subst (λ (x : Stored). x.kind ≡ Full → (q : ℕ) → Before H q x.own → H x.own q ≡ true) (same_record a.is_of_group.reads y.reads) a.duty

kinds_lay : (A : Accepted) {K : ℕ → Kind} (p : ℕ) (k : Kind) (M : Row) → Kinds A K → k ≡ K p → Kinds (lay A p k M) K
kinds_lay A {K} p k M w e r b = go (eqb r p) refl (or_cases (A.returned r) (eqb r p) b)
  where
    go : (t : Bool) → eqb r p ≡ t → (A.returned r ≡ true) ⊎ (eqb r p ≡ true) → cond t k (A.kind r) ≡ K r
    go true h x = e ∙ ap K (sym (eqb-true r p h))
    go false h (inl x) = w r x
    go false h (inr x) = clash x h

-- such a record is taken or repeated, where H and K fit those accepted before; and they fit those accepted then
pub agrees_accepted : {roster : List ℕ} {A B : Ledger} {H : History} {K : ℕ → Kind} {bytes : List ℕ} {o : Outcome} → Fits (length roster) A.accepted H → Kinds A.accepted K
    → Agrees roster A.seconds H K bytes → Dictates roster A (offer bytes) o B
    → ((o ≡ says D.taken) ⊎ (o ≡ says D.repeated)) × Fits (length roster) B.accepted H × Kinds B.accepted K
agrees_accepted f w a (faulty e l m) = read_clash e a.is_of_group.reads
agrees_accepted {roster} f w a (foreign e z) =
    absurd (z (subst (λ (y : Stored). y.roster ≡ roster) (same_record a.is_of_group.reads e) a.is_of_group.same_roster))
agrees_accepted f w a (repeats y b q) = (inr refl, f, w)
agrees_accepted f w a (differs {x = x} y b z) =
    absurd (z (record { kind = agrees_kind a y ∙ sym (w x.own b); mourned = sym (agrees_row a y) ∙ fun_ext (f.recorded x.own b) }))
agrees_accepted {A = A} f w a (takes {x = x} y b h) =
    (inl refl, fits_lay x.own x.kind x.mourned f (agrees_row a y) (agrees_duty a y), kinds_lay A.accepted x.own x.kind x.mourned w (agrees_kind a y))
agrees_accepted {H = H} f w a (none_fits {x = x} y b z) = absurd (z H (fits_lay x.own x.kind x.mourned f (agrees_row a y) (agrees_duty a y)))

-- what was accepted is of this group: its member is back, with its kind and its mourned set, and nobody else is new
pub record Enters (roster : List ℕ) (A B : Ledger) (bytes : List ℕ) : Type 0 where
  pub stored : Stored
  pub is_of_group : OfGroup roster A.seconds bytes stored
  pub back : B.accepted.returned stored.own ≡ true
  pub kind : B.accepted.kind stored.own ≡ stored.kind
  pub row : B.accepted.row stored.own ≡ stored.mourned
  pub only : (p : ℕ) → B.accepted.returned p ≡ true → (A.accepted.returned p ≡ true) ⊎ (p ≡ stored.own)

pub accepted_enters : {roster : List ℕ} {A B : Ledger} {bytes : List ℕ} {o : Outcome} → Dictates roster A (offer bytes) o B → (o ≡ says D.taken) ⊎ (o ≡ says D.repeated)
    → Enters roster A B bytes
accepted_enters (faulty e l m) (inl z) = let y : ◌≡◌ {A = ℕ} 0 1 = cc in absurd (omega arith)
accepted_enters (faulty e l m) (inr z) = let y : ◌≡◌ {A = ℕ} 0 1 = cc in absurd (omega arith)
accepted_enters (foreign e n) (inl z) = let y : ◌≡◌ {A = ℕ} 0 1 = cc in absurd (omega arith)
accepted_enters (foreign e n) (inr z) = let y : ◌≡◌ {A = ℕ} 0 1 = cc in absurd (omega arith)
accepted_enters (differs s b n) (inl z) = let y : ◌≡◌ {A = ℕ} 0 1 = cc in absurd (omega arith)
accepted_enters (differs s b n) (inr z) = let y : ◌≡◌ {A = ℕ} 0 1 = cc in absurd (omega arith)
accepted_enters (none_fits s b n) (inl z) = let y : ◌≡◌ {A = ℕ} 0 1 = cc in absurd (omega arith)
accepted_enters (none_fits s b n) (inr z) = let y : ◌≡◌ {A = ℕ} 0 1 = cc in absurd (omega arith)
accepted_enters (repeats {x = x} s b m) z = record { stored = x; is_of_group = s; back = b; kind = sym m.kind; row = sym m.mourned; only = λ p e. inl e }
accepted_enters {A = A} (takes {x = x} s b f) z = record {
  stored = x;
  is_of_group = s;
  back = or_right (A.accepted.returned x.own) (eqb_self x.own);
  kind = ap (λ (t : Bool). cond t x.kind (A.accepted.kind x.own)) (eqb_self x.own);
  row = ap (λ (t : Bool). cond t x.mourned (A.accepted.row x.own)) (eqb_self x.own);
  only = λ p e. new p (or_cases (A.accepted.returned p) (eqb p x.own) e);
}
  where
    new : (p : ℕ) → (A.accepted.returned p ≡ true) ⊎ (eqb p x.own ≡ true) → (A.accepted.returned p ≡ true) ⊎ (p ≡ x.own)
    new p (inl e) = inl e
    new p (inr e) = inr (eqb-true p x.own e)
