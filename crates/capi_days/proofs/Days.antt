-- A day in the caller's memory: what its four words say, that it is what its parts say, what one event leaves, and what writing
-- gives. Assumes nothing.
use Rattle.refusals.specs.declared.Refusal.{Refusal}
use Rattle.std.specs.Prelude.{Result}
use mathlib.Core.Path.{◌≡◌, refl, ap, ◌∙◌}
use mathlib.Core.List.{List, [], ◌∷◌}
use Prim.Native.Nat.{ℕ}
use native.Mathlib.Omega.{arith}
use lib.ListN.{length, get_or}
use borrow.Author.Tests.{eq-eqb, ne_eqb}
use Rattle.histories.specs.declared.Kind.TheVariants.{Full, Short}
use Rattle.executions.specs.declared.Day.{Day}
use Rattle.executions.specs.declared.Event.{Event}
use Rattle.executions.specs.declared.Happened.{Happened}
use Rattle.executions.specs.Promises.{happened, written_of}
use Rattle.boundary.specs.declared.DayHead.{DayHead}
use Rattle.boundary.specs.declared.End.{End}
use Rattle.refusals.specs.Numbers.{numbered}
use Rattle.boundary.specs.Words.{set_at, end_of}
use Rattle.boundary.specs.Days.{kind_in, stopped_in, day_in, with_stopped, done_code, happened_held}
use Rattle.boundary.proofs.Words.{Ends, ends}

-- ---- the four words

pub kind_short : (word : ℕ) → word ≡ 2 → Short ≡ kind_in (word ∷ [])
unfolding kind_in
kind_short word e = rw (eq-eqb word 2 e)

pub kind_full : (word : ℕ) → (word ≡ 2 → ⊥) → Full ≡ kind_in (word ∷ [])
unfolding kind_in
kind_full word e = rw (ne_eqb word 2 e)

-- what they say
abbrev pub Says : List ℕ → DayHead → Type 0
Says head h = (h.kind ≡ kind_in head) × ((h.count ≡ get_or head 1 0) × (h.stopped ≡ stopped_in head))

-- with their own places they are as they were
pub same_head : (head : List ℕ) → length head ≡ 4 → head ≡ with_stopped head (stopped_in head)
unfolding with_stopped stopped_in set_at
same_head (a ∷ b ∷ c ∷ d ∷ []) e = refl
same_head [] e = absurd (omega arith)
same_head (a ∷ []) e = absurd (omega arith)
same_head (a ∷ b ∷ []) e = absurd (omega arith)
same_head (a ∷ b ∷ c ∷ []) e = absurd (omega arith)
same_head (a ∷ b ∷ c ∷ d ∷ x ∷ xs) e = absurd (omega arith)

-- ---- a day

pub day_is : (head : List ℕ) (h : DayHead) → Says head h → (serials rows : List ℕ) → record { kind = h.kind; count = h.count; serials = serials; stopped = h.stopped; rows = rows } ≡ day_in head serials rows
unfolding day_in
day_is head h (k, (n, s)) serials rows = λ i. record { kind = k i; count = n i; serials = serials; stopped = s i; rows = rows }

pub event_is : (head serials rows : List ℕ) (e : Event) (d : Day) (x : Happened) (after : List ℕ) (c : ℕ) → d ≡ day_in head serials rows → x ≡ happened d e → after ≡ with_stopped head x.day.stopped → c ≡ done_code x.answer
    → (c ≡ (happened_held head serials rows e).code) × ((after ≡ (happened_held head serials rows e).head) × (x.day.rows ≡ (happened_held head serials rows e).rows))
unfolding happened_held
event_is head serials rows e d x after c f g h k =
    let is : x ≡ happened (day_in head serials rows) e = g ∙ ap (λ (d : Day). happened d e) f in
    (k ∙ ap (λ (x : Happened). done_code x.answer) is, (h ∙ ap (λ (x : Happened). with_stopped head x.day.stopped) is, ap (λ (x : Happened). x.day.rows) is))

pub write_is : (head serials rows : List ℕ) (p : ℕ) (out : List ℕ) (at : ℕ) (d : Day) (a : Result ℕ Refusal) (e : End) (after : List ℕ) → d ≡ day_in head serials rows → e ≡ end_of (numbered a)
    → (a ≡ (written_of d p out at).answer) × (after ≡ (written_of d p out at).buffer) → Ends (written_of (day_in head serials rows) p out at) e after
write_is head serials rows p out at d a e after f g h = rw (← f) (ends (written_of d p out at) a e after g h)
