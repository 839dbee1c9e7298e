-- The two turns of a game: what a record that is taken leaves, how long a game can last, and one law for each way in which a turn
-- returns. Assumes nothing.
use Rattle.refusals.specs.declared.Refusal.{Refusal}
use Rattle.refusals.specs.declared.Refusal.TheVariants as R
use mathlib.Core.Path.{◌≡◌, refl, sym, ap, ◌∙◌}
use mathlib.Core.Bool.{Bool, true, false, not, cond, ◌&&◌, ◌||◌, or-true, or-false}
use mathlib.Core.List.{List}
use Prim.Native.Nat.{ℕ, zero, suc, ◌+◌, ◌-◌, ◌*◌, ◌%◌, ◌^◌, ◌≤◌, ◌<◌, min, max}
use native.Mathlib.Numerals.{add-one}
use native.Mathlib.Omega.{arith}
use lib.Dec.{eqb, ltb}
use lib.ListN.{length, length-take}
use lib.Pow.{shl_exact}
use borrow.Author.Tests.{ltb-true, lt-ltb, ne_eqb, le-leb, lt-leb}
use Rattle.sets.specs.Sets.{Places, nothing, with, without, same, count}
use Rattle.sets.specs.PlaceSets.{has, packed}
use Rattle.sets.specs.declared.Place.{Place}
use Rattle.sets.specs.declared.PlaceSet.{PlaceSet}
use Rattle.std.specs.Prelude.{Option, Some, None, Result, Ok, Err}
use Rattle.sets.proofs.Booleans.{clash, minus_elim, minus_intro, eqb_self}
use Rattle.sets.proofs.Counting.{count_same, count_nothing, count_at_most, count_one_more, count_without}
use Rattle.sets.proofs.Laws.{has_packed, kept_with}
use Rattle.histories.specs.declared.Kind.{Kind}
use Rattle.histories.specs.declared.Kind.TheVariants.{Full, Short}
use Rattle.histories.specs.Histories.{Row}
use Rattle.histories.specs.Rule.{accepts}
use Rattle.answers.specs.Views.{accepted_in}
use Rattle.layouts.specs.Layout.{Parsed, got, refused, Stored, lone, layout}
use Rattle.answers.specs.declared.Reply.{Reply}
use Rattle.answers.specs.declared.Reply.TheVariants as O
use Rattle.answers.specs.Replies.{same_kind, entering}
use Rattle.calls.specs.declared.Recovery.{Recovery}
use Rattle.calls.specs.declared.Offered.{Offered}
use Rattle.calls.specs.Promises.{size_of, roster_of, alias_of, accepted_of, of_group, saying, keeping_full, keeping_row, keeping, answered, entered, judged, offered_as, offered, settled_of}
use Rattle.calls.proofs.Facts.{lone_on}
use Rattle.calls.proofs.Calls.{group_elim, entered_again, entered_new}
use Rattle.calls.proofs.Keeps.{size_few}
use Rattle.games.specs.Games.{absent_of, absent_count, least, greatest, record_numbered, record_count, handed, is_taken, lasting, hills_turn, crews_turn, fetches_from, played}
use Rattle.games.proofs.Least.{least_bound, Looking, looking_first, looking_next, looking_done, greatest_next, greatest_stays, greatest_bound}

-- ---- the absent places

pub absent_on : (r : Recovery) (p : ℕ) → absent_of r p ≡ true → p < size_of r
unfolding absent_of
absent_on r p e = ltb-true p (size_of r) (minus_elim (ltb p (size_of r)) ((accepted_of r).returned p) e).0

-- where one is absent the count is not 0
pub absent_some : (r : Recovery) (p : ℕ) → absent_of r p ≡ true → 0 < absent_count r
unfolding absent_count
absent_some r p e = omega (arith, count_without (size_of r) (absent_of r) p (absent_on r p e) e)

pub absent_few : (r : Recovery) → absent_count r ≤ size_of r
unfolding absent_count
absent_few r = count_at_most (size_of r) (absent_of r)

-- ---- a record that is offered

-- a record keeps the roster's length
keeping_size : (r : Recovery) (p : ℕ) (k : Kind) (M : Row) → size_of (keeping r p k M) ≡ size_of r
unfolding size_of keeping keeping_full keeping_row
keeping_size r p Full M = refl
keeping_size r p Short M = refl

answered_size : (r : Recovery) (p : ℕ) (k : Kind) (M : Row) (a : Result Reply Refusal) → size_of (answered r p k M a).recovery ≡ size_of r
unfolding answered saying
answered_size r p k M (Ok O.Taken) = keeping_size r p k M
answered_size r p k M (Ok O.Repeated) = refl
answered_size r p k M (Err j) = refl

pub offered_size : (r : Recovery) (bytes : List ℕ) → size_of (offered r bytes).recovery ≡ size_of r
unfolding offered offered_as judged entered saying
offered_size r bytes = go (lone (alias_of r) bytes)
  where
    own : (x : Stored) (t : Bool) → size_of (cond t (entered r x.own x.kind x.mourned) (saying r (Err R.OtherGroup))).recovery ≡ size_of r
    own x true = answered_size r x.own x.kind x.mourned (entering r.count (has r.returned) (has r.full) r.rows x.own x.kind x.mourned)
    own x false = refl

    go : (p : Parsed Stored) → size_of (offered_as r p).recovery ≡ size_of r
    go (got x rest) = own x (of_group r x)
    go (refused j) = refl

-- what a taken record leaves: one more place of the roster is back, and it was absent
record Joined (r s : Recovery) : Type 0 where
  own : ℕ
  kind : Kind
  mourned : Row
  on : own < size_of r
  new : (accepted_of r).returned own ≡ false
  is : s ≡ keeping r own kind mourned

entered_joins : (r : Recovery) (p : ℕ) (k : Kind) (M : Row) → p < size_of r → is_taken (entered r p k M).answer ≡ true → Joined r (entered r p k M).recovery
unfolding is_taken saying
entered_joins r p k M on t = go ((accepted_of r).returned p) refl
  where
    again : (b : Bool) → is_taken (saying r (cond b (Ok O.Repeated) (Err R.OtherRecord))).answer ≡ false
    again true = refl
    again false = refl

    taken : (b : Bool) → is_taken (cond b (record { answer = Ok O.Taken; recovery = keeping r p k M }) (saying r (Err R.NoHistory))).answer ≡ true
        → (cond b (record { answer = Ok O.Taken; recovery = keeping r p k M }) (saying r (Err R.NoHistory))).recovery ≡ keeping r p k M
    taken true e = refl
    taken false e = clash e refl

    go : (b : Bool) → (accepted_of r).returned p ≡ b → Joined r (entered r p k M).recovery
    go true e =
        let b : Bool = same_kind k ((accepted_of r).kind p) && same (size_of r) M ((accepted_of r).row p) in
        clash t (ap (λ (o : Offered). is_taken o.answer) (entered_again r refl p k M e b refl) ∙ again b)
    go false e =
        let b : Bool = accepts (size_of r) (accepted_of r) p k M in
        let f = entered_new r refl p k M e b refl in
        record {
          own = p;
          kind = k;
          mourned = M;
          on = on;
          new = e;
          is = ap (λ (o : Offered). o.recovery) f ∙ taken b (sym (ap (λ (o : Offered). is_taken o.answer) f) ∙ t);
        }

offered_joins : (r : Recovery) (bytes : List ℕ) → is_taken (offered r bytes).answer ≡ true → Joined r (offered r bytes).recovery
unfolding offered offered_as judged saying is_taken roster_of
offered_joins r bytes t = go (lone (alias_of r) bytes) refl t
  where
    own : (x : Stored) → x.own < length x.roster → (b : Bool) → of_group r x ≡ b
        → is_taken (cond b (entered r x.own x.kind x.mourned) (saying r (Err R.OtherGroup))).answer ≡ true
        → Joined r (cond b (entered r x.own x.kind x.mourned) (saying r (Err R.OtherGroup))).recovery
    own x l true e t =
        entered_joins r x.own x.kind x.mourned (omega (arith, ap length (group_elim r x e), length-take (size_of r) r.serials)) t
    own x l false e t = clash t refl

    go : (p : Parsed Stored) → lone (alias_of r) bytes ≡ p → is_taken (offered_as r p).answer ≡ true → Joined r (offered_as r p).recovery
    go (got x rest) e t = own x (lone_on (alias_of r) bytes x rest e).0 (of_group r x) refl t
    go (refused j) e t = clash t refl

-- who is absent once the record of p is kept
kept_absent : (r : Recovery) (p : ℕ) (k : Kind) (M : Row) → p < size_of r → (q : ℕ)
    → absent_of (keeping r p k M) q ≡ ltb q (size_of r) && not (ltb q (size_of r) && (has r.returned q || eqb q p))
unfolding absent_of accepted_of accepted_in size_of keeping keeping_full keeping_row
kept_absent r p k M on q = go k
  where
    with_own : ltb q (size_of r) && not (ltb q (size_of r) && has (packed (with p (has r.returned))) q) ≡ ltb q (size_of r) && not (ltb q (size_of r) && (has r.returned q || eqb q p))
    with_own =
        ap (λ (S : Places). ltb q (size_of r) && not (ltb q (size_of r) && S q)) (has_packed (with p (has r.returned)) ∙ kept_with r.returned p (omega (arith, on, size_few r)))

    go : (k : Kind) → absent_of (keeping r p k M) q ≡ ltb q (size_of r) && not (ltb q (size_of r) && (has r.returned q || eqb q p))
    go Full = with_own
    go Short = with_own

-- a taken record leaves one absent place fewer
joined_fewer : (r s : Recovery) → Joined r s → absent_count r ≡ suc (absent_count s)
unfolding absent_count absent_of accepted_of accepted_in size_of
joined_fewer r s j =
    count_one_more (size_of r) (absent_of r) (absent_of kept) p j.on (minus_intro (lt-ltb p (size_of r) j.on) j.new) gone others
    ∙ ap suc (sym (ap (λ (n : ℕ). count n (absent_of kept)) (keeping_size r p j.kind j.mourned)) ∙ ap absent_count (sym j.is))
  where
    p : ℕ
    p = j.own

    kept : Recovery
    kept = keeping r j.own j.kind j.mourned

    gone : absent_of kept p ≡ false
    gone =
        kept_absent r p j.kind j.mourned j.on p
        ∙ rw (lt-ltb p (size_of r) j.on, eqb_self p) (ap not (or-true (has r.returned p)))

    others : (q : ℕ) → (q ≡ p → ⊥) → absent_of kept q ≡ absent_of r q
    others q d =
        kept_absent r p j.kind j.mourned j.on q
        ∙ ap (λ (b : Bool). ltb q (size_of r) && not (ltb q (size_of r) && b)) (ap (λ (b : Bool). has r.returned q || b) (ne_eqb q p d) ∙ or-false (has r.returned q))

pub taken_fewer : (r : Recovery) (bytes : List ℕ) → is_taken (offered r bytes).answer ≡ true → absent_count r ≡ suc (absent_count (offered r bytes).recovery)
taken_fewer r bytes t = joined_fewer r (offered r bytes).recovery (offered_joins r bytes t)

-- ---- how long a game can last

-- no longer than places are absent
pub turn_bound : (k : ℕ) (r : Recovery) → crews_turn k r ≤ k
unfolding crews_turn hills_turn lasting
turn_bound zero r = omega arith
turn_bound (suc k) r = go (settled_of r) (turn_bound k)
  where
    lasts : ((s : Recovery) → crews_turn k s ≤ k) → (o : Offered) (t : Bool) → cond t (crews_turn k o.recovery) 0 ≤ k
    lasts below o true = below o.recovery
    lasts below o false = omega arith

    hills : ((s : Recovery) → crews_turn k s ≤ k) → (p : ℕ) → hills_turn (crews_turn k) r p ≤ k
    hills below p = greatest_bound (record_count r) (λ j. lasting (crews_turn k) (handed r p j)) k (λ j _. lasts below (handed r p j) (is_taken (handed r p j).answer))

    go : (t : Bool) → ((s : Recovery) → crews_turn k s ≤ k) → cond t 0 (suc (least (size_of r) (absent_of r) (hills_turn (crews_turn k) r))) ≤ suc k
    go true below = omega arith
    go false below = omega (arith, least_bound (size_of r) (absent_of r) (hills_turn (crews_turn k) r) k (hills below))

-- ---- the crew's turn

-- what the hill makes of a fetch of each place
abbrev pub fetched : Recovery → ℕ → ℕ
fetched r = hills_turn (crews_turn (absent_count r - 1)) r

pub turn_settled : (r : Recovery) → settled_of r ≡ true → 0 ≡ crews_turn (absent_count r) r
unfolding crews_turn
turn_settled r e = go (absent_count r)
  where
    go : (k : ℕ) → 0 ≡ crews_turn k r
    go zero = refl
    go (suc k) = ap (λ (t : Bool). cond t 0 (suc (least (size_of r) (absent_of r) (hills_turn (crews_turn k) r)))) (sym e)

-- nobody is absent
pub turn_nobody : (r : Recovery) (all : PlaceSet) → has all ≡ absent_of r → size_of r ≤ 4 → ((k : ℕ) → has all k ≡ false) → 0 ≡ crews_turn (absent_count r) r
unfolding crews_turn absent_count
turn_nobody r all is few none =
    ap (λ (k : ℕ). crews_turn k r) (sym (count_same (size_of r) (absent_of r) nothing (λ k _. sym (ap (λ (S : Places). S k) is) ∙ none k) ∙ count_nothing (size_of r)))

turn_some : (k : ℕ) (r : Recovery) → 0 < k → settled_of r ≡ false → suc (least (size_of r) (absent_of r) (hills_turn (crews_turn (k - 1)) r)) ≡ crews_turn k r
unfolding crews_turn
turn_some zero r l e = absurd (omega arith)
turn_some (suc k) r l e =
    let f : suc k - 1 ≡ k = omega arith in
    ap (λ (j : ℕ). suc (least (size_of r) (absent_of r) (hills_turn (crews_turn j) r))) f
    ∙ ap (λ (t : Bool). cond t 0 (suc (least (size_of r) (absent_of r) (hills_turn (crews_turn k) r)))) (sym e)

-- what holds as the crew goes through the absent places
abbrev pub Choosing : Recovery → PlaceSet → ℕ → Type 0
Choosing r left best = Looking (size_of r) (absent_of r) (fetched r) (has left) best

-- the lowest absent place comes first
module _ (r : Recovery) (all : PlaceSet) (is : has all ≡ absent_of r) (p : Place) (here : has all p.0 ≡ true) where
  pub first_absent : absent_of r p.0 ≡ true
  first_absent = sym (ap (λ (S : Places). S p.0) is) ∙ here

  pub fetching_first : ((j : ℕ) → j < p.0 → has all j ≡ false) → (left : PlaceSet) → has left ≡ without p.0 (has all) → (best : ℕ) → best ≡ fetched r p.0 → Choosing r left best
  fetching_first lowest left e best b =
      looking_first (size_of r) (absent_of r) (fetched r) p.0 (absent_on r p.0 first_absent) first_absent
      (λ j l. sym (ap (λ (S : Places). S j) is) ∙ lowest j l)
      (has left) (e ∙ ap (without p.0) is) best b

module _ (r : Recovery) (left : PlaceSet) (best : ℕ) (g : Choosing r left best) where
  -- then one that is left
  module _ (p : Place) (here : has left p.0 ≡ true) where
    pub next_absent : absent_of r p.0 ≡ true
    next_absent = g.listed p.0 here

    pub fetching_next : (after : PlaceSet) → has after ≡ without p.0 (has left) → (x y : ℕ) → x ≡ fetched r p.0 → y ≡ min best x → Choosing r after y
    fetching_next after e x y b c =
        looking_next (size_of r) (absent_of r) (fetched r) (has left) best g p.0 (absent_on r p.0 next_absent) here (has after) e x y b c

  -- and with none left the turn is known, and a small number
  module _ (few : size_of r ≤ 4) (some : 0 < absent_count r) (e : settled_of r ≡ false) (none : (k : ℕ) → has left k ≡ false) where
    pub turn_done : best + 1 ≡ crews_turn (absent_count r) r
    turn_done =
        add-one best ∙ ap suc (sym (looking_done (size_of r) (absent_of r) (fetched r) (has left) best g (λ k _. none k)))
        ∙ turn_some (absent_count r) r some e

    pub turn_small : best + 1 ≤ 4
    turn_small = omega (arith, turn_done, turn_bound (absent_count r) r, absent_few r)

-- ---- the hill's turn

-- how long each record of a place makes the rest last
abbrev pub lasts : Recovery → ℕ → ℕ → ℕ
lasts r p j = lasting (crews_turn (absent_count r - 1)) (handed r p j)

-- every number is tried
pub hill_done : (r : Recovery) (p n most number : ℕ) → size_of r ≤ 4 → n ≡ size_of r → most ≡ greatest number (lasts r p) → number ≤ (2 * 2 ^ n) % 2 ^ 64 → (2 * 2 ^ n) % 2 ^ 64 ≤ number
    → most ≡ hills_turn (crews_turn (absent_count r - 1)) r p
unfolding hills_turn record_count
hill_done r p n most number few is e low high =
    let f : number ≡ (2 * 2 ^ n) % 2 ^ 64 = omega arith in
    e ∙ ap (λ (m : ℕ). greatest m (lasts r p)) (f ∙ shl_exact {a = 2} 2 n 64 (omega arith) (omega arith) ∙ ap (λ (n : ℕ). 2 * 2 ^ n) is)

module _ (r : Recovery) (p number : ℕ) (given : Offered) (is : given ≡ handed r p number) (t : Bool) (told : t ≡ is_taken given.answer) where
  -- a record that is taken leaves a game of the same roster with one place fewer absent
  module _ (e : t ≡ true) where
    pub taken_size : size_of given.recovery ≡ size_of r
    unfolding handed
    taken_size = ap (λ (o : Offered). size_of o.recovery) is ∙ offered_size r (layout (record_numbered r p number))

    pub taken_one : absent_count r ≡ suc (absent_count given.recovery)
    unfolding handed
    taken_one =
        taken_fewer r (layout (record_numbered r p number)) (ap (λ (o : Offered). is_taken o.answer) (sym is) ∙ sym told ∙ e)
        ∙ ap (λ (o : Offered). suc (absent_count o.recovery)) (sym is)

    pub hill_taken : (most x y : ℕ) → most ≡ greatest number (lasts r p) → x ≡ crews_turn (absent_count given.recovery) given.recovery → y ≡ max most x → y ≡ greatest (number + 1) (lasts r p)
    unfolding lasting
    hill_taken most x y m f g =
        let k : absent_count given.recovery ≡ absent_count r - 1 = omega (arith, taken_one) in
        greatest_next (lasts r p) number most x y m
        (f ∙ ap (λ (k : ℕ). crews_turn k given.recovery) k ∙ ap (λ (b : Bool). cond b (crews_turn (absent_count r - 1) given.recovery) 0) (sym (sym told ∙ e)) ∙ ap (lasting (crews_turn (absent_count r - 1))) is) g

  -- one that is not taken is not handed over
  pub hill_refused : t ≡ false → (most : ℕ) → most ≡ greatest number (lasts r p) → most ≡ greatest (number + 1) (lasts r p)
  unfolding lasting
  hill_refused e most m =
      greatest_stays (lasts r p) number most m (ap (lasting (crews_turn (absent_count r - 1))) (sym is) ∙ ap (λ (b : Bool). cond b (crews_turn (absent_count r - 1) given.recovery) 0) (sym told ∙ e))

-- ---- the whole game

pub played_large : (r : Recovery) → 4 < size_of r → Err R.TooMany ≡ played r
unfolding played fetches_from
played_large r l = rw (lt-leb (size_of r) 4 l)

pub played_small : (r : Recovery) → size_of r ≤ 4 → (n : ℕ) → n ≡ crews_turn (absent_count r) r → Ok n ≡ played r
unfolding played fetches_from
played_small r l n e = rw (le-leb (size_of r) 4 l, e)
