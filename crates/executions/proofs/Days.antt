-- What a day stands for: nobody has stopped when it is opened, and each allowed event does to it what it does to its execution. Assumes nothing.
use Rattle.std.specs.Prelude.{Ok}
use mathlib.Core.Path.{◌≡◌, refl, sym, ap, ◌∙◌}
use mathlib.Core.Bool.{Bool, true, false, cond, ◌&&◌, ◌||◌, and-false, and-true}
use mathlib.Core.Logic.{◌⊎◌, inl, inr}
use mathlib.Core.List.{List}
use Prim.Native.Nat.{ℕ, ◌-◌, ◌<◌, ◌≤◌}
use native.Mathlib.Omega.{arith}
use lib.ListN.{length, replicate, length-append, length-replicate}
use lib.Seq.{take-append_seam}
use lib.Dec.{eqb, ltb, leb}
use borrow.Author.Tests.{eqb-true, eq-eqb, ne_eqb, ltb-true, ltb-false, lt-ltb, leb-true, le-leb}
use Rattle.sets.specs.Sets.{Places, nothing, below, intersection, with}
use Rattle.sets.specs.PlaceSets.{has, packed}
use Rattle.sets.proofs.Booleans.{clash, is_false, and_left, and_right, or_cases}
use Rattle.sets.proofs.Laws.{kept_with, has_packed}
use Rattle.histories.specs.declared.Kind.{Kind}
use Rattle.rows.specs.Rows.{no_rows, rows_of, table_of}
use Rattle.rows.proofs.Laws.{rows_of_lem, no_rows_length, rows_past}
use Rattle.rows.proofs.Tables.{table_length, table_rows, table_past}
use Rattle.answers.specs.Views.{size}
use Rattle.executions.specs.declared.Day.{Day}
use Rattle.executions.specs.declared.Event.{Event}
use Rattle.executions.specs.Executions.{morning, fault, listeners, noting, happening}
use Rattle.executions.specs.Promises.{size_of, roster_of, execution_of, starting, stopping, hearing, day_after}
use Rattle.executions.proofs.Executed.{cond_true, cond_false, Allowed, stops, hears, allowed, after_stop, after_hear, happening_stop, happening_hear, listeners_run, noting_cases}

-- ---- any day

pub size_few : (d : Day) → size_of d ≤ 128
unfolding size_of size
size_few d = go (leb d.count 128) refl
  where
    go : (t : Bool) → leb d.count 128 ≡ t → cond t d.count 128 ≤ 128
    go true e = leb-true d.count 128 e
    go false e = omega arith

-- what stands in a day's row is on the roster
pub row_on : (d : Day) (p q : ℕ) → (execution_of d).row p q ≡ true → q < size_of d
unfolding execution_of
row_on d p q e = ltb-true q (size_of d) (and_left (ltb q (size_of d)) (rows_of d.rows p q) e)

-- ---- a day that was opened

-- what holds of a day that was opened with this kind and roster, after any events
pub record Sound (k : Kind) (roster : List ℕ) (d : Day) : Type 0 where
  pub is_kind : d.kind ≡ k
  pub is_size : size_of d ≡ length roster
  pub is_roster : roster_of d ≡ roster
  pub all_serials : length d.serials ≡ 128
  pub all_rows : length d.rows ≡ 2048
  pub stopped_within : (p : ℕ) → has d.stopped p ≡ true → p < length roster
  pub rows_within : (p q : ℕ) → rows_of d.rows p q ≡ true → (p < length roster) × (q < length roster)

module _ (k : Kind) (s : List ℕ) where
  -- all run, and nobody has heard anything
  pub starting_execution : execution_of (starting k s) ≡ morning
  unfolding execution_of starting
  starting_execution = λ i. record { stopped = λ p. no_stopped p i; row = λ p q. no_row p q i }
    where
      n : ℕ
      n = size_of (starting k s)

      no_stopped : (p : ℕ) → ltb p n && has (packed nothing) p ≡ false
      no_stopped p = ap (λ (S : Places). ltb p n && S p) (has_packed nothing) ∙ and-false (ltb p n)

      no_row : (p q : ℕ) → ltb q n && rows_of no_rows p q ≡ false
      no_row p q = ap (λ (S : Places). ltb q n && S q) (rows_of_lem p) ∙ and-false (ltb q n)

  module _ (few : length s ≤ 128) where
    pub starting_size : size_of (starting k s) ≡ length s
    unfolding size_of size starting
    starting_size = rw (le-leb (length s) 128 few)

    pub starting_roster : roster_of (starting k s) ≡ s
    unfolding roster_of starting
    starting_roster = rw starting_size (take-append_seam s (replicate (128 - length s) 0))

    pub starting_sound : Sound k s (starting k s)
    unfolding starting
    starting_sound = record {
      is_kind = refl;
      is_size = starting_size;
      is_roster = starting_roster;
      all_serials = length-append s (replicate (128 - length s) 0) ∙ omega (arith, length-replicate {0} {A = ℕ} (128 - length s) 0);
      all_rows = no_rows_length;
      stopped_within = λ p e. clash e (ap (λ (S : Places). S p) (has_packed nothing));
      rows_within = λ p q e. clash e (ap (λ (S : Places). S q) (rows_of_lem p));
    }

-- ---- a stop

module _ (d : Day) (p : ℕ) (on : p < size_of d) where
  stopping_has : has (packed (with p (has d.stopped))) ≡ with p (has d.stopped)
  stopping_has = has_packed (with p (has d.stopped)) ∙ kept_with d.stopped p (omega (arith, size_few d))

  stopping_stopped : (x : ℕ) → ltb x (size_of d) && has (packed (with p (has d.stopped))) x ≡ (ltb x (size_of d) && has d.stopped x) || eqb x p
  stopping_stopped x = ap (λ (S : Places). ltb x (size_of d) && S x) stopping_has ∙ go (ltb x (size_of d)) refl
    where
      go : (t : Bool) → ltb x (size_of d) ≡ t → t && (has d.stopped x || eqb x p) ≡ (t && has d.stopped x) || eqb x p
      go true e = refl
      go false e = sym (ne_eqb x p (λ q. clash (lt-ltb x (size_of d) (omega arith)) e))

  stopping_execution : execution_of (stopping d p) ≡ after_stop (execution_of d) p
  unfolding execution_of stopping size_of
  stopping_execution = λ i. record { stopped = λ x. stopping_stopped x i; row = (execution_of d).row }

  stopping_within : (m : ℕ) → p < m → ((x : ℕ) → has d.stopped x ≡ true → x < m) → (x : ℕ) → has (stopping d p).stopped x ≡ true → x < m
  unfolding stopping
  stopping_within m l h x e = go (or_cases (has d.stopped x) (eqb x p) (sym (ap (λ (S : Places). S x) stopping_has) ∙ e))
    where
      go : (has d.stopped x ≡ true) ⊎ (eqb x p ≡ true) → x < m
      go (inl a) = h x a
      go (inr a) = rw (eqb-true x p a) l

-- ---- rows in which some places note one more

module _ (n q : ℕ) (few : n ≤ 128) (on : q < n) (w : List ℕ) (all : length w ≡ 2048) (who : Places) (who_on : (x : ℕ) → who x ≡ true → x < n) where
  noted : List ℕ
  noted = table_of (noting who q (rows_of w))

  -- a row that two words hold
  noted_within : (x y : ℕ) → ltb y n && (noting who q (rows_of w) x y && ltb y 128) ≡ noting who q (λ x. intersection (below n) (rows_of w x)) x y
  unfolding noting
  noted_within x y = go (who x) (ltb y n) refl
    where
      go : (t b : Bool) → ltb y n ≡ b → b && (cond t (with q (rows_of w x)) (rows_of w x) y && ltb y 128) ≡ cond t (with q (intersection (below n) (rows_of w x))) (intersection (below n) (rows_of w x)) y
      go true true e =
          let m : y < n = ltb-true y n e in
          let l : y < 128 = omega arith in
          ap (λ (c : Bool). (rows_of w x y || eqb y q) && c) (lt-ltb y 128 l) ∙ and-true (rows_of w x y || eqb y q) ∙ sym (ap (λ (c : Bool). (c && rows_of w x y) || eqb y q) e)
      go true false e =
          sym (ap (λ (c : Bool). (c && rows_of w x y) || eqb y q) e ∙ ne_eqb y q (λ h. clash (lt-ltb y n (omega arith)) e))
      go false true e =
          let m : y < n = ltb-true y n e in
          let l : y < 128 = omega arith in
          ap (λ (c : Bool). rows_of w x y && c) (lt-ltb y 128 l) ∙ and-true (rows_of w x y) ∙ sym (ap (λ (c : Bool). c && rows_of w x y) e)
      go false false e = sym (ap (λ (c : Bool). c && rows_of w x y) e)

  -- a place that the table does not have notes nothing
  noted_past : (x y : ℕ) → 128 ≤ x → noting who q (λ x. intersection (below n) (rows_of w x)) x y ≡ false
  noted_past x y l = is_false _ (λ t. go (noting_cases who q (λ x. intersection (below n) (rows_of w x)) x y t))
    where
      go : ((who x ≡ true) × (y ≡ q)) ⊎ (ltb y n && rows_of w x y ≡ true) → ⊥
      go (inl (a, e)) = omega (arith, who_on x a)
      go (inr h) = clash (and_right (ltb y n) (rows_of w x y) h) (ap (λ (S : Places). S y) (rows_past w x all l))

  noted_rows : (x y : ℕ) → ltb y n && rows_of noted x y ≡ noting who q (λ x. intersection (below n) (rows_of w x)) x y
  unfolding noted
  noted_rows x y = go (ltb x 128) refl
    where
      go : (t : Bool) → ltb x 128 ≡ t → ltb y n && rows_of (table_of (noting who q (rows_of w))) x y ≡ noting who q (λ x. intersection (below n) (rows_of w x)) x y
      go true e = ap (λ (S : Places). ltb y n && S y) (table_rows (noting who q (rows_of w)) x (ltb-true x 128 e)) ∙ noted_within x y
      go false e =
          let l : 128 ≤ x = ltb-false x 128 e in
          ap (λ (S : Places). ltb y n && S y) (table_past (noting who q (rows_of w)) x l) ∙ and-false (ltb y n) ∙ sym (noted_past x y l)

  -- what stands in the table
  noted_cases : (x y : ℕ) → rows_of noted x y ≡ true → ((who x ≡ true) × (y ≡ q)) ⊎ (rows_of w x y ≡ true)
  unfolding noted
  noted_cases x y e = go (ltb x 128) refl
    where
      go : (t : Bool) → ltb x 128 ≡ t → ((who x ≡ true) × (y ≡ q)) ⊎ (rows_of w x y ≡ true)
      go true l =
          noting_cases who q (rows_of w) x y
          (and_left (noting who q (rows_of w) x y) (ltb y 128) (sym (ap (λ (S : Places). S y) (table_rows (noting who q (rows_of w)) x (ltb-true x 128 l))) ∙ e))
      go false l = clash e (ap (λ (S : Places). S y) (table_past (noting who q (rows_of w)) x (ltb-false x 128 l)))

-- ---- a hearing

module _ (d : Day) (p q : ℕ) (all : length d.rows ≡ 2048) (p-on : p < size_of d) (q-on : q < size_of d) (runs : (execution_of d).stopped p ≡ false) where
  abbrev who : Places
  who = listeners d.kind (size_of d) (execution_of d) p

  who_on : (x : ℕ) → who x ≡ true → x < size_of d
  who_on x h = (listeners_run d.kind (size_of d) (execution_of d) p x p-on runs h).0

  hearing_execution : execution_of (hearing d p q) ≡ after_hear d.kind (size_of d) (execution_of d) p q
  unfolding execution_of hearing size_of noted
  hearing_execution = λ i. record {
    stopped = (execution_of d).stopped;
    row = λ x y. noted_rows (size_of d) q (size_few d) q-on d.rows all who who_on x y i;
  }

  hearing_within : (m : ℕ) → size_of d ≡ m → ((x y : ℕ) → rows_of d.rows x y ≡ true → (x < m) × (y < m)) → (x y : ℕ) → rows_of (hearing d p q).rows x y ≡ true → (x < m) × (y < m)
  unfolding hearing noted
  hearing_within m s h x y e = go (noted_cases (size_of d) q (size_few d) q-on d.rows all who who_on x y e)
    where
      go : ((who x ≡ true) × (y ≡ q)) ⊎ (rows_of d.rows x y ≡ true) → (x < m) × (y < m)
      go (inl (a, b)) = (omega (arith, who_on x a), omega arith)
      go (inr a) = h x y a

-- ---- any event that is allowed

module _ (d : Day) (e : Event) where
  pub after_stop_lem : e.kind ≡ 1 → day_after d e ≡ stopping d e.place.0
  unfolding day_after
  after_stop_lem h = cond_true _ _ (eq-eqb e.kind 1 h)

  pub after_other : (e.kind ≡ 1 → ⊥) → day_after d e ≡ hearing d e.place.0 e.other.0
  unfolding day_after
  after_other h = cond_false _ _ (ne_eqb e.kind 1 h)

  after_hear_lem : e.kind ≡ 2 → day_after d e ≡ hearing d e.place.0 e.other.0
  after_hear_lem h = after_other (λ o. omega arith)

  -- kind, roster and size stay, whatever the event
  pub after_kind : (day_after d e).kind ≡ d.kind
  unfolding day_after stopping hearing
  after_kind = go (eqb e.kind 1)
    where
      go : (b : Bool) → (cond b (stopping d e.place.0) (hearing d e.place.0 e.other.0)).kind ≡ d.kind
      go true = refl
      go false = refl

  pub after_serials : (day_after d e).serials ≡ d.serials
  unfolding day_after stopping hearing
  after_serials = go (eqb e.kind 1)
    where
      go : (b : Bool) → (cond b (stopping d e.place.0) (hearing d e.place.0 e.other.0)).serials ≡ d.serials
      go true = refl
      go false = refl

  pub after_size : size_of (day_after d e) ≡ size_of d
  unfolding day_after stopping hearing size_of
  after_size = go (eqb e.kind 1)
    where
      go : (b : Bool) → size_of (cond b (stopping d e.place.0) (hearing d e.place.0 e.other.0)) ≡ size_of d
      go true = refl
      go false = refl

  pub after_roster : roster_of (day_after d e) ≡ roster_of d
  unfolding roster_of
  after_roster = rw (after_size, after_serials)

module _ {k : Kind} {roster : List ℕ} {d : Day} (g : Sound k roster d) (e : Event) (free : fault (size_of d) (execution_of d) e ≡ Ok tt) where
  -- the execution of the day after it is the execution after it
  pub after_execution : execution_of (day_after d e) ≡ happening d.kind (size_of d) (execution_of d) e
  after_execution = go (allowed (size_of d) (execution_of d) e free)
    where
      go : Allowed (size_of d) (execution_of d) e → execution_of (day_after d e) ≡ happening d.kind (size_of d) (execution_of d) e
      go (stops h p r) =
          ap execution_of (after_stop_lem d e h) ∙ stopping_execution d e.place.0 p ∙ sym (happening_stop d.kind (size_of d) (execution_of d) e h)
      go (hears h p q r s) =
          ap execution_of (after_hear_lem d e h) ∙ hearing_execution d e.place.0 e.other.0 g.all_rows p q r
          ∙ sym (happening_hear d.kind (size_of d) (execution_of d) e h)

  after_rows : Allowed (size_of d) (execution_of d) e → length (day_after d e).rows ≡ 2048
  unfolding stopping hearing
  after_rows (stops h p r) = rw (after_stop_lem d e h) g.all_rows
  after_rows (hears h p q r s) = rw (after_hear_lem d e h) (table_length _)

  after_stopped_within : Allowed (size_of d) (execution_of d) e → (x : ℕ) → has (day_after d e).stopped x ≡ true → x < length roster
  unfolding hearing
  after_stopped_within (stops h p r) = rw (after_stop_lem d e h) (stopping_within d e.place.0 p (length roster) (rw g.is_size at p) g.stopped_within)
  after_stopped_within (hears h p q r s) = rw (after_hear_lem d e h) g.stopped_within

  after_rows_within : Allowed (size_of d) (execution_of d) e → (x y : ℕ) → rows_of (day_after d e).rows x y ≡ true → (x < length roster) × (y < length roster)
  unfolding stopping
  after_rows_within (stops h p r) = rw (after_stop_lem d e h) g.rows_within
  after_rows_within (hears h p q r s) = rw (after_hear_lem d e h) (hearing_within d e.place.0 e.other.0 g.all_rows p q r (length roster) g.is_size g.rows_within)

  pub after_sound : Sound k roster (day_after d e)
  after_sound =
      let a = allowed (size_of d) (execution_of d) e free in
      record {
        is_kind = after_kind d e ∙ g.is_kind;
        is_size = after_size d e ∙ g.is_size;
        is_roster = after_roster d e ∙ g.is_roster;
        all_serials = ap length (after_serials d e) ∙ g.all_serials;
        all_rows = after_rows a;
        stopped_within = after_stopped_within a;
        rows_within = after_rows_within a;
      }
