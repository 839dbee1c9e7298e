-- What holds of an execution after any allowed events, and that its rows are then a history. Assumes nothing.
use Rattle.refusals.specs.declared.Refusal.{Refusal}
use Rattle.refusals.specs.declared.Refusal.TheVariants as R
use Rattle.std.specs.Prelude.{Result, Ok, Err}
use mathlib.Core.Path.{◌≡◌, refl, ◌∙◌, subst}
use mathlib.Core.Bool.{Bool, true, false, not, cond, ◌&&◌}
use mathlib.Core.Logic.{◌⊎◌, inl, inr}
use Prim.Native.Nat.{ℕ, suc, ◌<◌}
use native.Mathlib.Omega.{arith}
use lib.Dec.{eqb, ltb}
use borrow.Author.Tests.{eqb-true, eq-eqb, ne_eqb, ltb-true, lt-ltb}
use Rattle.sets.specs.Sets.{Places, with}
use Rattle.sets.proofs.Booleans.{split, clash, is_false, and_intro, and_left, and_right, or_cases, or_left, or_right, not_true, not_intro, minus_elim, minus_intro}
use Rattle.histories.specs.declared.Kind.{Kind}
use Rattle.histories.specs.declared.Kind.TheVariants.{Full, Short}
use Rattle.histories.specs.Histories.{History, Before, heard, through}
use Rattle.histories.specs.Earlier.{IsHistory}
use Rattle.executions.specs.declared.Event.{Event}
use Rattle.executions.specs.Executions.{Execution, morning, stop_fault, hear_fault, fault, listeners, noting, happening}

-- ---- a test that is known

pub cond_true : {A : Type 0} {b : Bool} (x y : A) → b ≡ true → cond b x y ≡ x
cond_true x y e = rw e

pub cond_false : {A : Type 0} {b : Bool} (x y : A) → b ≡ false → cond b x y ≡ y
cond_false x y e = rw e

-- ---- events that are allowed

-- why an event is allowed
pub data Allowed (n : ℕ) (D : Execution) (e : Event) : Type 0 where
  stops : e.kind ≡ 1 → e.place.0 < n → D.stopped e.place.0 ≡ false → Allowed n D e
  hears : e.kind ≡ 2 → e.place.0 < n → e.other.0 < n → D.stopped e.place.0 ≡ false → D.stopped e.other.0 ≡ true → Allowed n D e

module _ (n : ℕ) (D : Execution) where
  stop_allowed : (p : ℕ) → stop_fault n D p ≡ Ok tt → (p < n) × (D.stopped p ≡ false)
  unfolding stop_fault
  stop_allowed p f = go (ltb p n) refl (D.stopped p) refl f
    where
      go : (a : Bool) → ltb p n ≡ a → (b : Bool) → D.stopped p ≡ b → cond {A = Result (Unit {0}) Refusal} a (cond b (Err R.NotAllowed) (Ok tt)) (Err R.OffRoster) ≡ Ok tt → (p < n) × (D.stopped p ≡ false)
      go true ha true hb z = cc
      go true ha false hb z = (ltb-true p n ha, hb)
      go false ha b hb z = cc

  hear_allowed : (p q : ℕ) → hear_fault n D p q ≡ Ok tt → ((p < n) × (q < n)) × ((D.stopped p ≡ false) × (D.stopped q ≡ true))
  unfolding hear_fault
  hear_allowed p q f = go (ltb p n && ltb q n) refl (not (D.stopped p) && D.stopped q) refl f
    where
      go : (a : Bool) → ltb p n && ltb q n ≡ a → (b : Bool) → not (D.stopped p) && D.stopped q ≡ b → cond {A = Result (Unit {0}) Refusal} a (cond b (Ok tt) (Err R.NotAllowed)) (Err R.OffRoster) ≡ Ok tt
          → ((p < n) × (q < n)) × ((D.stopped p ≡ false) × (D.stopped q ≡ true))
      go true ha true hb z = (
        (ltb-true p n (and_left (ltb p n) (ltb q n) ha), ltb-true q n (and_right (ltb p n) (ltb q n) ha)),
        (not_true (D.stopped p) (and_left (not (D.stopped p)) (D.stopped q) hb), and_right (not (D.stopped p)) (D.stopped q) hb),
      )
      go true ha false hb z = cc
      go false ha b hb z = cc

  pub allowed : (e : Event) → fault n D e ≡ Ok tt → Allowed n D e
  unfolding fault
  allowed e f = go (eqb e.kind 1) refl (eqb e.kind 2) refl f
    where
      go : (a : Bool) → eqb e.kind 1 ≡ a → (b : Bool) → eqb e.kind 2 ≡ b
          → cond a (stop_fault n D e.place.0) (cond b (hear_fault n D e.place.0 e.other.0) (Err R.NotAllowed)) ≡ Ok tt → Allowed n D e
      go true ha b hb z = let w = stop_allowed e.place.0 z in stops (eqb-true e.kind 1 ha) w.0 w.1
      go false ha true hb z = let w = hear_allowed e.place.0 e.other.0 z in hears (eqb-true e.kind 2 hb) w.0.0 w.0.1 w.1.0 w.1.1
      go false ha false hb z = cc

  -- an event with such a reason is not refused
  pub allowed_free : (e : Event) → Allowed n D e → fault n D e ≡ Ok tt
  unfolding fault stop_fault hear_fault
  allowed_free e (stops k p r) = cond_true _ _ (eq-eqb e.kind 1 k) ∙ cond_true _ _ (lt-ltb e.place.0 n p) ∙ cond_false _ _ r
  allowed_free e (hears k p q r s) =
      cond_false _ _ (ne_eqb e.kind 1 (λ o. omega arith)) ∙ cond_true _ _ (eq-eqb e.kind 2 k) ∙ cond_true _ _ (and_intro (lt-ltb e.place.0 n p) (lt-ltb e.other.0 n q))
      ∙ cond_true _ _ (and_intro (not_intro r) s)

-- ---- what an event does

abbrev pub after_stop : Execution → ℕ → Execution
after_stop D p = record { stopped = with p D.stopped; row = D.row }

abbrev pub after_hear : Kind → ℕ → Execution → ℕ → ℕ → Execution
after_hear k n D p q = record { stopped = D.stopped; row = noting (listeners k n D p) q D.row }

module _ (k : Kind) (n : ℕ) (D : Execution) (e : Event) where
  pub happening_stop : e.kind ≡ 1 → happening k n D e ≡ after_stop D e.place.0
  unfolding happening
  happening_stop h = cond_true _ _ (eq-eqb e.kind 1 h)

  pub happening_hear : e.kind ≡ 2 → happening k n D e ≡ after_hear k n D e.place.0 e.other.0
  unfolding happening
  happening_hear h = cond_false _ _ (ne_eqb e.kind 1 (λ o. omega arith))

-- a listener is a place of the roster that has not stopped
pub listeners_run : (k : Kind) (n : ℕ) (D : Execution) (p x : ℕ) → p < n → D.stopped p ≡ false → listeners k n D p x ≡ true → (x < n) × (D.stopped x ≡ false)
unfolding listeners
listeners_run Full n D p x l r e = let w = minus_elim (ltb x n) (D.stopped x) e in (ltb-true x n w.0, w.1)
listeners_run Short n D p x l r e = (rw (eqb-true x p e) l, rw (eqb-true x p e) r)

-- in the full kind every such place listens
runner_listens : (k : Kind) (n : ℕ) (D : Execution) (p x : ℕ) → k ≡ Full → x < n → D.stopped x ≡ false → listeners k n D p x ≡ true
unfolding listeners
runner_listens Full n D p x z l r = minus_intro (lt-ltb x n l) r
runner_listens Short n D p x z l r = let w : ◌≡◌ {A = ℕ} 0 1 = cc in absurd (omega arith)

module _ (who : Places) (q : ℕ) (H : History) where
  -- what stands in a row is new or stood there
  pub noting_cases : (x y : ℕ) → noting who q H x y ≡ true → ((who x ≡ true) × (y ≡ q)) ⊎ (H x y ≡ true)
  unfolding noting
  noting_cases x y e = go (who x) refl e
    where
      either : who x ≡ true → (H x y ≡ true) ⊎ (eqb y q ≡ true) → ((who x ≡ true) × (y ≡ q)) ⊎ (H x y ≡ true)
      either w (inl h) = inr h
      either w (inr h) = inl (w, eqb-true y q h)

      go : (b : Bool) → who x ≡ b → cond b (with q (H x)) (H x) y ≡ true → ((who x ≡ true) × (y ≡ q)) ⊎ (H x y ≡ true)
      go true w h = either w (or_cases (H x y) (eqb y q) h)
      go false w h = inr h

  pub noting_old : (x y : ℕ) → H x y ≡ true → noting who q H x y ≡ true
  unfolding noting
  noting_old x y e = go (who x)
    where
      go : (b : Bool) → cond b (with q (H x)) (H x) y ≡ true
      go true = or_left (eqb y q) e
      go false = e

  pub noting_new : (x y : ℕ) → who x ≡ true → y ≡ q → noting who q H x y ≡ true
  unfolding noting
  noting_new x y w e = rw w (or_right (H x y) (eq-eqb y q e))

-- ---- what holds of an execution

pub record Orderly (k : Kind) (n : ℕ) (D : Execution) : Type 0 where
  -- rows and what stands in them are of the roster
  pub inside : (p q : ℕ) → D.row p q ≡ true → (p < n) × (q < n)
  -- what stands in a row has stopped
  pub gone : (p q : ℕ) → D.row p q ≡ true → D.stopped q ≡ true
  -- a number for each stop, rising
  pub clock : ℕ
  pub rank : ℕ → ℕ
  pub past : (p : ℕ) → D.stopped p ≡ true → rank p < clock
  -- who has stopped heard only of stops before its own
  pub ranked : (p q : ℕ) → D.row p q ≡ true → D.stopped p ≡ true → rank q < rank p
  -- in the full kind one that runs has in its row what is in any row
  pub knows : k ≡ Full → (x : ℕ) → x < n → D.stopped x ≡ false → (m q : ℕ) → D.row m q ≡ true → D.row x q ≡ true
  pub closed : k ≡ Full → (p m q : ℕ) → D.row p m ≡ true → D.row m q ≡ true → D.row p q ≡ true

pub orderly_morning : (k : Kind) (n : ℕ) → Orderly k n morning
orderly_morning k n = record {
  inside = λ p q e. clash e refl;
  gone = λ p q e. e;
  clock = 0;
  rank = λ p. 0;
  past = λ p e. clash e refl;
  ranked = λ p q e _. clash e refl;
  knows = λ _ x _ _ m q e. e;
  closed = λ _ p m q e _. e;
}

-- ---- a stop

module _ {k : Kind} {n : ℕ} {D : Execution} (o : Orderly k n D) (p : ℕ) (runs : D.stopped p ≡ false) where
  -- p gets the next number
  rank_after : ℕ → ℕ
  rank_after x = cond (eqb x p) o.clock (o.rank x)

  rank_at : (x : ℕ) → eqb x p ≡ true → rank_after x ≡ o.clock
  unfolding rank_after
  rank_at x e = rw e

  rank_off : (x : ℕ) → eqb x p ≡ false → rank_after x ≡ o.rank x
  unfolding rank_after
  rank_off x e = rw e

  other : (x : ℕ) → D.stopped x ≡ true → eqb x p ≡ false
  other x s = ne_eqb x p (λ e. clash (rw e at s) runs)

  past_after : (x : ℕ) → (D.stopped x ≡ true) ⊎ (eqb x p ≡ true) → rank_after x < suc o.clock
  past_after x (inl s) = rw (rank_off x (other x s)) (omega (arith, o.past x s))
  past_after x (inr e) = rw (rank_at x e) (omega arith)

  ranked_after : (x q : ℕ) → D.row x q ≡ true → (eqb x p ≡ true) ⊎ (eqb x p ≡ false) → (D.stopped x ≡ true) ⊎ (eqb x p ≡ true) → rank_after q < rank_after x
  ranked_after x q e (inl a) s = rw (rank_at x a, rank_off q (other q (o.gone x q e))) (o.past q (o.gone x q e))
  ranked_after x q e (inr a) (inl s) = rw (rank_off x a, rank_off q (other q (o.gone x q e))) (o.ranked x q e s)
  ranked_after x q e (inr a) (inr s) = clash s a

  orderly_stop : Orderly k n (after_stop D p)
  orderly_stop = record {
    inside = o.inside;
    gone = λ x q e. or_left (eqb q p) (o.gone x q e);
    clock = suc o.clock;
    rank = rank_after;
    past = λ x e. past_after x (or_cases (D.stopped x) (eqb x p) e);
    ranked = λ x q e s. ranked_after x q e (split (eqb x p)) (or_cases (D.stopped x) (eqb x p) s);
    knows = λ z x l r m q h. o.knows z x l (is_false (D.stopped x) (λ t. clash (or_left (eqb x p) t) r)) m q h;
    closed = o.closed;
  }

-- ---- a hearing

module _ {k : Kind} {n : ℕ} {D : Execution} (o : Orderly k n D) (p q : ℕ) (p-on : p < n) (q-on : q < n) (runs : D.stopped p ≡ false) (stopped : D.stopped q ≡ true) where
  abbrev who : Places
  who = listeners k n D p

  abbrev row : History
  row = noting who q D.row

  abbrev Cases : ℕ → ℕ → Type 0
  Cases x y = ((who x ≡ true) × (y ≡ q)) ⊎ (D.row x y ≡ true)

  who_runs : (x : ℕ) → who x ≡ true → (x < n) × (D.stopped x ≡ false)
  who_runs x w = listeners_run k n D p x p-on runs w

  inside_after : (x y : ℕ) → Cases x y → (x < n) × (y < n)
  inside_after x y (inl (w, e)) = ((who_runs x w).0, rw e q-on)
  inside_after x y (inr h) = o.inside x y h

  gone_after : (x y : ℕ) → Cases x y → D.stopped y ≡ true
  gone_after x y (inl (w, e)) = rw e stopped
  gone_after x y (inr h) = o.gone x y h

  ranked_hear : (x y : ℕ) → D.stopped x ≡ true → Cases x y → o.rank y < o.rank x
  ranked_hear x y s (inl (w, e)) = clash s (who_runs x w).1
  ranked_hear x y s (inr h) = o.ranked x y h s

  knows_after : k ≡ Full → (x : ℕ) → x < n → D.stopped x ≡ false → (m y : ℕ) → Cases m y → row x y ≡ true
  knows_after z x l r m y (inl (w, e)) = noting_new who q D.row x y (runner_listens k n D p x z l r) e
  knows_after z x l r m y (inr h) = noting_old who q D.row x y (o.knows z x l r m y h)

  closed_after : k ≡ Full → (a m y : ℕ) → Cases a m → Cases m y → row a y ≡ true
  closed_after z a m y (inl (u, e)) (inl (v, g)) = clash stopped (subst (λ (t : ℕ). D.stopped t ≡ false) e (who_runs m v).1)
  closed_after z a m y (inl (u, e)) (inr h) = noting_old who q D.row a y (o.knows z a (who_runs a u).0 (who_runs a u).1 m y h)
  closed_after z a m y (inr h) (inl (v, g)) = clash (o.gone a m h) (who_runs m v).1
  closed_after z a m y (inr h) (inr g) = noting_old who q D.row a y (o.closed z a m y h g)

  orderly_hear : Orderly k n (after_hear k n D p q)
  orderly_hear = record {
    inside = λ x y e. inside_after x y (noting_cases who q D.row x y e);
    gone = λ x y e. gone_after x y (noting_cases who q D.row x y e);
    clock = o.clock;
    rank = o.rank;
    past = o.past;
    ranked = λ x y e s. ranked_hear x y s (noting_cases who q D.row x y e);
    knows = λ z x l r m y e. knows_after z x l r m y (noting_cases who q D.row m y e);
    closed = λ z a m y e h. closed_after z a m y (noting_cases who q D.row a m e) (noting_cases who q D.row m y h);
  }

-- ---- any event that is allowed

pub orderly_next : {k : Kind} {n : ℕ} {D : Execution} → Orderly k n D → (e : Event) → fault n D e ≡ Ok tt → Orderly k n (happening k n D e)
orderly_next {k} {n} {D} o e f = go (allowed n D e f)
  where
    go : Allowed n D e → Orderly k n (happening k n D e)
    go (stops h p r) = rw (happening_stop k n D e h) (orderly_stop o e.place.0 r)
    go (hears h p q r s) = rw (happening_hear k n D e h) (orderly_hear o e.place.0 e.other.0 p q r s)

-- ---- the rows are a history

module _ {k : Kind} {n : ℕ} {D : Execution} (o : Orderly k n D) where
  -- what is before p has stopped, and before p did
  before_order : {q p : ℕ} → Before D.row q p → (D.stopped q ≡ true) × ((D.stopped p ≡ false) ⊎ (o.rank q < o.rank p))
  before_order (heard {q = q} {p = p} e) = (o.gone p q e, go (split (D.stopped p)))
    where
      go : (D.stopped p ≡ true) ⊎ (D.stopped p ≡ false) → (D.stopped p ≡ false) ⊎ (o.rank q < o.rank p)
      go (inl s) = inr (o.ranked p q e s)
      go (inr r) = inl r
  before_order (through {q = q} {m = m} {p = p} e b) = (o.gone m q e, go (before_order b))
    where
      go : (D.stopped m ≡ true) × ((D.stopped p ≡ false) ⊎ (o.rank m < o.rank p)) → (D.stopped p ≡ false) ⊎ (o.rank q < o.rank p)
      go (s, inl r) = inl r
      go (s, inr l) = inr (omega (arith, o.ranked m q e s))

  -- at any time, so also when everyone has stopped
  pub orderly_history : IsHistory k n D.row
  orderly_history = record { history = record { inside = o.inside; acyclic = λ p b. go p (before_order b) }; closed = o.closed }
    where
      go : (p : ℕ) → (D.stopped p ≡ true) × ((D.stopped p ≡ false) ⊎ (o.rank p < o.rank p)) → ⊥
      go p (s, inl r) = clash s r
      go p (s, inr l) = omega arith
