-- What a day holds after a list of events is what happened in those that were played. Assumes nothing.
use Rattle.refusals.specs.declared.Refusal.{Refusal}
use Rattle.refusals.specs.declared.Refusal.TheVariants as R
use Rattle.refusals.specs.Numbers.{number}
use Rattle.std.specs.Prelude.{Ok, Err}
use mathlib.Core.Path.{◌≡◌, refl, sym, ap, ◌∙◌, subst}
use mathlib.Core.Bool.{true, false, cond, not, ◌&&◌}
use mathlib.Core.Logic.{◌⊎◌, inl, inr, ◌↔◌}
use mathlib.Core.List.{List, [], ◌∷◌, ◌++◌, append-nil, append_assoc}
use Prim.Native.Nat.{ℕ, ◌^◌, ◌<◌, ◌≤◌}
use native.Mathlib.Omega.{arith}
use lib.ListN.{length}
use lib.Dec.{eqb, ltb}
use borrow.Author.Tests.{eqb-true, eqb-false, eq-eqb, ltb-true, ltb-false, lt-ltb}
use Rattle.sets.specs.Sets.{Places}
use Rattle.sets.proofs.Booleans.{split, clash, is_false, or_cases, or_left, or_right, minus_elim, minus_intro}
use Rattle.histories.specs.declared.Kind.{Kind}
use Rattle.histories.specs.declared.Kind.TheVariants.{Full, Short}
use Rattle.executions.specs.declared.Event.{Event}
use Rattle.executions.specs.declared.Day.{Day}
use Rattle.executions.specs.declared.Played.{Played}
use Rattle.executions.specs.Executions.{Execution, morning, stop_fault, hear_fault, fault, listeners, noting, happening}
use Rattle.executions.specs.Promises.{execution_of, starting, played}
use Rattle.executions.specs.Events.{IsStop, IsHear, Stopped, Notes, Heard, Meets, stop_off, stop_again, stop_allowed, hear_off, hear_late, hear_early, hear_allowed, no_event, AllAllowed}
use Rattle.executions.specs.ByEvents.{Refuses, AsPlayed}
use Rattle.executions.proofs.Executed.{Allowed, stops, hears, allowed, after_stop, after_hear, happening_stop, happening_hear, noting_cases, noting_old, noting_new}
use Rattle.executions.proofs.Days.{starting_execution}
use Rattle.executions.proofs.Plays as plays
use Rattle.executions.proofs.Plays.{Kept, kept_starting, kept_after, fault_on_lem, after_is, Plays, done, next, Ends, played_kept, played_ends}

-- ---- one event more

-- no event is among none
none_among : (before later : List Event) (e : Event) → [] ≡ before ++ (e ∷ later) → ⊥
none_among [] later e z = let w : ◌≡◌ {A = ℕ} 0 1 = cc in omega arith
none_among (b ∷ bs) later e z = let w : ◌≡◌ {A = ℕ} 0 1 = cc in omega arith

-- an event among them and one more is among them, or is that one
snoc_cases : (ps before : List Event) (e f : Event) (later : List Event) → ps ++ (e ∷ []) ≡ before ++ (f ∷ later)
    → ((before ≡ ps) × (f ≡ e)) ⊎ ((l : List Event) × (ps ≡ before ++ (f ∷ l)))
snoc_cases [] [] e f later h = inl (refl, cc)
snoc_cases [] (b ∷ bs) e f later h = absurd (none_among bs later f cc)
snoc_cases (p ∷ ps) [] e f later h = let w : p ≡ f = cc in inr (ps, ap (λ (x : Event). x ∷ ps) w)
snoc_cases (p ∷ ps) (b ∷ bs) e f later h = go (snoc_cases ps bs e f later cc)
  where
    same : p ≡ b
    same = cc

    go : ((bs ≡ ps) × (f ≡ e)) ⊎ ((l : List Event) × (ps ≡ bs ++ (f ∷ l))) → (((b ∷ bs) ≡ (p ∷ ps)) × (f ≡ e)) ⊎ ((l : List Event) × ((p ∷ ps) ≡ (b ∷ bs) ++ (f ∷ l)))
    go (inl (a, c)) = inl (rw (same, a), c)
    go (inr (l, a)) = inr (l, rw (same, a))

module _ (ps : List Event) (e : Event) where
  -- what happened in them stays
  pub stopped_old : {x : ℕ} → Stopped ps x → Stopped (ps ++ (e ∷ [])) x
  stopped_old s = record { before = s.before; event = s.event; later = s.later ++ (e ∷ []); among = ap (λ (l : List Event). l ++ (e ∷ [])) s.among ∙ append_assoc s.before (s.event ∷ s.later) (e ∷ []); stop = s.stop }

  pub heard_old : {k : Kind} {n x q : ℕ} → Heard k n ps x q → Heard k n (ps ++ (e ∷ [])) x q
  heard_old h = record {
    before = h.before;
    event = h.event;
    later = h.later ++ (e ∷ []);
    among = ap (λ (l : List Event). l ++ (e ∷ [])) h.among ∙ append_assoc h.before (h.event ∷ h.later) (e ∷ []);
    hearer = h.hearer;
    hear = h.hear;
    notes = h.notes;
  }

  -- and the new one adds what it is
  pub stopped_new : {x : ℕ} → IsStop e x → Stopped (ps ++ (e ∷ [])) x
  stopped_new s = record { before = ps; event = e; later = []; among = refl; stop = s }

  pub heard_new : {k : Kind} {n p x q : ℕ} → IsHear e p q → Notes k n ps p x → Heard k n (ps ++ (e ∷ [])) x q
  heard_new h w = record { before = ps; event = e; later = []; among = refl; hearer = _; hear = h; notes = w }

  -- and no more
  pub stopped_cases : {x : ℕ} → Stopped (ps ++ (e ∷ [])) x → Stopped ps x ⊎ IsStop e x
  stopped_cases {x} s = go (snoc_cases ps s.before e s.event s.later s.among)
    where
      go : ((s.before ≡ ps) × (s.event ≡ e)) ⊎ ((l : List Event) × (ps ≡ s.before ++ (s.event ∷ l))) → Stopped ps x ⊎ IsStop e x
      go (inl (a, b)) = inr (subst (λ (f : Event). IsStop f x) b s.stop)
      go (inr (l, a)) = inl (record { before = s.before; event = s.event; later = l; among = a; stop = s.stop })

  pub heard_cases : {k : Kind} {n x q : ℕ} → Heard k n (ps ++ (e ∷ [])) x q → Heard k n ps x q ⊎ ((p : ℕ) × (IsHear e p q × Notes k n ps p x))
  heard_cases {k} {n} {x} {q} h = go (snoc_cases ps h.before e h.event h.later h.among)
    where
      go : ((h.before ≡ ps) × (h.event ≡ e)) ⊎ ((l : List Event) × (ps ≡ h.before ++ (h.event ∷ l))) → Heard k n ps x q ⊎ ((p : ℕ) × (IsHear e p q × Notes k n ps p x))
      go (inl (a, b)) = inr (h.hearer, (subst (λ (f : Event). IsHear f h.hearer q) b h.hear, subst (λ (l : List Event). Notes k n l h.hearer x) a h.notes))
      go (inr (l, a)) = inl (record { before = h.before; event = h.event; later = l; among = a; hearer = h.hearer; hear = h.hear; notes = h.notes })

  pub allowed_more : {n : ℕ} → AllAllowed n ps → Meets n ps e (Ok tt) → AllAllowed n (ps ++ (e ∷ []))
  allowed_more {n} all m before f later a = go (snoc_cases ps before e f later a)
    where
      go : ((before ≡ ps) × (f ≡ e)) ⊎ ((l : List Event) × (ps ≡ before ++ (f ∷ l))) → Meets n before f (Ok tt)
      go (inl (b, c)) = rw (b, c) m
      go (inr (l, b)) = all before f l b

-- ---- an execution that holds what happened

pub record Tells (k : Kind) (n : ℕ) (ps : List Event) (D : Execution) : Type 0 where
  pub stopped : (x : ℕ) → (D.stopped x ≡ true) ↔ Stopped ps x
  pub heard : (x q : ℕ) → (D.row x q ≡ true) ↔ Heard k n ps x q
  pub allowed : AllAllowed n ps

pub tells_morning : (k : Kind) (n : ℕ) → Tells k n [] morning
tells_morning k n = record {
  stopped = λ x. (λ e. clash e refl, λ s. absurd (none_among s.before s.later s.event s.among));
  heard = λ x q. (λ e. clash e refl, λ h. absurd (none_among h.before h.later h.event h.among));
  allowed = λ before e later a. absurd (none_among before later e a);
}

module _ {k : Kind} {n : ℕ} {ps : List Event} {D : Execution} (t : Tells k n ps D) where
  runs : (x : ℕ) → D.stopped x ≡ false → ¬ (Stopped ps x)
  runs x r s = clash ((t.stopped x).1 s) r

  still : (x : ℕ) → ¬ (Stopped ps x) → D.stopped x ≡ false
  still x z = is_false (D.stopped x) (λ e. z ((t.stopped x).0 e))

  -- who listens is who notes
  listens : (j : Kind) (p x : ℕ) → (listeners j n D p x ≡ true) ↔ Notes j n ps p x
  unfolding listeners
  listens Full p x = (λ e. let w = minus_elim (ltb x n) (D.stopped x) e in (ltb-true x n w.0, runs x w.1), λ w. minus_intro (lt-ltb x n w.0) (still x w.1))
  listens Short p x = (λ e. eqb-true x p e, λ e. eq-eqb x p e)

  module _ (e : Event) where
    abbrev qs : List Event
    qs = ps ++ (e ∷ [])

    meets_0 : Allowed n D e → Meets n ps e (Ok tt)
    meets_0 (stops a p r) = stop_allowed a p (runs e.place.0 r)
    meets_0 (hears a p q r s) = hear_allowed a p q (runs e.place.0 r) ((t.stopped e.other.0).0 s)

    tells_stop : e.kind ≡ 1 → Allowed n D e → Tells k n qs (after_stop D e.place.0)
    tells_stop a w = record {
      stopped = λ x. (λ h. from x (or_cases (D.stopped x) (eqb x e.place.0) h), λ s. to x (stopped_cases ps e s));
      heard = λ x q. (λ h. heard_old ps e ((t.heard x q).0 h), λ h. same x q (heard_cases ps e h));
      allowed = allowed_more ps e t.allowed (meets_0 w);
    }
      where
        from : (x : ℕ) → (D.stopped x ≡ true) ⊎ (eqb x e.place.0 ≡ true) → Stopped qs x
        from x (inl h) = stopped_old ps e ((t.stopped x).0 h)
        from x (inr h) = stopped_new ps e (a, sym (eqb-true x e.place.0 h))

        to : (x : ℕ) → Stopped ps x ⊎ IsStop e x → (after_stop D e.place.0).stopped x ≡ true
        to x (inl s) = or_left (eqb x e.place.0) ((t.stopped x).1 s)
        to x (inr s) = or_right (D.stopped x) (eq-eqb x e.place.0 (sym s.1))

        same : (x q : ℕ) → Heard k n ps x q ⊎ ((p : ℕ) × (IsHear e p q × Notes k n ps p x)) → D.row x q ≡ true
        same x q (inl h) = (t.heard x q).1 h
        same x q (inr (p, (h, w))) = absurd (omega (arith, a, h.0))

    tells_hear : e.kind ≡ 2 → Allowed n D e → Tells k n qs (after_hear k n D e.place.0 e.other.0)
    tells_hear a w = record {
      stopped = λ x. (λ h. stopped_old ps e ((t.stopped x).0 h), λ s. same x (stopped_cases ps e s));
      heard = λ x q. (λ h. from x q (noting_cases who e.other.0 D.row x q h), λ h. to x q (heard_cases ps e h));
      allowed = allowed_more ps e t.allowed (meets_0 w);
    }
      where
        who : Places
        who = listeners k n D e.place.0

        same : (x : ℕ) → Stopped ps x ⊎ IsStop e x → D.stopped x ≡ true
        same x (inl s) = (t.stopped x).1 s
        same x (inr s) = absurd (omega (arith, a, s.0))

        from : (x q : ℕ) → ((who x ≡ true) × (q ≡ e.other.0)) ⊎ (D.row x q ≡ true) → Heard k n qs x q
        from x q (inl (h, z)) = heard_new ps e (a, refl, sym z) ((listens k e.place.0 x).0 h)
        from x q (inr h) = heard_old ps e ((t.heard x q).0 h)

        to : (x q : ℕ) → Heard k n ps x q ⊎ ((p : ℕ) × (IsHear e p q × Notes k n ps p x)) → noting who e.other.0 D.row x q ≡ true
        to x q (inl h) = noting_old who e.other.0 D.row x q ((t.heard x q).1 h)
        to x q (inr (p, ((_, b, c), w))) = noting_new who e.other.0 D.row x q ((listens k e.place.0 x).1 (subst (λ (y : ℕ). Notes k n ps y x) (sym b) w)) (sym c)

    pub tells_next : fault n D e ≡ Ok tt → Tells k n qs (happening k n D e)
    tells_next f = go (allowed n D e f)
      where
        go : Allowed n D e → Tells k n qs (happening k n D e)
        go (stops a p r) = rw (happening_stop k n D e a) (tells_stop a (stops a p r))
        go (hears a p q r s) = rw (happening_hear k n D e a) (tells_hear a (hears a p q r s))

-- ---- what an event meets

module _ {k : Kind} {n : ℕ} {ps : List Event} {D : Execution} (t : Tells k n ps D) (e : Event) where
  abbrev p : ℕ
  p = e.place.0

  abbrev q : ℕ
  q = e.other.0

  meets_stop : e.kind ≡ 1 → Meets n ps e (stop_fault n D p)
  unfolding stop_fault
  meets_stop a = go (split (ltb p n)) (split (D.stopped p))
    where
      go : (ltb p n ≡ true) ⊎ (ltb p n ≡ false) → (D.stopped p ≡ true) ⊎ (D.stopped p ≡ false) → Meets n ps e (cond (ltb p n) (cond (D.stopped p) (Err R.NotAllowed) (Ok tt)) (Err R.OffRoster))
      go (inl l) (inl s) = rw (l, s) (stop_again a (ltb-true p n l) ((t.stopped p).0 s))
      go (inl l) (inr r) = rw (l, r) (stop_allowed a (ltb-true p n l) (runs t p r))
      go (inr l) s = rw l (stop_off a (ltb-false p n l))

  meets_hear : e.kind ≡ 2 → Meets n ps e (hear_fault n D p q)
  unfolding hear_fault
  meets_hear a = go (split (ltb p n)) (split (ltb q n)) (split (D.stopped p)) (split (D.stopped q))
    where
      go : (ltb p n ≡ true) ⊎ (ltb p n ≡ false) → (ltb q n ≡ true) ⊎ (ltb q n ≡ false) → (D.stopped p ≡ true) ⊎ (D.stopped p ≡ false)
          → (D.stopped q ≡ true) ⊎ (D.stopped q ≡ false) → Meets n ps e (cond (ltb p n && ltb q n) (cond (not (D.stopped p) && D.stopped q) (Ok tt) (Err R.NotAllowed)) (Err R.OffRoster))
      go (inl l) (inl m) (inl s) y = rw (l, m, s) (hear_late a (ltb-true p n l) (ltb-true q n m) ((t.stopped p).0 s))
      go (inl l) (inl m) (inr r) (inl s) = rw (l, m, r, s) (hear_allowed a (ltb-true p n l) (ltb-true q n m) (runs t p r) ((t.stopped q).0 s))
      go (inl l) (inl m) (inr r) (inr s) = rw (l, m, r, s) (hear_early a (ltb-true p n l) (ltb-true q n m) (runs t q s))
      go (inl l) (inr m) x y = rw (l, m) (hear_off a (inr (ltb-false q n m)))
      go (inr l) m x y = rw l (hear_off a (inl (ltb-false p n l)))

  pub meets : Meets n ps e (fault n D e)
  unfolding fault
  meets = go (split (eqb e.kind 1)) (split (eqb e.kind 2))
    where
      go : (eqb e.kind 1 ≡ true) ⊎ (eqb e.kind 1 ≡ false) → (eqb e.kind 2 ≡ true) ⊎ (eqb e.kind 2 ≡ false)
          → Meets n ps e (cond (eqb e.kind 1) (stop_fault n D p) (cond (eqb e.kind 2) (hear_fault n D p q) (Err R.NotAllowed)))
      go (inl a) b = rw a (meets_stop (eqb-true e.kind 1 a))
      go (inr a) (inl b) = rw (a, b) (meets_hear (eqb-true e.kind 2 b))
      go (inr a) (inr b) = rw (a, b) (no_event (eqb-false e.kind 1 a) (eqb-false e.kind 2 b))

-- ---- a list of events

tells_plays : {k : Kind} {s : List ℕ} {a b : Day} {es : List Event} (ps : List Event) → Kept k s a → Tells k (length s) ps (execution_of a) → Plays a es b
    → Tells k (length s) (ps ++ es) (execution_of b)
tells_plays {k} {s} {b = b} ps g t done = subst (λ (l : List Event). Tells k (length s) l (execution_of b)) (sym (append-nil ps)) t
tells_plays {k} {s} {b = b} ps g t (next {a = a} {e = e} {es = es} f w) =
    subst (λ (l : List Event). Tells k (length s) l (execution_of b)) (append_assoc ps (e ∷ []) es)
    (tells_plays (ps ++ (e ∷ [])) (kept_after g e f) (subst (λ (D : Execution). Tells k (length s) (ps ++ (e ∷ [])) D) (sym (after_is g e f)) (tells_next t e (fault_on_lem g e ∙ f))) w)

-- from the start of a day on
pub tells_day : (k : Kind) (s : List ℕ) {b : Day} {es : List Event} → length s ≤ 128 → Plays (starting k s) es b → Tells k (length s) es (execution_of b)
tells_day k s few w = tells_plays [] (kept_starting k s few) (subst (λ (D : Execution). Tells k (length s) [] D) (sym (starting_execution k s)) (tells_morning k (length s))) w

module _ (k : Kind) (s : List ℕ) (few : length s ≤ 128) (es : List Event) (h : length es < 2 ^ 64) where
  abbrev play : Played
  play = played (starting k s) es

  pub as_played : AsPlayed k (length s) es play
  as_played = record {
    front = w.front;
    rest = w.rest;
    splits = w.splits;
    counts = omega (arith, w.counts);
    allowed = t.allowed;
    ends = ending w.ends;
    stopped = t.stopped;
    heard = t.heard;
  }
    where
      w : Ends 0 (starting k s) es play
      w = played_ends (starting k s) es h

      t : Tells k (length s) w.front (execution_of play.day)
      t = tells_day k s few w.plays

      kept : Kept k s play.day
      kept = played_kept (kept_starting k s few) es

      ending : ((w.rest ≡ []) × (play.answer ≡ Ok tt)) ⊎ plays.Refuses play w.rest
          → ((w.rest ≡ []) × (play.answer ≡ Ok tt)) ⊎ ((j : Refusal) × (play.answer ≡ Err (number j)) × Refuses (length s) w.front w.rest j)
      ending (inl e) = inl e
      ending (inr r) = inr (
        r.refusal,
        r.some,
        record {
          event = r.event;
          later = r.later;
          first = r.first;
          meets = subst (Meets (length s) w.front r.event) (fault_on_lem kept r.event ∙ r.refused) (meets t r.event);
        },
      )
