-- Document 02, [1], proved: what is decided stays so whatever is called later, and records leave no trace of the order in which they came.
-- Assumes nothing.
use Rattle.refusals.specs.declared.Refusal.{Refusal}
use Rattle.refusals.specs.declared.Refusal.TheVariants as R
use Rattle.std.specs.Prelude.{Option, Some, None, Result, Ok, Err}
use Rattle.answers.specs.declared.Answer as declared
use Rattle.answers.specs.declared.Answer.TheVariants as A
use mathlib.Core.Path.{◌≡◌, refl, sym, ap, ap₂, ◌∙◌, subst, fun_ext}
use mathlib.Core.Bool.{Bool, true, false, cond, ◌&&◌}
use mathlib.Core.Logic.{◌⊎◌, inl, inr, ◌↔◌}
use mathlib.Core.List.Memᴰ
use mathlib.Core.List.Permᴰ
use mathlib.Core.List.{List, [], ◌∷◌, ◌++◌, Memᴰ, Permᴰ}
use Prim.Native.Nat.{ℕ, ◌-◌}
use native.Mathlib.Omega.{arith}
use lib.ListN.{length, replicate}
use Rattle.sets.specs.Sets.{any}
use Rattle.sets.specs.PlaceSets.{packed}
use Rattle.sets.proofs.Booleans.{split, both_ways}
use Rattle.histories.specs.declared.Kind.{Kind}
use Rattle.histories.specs.Histories.{History, Accepted, Fits}
use Rattle.histories.specs.Rule.{recorded, mourned, reach, before, is_full, full_back, before_full}
use Rattle.histories.proofs.Fewer.{Within, fits_fewer, last_more, not_last_more, decided_more}
use Rattle.serials.specs.Seconds.{counts_as}
use Rattle.rows.specs.Rows.{table_of}
use Rattle.layouts.specs.Layout.{Stored, lone}
use Rattle.answers.specs.declared.Showing.{Showing}
use Rattle.answers.specs.declared.Showing.TheVariants as S
use Rattle.answers.specs.Shows.{Shown, unshown}
use Rattle.answers.specs.declared.Reply.{Reply}
use Rattle.answers.specs.declared.Reply.TheVariants as O
use Rattle.calls.specs.declared.Recovery.{Recovery}
use Rattle.calls.specs.Promises.{seconds_of, accepted_of, holding, opened, offered, asked, shown, settled_of}
use Rattle.calls.specs.Demand as D
use Rattle.calls.specs.Demand.{Free, Call, offer, ask, show, whole, says, lent, OfGroup}
use Rattle.calls.specs.Run.{offer_says, asked_says, showing_says, shown_gives, outcome, ledger_of, left, reached}
use Rattle.calls.specs.Run as run
use Rattle.calls.specs.Later.{Stays, offers, IsAccepted, Accepts, all, next}
use Rattle.calls.proofs.Demand.{Good, step, good_next, good_after, good_left}
use Rattle.calls.proofs.Single.{same_record}
use Rattle.calls.proofs.Dictated.{within_left, offers_none, grows, last_iff, not_last_iff, decided_elim, decided_intro, settled_iff, Agrees, Kinds, agrees_accepted, Enters, accepted_enters}

-- ---- lists of calls

left_append : (r : Recovery) (cs ds : List Call) → left r (cs ++ ds) ≡ left (left r cs) ds
unfolding left
left_append r [] ds = refl
left_append r (c ∷ cs) ds = left_append (run.next r c) cs ds

-- ---- document 01's words, back to the code's answers

last_said : (a : Result declared.Answer Refusal) → says (asked_says a) ≡ says D.is_last → a ≡ Ok A.Last
unfolding asked_says
last_said (Ok A.Last) e = refl
last_said (Ok A.NotLast) e = let z : ◌≡◌ {A = ℕ} 0 1 = cc in absurd (omega arith)
last_said (Ok A.Open) e = let z : ◌≡◌ {A = ℕ} 0 1 = cc in absurd (omega arith)
last_said (Err j) e = let z : ◌≡◌ {A = ℕ} 0 1 = cc in absurd (omega arith)

not_last_said : (a : Result declared.Answer Refusal) → says (asked_says a) ≡ says D.not_last → a ≡ Ok A.NotLast
unfolding asked_says
not_last_said (Ok A.Last) e = let z : ◌≡◌ {A = ℕ} 0 1 = cc in absurd (omega arith)
not_last_said (Ok A.NotLast) e = refl
not_last_said (Ok A.Open) e = let z : ◌≡◌ {A = ℕ} 0 1 = cc in absurd (omega arith)
not_last_said (Err j) e = let z : ◌≡◌ {A = ℕ} 0 1 = cc in absurd (omega arith)

decided_said : (w : Shown) (a b : List ℕ) → shown_gives w ≡ lent D.decided a b → w ≡ unshown (Ok S.Decided) a b
unfolding shown_gives showing_says unshown
decided_said w a b e = go w.answer refl e
  where
    go : (s : Result Showing Refusal) → w.answer ≡ s → lent (showing_says s) w.first w.second ≡ lent D.decided a b → w ≡ record { answer = Ok S.Decided; first = a; second = b }
    go (Ok S.Decided) h e =
        let x : w.first ≡ a = cc in
        let y : w.second ≡ b = cc in
        λ i. record { answer = h i; first = x i; second = y i }
    go (Ok S.Shown) h e = let z : ◌≡◌ {A = ℕ} 0 1 = cc in absurd (omega arith)
    go (Err j) h e = let z : ◌≡◌ {A = ℕ} 0 1 = cc in absurd (omega arith)

settled_said : (t : Bool) → says (cond t D.settled D.unsettled) ≡ says D.settled → t ≡ true
settled_said true e = refl
settled_said false e = let z : ◌≡◌ {A = ℕ} 0 1 = cc in absurd (omega arith)

accepted_said : (a : Result Reply Refusal) → (says (offer_says a) ≡ says D.taken) ⊎ (says (offer_says a) ≡ says D.repeated) → IsAccepted a
unfolding offer_says
accepted_said (Ok O.Taken) e = inl refl
accepted_said (Ok O.Repeated) e = inr refl
accepted_said (Err j) (inl e) = let z : ◌≡◌ {A = ℕ} 0 1 = cc in absurd (omega arith)
accepted_said (Err j) (inr e) = let z : ◌≡◌ {A = ℕ} 0 1 = cc in absurd (omega arith)

says_accepted : (a : Result Reply Refusal) → IsAccepted a → (says (offer_says a) ≡ says D.taken) ⊎ (says (offer_says a) ≡ says D.repeated)
unfolding offer_says
says_accepted a (inl e) = inl (ap (λ (a : Result Reply Refusal). says (offer_says a)) e)
says_accepted a (inr e) = inr (ap (λ (a : Result Reply Refusal). says (offer_says a)) e)

-- ---- what is decided stays decided

module _ {roster : List ℕ} {r : Recovery} (g : Good roster r) (ds : List Call) where
  later : Good roster (left r ds)
  later = good_after g ds

  more : Within (accepted_of r) (accepted_of (left r ds))
  more = within_left g ds

  stays_left : (i : ℕ) → Stays r (left r ds) i
  unfolding outcome asked_says shown_gives showing_says
  stays_left i = record {
    last = λ e.
        let w = (last_iff g.fits (step g (ask i))).0 (ap (λ (a : Result declared.Answer Refusal). says (asked_says a)) e) in
        last_said (asked (left r ds) i) ((last_iff later.fits (step later (ask i))).1 (w.0, last_more more w.1));
    not_last = λ e.
        let w = (not_last_iff g.fits (step g (ask i))).0 (ap (λ (a : Result declared.Answer Refusal). says (asked_says a)) e) in
        not_last_said (asked (left r ds) i) ((not_last_iff later.fits (step later (ask i))).1 (w.0, not_last_more more w.1));
    decided = λ a b e c d.
        let w = decided_elim (step g (show i a b)) (ap (λ (s : Result Showing Refusal). lent (showing_says s) (shown r i a b).first (shown r i a b).second) e) in
        decided_said (shown (left r ds) i c d) c d (decided_intro (step later (show i c d)) w.0 (decided_more more w.1));
  }

  settled_left : settled_of r ≡ true → settled_of (left r ds) ≡ true
  unfolding outcome
  settled_left e =
      let w = (settled_iff (step g whole)).0 (ap (λ (t : Bool). says (cond t D.settled D.unsettled)) e) in
      settled_said (settled_of (left r ds)) ((settled_iff (step later whole)).1 (λ i l. decided_more more (w i l)))

-- ---- records offered one after another

-- a history and kinds that the accepted records leave possible
pub record Model (roster : List ℕ) (H : History) (K : ℕ → Kind) (r : Recovery) : Type 0 where
  pub fits : Fits (length roster) (accepted_of r) H
  pub kinds : Kinds (accepted_of r) K

module _ {roster : List ℕ} {r : Recovery} (g : Good roster r) (bytes : List ℕ) where
  pub offered_good : Good roster (offered r bytes).recovery
  unfolding run.next
  offered_good = good_next g (offer bytes)

  -- one that was accepted
  pub offered_enters : IsAccepted (offered r bytes).answer → Enters roster (ledger_of r) (ledger_of (offered r bytes).recovery) bytes
  unfolding outcome run.next
  offered_enters a = accepted_enters (step g (offer bytes)) (says_accepted (offered r bytes).answer a)

  pub offered_within : Within (accepted_of r) (accepted_of (offered r bytes).recovery)
  unfolding run.next
  offered_within = grows (step g (offer bytes))

  -- and no second serial is given by it
  offered_seconds : seconds_of (offered r bytes).recovery ≡ seconds_of r
  unfolding run.next
  offered_seconds = offers_none (step g (offer bytes))

  -- one that agrees with a history that fits
  offered_agrees : {H : History} {K : ℕ → Kind} → Model roster H K r → Agrees roster (seconds_of r) H K bytes
      → IsAccepted (offered r bytes).answer × Model roster H K (offered r bytes).recovery
  unfolding outcome run.next
  offered_agrees m a = let w = agrees_accepted m.fits m.kinds a (step g (offer bytes)) in (accepted_said (offered r bytes).answer w.0, record { fits = w.1; kinds = w.2 })

-- records that all agree with one history and kinds are all accepted, and leave these possible
pub agreeing_accepted : {roster : List ℕ} {r : Recovery} {H : History} {K : ℕ → Kind} → Good roster r → Model roster H K r
    → (xs : List (List ℕ)) → ((x : List ℕ) → Memᴰ x xs → Agrees roster (seconds_of r) H K x) → Accepts r xs × Model roster H K (left r (offers xs))
unfolding left run.next
agreeing_accepted g f [] a = (all, f)
agreeing_accepted {roster = roster} {r = r} {H = H} {K = K} g f (x ∷ xs) a =
    let w = offered_agrees g x f (a x (Memᴰ.head refl)) in
    let v = agreeing_accepted {r = (offered r x).recovery} (offered_good g x) w.1 xs (λ y m. subst (λ (s : List ℕ). Agrees roster s H K y) (sym (offered_seconds g x)) (a y (Memᴰ.tail m))) in
    (next w.0 v.0, v.1)

-- records that are all accepted agree with every history and kinds that they leave possible, and these were possible before
record Agreeing (roster : List ℕ) (H : History) (K : ℕ → Kind) (r : Recovery) (xs : List (List ℕ)) : Type 0 where
  model : Model roster H K r
  agree : (x : List ℕ) → Memᴰ x xs → Agrees roster (seconds_of r) H K x

agree_next : {roster : List ℕ} {r : Recovery} {H : History} {K : ℕ → Kind} {bytes : List ℕ} {xs : List (List ℕ)} → Good roster r → IsAccepted (offered r bytes).answer
    → Agreeing roster H K (offered r bytes).recovery xs → Agreeing roster H K r (bytes ∷ xs)
agree_next {roster} {r} {H} {K} {bytes = b} {xs} g a w = record {
  model = record { fits = fits_fewer (offered_within g b) m.fits; kinds = λ p e. let v = offered_within g b in sym (v.kind p e) ∙ m.kinds p (v.returned p e) };
  agree = λ x m. at x (Memᴰ.cases_cons m);
}
  where
    m : Model roster H K (offered r b).recovery
    m = w.model

    e : Enters roster (ledger_of r) (ledger_of (offered r b).recovery) b
    e = offered_enters g b a

    p : ℕ
    p = e.stored.own

    this : Agrees roster (seconds_of r) H K b
    this = record {
      stored = e.stored;
      is_of_group = e.is_of_group;
      kind = sym e.kind ∙ m.kinds p e.back;
      row = fun_ext (m.fits.recorded p e.back) ∙ e.row;
      duty = λ k q. m.fits.duty p e.back (e.kind ∙ k) q;
    }

    at : (x : List ℕ) → (x ≡ b) ⊎ Memᴰ x xs → Agrees roster (seconds_of r) H K x
    at x (inl h) = subst (Agrees roster (seconds_of r) H K) (sym h) this
    at x (inr m) = subst (λ (s : List ℕ). Agrees roster s H K x) (offered_seconds g b) (w.agree x m)

accepted_agree : {roster : List ℕ} {r : Recovery} {H : History} {K : ℕ → Kind} {xs : List (List ℕ)} → Good roster r → Accepts r xs → Model roster H K (left r (offers xs))
    → Agreeing roster H K r xs
unfolding left run.next
accepted_agree g all f = record { model = f; agree = λ x m. absurd (Memᴰ.not-nil m) }
accepted_agree g (next {bytes = b} a rest) f = agree_next g a (accepted_agree (offered_good g b) rest f)

-- what a recovery holds is possible
own_model : {roster : List ℕ} {r : Recovery} (g : Good roster r) → Model roster g.some (accepted_of r).kind r
own_model g = record { fits = g.fits; kinds = λ p e. refl }

-- p is back by one of these records
record BackBy (roster seconds : List ℕ) (xs : List (List ℕ)) (p : ℕ) : Type 0 where
  bytes : List ℕ
  among : Memᴰ bytes xs
  stored : Stored
  is_of_group : OfGroup roster seconds bytes stored
  own : p ≡ stored.own

back_among : {roster seconds : List ℕ} {xs ys : List (List ℕ)} {p : ℕ} → ((x : List ℕ) → Memᴰ x xs → Memᴰ x ys) → BackBy roster seconds xs p → BackBy roster seconds ys p
back_among sub w = record { bytes = w.bytes; among = sub w.bytes w.among; stored = w.stored; is_of_group = w.is_of_group; own = w.own }

-- who is back then: who was before, and those whose records they are
accepted_back : {roster : List ℕ} {r : Recovery} {xs : List (List ℕ)} → Good roster r → Accepts r xs → (p : ℕ) → (accepted_of (left r (offers xs))).returned p ≡ true
    → ((accepted_of r).returned p ≡ true) ⊎ BackBy roster (seconds_of r) xs p
unfolding left run.next
accepted_back g all p e = inl e
accepted_back {roster} {r} g (next {bytes = b} {xs = xs} a rest) p e = go (accepted_back (offered_good g b) rest p e)
  where
    w : Enters roster (ledger_of r) (ledger_of (offered r b).recovery) b
    w = offered_enters g b a

    new : ((accepted_of r).returned p ≡ true) ⊎ (p ≡ w.stored.own) → ((accepted_of r).returned p ≡ true) ⊎ BackBy roster (seconds_of r) (b ∷ xs) p
    new (inl h) = inl h
    new (inr h) = inr (record { bytes = b; among = Memᴰ.head refl; stored = w.stored; is_of_group = w.is_of_group; own = h })

    go : ((accepted_of (offered r b).recovery).returned p ≡ true) ⊎ BackBy roster (seconds_of (offered r b).recovery) xs p → ((accepted_of r).returned p ≡ true) ⊎ BackBy roster (seconds_of r) (b ∷ xs) p
    go (inl h) = new (w.only p h)
    go (inr h) = inr (subst (λ (s : List ℕ). BackBy roster s (b ∷ xs) p) (offered_seconds g b) (back_among (λ x m. Memᴰ.tail m) h))

back_accepted : {roster : List ℕ} {r : Recovery} {xs : List (List ℕ)} → Good roster r → Accepts r xs → (p : ℕ) → BackBy roster (seconds_of r) xs p → (accepted_of (left r (offers xs))).returned p ≡ true
unfolding left run.next
back_accepted g all p v = absurd (Memᴰ.not-nil v.among)
back_accepted {roster} {r} g (next {bytes = b} {xs = xs} a rest) p v =
    go (λ m. back_accepted (offered_good g b) rest p (subst (λ (s : List ℕ). BackBy roster s xs p) (sym (offered_seconds g b)) (record { bytes = v.bytes; among = m; stored = v.stored; is_of_group = v.is_of_group; own = v.own }))) (Memᴰ.cases_cons v.among)
  where
    w : Enters roster (ledger_of r) (ledger_of (offered r b).recovery) b
    w = offered_enters g b a

    Back : Type 0
    Back = (accepted_of (left (offered r b).recovery (offers xs))).returned p ≡ true

    go : (Memᴰ v.bytes xs → Back) → (v.bytes ≡ b) ⊎ Memᴰ v.bytes xs → Back
    go then (inl q) =
        let own : p ≡ w.stored.own = v.own ∙ ap (λ (y : Stored). y.own) (same_record v.is_of_group.reads (ap (lone (counts_as roster (seconds_of r))) q ∙ w.is_of_group.reads)) in
        (within_left (offered_good g b) (offers xs)).returned p (rw own w.back)
    go then (inr m) = then m

-- ---- the same records leave the same

-- two recoveries that hold their records and second serials are equal where these are, and the same are back, full and with the same rows
module _ {roster : List ℕ} {r s : Recovery} (g : Good roster r) (h : Good roster s) where
  rows_equal : seconds_of r ≡ seconds_of s → (accepted_of r).returned ≡ (accepted_of s).returned → full_back (accepted_of r) ≡ full_back (accepted_of s)
      → recorded (accepted_of r) ≡ recorded (accepted_of s) → r ≡ s
  unfolding holding mourned before_full before
  rows_equal d b f e = g.held.is ∙ between ∙ sym h.held.is
    where
      between : holding roster (seconds_of r) (accepted_of r) ≡ holding roster (seconds_of s) (accepted_of s)
      between = λ i. record {
        count = length roster;
        serials = roster ++ replicate (128 - length roster) 0;
        seconds = d i ++ replicate (128 - length (d i)) 0;
        returned = packed (b i);
        full = packed (f i);
        mourned = packed (λ q. any (length roster) (λ p. e i p q));
        earlier = packed (λ q. any (length roster) (λ p. f i p && reach (length roster) (e i) p q));
        rows = table_of (e i);
      }

  ledgers_equal : seconds_of r ≡ seconds_of s → accepted_of r ≡ accepted_of s → r ≡ s
  ledgers_equal d e = g.held.is ∙ ap₂ (holding roster) d e ∙ sym h.held.is

-- records give no second serial
offers_left : {roster : List ℕ} {r : Recovery} → Good roster r → (xs : List (List ℕ)) → seconds_of (left r (offers xs)) ≡ seconds_of r
unfolding left run.next
offers_left g [] = refl
offers_left {roster = roster} {r = r} g (x ∷ xs) = offers_left {r = (offered r x).recovery} (offered_good g x) xs ∙ offered_seconds g x

module _ {roster : List ℕ} {r : Recovery} (g : Good roster r) {xs ys : List (List ℕ)} where
  -- of records that are all accepted, any are accepted in any order, however often
  any_accepted : Accepts r xs → ((x : List ℕ) → Memᴰ x ys → Memᴰ x xs) → Accepts r ys
  any_accepted a sub =
      let l = good_after g (offers xs) in
      let w = accepted_agree g a (own_model l) in
      (agreeing_accepted g w.model ys (λ x m. w.agree x (sub x m))).0

  -- and leave the same as those, where none is missing
  same_left : Accepts r xs → ((x : List ℕ) → Memᴰ x xs ↔ Memᴰ x ys) → left r (offers xs) ≡ left r (offers ys)
  unfolding recorded full_back
  same_left a same = rows_equal u v (offers_left g xs ∙ sym (offers_left g ys)) (fun_ext both) (fun_ext full) (fun_ext (λ p. fun_ext (λ q. row p q)))
    where
      u : Good roster (left r (offers xs))
      u = good_after g (offers xs)

      v : Good roster (left r (offers ys))
      v = good_after g (offers ys)

      X : Accepted
      X = accepted_of (left r (offers xs))

      Y : Accepted
      Y = accepted_of (left r (offers ys))

      agree : Agreeing roster u.some X.kind r xs
      agree = accepted_agree g a (own_model u)

      other : Accepts r ys × Model roster u.some X.kind (left r (offers ys))
      other = agreeing_accepted g agree.model ys (λ x m. agree.agree x ((same x).1 m))

      to : (p : ℕ) → ((accepted_of r).returned p ≡ true) ⊎ BackBy roster (seconds_of r) xs p → Y.returned p ≡ true
      to p (inl e) = (within_left g (offers ys)).returned p e
      to p (inr w) = back_accepted g other.0 p (back_among (λ x. (same x).0) w)

      from : (p : ℕ) → ((accepted_of r).returned p ≡ true) ⊎ BackBy roster (seconds_of r) ys p → X.returned p ≡ true
      from p (inl e) = (within_left g (offers xs)).returned p e
      from p (inr w) = back_accepted g a p (back_among (λ x. (same x).1) w)

      both : (p : ℕ) → X.returned p ≡ Y.returned p
      both p = both_ways (X.returned p) (Y.returned p) (λ e. to p (accepted_back g a p e)) (λ e. from p (accepted_back g other.0 p e))

      full : (p : ℕ) → X.returned p && is_full (X.kind p) ≡ Y.returned p && is_full (Y.kind p)
      full p = go (split (X.returned p))
        where
          go : (X.returned p ≡ true) ⊎ (X.returned p ≡ false) → X.returned p && is_full (X.kind p) ≡ Y.returned p && is_full (Y.kind p)
          go (inl e) = ap₂ (λ (a : Bool) (k : Kind). a && is_full k) (both p) (sym (other.1.kinds p (sym (both p) ∙ e)))
          go (inr e) = ap (λ (b : Bool). b && is_full (X.kind p)) e ∙ sym (ap (λ (b : Bool). b && is_full (Y.kind p)) (sym (both p) ∙ e))

      row : (p q : ℕ) → recorded X p q ≡ recorded Y p q
      row p q = go (split (X.returned p))
        where
          go : (X.returned p ≡ true) ⊎ (X.returned p ≡ false) → recorded X p q ≡ recorded Y p q
          go (inl e) = ap₂ (λ (a b : Bool). a && b) (both p) (sym (u.fits.recorded p e q) ∙ other.1.fits.recorded p (sym (both p) ∙ e) q)
          go (inr e) = ap (λ (b : Bool). b && X.row p q) e ∙ sym (ap (λ (b : Bool). b && Y.row p q) (sym (both p) ∙ e))

-- a permutation has the same members
permuted : {x : List ℕ} {xs ys : List (List ℕ)} → Permᴰ xs ys → Memᴰ x xs → Memᴰ x ys
permuted Permᴰ.nil m = m
permuted (Permᴰ.cons e p) (Memᴰ.head h) = Memᴰ.head (h ∙ e)
permuted (Permᴰ.cons e p) (Memᴰ.tail m) = Memᴰ.tail (permuted p m)
permuted (Permᴰ.swap e d) (Memᴰ.head h) = Memᴰ.tail (Memᴰ.head (h ∙ e))
permuted (Permᴰ.swap e d) (Memᴰ.tail (Memᴰ.head h)) = Memᴰ.head (h ∙ d)
permuted (Permᴰ.swap e d) (Memᴰ.tail (Memᴰ.tail m)) = Memᴰ.tail (Memᴰ.tail m)
permuted (Permᴰ.trans p q) m = permuted q (permuted p m)

-- ---- the statements

module _ {roster : List ℕ} (f : Free roster) (cs : List Call) where
  -- after any calls, and then any others: what was decided of a place is said of it still
  pub decided_stays : (ds : List Call) (i : ℕ) → Stays (reached roster cs) (reached roster (cs ++ ds)) i
  decided_stays ds i = rw (left_append (opened roster).recovery cs ds) (stays_left (good_left f cs) ds i)

  pub settled_stays : (ds : List Call) → settled_of (reached roster cs) ≡ true → settled_of (reached roster (cs ++ ds)) ≡ true
  settled_stays ds = rw (left_append (opened roster).recovery cs ds) (settled_left (good_left f cs) ds)

  module _ {xs ys : List (List ℕ)} where
    -- then some records, all accepted: any of them are accepted in any order, and however often
    pub accepted_anyhow : Accepts (reached roster cs) xs → ((x : List ℕ) → Memᴰ x ys → Memᴰ x xs) → Accepts (reached roster cs) ys
    accepted_anyhow = any_accepted (good_left f cs)

    -- and leave an equal recovery, if none of them is missing
    pub left_anyhow : Accepts (reached roster cs) xs → ((x : List ℕ) → Memᴰ x xs ↔ Memᴰ x ys) → reached roster (cs ++ offers xs) ≡ reached roster (cs ++ offers ys)
    left_anyhow a same =
        left_append (opened roster).recovery cs (offers xs) ∙ same_left (good_left f cs) a same ∙ sym (left_append (opened roster).recovery cs (offers ys))

    -- so in two orders of the same records: accepted in one, they are accepted in the other, and both leave equal recoveries
    pub accepted_in_every_order : Permᴰ xs ys → Accepts (reached roster cs) xs → Accepts (reached roster cs) ys
    accepted_in_every_order p a = accepted_anyhow a (λ x. permuted (Permᴰ.symm p))

    pub order_leaves_no_trace : Permᴰ xs ys → Accepts (reached roster cs) xs → reached roster (cs ++ offers xs) ≡ reached roster (cs ++ offers ys)
    order_leaves_no_trace p a = left_anyhow a (λ x. (permuted p, permuted (Permᴰ.symm p)))

-- whatever was called: where the same second serials were given and the same records are accepted, the recoveries are equal
pub no_trace : {roster : List ℕ} → Free roster → (cs ds : List Call) → seconds_of (reached roster cs) ≡ seconds_of (reached roster ds)
    → accepted_of (reached roster cs) ≡ accepted_of (reached roster ds) → reached roster cs ≡ reached roster ds
no_trace f cs ds = ledgers_equal (good_left f cs) (good_left f ds)
