-- Groups of one kind are answered as before document 02, [3]: after any opening and calls, where the accepted records are all of one kind.
-- Assumes nothing.
use Rattle.refusals.specs.declared.Refusal.{Refusal}
use Rattle.refusals.specs.declared.Refusal.TheVariants as R
use Rattle.std.specs.Prelude.{Option, Some, None, Result, Ok, Err}
use mathlib.Core.Path.{◌≡◌, refl, sym, ap, ◌∙◌}
use mathlib.Core.Bool.{Bool, true, false, cond}
use mathlib.Core.List.{List}
use Prim.Native.Nat.{ℕ, ◌<◌}
use lib.ListN.{length}
use Rattle.histories.specs.declared.Kind.{Kind}
use Rattle.histories.specs.Rule.{accepts}
use Rattle.histories.specs.Earlier as earlier
use Rattle.histories.specs.Earlier.{OneKind}
use Rattle.histories.proofs.Earlier.{same_answer, same_accepts}
use Rattle.serials.specs.Seconds.{counts_as}
use Rattle.layouts.specs.Layout.{Stored, lone}
use Rattle.answers.specs.declared.Reply.TheVariants as O
use Rattle.calls.specs.declared.Offered.{Offered}
use Rattle.calls.specs.Promises.{seconds_of, accepted_of, saying, keeping, offered, asked_as, asked}
use Rattle.calls.specs.Demand.{Free, Call, OfGroup}
use Rattle.calls.specs.Run.{reached}
use Rattle.calls.proofs.Calls as call
use Rattle.calls.proofs.Facts.{lone_on}
use Rattle.calls.proofs.Keeps.{kept_answer}
use Rattle.calls.proofs.Demand.{Good, is_roster, is_size, is_alias, good_left}

module _ {roster : List ℕ} (f : Free roster) (cs : List Call) (k : Kind) (one : OneKind k (accepted_of (reached roster cs))) where
  good : Good roster (reached roster cs)
  good = good_left f cs

  -- a place that is asked for has the earlier rule's answer
  pub asked_as_before : (i : ℕ) → i < length roster → asked (reached roster cs) i ≡ asked_as (earlier.answer k (length roster) (accepted_of (reached roster cs)) i)
  asked_as_before i l =
      call.asked_is (reached roster cs) (is_size good) i (earlier.answer k (length roster) (accepted_of (reached roster cs)) i) l
      (kept_answer good.held good.fits i ∙ same_answer k one good.fits i)

  -- a record of that kind, of a place that is not back, is taken or refused by 11 as the earlier rule has it
  module _ (bytes : List ℕ) (x : Stored) (s : OfGroup roster (seconds_of (reached roster cs)) bytes x) (same : x.kind ≡ k) (absent : (accepted_of (reached roster cs)).returned x.own ≡ false) where
    test : accepts (length roster) (accepted_of (reached roster cs)) x.own x.kind x.mourned ≡ earlier.accepts k (length roster) (accepted_of (reached roster cs)) x.own x.mourned
    test =
        let on = lone_on (counts_as roster (seconds_of (reached roster cs))) bytes x s.rest s.reads in
        ap (λ (j : Kind). accepts (length roster) (accepted_of (reached roster cs)) x.own j x.mourned) same
        ∙ same_accepts k one good.fits x.own x.mourned absent (rw s.same_roster at on.0) (λ q e. rw s.same_roster at (on.1 q e))

    answer_of_lem : (t : Bool) → (cond t (record { answer = Ok O.Taken; recovery = keeping (reached roster cs) x.own x.kind x.mourned }) (saying (reached roster cs) (Err R.NoHistory))).answer ≡ cond t (Ok O.Taken) (Err R.NoHistory)
    unfolding saying
    answer_of_lem true = refl
    answer_of_lem false = refl

    pub offered_as_before : (offered (reached roster cs) bytes).answer ≡ cond (earlier.accepts k (length roster) (accepted_of (reached roster cs)) x.own x.mourned) (Ok O.Taken) (Err R.NoHistory)
    offered_as_before =
        ap (λ (o : Offered). o.answer)
        (call.offered_entered (reached roster cs) bytes x s.rest (ap (λ (a : ℕ → ℕ). lone a bytes) (is_alias good) ∙ s.reads) (s.same_roster ∙ sym (is_roster good))
        ∙ call.entered_new (reached roster cs) (is_size good) x.own x.kind x.mourned absent _ test)
        ∙ answer_of_lem (earlier.accepts k (length roster) (accepted_of (reached roster cs)) x.own x.mourned)
