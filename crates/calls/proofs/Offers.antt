-- Offering, by its parts: what a reply leaves, and that judging the parts of a recovery is judging the whole. Assumes nothing.
use Rattle.refusals.specs.declared.Refusal.{Refusal}
use Rattle.refusals.specs.declared.Refusal.TheVariants as R
use Rattle.std.specs.Prelude.{Option, Some, None, Result, Ok, Err}
use mathlib.Core.Path.{◌≡◌, refl, sym, ap, ap₂, ◌∙◌, subst}
use mathlib.Core.Bool.{Bool, true, false, cond, ◌&&◌}
use mathlib.Core.List.{List}
use Prim.Native.Nat.{ℕ, ◌+◌, ◌-◌, ◌*◌}
use native.Mathlib.Omega.{arith}
use lib.ListN.{length, take, drop}
use borrow.Author.Tests.{le-leb}
use Rattle.sets.specs.PlaceSets.{has, packed}
use Rattle.sets.proofs.Laws.{has_packed, kept_all}
use Rattle.histories.specs.declared.Kind.{Kind}
use Rattle.histories.specs.Histories.{Row}
use Rattle.layouts.specs.Layout.{Parsed, got, refused, Stored, stored, lone}
use Rattle.layouts.specs.declared.Record.{Record}
use Rattle.layouts.specs.Records.{reading_of, reading_lone, same_list, roster_there, roster_is}
use Rattle.layouts.proofs.Layouts.{stored_back}
use Rattle.layouts.proofs.Trips.{lone_back, serials_read, roster_within}
use Rattle.answers.specs.Views.{size}
use Rattle.answers.specs.Groups.{alias_in}
use Rattle.answers.specs.declared.Reply.{Reply}
use Rattle.answers.specs.declared.Reply.TheVariants as O
use Rattle.answers.specs.Replies.{entering, judgement}
use Rattle.calls.specs.declared.Recovery.{Recovery}
use Rattle.calls.specs.Promises.{size_of, roster_of, seconds_of, alias_of, of_group, saying, keeping, answered, entered, judged, offered_as, offered}
use Rattle.calls.proofs.Facts.{lone_on}

pub answered_taken : (r : Recovery) (p : ℕ) (k : Kind) (M : Row) (a : Result Reply Refusal) (s : Recovery) → a ≡ Ok O.Taken → s ≡ keeping r p k M → record { answer = Ok O.Taken; recovery = s } ≡ answered r p k M a
unfolding answered
answered_taken r p k M a s e f = rw (e, f)

pub answered_repeated : (r : Recovery) (p : ℕ) (k : Kind) (M : Row) (a : Result Reply Refusal) → a ≡ Ok O.Repeated → saying r (Ok O.Repeated) ≡ answered r p k M a
unfolding answered
answered_repeated r p k M a e = rw e

pub answered_refused : (r : Recovery) (p : ℕ) (k : Kind) (M : Row) (a : Result Reply Refusal) (j : Refusal) → a ≡ Err j → saying r (Err j) ≡ answered r p k M a
unfolding answered
answered_refused r p k M a j e = rw e

-- a record that was read: its mourned set fits two words, and its roster stands in the bytes
module _ (alias : ℕ → ℕ) (b : List ℕ) (y : Stored) (rest : List ℕ) (e : lone alias b ≡ got y rest) where
  here : stored alias (drop 0 b) ≡ got y rest
  here = (lone_back alias b y rest e).0

  mourned_is : has (packed y.mourned) ≡ y.mourned
  mourned_is =
      has_packed y.mourned
      ∙ kept_all y.mourned (λ q t. omega (arith, (lone_on alias b y rest e).1 q t, (stored_back alias b y rest (lone_back alias b y rest e).0).heading.sound.few))

  roster_there_lem : (l : List ℕ) → roster_is b 6 (length y.roster) l ≡ same_list y.roster l
  unfolding roster_is roster_there
  roster_there_lem l =
      ap₂ (λ (t : Bool) (s : List ℕ). t && same_list s l)
      (le-leb (6 + length y.roster * 4) (length b) (omega (arith, roster_within alias b 0 y rest here))) (serials_read alias b 0 y rest here)

  judged_is : (r : Recovery) (all : ℕ)
      → answered r y.own y.kind (has (packed y.mourned))
      (judgement r.count r.serials (has r.returned) (has r.full) r.rows b
      (record { kind = y.kind; own = record { 0 = y.own }; roster = 6; count = length y.roster; mourned = packed y.mourned; next = all }))
      ≡ judged r y
  unfolding judgement judged of_group roster_of size_of entered answered
  judged_is r all =
      ap₂ (λ (t : Bool) (M : Row). answered r y.own y.kind M (cond t (entering r.count (has r.returned) (has r.full) r.rows y.own y.kind M) (Err R.OtherGroup)))
      (roster_there_lem (take (size r.count) r.serials)) mourned_is
      ∙ go (same_list y.roster (take (size r.count) r.serials))
    where
      go : (t : Bool) → answered r y.own y.kind y.mourned (cond t (entering r.count (has r.returned) (has r.full) r.rows y.own y.kind y.mourned) (Err R.OtherGroup))
          ≡ cond t (entered r y.own y.kind y.mourned) (saying r (Err R.OtherGroup))
      go true = refl
      go false = sym (answered_refused r y.own y.kind y.mourned (Err R.OtherGroup) R.OtherGroup refl)

pub offered_read : (r : Recovery) (b : List ℕ) (x : Record) → reading_lone (alias_in r.count r.serials r.seconds) b ≡ Ok x
    → answered r x.own.0 x.kind (has x.mourned) (judgement r.count r.serials (has r.returned) (has r.full) r.rows b x) ≡ offered r b
unfolding reading_lone reading_of offered offered_as alias_of roster_of seconds_of size_of alias_in
offered_read r b x e = go (lone (alias_of r) b) refl e
  where
    go : (p : Parsed Stored) → lone (alias_of r) b ≡ p → reading_of (length b) 0 p ≡ Ok x
        → answered r x.own.0 x.kind (has x.mourned) (judgement r.count r.serials (has r.returned) (has r.full) r.rows b x) ≡ offered_as r p
    go (got y rest) f g =
        let h : record { kind = y.kind; own = record { 0 = y.own }; roster = 6; count = length y.roster; mourned = packed y.mourned; next = length b - length rest } ≡ x = cc in
        subst (λ (x : Record). answered r x.own.0 x.kind (has x.mourned) (judgement r.count r.serials (has r.returned) (has r.full) r.rows b x) ≡ judged r y) h (judged_is (alias_of r) b y rest f r (length b - length rest))
    go (refused j) f g = let z : ◌≡◌ {A = ℕ} 0 1 = cc in absurd (omega arith)

pub offered_unread : (r : Recovery) (b : List ℕ) (j : Refusal) → reading_lone (alias_in r.count r.serials r.seconds) b ≡ Err j → saying r (Err j) ≡ offered r b
unfolding reading_lone reading_of offered offered_as alias_of roster_of seconds_of size_of alias_in
offered_unread r b j e = go (lone (alias_of r) b) e
  where
    go : (p : Parsed Stored) → reading_of (length b) 0 p ≡ Err j → saying r (Err j) ≡ offered_as r p
    go (got y rest) g = let z : ◌≡◌ {A = ℕ} 0 1 = cc in absurd (omega arith)
    go (refused i) g = let h : j ≡ i = cc in ap (λ (j : Refusal). saying r (Err j)) h
