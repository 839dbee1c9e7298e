-- Opening into the caller's memory: what each answer leaves there. Assumes nothing.
use Rattle.refusals.specs.Numbers.{number}
use Rattle.refusals.specs.declared.Refusal.{Refusal}
use Rattle.std.specs.Prelude.{Option, Some, None, Result, Ok, Err}
use mathlib.Core.Path.{◌≡◌, refl}
use mathlib.Core.List.{List}
use Prim.Native.Nat.{ℕ}
use Rattle.calls.specs.declared.Opened.{Opened}
use Rattle.calls.specs.Promises.{opened}
use Rattle.boundary.specs.Recoveries.{head_words, head_of, opened_as, opened_held}

module _ (s head serials seconds rows : List ℕ) where
  -- the number, the words, the serials, first and second, and the rows are those of opening
  abbrev pub Opens : ℕ → List ℕ → List ℕ → List ℕ → List ℕ → Type 0
  Opens c h a b t =
      (c ≡ (opened_held s head serials seconds rows).code)
      × ((h ≡ (opened_held s head serials seconds rows).head)
      × ((a ≡ (opened_held s head serials seconds rows).serials)
      × ((b ≡ (opened_held s head serials seconds rows).seconds) × (t ≡ (opened_held s head serials seconds rows).rows))
      ))

  module _ (o : Opened) (is : o ≡ opened s) where
    pub opens_done : o.answer ≡ Ok tt → (h : List ℕ)
        → h ≡ head_words o.recovery.count o.recovery.returned o.recovery.full o.recovery.mourned o.recovery.earlier
        → Opens 0 h o.recovery.serials o.recovery.seconds o.recovery.rows
    unfolding opened_held opened_as head_of
    opens_done e h f = rw (← is, e) (refl, (f, (refl, (refl, refl))))

    pub opens_refused : (j : Refusal) (c : ℕ) → c ≡ number j → o.answer ≡ Err j → Opens c head serials seconds rows
    unfolding opened_held opened_as
    opens_refused j c n e = rw (← is, e) (n, (refl, (refl, (refl, refl))))
