-- Opening a day in the caller's memory: what each answer leaves there. Assumes nothing.
use Rattle.refusals.specs.declared.Refusal.{Refusal}
use Rattle.refusals.specs.Numbers.{number}
use Rattle.std.specs.Prelude.{Ok, Err}
use mathlib.Core.Path.{◌≡◌, refl}
use mathlib.Core.List.{List}
use Prim.Native.Nat.{ℕ}
use Rattle.executions.specs.declared.Begun.{Begun}
use Rattle.executions.specs.Promises.{begun}
use Rattle.boundary.specs.Days.{day_head_of, begun_as, begun_held}

module _ (kind : ℕ) (s head serials rows : List ℕ) where
  -- the number, the words, the serials and the rows are those of opening
  abbrev pub Begins : ℕ → List ℕ → List ℕ → List ℕ → Type 0
  Begins c h a t =
      (c ≡ (begun_held kind s head serials rows).code)
      × ((h ≡ (begun_held kind s head serials rows).head)
      × ((a ≡ (begun_held kind s head serials rows).serials) × (t ≡ (begun_held kind s head serials rows).rows))
      )

  module _ (o : Begun) (is : o ≡ begun kind s) where
    pub begins_done : o.answer ≡ Ok tt → (h : List ℕ) → h ≡ day_head_of o.day.kind o.day.count o.day.stopped → Begins 0 h o.day.serials o.day.rows
    unfolding begun_held begun_as
    begins_done e h f = rw (← is, e) (refl, (f, (refl, refl)))

    pub begins_refused : (j : Refusal) (c : ℕ) → c ≡ number j → o.answer ≡ Err j → Begins c head serials rows
    unfolding begun_held begun_as
    begins_refused j c n e = rw (← is, e) (n, (refl, (refl, refl)))
