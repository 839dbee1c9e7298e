-- What a record that was read meets in a group, by the parts of a recovery that judging looks at. Assumes nothing.
use Rattle.std.specs.Prelude.{Bool, true, false, cond, Result, Ok, Err, ◌&&◌, List, ℕ, take}
use Rattle.sets.specs.Sets.{Places, same}
use Rattle.sets.specs.PlaceSets.{has}
use Rattle.histories.specs.declared.Kind.{Kind}
use Rattle.histories.specs.declared.Kind.TheVariants.{Full, Short}
use Rattle.histories.specs.Histories.{Row}
use Rattle.histories.specs.Rule.{accepts}
use Rattle.layouts.specs.declared.Record.{Record}
use Rattle.layouts.specs.Records.{roster_is}
use Rattle.answers.specs.Views.{size, accepted_in}
use Rattle.answers.specs.declared.Reply.{Reply}
use Rattle.answers.specs.declared.Reply.TheVariants.{Taken, Repeated}
use Rattle.refusals.specs.declared.Refusal.{Refusal}
use Rattle.refusals.specs.declared.Refusal.TheVariants as R

unfoldable pub same_kind : Kind → Kind → Bool
same_kind Full Full = true
same_kind Full Short = false
same_kind Short Full = false
same_kind Short Short = true

-- a record of the group, of p with the kind k and the mourned set M: of one that is back it is repeated, or 10 where the kind or the mourned
-- set is another, of another place taken or 11
unfoldable pub entering : ℕ → Places → Places → List ℕ → ℕ → Kind → Row → Result Reply Refusal
entering count returned full w p k M =
    let A = accepted_in count returned full w in
    cond (A.returned p)
    (cond (same_kind k (A.kind p) && same (size count) M (A.row p)) (Ok Repeated) (Err R.OtherRecord))
    (cond (accepts (size count) A p k M) (Ok Taken) (Err R.NoHistory))

-- a record that was read from the bytes b: 9 where its roster, order included, is not the group's
unfoldable pub judgement : ℕ → List ℕ → Places → Places → List ℕ → List ℕ → Record → Result Reply Refusal
judgement count serials returned full w b x =
    cond (roster_is b x.roster x.count (take (size count) serials))
    (entering count returned full w x.own.0 x.kind (has x.mourned))
    (Err R.OtherGroup)
