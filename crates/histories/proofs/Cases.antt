-- The rule gives what the table of cases expects, line by line. Assumes nothing.
use mathlib.Core.Path.{◌≡◌, refl}
use mathlib.Core.List.{map}
use Rattle.sets.specs.Sets.{any, all, subset, same}
use Rattle.histories.specs.Rule.{recorded, mourned, reach, before, is_full, full_back, before_full, blockers, answer_with, answer, open_answer, none_open, settled, agrees, accepts}
use Rattle.histories.specs.Cases.{members, said, then, offers, accepted_after, answers_from, reckoned, cases}

pub cases_hold : map reckoned cases ≡ cases
unfolding reckoned cases members offers accepted_after answers_from said then accepts agrees settled none_open open_answer answer answer_with blockers before_full full_back is_full before reach mourned recorded any all subset same
cases_hold = refl
