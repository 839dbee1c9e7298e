-- Every case of the table, each run from its opening on by the definitions that the contracts cite. Assumes nothing.
use mathlib.Core.Path.{◌≡◌, refl}
use mathlib.Core.List.{List, [], ◌∷◌, ◌++◌, map}
use Prim.Native.Nat.{ℕ}
use Rattle.sets.specs.Sets.{any, all, subset, same, count, lowest}
use Rattle.sets.specs.PlaceSets.{bit, has, word, packed}
use Rattle.histories.specs.Rule as H
use Rattle.histories.specs.Kept as K
use Rattle.serials.specs.Rosters.{place_of, holds, first_repeat, listed}
use Rattle.serials.specs.Seconds.{is_second, counts_as, stands_for, finding}
use Rattle.rows.specs.Rows.{no_rows, row_at, rows_of, with_row, bytes_from, row_bytes, put_row, row_in, history_in, rows_from, laid}
use Rattle.layouts.specs.Layout as L
use Rattle.layouts.specs.Records.{same_list, unwritten, put_at, written_at}
use Rattle.answers.specs.Views.{size, kind_in, accepted_in, answer_of}
use Rattle.answers.specs.Groups.{is_found, alias_in, found_among, giving}
use Rattle.answers.specs.Checks.{off_roster}
use Rattle.answers.specs.Shows.{unshown, replaced, shown_open, shown_as, shown_in}
use Rattle.answers.specs.Replies.{same_kind, entering}
use Rattle.calls.specs.Promises as C
use Rattle.answers.specs.Lists as I
use Rattle.answers.specs.Fetches.{blocking_by, told}
use Rattle.calls.specs.Run as U
use Rattle.calls.specs.Demand.{Outcome}
use Rattle.cases.specs.Cases.{Case, case, members, numbers, bytes_of, offer_of, reply_of, roster_of, calls_of, outcomes_of, cases}

-- what the calls of a case give
unfoldable pub run_of : Case → List Outcome
run_of c = U.run (C.opened (roster_of c)).recovery (calls_of c)

pub cases_hold : map run_of cases ≡ map outcomes_of cases
unfolding answer_of run_of members numbers bytes_of offer_of reply_of roster_of calls_of outcomes_of cases U.run U.next U.outcome U.offer_says U.asked_says U.showing_says U.checked_says U.writing_says U.found_says U.giving_says U.fetching_says U.listing_says U.shown_gives U.written_gives U.listed_gives I.answer_byte I.bytes_from I.laid I.listed_in C.listed_of C.size_of C.roster_of C.seconds_of C.alias_of C.accepted_of C.fresh C.opened_as C.opened same_kind C.of_group C.saying C.keeping_full C.keeping_row C.keeping C.answered entering C.entered C.judged C.offered_as C.offered C.answer_at C.asked_as C.asked unshown replaced shown_open shown_as shown_in C.shown off_roster C.checked_rows C.checked C.settled_of blocking_by told C.blocking_of C.fetching_of C.unmourned_of C.unmourned_count_of C.found_in C.with_second C.gave_as C.given alias_in found_among giving C.record_of C.written_of size kind_in accepted_in L.then L.check L.byte L.serial L.known_kind L.kind_of L.kind_section L.roster_serials L.roster_section L.head_section L.mourned_serials L.mourned_section L.stored L.lone L.kind_byte L.serial_bytes L.serials_bytes L.chosen L.layout same_list unwritten put_at written_at place_of holds is_second counts_as stands_for finding first_repeat listed no_rows row_at rows_of with_row bytes_from row_bytes put_row row_in history_in rows_from laid bit has word packed any all subset same count lowest H.recorded H.mourned H.reach H.before H.is_full H.full_back H.answer_with H.open_answer H.none_open H.agrees H.accepts H.duty_met H.fits_test K.ruled_out_by K.blockers_by K.answer_by K.settled_by
cases_hold = refl
