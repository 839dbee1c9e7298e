-- The example of document 01, call by call, each with the outcome that it computes to, and what its records leave; after it the same group
-- with second serials and records of both kinds (document 02, [2] and [3]). Assumes nothing.
use Rattle.refusals.specs.declared.Refusal.{Refusal}
use Rattle.refusals.specs.declared.Refusal.TheVariants as R
use Rattle.std.specs.Prelude.{Option, Some, None, Result, Ok, Err}
use mathlib.Core.Path.{◌≡◌, refl}
use mathlib.Core.List.{List, [], ◌∷◌, ◌++◌, map}
use Prim.Native.Nat.{ℕ}
use lib.ListN.{replicate}
use Rattle.sets.specs.Sets.{any, all, subset, same, count, lowest}
use Rattle.sets.specs.PlaceSets.{bit, has, word, packed}
use Rattle.histories.specs.Rule as H
use Rattle.histories.specs.Kept as K
use Rattle.serials.specs.Rosters.{place_of, holds, first_repeat, listed}
use Rattle.serials.specs.Seconds.{is_second, counts_as, stands_for, finding}
use Rattle.rows.specs.Rows.{no_rows, row_at, rows_of, with_row, bytes_from, row_bytes, put_row, row_in, history_in, rows_from, laid}
use Rattle.layouts.specs.Layout as L
use Rattle.layouts.specs.FaultCases as F
use Rattle.layouts.specs.Records.{same_list, unwritten, put_at, written_at}
use Rattle.answers.specs.Views.{size, kind_in, accepted_in, answer_of}
use Rattle.answers.specs.Groups.{is_found, alias_in, found_among, giving}
use Rattle.answers.specs.Checks.{off_roster}
use Rattle.answers.specs.Shows.{unshown, replaced, shown_open, shown_as, shown_in}
use Rattle.answers.specs.Replies.{same_kind, entering}
use Rattle.calls.specs.Promises as C
use Rattle.answers.specs.Lists as I
use Rattle.answers.specs.Fetches.{blocking_by, told}
use Rattle.calls.specs.Demand as D
use Rattle.calls.specs.Demand.{Call, offer, ask, show, check, whole, to_fetch, count_unmourned, find, give, write, list, Outcome, says, lent, lent_one, number, opened, taken, repeated, is_last, not_last, is_open, decided, shown, fits, fits_not, unsettled, given, not_found, first_of, second_of, ends, fetches, refused}
use Rattle.calls.specs.Run as U

unfoldable pub serials : List ℕ
serials = 101 ∷ 102 ∷ 103 ∷ 104 ∷ []

-- the roster in bytes: its count, then each serial
unfoldable pub group : List ℕ
group = 4 ∷ 0 ∷ 0 ∷ 0 ∷ 101 ∷ 0 ∷ 0 ∷ 0 ∷ 102 ∷ 0 ∷ 0 ∷ 0 ∷ 103 ∷ 0 ∷ 0 ∷ 0 ∷ 104 ∷ []

-- 101 mourns nobody, 104 mourns 102 and 103
unfoldable pub record_101 : List ℕ
record_101 = (2 ∷ 0 ∷ 0 ∷ 0 ∷ 101 ∷ []) ++ group ++ (0 ∷ [])

unfoldable pub record_104 : List ℕ
record_104 = (2 ∷ 0 ∷ 0 ∷ 0 ∷ 104 ∷ []) ++ group ++ (2 ∷ 0 ∷ 0 ∷ 0 ∷ 102 ∷ 0 ∷ 0 ∷ 0 ∷ 103 ∷ [])

-- others: 101 mourning nobody in the full kind, 101 mourning 102, and 102 mourning 104, which mourns it
unfoldable pub full_101 : List ℕ
full_101 = (1 ∷ 0 ∷ 0 ∷ 0 ∷ 101 ∷ []) ++ group ++ (0 ∷ [])

unfoldable pub other_101 : List ℕ
other_101 = (2 ∷ 0 ∷ 0 ∷ 0 ∷ 101 ∷ []) ++ group ++ (1 ∷ 0 ∷ 0 ∷ 0 ∷ 102 ∷ [])

unfoldable pub circle_102 : List ℕ
circle_102 = (2 ∷ 0 ∷ 0 ∷ 0 ∷ 102 ∷ []) ++ group ++ (1 ∷ 0 ∷ 0 ∷ 0 ∷ 104 ∷ [])

-- with second serials: 201, 202 and 203 for 101, 102 and 103. 104 mourns 102 and 103 again, by their second ones
unfoldable pub second_104 : List ℕ
second_104 = (2 ∷ 0 ∷ 0 ∷ 0 ∷ 104 ∷ []) ++ group ++ (2 ∷ 0 ∷ 0 ∷ 0 ∷ 202 ∷ 0 ∷ 0 ∷ 0 ∷ 203 ∷ [])

-- 102 by both of its serials
unfoldable pub twice_102 : List ℕ
twice_102 = (2 ∷ 0 ∷ 0 ∷ 0 ∷ 104 ∷ []) ++ group ++ (2 ∷ 0 ∷ 0 ∷ 0 ∷ 102 ∷ 0 ∷ 0 ∷ 0 ∷ 202 ∷ [])

-- 103, by its second serial, mourns 103
unfoldable pub itself_103 : List ℕ
itself_103 = (2 ∷ 0 ∷ 0 ∷ 0 ∷ 203 ∷ []) ++ group ++ (1 ∷ 0 ∷ 0 ∷ 0 ∷ 103 ∷ [])

-- on a roster of 101 and 201 each stands for itself
unfoldable pub other_roster : List ℕ
other_roster = (2 ∷ 0 ∷ 0 ∷ 0 ∷ 101 ∷ []) ++ (2 ∷ 0 ∷ 0 ∷ 0 ∷ 101 ∷ 0 ∷ 0 ∷ 0 ∷ 201 ∷ []) ++ (2 ∷ 0 ∷ 0 ∷ 0 ∷ 101 ∷ 0 ∷ 0 ∷ 0 ∷ 201 ∷ [])

-- 102 mourns 101, by their second serials and by their first
unfoldable pub second_102 : List ℕ
second_102 = (2 ∷ 0 ∷ 0 ∷ 0 ∷ 202 ∷ []) ++ group ++ (1 ∷ 0 ∷ 0 ∷ 0 ∷ 201 ∷ [])

unfoldable pub record_102 : List ℕ
record_102 = (2 ∷ 0 ∷ 0 ∷ 0 ∷ 102 ∷ []) ++ group ++ (1 ∷ 0 ∷ 0 ∷ 0 ∷ 101 ∷ [])

-- in the full kind, 103 mourns 102, which mourns 101; then both; and both in the short kind
unfoldable pub lacking_103 : List ℕ
lacking_103 = (1 ∷ 0 ∷ 0 ∷ 0 ∷ 103 ∷ []) ++ group ++ (1 ∷ 0 ∷ 0 ∷ 0 ∷ 102 ∷ [])

unfoldable pub full_103 : List ℕ
full_103 = (1 ∷ 0 ∷ 0 ∷ 0 ∷ 103 ∷ []) ++ group ++ (2 ∷ 0 ∷ 0 ∷ 0 ∷ 101 ∷ 0 ∷ 0 ∷ 0 ∷ 102 ∷ [])

unfoldable pub short_103 : List ℕ
short_103 = (2 ∷ 0 ∷ 0 ∷ 0 ∷ 103 ∷ []) ++ group ++ (2 ∷ 0 ∷ 0 ∷ 0 ∷ 101 ∷ 0 ∷ 0 ∷ 0 ∷ 102 ∷ [])

-- a row by its first byte
unfoldable pub row : ℕ → List ℕ
row b = b ∷ replicate 15 0

-- the recorded rows, and the same with place 0 in the row of place 1
unfoldable pub first_rows : List ℕ
first_rows = row 0 ++ row 0 ++ row 0 ++ row 6

unfoldable pub second_rows : List ℕ
second_rows = row 0 ++ row 1 ++ row 0 ++ row 6

-- a call, and what it gives
infix 60 ◌▸◌
pub data Line : Type 0 where
  ◌▸◌ : Call → Outcome → Line

unfoldable pub call_of : Line → Call
call_of (c ▸ o) = c

unfoldable pub outcome_of : Line → Outcome
outcome_of (c ▸ o) = o

unfoldable pub lines : List Line
lines =
    (offer record_101 ▸ says taken)
    ∷ (offer record_104 ▸ says taken)
    ∷ (ask 0 ▸ says is_open)
    ∷ (ask 1 ▸ says not_last)
    ∷ (ask 2 ▸ says not_last)
    ∷ (ask 3 ▸ says is_last)
    ∷ (ask 4 ▸ says (refused 12))
    ∷ (list (replicate 3 9) ▸ lent_one (refused 13) (replicate 3 9))
    ∷ (list (replicate 6 9) ▸ lent_one D.listed (2 ∷ 0 ∷ 0 ∷ 1 ∷ 9 ∷ 9 ∷ []))
    ∷ (whole ▸ says unsettled)
    ∷ (to_fetch ▸ says (fetches 2 1))
    ∷ (count_unmourned ▸ number 2)
    ∷ (find 103 ▸ says (first_of 2))
    ∷ (find 105 ▸ says not_found)
    ∷ (offer record_101 ▸ says repeated)
    ∷ (offer (record_101 ++ (7 ∷ [])) ▸ says (refused 8))
    ∷ (offer full_101 ▸ says (refused 10))
    ∷ (offer other_101 ▸ says (refused 10))
    ∷ (offer circle_102 ▸ says (refused 11))
    ∷ (show 4 [] [] ▸ lent (refused 12) [] [])
    ∷ (show 3 [] [] ▸ lent decided [] [])
    ∷ (show 0 (replicate 63 9) (replicate 65 9) ▸ lent (refused 13) (replicate 63 9) (replicate 65 9))
    ∷ (show 0 (replicate 65 9) (replicate 64 9) ▸ lent shown (first_rows ++ (9 ∷ [])) second_rows)
    ∷ (check (replicate 63 0) ▸ says (refused 13))
    ∷ (check (row 16 ++ row 0 ++ row 0 ++ row 6) ▸ says (refused 15))
    ∷ (check second_rows ▸ says fits)
    ∷ (check (row 0 ++ row 0 ++ row 0 ++ row 0) ▸ says fits_not)
    ∷ (write 4 [] 0 ▸ lent_one (refused 12) [])
    ∷ (write 1 [] 0 ▸ lent_one (refused 14) [])
    ∷ (write 3 (replicate 31 9) 1 ▸ lent_one (refused 13) (replicate 31 9))
    ∷ (write 3 (replicate 33 9) 1 ▸ lent_one (ends 32) ((9 ∷ []) ++ record_104 ++ (9 ∷ [])))
    -- what was decided, once more after all this
    ∷ (ask 1 ▸ says not_last)
    ∷ (ask 3 ▸ says is_last)
    ∷ (show 1 [] [] ▸ lent decided [] [])
    -- second serials
    ∷ (offer second_104 ▸ says (refused 6))
    ∷ (give 4 0 ▸ says (refused 12))
    ∷ (give 1 0 ▸ says (refused 4))
    ∷ (give 1 102 ▸ says (refused 16))
    ∷ (give 1 104 ▸ says (refused 16))
    ∷ (give 1 202 ▸ says given)
    ∷ (give 1 205 ▸ says (refused 16))
    ∷ (give 2 202 ▸ says (refused 16))
    ∷ (give 2 203 ▸ says given)
    ∷ (give 0 201 ▸ says given)
    ∷ (find 102 ▸ says (first_of 1))
    ∷ (find 202 ▸ says (second_of 1))
    ∷ (find 0 ▸ says not_found)
    ∷ (offer second_104 ▸ says repeated)
    ∷ (offer twice_102 ▸ says (refused 7))
    ∷ (offer other_roster ▸ says (refused 9))
    ∷ (offer itself_103 ▸ says (refused 11))
    ∷ (offer second_102 ▸ says taken)
    ∷ (offer record_102 ▸ says repeated)
    ∷ (write 1 (replicate 27 9) 0 ▸ lent_one (ends 27) record_102)
    ∷ (ask 0 ▸ says not_last)
    ∷ (ask 3 ▸ says is_last)
    ∷ (to_fetch ▸ says D.settled)
    -- a full record beside the short ones
    ∷ (offer lacking_103 ▸ says (refused 11))
    ∷ (offer full_103 ▸ says taken)
    ∷ (offer short_103 ▸ says (refused 10))
    ∷ (offer full_103 ▸ says repeated)
    ∷ (write 2 (replicate 31 9) 0 ▸ lent_one (ends 31) full_103)
    ∷ []

pub opening : U.opening_says (C.opened serials).answer ≡ opened
unfolding serials U.opening_says C.opened C.opened_as listed place_of holds first_repeat
opening = refl

pub listing : U.run (C.opened serials).recovery (map call_of lines) ≡ map outcome_of lines
unfolding serials group record_101 record_104 full_101 other_101 circle_102 second_104 twice_102 itself_103 other_roster second_102 record_102 lacking_103 full_103 short_103 row first_rows second_rows call_of outcome_of lines U.run U.next U.outcome U.offer_says U.asked_says U.showing_says U.checked_says U.writing_says U.found_says U.giving_says U.fetching_says U.listing_says U.shown_gives U.written_gives U.listed_gives I.answer_byte I.bytes_from I.laid I.listed_in C.listed_of C.size_of C.roster_of C.seconds_of C.alias_of C.accepted_of C.fresh C.opened_as C.opened same_kind C.of_group C.saying C.keeping_full C.keeping_row C.keeping C.answered entering C.entered C.judged C.offered_as C.offered C.answer_at C.asked_as answer_of C.asked unshown replaced shown_open shown_as shown_in C.shown off_roster C.checked_rows C.checked C.settled_of blocking_by told C.blocking_of C.fetching_of C.unmourned_of C.unmourned_count_of C.found_in C.with_second C.gave_as C.given alias_in found_among giving C.record_of C.written_of size kind_in accepted_in L.then L.check L.byte L.serial L.known_kind L.kind_of L.kind_section L.roster_serials L.roster_section L.head_section L.mourned_serials L.mourned_section L.stored L.lone L.kind_byte L.serial_bytes L.serials_bytes L.chosen L.layout same_list unwritten put_at written_at place_of holds is_second counts_as stands_for finding first_repeat listed no_rows row_at rows_of with_row bytes_from row_bytes put_row row_in history_in rows_from laid bit has word packed any all subset same count lowest H.recorded H.mourned H.reach H.before H.is_full H.full_back H.answer_with H.open_answer H.none_open H.agrees H.accepts H.duty_met H.fits_test K.ruled_out_by K.blockers_by K.answer_by K.settled_by
listing = refl

-- 102 alone is back and heard 101: of 102, which is open, the second history has both in the row of 103, the lowest who may have heard it
unfoldable pub before_lines : List Line
before_lines =
    (offer record_102 ▸ says taken)
    ∷ (ask 1 ▸ says is_open)
    ∷ (show 1 (replicate 65 9) (replicate 64 9) ▸ lent shown (row 0 ++ row 1 ++ row 0 ++ row 0 ++ (9 ∷ [])) (row 0 ++ row 1 ++ row 3 ++ row 0))
    ∷ []

pub listing_before : U.run (C.opened serials).recovery (map call_of before_lines) ≡ map outcome_of before_lines
unfolding serials group record_101 record_104 full_101 other_101 circle_102 second_104 twice_102 itself_103 other_roster second_102 record_102 lacking_103 full_103 short_103 row first_rows second_rows call_of outcome_of before_lines U.run U.next U.outcome U.offer_says U.asked_says U.showing_says U.checked_says U.writing_says U.found_says U.giving_says U.fetching_says U.listing_says U.shown_gives U.written_gives U.listed_gives I.answer_byte I.bytes_from I.laid I.listed_in C.listed_of C.size_of C.roster_of C.seconds_of C.alias_of C.accepted_of C.fresh C.opened_as C.opened same_kind C.of_group C.saying C.keeping_full C.keeping_row C.keeping C.answered entering C.entered C.judged C.offered_as C.offered C.answer_at C.asked_as answer_of C.asked unshown replaced shown_open shown_as shown_in C.shown off_roster C.checked_rows C.checked C.settled_of blocking_by told C.blocking_of C.fetching_of C.unmourned_of C.unmourned_count_of C.found_in C.with_second C.gave_as C.given alias_in found_among giving C.record_of C.written_of size kind_in accepted_in L.then L.check L.byte L.serial L.known_kind L.kind_of L.kind_section L.roster_serials L.roster_section L.head_section L.mourned_serials L.mourned_section L.stored L.lone L.kind_byte L.serial_bytes L.serials_bytes L.chosen L.layout same_list unwritten put_at written_at place_of holds is_second counts_as stands_for finding first_repeat listed no_rows row_at rows_of with_row bytes_from row_bytes put_row row_in history_in rows_from laid bit has word packed any all subset same count lowest H.recorded H.mourned H.reach H.before H.is_full H.full_back H.answer_with H.open_answer H.none_open H.agrees H.accepts H.duty_met H.fits_test K.ruled_out_by K.blockers_by K.answer_by K.settled_by
listing_before = refl

-- each of the faulty records of `layouts`, offered
unfoldable pub offer_of_lem : F.Faulty → Call
offer_of_lem x = offer (F.bytes_of x)

unfoldable pub refused_by : F.Faulty → Outcome
refused_by x = says (refused (F.number_of x))

pub listing_faults : U.run (C.opened serials).recovery (map offer_of_lem F.faulty) ≡ map refused_by F.faulty
unfolding serials group record_101 record_104 full_101 other_101 circle_102 second_104 twice_102 itself_103 other_roster second_102 record_102 lacking_103 full_103 short_103 row first_rows second_rows F.bytes_of F.number_of F.head F.mourning F.faulty offer_of_lem refused_by U.run U.next U.outcome U.offer_says U.asked_says U.showing_says U.checked_says U.writing_says U.found_says U.giving_says U.fetching_says U.listing_says U.shown_gives U.written_gives U.listed_gives I.answer_byte I.bytes_from I.laid I.listed_in C.listed_of C.size_of C.roster_of C.seconds_of C.alias_of C.accepted_of C.fresh C.opened_as C.opened same_kind C.of_group C.saying C.keeping_full C.keeping_row C.keeping C.answered entering C.entered C.judged C.offered_as C.offered C.answer_at C.asked_as answer_of C.asked unshown replaced shown_open shown_as shown_in C.shown off_roster C.checked_rows C.checked C.settled_of blocking_by told C.blocking_of C.fetching_of C.unmourned_of C.unmourned_count_of C.found_in C.with_second C.gave_as C.given alias_in found_among giving C.record_of C.written_of size kind_in accepted_in L.then L.check L.byte L.serial L.known_kind L.kind_of L.kind_section L.roster_serials L.roster_section L.head_section L.mourned_serials L.mourned_section L.stored L.lone L.kind_byte L.serial_bytes L.serials_bytes L.chosen L.layout same_list unwritten put_at written_at place_of holds is_second counts_as stands_for finding first_repeat listed no_rows row_at rows_of with_row bytes_from row_bytes put_row row_in history_in rows_from laid bit has word packed any all subset same count lowest H.recorded H.mourned H.reach H.before H.is_full H.full_back H.answer_with H.open_answer H.none_open H.agrees H.accepts H.duty_met H.fits_test K.ruled_out_by K.blockers_by K.answer_by K.settled_by
listing_faults = refl

-- its two records in either order, and one of them once more, leave one recovery
pub either_order : U.left (C.opened serials).recovery (offer record_101 ∷ offer record_104 ∷ []) ≡ U.left (C.opened serials).recovery (offer record_104 ∷ offer record_101 ∷ offer record_104 ∷ [])
unfolding serials group record_101 record_104 U.left U.next C.size_of C.roster_of C.seconds_of C.alias_of C.accepted_of C.fresh C.opened_as C.opened same_kind C.of_group C.saying C.keeping_full C.keeping_row C.keeping C.answered entering C.entered C.judged C.offered_as C.offered size kind_in accepted_in L.then L.check L.byte L.serial L.known_kind L.kind_of L.kind_section L.roster_serials L.roster_section L.head_section L.mourned_serials L.mourned_section L.stored L.lone same_list place_of holds is_second counts_as stands_for first_repeat listed no_rows rows_of with_row bytes_from row_bytes put_row row_in bit has word packed any all subset same H.recorded H.reach H.before H.is_full H.full_back H.agrees H.accepts
either_order = refl
