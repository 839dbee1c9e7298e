-- A list of calls on a recovery: each gets it as the one before returned or left it, and gives what its contract says.
-- Assumes nothing.
use Rattle.refusals.specs.declared.Refusal.{Refusal}
use Rattle.refusals.specs.Numbers as N
use Rattle.answers.specs.declared.Answer as declared
use Rattle.answers.specs.declared.Answer.TheVariants as A
use Rattle.std.specs.Prelude.{Bool, true, false, Option, Some, None, Result, Ok, Err, cond, List, [], ◌∷◌, ℕ}
use Rattle.serials.specs.declared.Finding.{Finding}
use Rattle.serials.specs.declared.Finding.TheVariants as F
use Rattle.layouts.specs.Records.{Written}
use Rattle.calls.specs.declared.Recovery.{Recovery}
use Rattle.answers.specs.declared.Reply.{Reply}
use Rattle.answers.specs.declared.Reply.TheVariants as O
use Rattle.answers.specs.declared.Showing.{Showing}
use Rattle.answers.specs.declared.Showing.TheVariants as S
use Rattle.answers.specs.Shows.{Shown}
use Rattle.answers.specs.Lists.{ListedAll}
use Rattle.answers.specs.declared.Fetching.{Fetching}
use Rattle.calls.specs.Promises.{accepted_of, seconds_of, opened, offered, asked, shown, checked, settled_of, fetching_of, unmourned_of, unmourned_absent_of, unmourned_count_of, found_in, given, written_of, listed_of}
use Rattle.calls.specs.Demand as D
use Rattle.calls.specs.Demand.{Said, Ledger, Call, offer, ask, show, check, whole, to_fetch, unmourned, list_unmourned_absent, count_unmourned, find, give, write, list, Outcome, says, lent, lent_one, places, number}

-- ---- document 01's word and number for each answer of the code

unfoldable pub opening_says : Result (Unit {0}) Refusal → Said
opening_says (Ok u) = D.opened
opening_says (Err j) = D.refused (N.number j)

unfoldable pub offer_says : Result Reply Refusal → Said
offer_says (Ok O.Taken) = D.taken
offer_says (Ok O.Repeated) = D.repeated
offer_says (Err j) = D.refused (N.number j)

unfoldable pub asked_says : Result declared.Answer Refusal → Said
asked_says (Ok A.Last) = D.is_last
asked_says (Ok A.NotLast) = D.not_last
asked_says (Ok A.Open) = D.is_open
asked_says (Err j) = D.refused (N.number j)

unfoldable pub showing_says : Result Showing Refusal → Said
showing_says (Ok S.Shown) = D.shown
showing_says (Ok S.Decided) = D.decided
showing_says (Err j) = D.refused (N.number j)

unfoldable pub checked_says : Result Bool Refusal → Said
checked_says (Ok true) = D.fits
checked_says (Ok false) = D.fits_not
checked_says (Err j) = D.refused (N.number j)

unfoldable pub fetching_says : Option Fetching → Said
fetching_says None = D.settled
fetching_says (Some f) = D.fetches f.number f.next.0

unfoldable pub writing_says : Result ℕ Refusal → Said
writing_says (Ok e) = D.ends e
writing_says (Err j) = D.refused (N.number j)

unfoldable pub found_says : Option Finding → Said
found_says (Some (F.First p)) = D.first_of p.0
found_says (Some (F.Second p)) = D.second_of p.0
found_says None = D.not_found

unfoldable pub giving_says : Result (Unit {0}) Refusal → Said
giving_says (Ok u) = D.given
giving_says (Err j) = D.refused (N.number j)

unfoldable pub listing_says : Result (Unit {0}) Refusal → Said
listing_says (Ok u) = D.listed
listing_says (Err j) = D.refused (N.number j)

unfoldable pub shown_gives : Shown → Outcome
shown_gives s = lent (showing_says s.answer) s.first s.second

unfoldable pub written_gives : Written → Outcome
written_gives w = lent_one (writing_says w.answer) w.buffer

unfoldable pub listed_gives : ListedAll → Outcome
listed_gives l = lent_one (listing_says l.answer) l.buffer

-- ---- one call, and a list of them

unfoldable pub outcome : Recovery → Call → Outcome
outcome r (offer bytes) = says (offer_says (offered r bytes).answer)
outcome r (ask i) = says (asked_says (asked r i))
outcome r (show i a b) = shown_gives (shown r i a b)
outcome r (check h) = says (checked_says (checked r h))
outcome r whole = says (cond (settled_of r) D.settled D.unsettled)
outcome r to_fetch = says (fetching_says (fetching_of r))
outcome r unmourned = places (unmourned_of r)
outcome r list_unmourned_absent = places (unmourned_absent_of r)
outcome r count_unmourned = number (unmourned_count_of r)
outcome r (find x) = says (found_says (found_in r x))
outcome r (give p x) = says (giving_says (given r p x).answer)
outcome r (write p out at) = written_gives (written_of r p out at)
outcome r (list out) = listed_gives (listed_of r out)

-- only offering and giving return a recovery; every other call leaves it as it is
unfoldable pub next : Recovery → Call → Recovery
next r (offer bytes) = (offered r bytes).recovery
next r (ask i) = r
next r (show i a b) = r
next r (check h) = r
next r whole = r
next r to_fetch = r
next r unmourned = r
next r list_unmourned_absent = r
next r count_unmourned = r
next r (find x) = r
next r (give p x) = (given r p x).recovery
next r (write p out at) = r
next r (list out) = r

unfoldable pub run : Recovery → List Call → List Outcome
run r [] = []
run r (c ∷ cs) = outcome r c ∷ run (next r c) cs

-- what a recovery holds of what stands beside it
abbrev pub ledger_of : Recovery → Ledger
ledger_of r = record { accepted = accepted_of r; seconds = seconds_of r }

-- the recovery after a list of calls
unfoldable pub left : Recovery → List Call → Recovery
left r [] = r
left r (c ∷ cs) = left (next r c) cs

-- the recovery after an opening and a list of calls
abbrev pub reached : List ℕ → List Call → Recovery
reached roster cs = left (opened roster).recovery cs
