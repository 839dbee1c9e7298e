-- The faults 1 to 8 of a record's bytes in document 01's words ('A stored record', 'Refusals'): for each, the bytes that have it and none before it, found from the front. Nothing
-- here goes by the reader (Layout.antt); that the reader answers just by this is proved. Assumes nothing.
use Rattle.std.specs.Prelude.{◌≡◌, ◌⊎◌, List, ℕ, suc, ◌+◌, ◌*◌, ◌<◌, ◌≤◌, length, get_or}
use Rattle.refusals.specs.declared.Refusal.{Refusal}
use Rattle.refusals.specs.declared.Refusal.TheVariants as R
use Rattle.layouts.specs.Layout.{word_at}

-- ---- where the sections stand

-- kind at 0; own serial at 1; the roster's count at 5, then its serials; the mourned count, then the mourned serials
abbrev pub own : List ℕ → ℕ
own b = word_at b 1

abbrev pub roster_count : List ℕ → ℕ
roster_count b = get_or b 5 0

abbrev pub roster_serial : List ℕ → ℕ → ℕ
roster_serial b k = word_at b (6 + 4 * k)

-- where the mourned section starts
abbrev pub tail_at : List ℕ → ℕ
tail_at b = 6 + 4 * roster_count b

abbrev pub mourned_count : List ℕ → ℕ
mourned_count b = get_or b (tail_at b) 0

-- where mourned serial j stands, and so, for the count, where the record ends
abbrev pub mourned_at : List ℕ → ℕ → ℕ
mourned_at b j = tail_at b + 1 + 4 * j

abbrev pub mourned_serial : List ℕ → ℕ → ℕ
mourned_serial b j = word_at b (mourned_at b j)

-- x stands at place p of the record's roster: as one of its serials, or else as the second serial of one, by what x counts as (02, [2])
pub data StandsAt (alias : ℕ → ℕ) (b : List ℕ) (x p : ℕ) : Type 0 where
  as_itself : p < roster_count b → roster_serial b p ≡ x → StandsAt alias b x p
  as_second : ((q : ℕ) → q < roster_count b → ¬ (roster_serial b q ≡ x)) → p < roster_count b → roster_serial b p ≡ alias x → StandsAt alias b x p

abbrev pub OnRoster : (ℕ → ℕ) → List ℕ → ℕ → Type 0
OnRoster alias b x = (p : ℕ) × StandsAt alias b x p

-- ---- without a fault so far

pub record KindSound (b : List ℕ) : Type 0 where
  pub there : 1 ≤ length b
  pub known : (get_or b 0 0 ≡ 1) ⊎ (get_or b 0 0 ≡ 2)

pub record OwnSound (b : List ℕ) : Type 0 where
  pub kind : KindSound b
  pub there : 5 ≤ length b
  pub not_zero : ¬ (own b ≡ 0)

pub record CountSound (b : List ℕ) : Type 0 where
  pub owner : OwnSound b
  pub there : 6 ≤ length b
  pub some : 1 ≤ roster_count b
  pub few : roster_count b ≤ 128

-- serial k of the roster
pub record SerialSound (b : List ℕ) (k : ℕ) : Type 0 where
  pub there : 6 + 4 * suc k ≤ length b
  pub not_zero : ¬ (roster_serial b k ≡ 0)
  pub new : (j : ℕ) → j < k → ¬ (roster_serial b j ≡ roster_serial b k)

-- the roster up to serial k
pub record RosterSound (b : List ℕ) (k : ℕ) : Type 0 where
  pub count : CountSound b
  pub each : (j : ℕ) → j < k → SerialSound b j

-- the whole roster, and the own serial on it
pub record HeadSound (alias : ℕ → ℕ) (b : List ℕ) : Type 0 where
  pub roster : RosterSound b (roster_count b)
  pub on : OnRoster alias b (own b)

pub record MournedCountSound (alias : ℕ → ℕ) (b : List ℕ) : Type 0 where
  pub head : HeadSound alias b
  pub there : tail_at b + 1 ≤ length b
  pub few : mourned_count b ≤ roster_count b

-- mourned serial j: on the roster, behind all that are mourned before it
pub record MournedSound (alias : ℕ → ℕ) (b : List ℕ) (j : ℕ) : Type 0 where
  pub there : mourned_at b (suc j) ≤ length b
  pub not_zero : ¬ (mourned_serial b j ≡ 0)
  pub place : ℕ
  pub stands : StandsAt alias b (mourned_serial b j) place
  pub behind : (i p : ℕ) → i < j → StandsAt alias b (mourned_serial b i) p → p < place

-- the mourned section up to serial j
pub record TailSound (alias : ℕ → ℕ) (b : List ℕ) (j : ℕ) : Type 0 where
  pub count : MournedCountSound alias b
  pub each : (i : ℕ) → i < j → MournedSound alias b i

-- ---- the faults, each the first from the front

pub data Fault (alias : ℕ → ℕ) (b : List ℕ) : Refusal → Type 0 where
  -- 1: the bytes end early, before the kind, in the own serial, before a count, in a serial
  no_kind : length b < 1 → Fault alias b R.EndsEarly
  own_cut : KindSound b → length b < 5 → Fault alias b R.EndsEarly
  no_roster_count : OwnSound b → length b < 6 → Fault alias b R.EndsEarly
  serial_cut : {k : ℕ} → RosterSound b k → k < roster_count b → length b < 6 + 4 * suc k → Fault alias b R.EndsEarly
  no_mourned_count : HeadSound alias b → length b < tail_at b + 1 → Fault alias b R.EndsEarly
  mourned_cut : {j : ℕ} → TailSound alias b j → j < mourned_count b → length b < mourned_at b (suc j) → Fault alias b R.EndsEarly
  -- 2: kind unknown
  unknown_kind : 1 ≤ length b → ¬ (get_or b 0 0 ≡ 1) → ¬ (get_or b 0 0 ≡ 2) → Fault alias b R.UnknownKind
  -- 3: roster count 0 or above 128, or mourned count above the roster count
  roster_count_off : OwnSound b → 6 ≤ length b → (roster_count b ≡ 0) ⊎ (128 < roster_count b) → Fault alias b R.BadCount
  mourned_count_above : HeadSound alias b → tail_at b + 1 ≤ length b → roster_count b < mourned_count b → Fault alias b R.BadCount
  -- 4: a serial is 0
  own_zero : KindSound b → 5 ≤ length b → own b ≡ 0 → Fault alias b R.ZeroSerial
  serial_zero : {k : ℕ} → RosterSound b k → k < roster_count b → 6 + 4 * suc k ≤ length b → roster_serial b k ≡ 0 → Fault alias b R.ZeroSerial
  mourned_zero : {j : ℕ} → TailSound alias b j → j < mourned_count b → mourned_at b (suc j) ≤ length b → mourned_serial b j ≡ 0 → Fault alias b R.ZeroSerial
  -- 5: a serial stands twice on the roster
  serial_twice : {j k : ℕ} → RosterSound b k → k < roster_count b → 6 + 4 * suc k ≤ length b → ¬ (roster_serial b k ≡ 0) → j < k → roster_serial b j ≡ roster_serial b k → Fault alias b R.Twice
  -- 6: own or mourned serial not on the roster; own is judged when the roster has been read, before the mourned count
  own_off : RosterSound b (roster_count b) → ¬ (OnRoster alias b (own b)) → Fault alias b R.NotOnRoster
  mourned_off : {j : ℕ} → TailSound alias b j → j < mourned_count b → mourned_at b (suc j) ≤ length b → ¬ (mourned_serial b j ≡ 0) → ¬ (OnRoster alias b (mourned_serial b j)) → Fault alias b R.NotOnRoster
  -- 7: mourned serials repeated or out of roster order
  mourned_order : {i j p q : ℕ} → TailSound alias b j → j < mourned_count b → mourned_at b (suc j) ≤ length b → ¬ (mourned_serial b j ≡ 0) → StandsAt alias b (mourned_serial b j) p
      → i < j → StandsAt alias b (mourned_serial b i) q → p ≤ q → Fault alias b R.OutOfOrder
  -- 8: bytes follow a lone record
  follows : TailSound alias b (mourned_count b) → mourned_at b (mourned_count b) < length b → Fault alias b R.BytesAfter

-- a record that passes 1 to 8
pub record SoundBytes (alias : ℕ → ℕ) (b : List ℕ) : Type 0 where
  pub tail : TailSound alias b (mourned_count b)
  pub ends : length b ≡ mourned_at b (mourned_count b)
