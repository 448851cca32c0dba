-- The numbers by which refusals are known.
use Rattle.std.specs.Prelude.{◌≡◌, ℕ, Ok, Err, Result}
use Rattle.legal_time.specs.declared.refusals.Cause.{Cause}
use Rattle.legal_time.specs.declared.refusals.Cause.TheVariants.{ClockAtEnd, EnergyTooLarge, CurveFull, StampOutOfRange, JournalFull, ProgrammeLength, ProgrammeMark, ProgrammeField, PowerTooLarge, OrderShape, OrderTime, OrderOverlap, OrderLimit, ReadingOpen, TooManyReadings, NoSuchLabel, BufferTooShort, FileLength, FileMark, FileField, Own}
use Rattle.legal_time.specs.declared.refusals.Refusal.{Refusal}

-- the number of each cause; a licensee's own calendar brings its own
abbrev pub number_of : Cause → ℕ
number_of ClockAtEnd = 1
number_of EnergyTooLarge = 2
number_of CurveFull = 3
number_of StampOutOfRange = 4
number_of JournalFull = 5
number_of ProgrammeLength = 6
number_of ProgrammeMark = 7
number_of ProgrammeField = 8
number_of PowerTooLarge = 9
number_of OrderShape = 10
number_of OrderTime = 11
number_of OrderOverlap = 12
number_of OrderLimit = 13
number_of ReadingOpen = 14
number_of TooManyReadings = 15
number_of NoSuchLabel = 16
number_of BufferTooShort = 17
number_of FileLength = 18
number_of FileMark = 19
number_of FileField = 20
number_of (Own n) = n

-- the refusal of a cause that names no side and no place
abbrev pub plain : Cause → Refusal
plain cause = record { cause = cause; side = 0; place = 0 }

-- the refusal has this number, side and place
pub record Refused (e : Refusal) (number side place : ℕ) : Type 0 where
  pub numbered : number_of e.cause ≡ number
  pub sided : e.side ≡ side
  pub placed : e.place ≡ place

-- what a call answers, a refusal by its number, side and place
pub data Reply (X : Type 0) : Type 0 where
  gives : X → Reply X
  refuses : (number side place : ℕ) → Reply X

abbrev pub reply_of : {X : Type 0} → Result X Refusal → Reply X
reply_of (Ok x) = gives x
reply_of (Err e) = refuses (number_of e.cause) e.side e.place

-- the same answer, of something made of what was given
abbrev pub given : {X Y : Type 0} → (X → Y) → Reply X → Reply Y
given f (gives x) = gives (f x)
given f (refuses number side place) = refuses number side place
