-- What a weekday programme means: a peak rate in certain hours of Monday to Friday, another rate elsewhere.
use Rattle.std.specs.Prelude.{ℕ, ◌*◌, Bool, cond, ◌&&◌, List, [], ◌∷◌, length, Some, None, Option, Ok, Err, Result, ◌==◌, nat_le, nat_lt}
use Rattle.legal_time.specs.Refusals.{Reply, gives, refuses}
use Rattle.legal_time.specs.declared.Moment.{Moment}
use Rattle.calendars.specs.Fields.{Field, field, first_wrong, byte_at, up_to}
use Rattle.calendars.specs.Meanings.{Plan, Verdict, reads, faults}
use Rattle.calendars.specs.Orders.{laid, order_no}
use Rattle.calendars.specs.declared.Order.{Order}
use Rattle.weekday_calendar.specs.declared.Fault.{Fault}
use Rattle.weekday_calendar.specs.declared.Fault.TheVariants.{Length, Letters, Field as TheField}
use Rattle.weekday_calendar.specs.declared.rates.Rates.{Rates}

-- Monday to Friday, from the begin hour on until the end hour
abbrev pub at_peak : ℕ → ℕ → Moment → Bool
at_peak begin end m = nat_le m.weekday 5 && (nat_le (60 * begin) m.minute && nat_lt m.minute (60 * end))

abbrev pub weekday_plan : (begin end peak off_peak : ℕ) → Plan
weekday_plan begin end peak off_peak m = cond (at_peak begin end m) peak off_peak

abbrev pub plan_of : Rates → Plan
plan_of r = weekday_plan r.begin r.end r.peak r.off_peak

-- The fields after the letters: begin hour, end hour, peak period, off-peak period, two bytes that are zero.
abbrev pub weekday_fields : List ℕ → List Field
weekday_fields bytes =
    field 2 (nat_le (byte_at bytes 2) 23)
    ∷ field 3 (nat_lt (byte_at bytes 2) (byte_at bytes 3) && nat_le (byte_at bytes 3) 24)
    ∷ field 4 (up_to 8 (byte_at bytes 4))
    ∷ field 5 (up_to 8 (byte_at bytes 5))
    ∷ field 6 (byte_at bytes 6 == 0)
    ∷ field 7 (byte_at bytes 7 == 0)
    ∷ []

-- the letters WD
abbrev pub lettered : List ℕ → Bool
lettered bytes = byte_at bytes 0 == 87 && byte_at bytes 1 == 68

-- fault 1,002 names the offset of the first wrong field
abbrev pub passed : Plan → Option ℕ → Verdict Plan
passed plan None = reads plan
passed plan (Some offset) = faults 1002 offset

-- what bytes mean to a weekday calendar; fault 1,000 is their length, 1,001 their letters
unfoldable pub weekday_reading : List ℕ → Verdict Plan
weekday_reading bytes =
    cond (length bytes == 8)
    (cond (lettered bytes)
    (passed (weekday_plan (byte_at bytes 2) (byte_at bytes 3) (byte_at bytes 4) (byte_at bytes 5)) (first_wrong (weekday_fields bytes)))
    (faults 1001 0)) (faults 1000 0)

-- the number and the place of each fault
abbrev pub number_and_place : Fault → ℕ × ℕ
number_and_place Length = (1000, 0)
number_and_place Letters = (1001, 0)
number_and_place (TheField offset) = (1002, offset)

-- what bytes were read as
abbrev pub verdict_of : Result Rates Fault → Verdict Plan
verdict_of (Ok rates) = reads (plan_of rates)
verdict_of (Err fault) = faults (number_and_place fault).0 (number_and_place fault).1

-- what is told of a moment under a map and an order that was asked for, unless question 10, 11, 12 or 13 refuses it
abbrev pub under_order : Option ℕ → Order → Plan → Moment → Reply ℕ
under_order None order plan m = gives (laid (order ∷ []) plan m)
under_order (Some number) order plan m = refuses number 0 0

-- what is told of a moment once a programme holds and an order was asked for over it
abbrev pub ordered_over : Verdict Plan → ℕ → Order → Moment → Reply ℕ
ordered_over (reads plan) clock order m = under_order (order_no 8 [] clock order) order plan m
ordered_over (faults number place) clock order m = refuses number 0 place
