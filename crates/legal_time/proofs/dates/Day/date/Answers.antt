use Rattle.std.proofs.Common.{◌≡◌, ◌+◌, ◌-◌, ◌*◌, ◌/◌, ap, arith}
use Rattle.legal_time.specs.Days.{month_length, month_start}
use Rattle.legal_time.proofs.Years.{dated, december}
use Rattle.legal_time.proofs.dates.Day.date.Goals as goal

pub loop-month-init : goal.loop-month-init
unfolding month_start
loop-month-init c = omega arith

pub returns-then-left-length : goal.returns-then-left-length
returns-then-left-length c =
    let d = dated c.args.self.number _ c.args.self.in_range c.years-years.ensures.year c.loop-month.month c.loop-month.left (omega arith) (omega arith) (omega arith) (omega arith) in
    record { year = c.years-years.ensures.year; month = d.0; day = d.1 }

-- the loop ends with what December leaves
left_in_december : (c : goal.After-loop-month) → c.loop-month.left + month_start (2000 + c.years-years.result) 11 ≡ c.args.self.number - (1461 * c.years-years.result + 3) / 4
left_in_december c =
    let last : c.loop-month.month - 1 ≡ 11 = omega arith in
    omega (arith, ap (month_start (2000 + c.years-years.result)) last)

pub overflow_cast-result-2 : goal.overflow_cast-result-2
overflow_cast-result-2 c = omega (arith, december _ _ c.args.self.in_range c.years-years.ensures.year _ (left_in_december c))

pub returns : goal.returns
unfolding month_length
returns c =
    let year = c.years-years.ensures.year in
    let d = dated _ _ c.args.self.in_range year 12 c.loop-month.left (omega arith) (omega arith) (left_in_december c) (december _ _ c.args.self.in_range year _ (left_in_december c)) in
    record { year = year; month = d.0; day = d.1 }
