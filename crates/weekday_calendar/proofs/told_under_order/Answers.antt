use Rattle.std.proofs.Common.{◌≡◌, ℕ, List, [], ◌∷◌, Some, None, Option, refl, ◌∙◌}
use Rattle.legal_time.specs.Refusals.{gives}
use Rattle.legal_time.specs.declared.Moment.{Moment}
use Rattle.calendars.specs.Meanings.{Plan, Verdict, reads, faults, asked, carried, checked, staged}
use Rattle.calendars.specs.Orders.{laid, order_no, ordered, orders_after}
use Rattle.calendars.specs.declared.Order.{Order}
use Rattle.weekday_calendar.specs.Weekdays.{under_order, ordered_over}
use Rattle.weekday_calendar.proofs.told_under_order.Goals as goal

-- an order that no question refuses is the only one held
taken : (no : Option ℕ) (order : Order) (plan : Plan) (m : Moment) → gives tt ≡ asked no → gives (laid (orders_after no [] (order ∷ [])) plan m) ≡ under_order no order plan m
taken None order plan m e = refl
taken (Some number) order plan m e = cc

-- a programme that was read is the map that the order lies over
over : (v : Verdict Plan) (clock : ℕ) (order : Order) (before : Plan) (m : Moment) → gives tt ≡ checked (carried (laid []) v) → gives tt ≡ asked (order_no 8 [] clock order) → gives (laid (ordered 8 [] clock order) (staged (carried (laid []) v) before) m) ≡ ordered_over v clock order m
unfolding laid ordered
over (reads plan) clock order before m e f = taken (order_no 8 [] clock order) order plan m f
over (faults number place) clock order before m e f = cc

-- the same, of what the calls left: their orders, their map and the period told
told : (v : Verdict Plan) (clock : ℕ) (order : Order) (before : Plan) (m : Moment) (os : List Order) (plan : Plan) (period : ℕ) → gives tt ≡ checked (carried (laid []) v) → gives tt ≡ asked (order_no 8 [] clock order) → os ≡ ordered 8 [] clock order → plan ≡ staged (carried (laid []) v) before → period ≡ laid os plan m → gives period ≡ ordered_over v clock order m
told v clock order before m os plan period e f g h p = let t = over v clock order before m e f in cc

pub returns : goal.returns
returns c =
    let staging = c.in_ok-stage.ensures in
    let ordering = c.in_ok-order.ensures in
    let none : c.activate.new.self.held.orders.items ≡ [] = cc in
    told _ _ _ _ _ _ _ _ staging.answer (rw none at ordering.answer) (rw none at ordering.orders)
    (ordering.current ∙ c.activate.ensures.current ∙ staging.upcoming) c.period_at.ensures
