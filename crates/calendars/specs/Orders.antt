-- Mobile orders: for a while another period than the map's holds.
use Rattle.std.specs.Prelude.{◌≡◌, ℕ, ◌+◌, ◌<◌, ◌≤◌, Bool, true, cond, not, ◌&&◌, List, [], ◌∷◌, ◌++◌, length, Some, None, find, filter, Option, option_map, nat_le, nat_lt, slice_index_or}
use Rattle.std.specs.List.{list_any}
use Rattle.calendars.specs.Meanings.{Plan}
use Rattle.calendars.specs.declared.orders.Order.{Order}

-- An order holds the stamps from its start on, as many as its length.
abbrev pub Holds : Order → ℕ → Type 0
Holds o s = (o.start ≤ s) × (s < o.start + o.length)

abbrev pub holds : Order → ℕ → Bool
holds o s = nat_le o.start s && nat_lt s (o.start + o.length)

-- a map with orders laid over it: the period of the order that holds the moment's stamp, else the map's
unfoldable pub laid : List Order → Plan → Plan
laid [] plan m = plan m
laid (o ∷ os) plan m = cond (holds o m.stamp) o.period (laid os plan m)

-- the period of the order that holds the stamp
abbrev pub ruling : List Order → ℕ → Option ℕ
ruling os s = option_map (λ o. o.period) (find (λ o. holds o s) os)

-- what every order keeps
pub record IsOrder (o : Order) : Type 0 where
  pub length_from : 1 ≤ o.length
  pub length_to : o.length ≤ 1440
  pub period_from : 1 ≤ o.period
  pub period_to : o.period ≤ 8

-- no two orders share a stamp
abbrev pub Apart : List Order → Type 0
Apart os = (i j s : ℕ) (d : Order) → i < length os → j < length os → Holds (slice_index_or os i d) s → Holds (slice_index_or os j d) s → i ≡ j

-- length 1 to 1,440 and period 1 to 8
abbrev pub shaped : Order → Bool
shaped o = (nat_le 1 o.length && nat_le o.length 1440) && (nat_le 1 o.period && nat_le o.period 8)

-- it starts after the clock and ends with the last stamp at the latest
abbrev pub timely : ℕ → Order → Bool
timely clock o = nat_lt clock o.start && nat_le (o.start + o.length) 52595940

-- two orders overlap: each starts before the other's end
abbrev pub overlap : Order → Order → Bool
overlap o p = nat_lt o.start (p.start + p.length) && nat_lt p.start (o.start + o.length)

abbrev pub overlaps : Order → List Order → Bool
overlaps o os = list_any (overlap o) os

-- orders that can be held together: each is shaped, and none overlaps another
abbrev pub compatible : List Order → Bool
compatible [] = true
compatible (o ∷ os) = shaped o && (not (overlaps o os) && compatible os)

-- an order has ended once its last minute lies before the clock
abbrev pub unended : ℕ → Order → Bool
unended clock o = nat_lt clock (o.start + o.length)

abbrev pub remaining : ℕ → List Order → List Order
remaining clock os = filter (unended clock) os

-- the first of the two questions that look at the order and the clock alone
abbrev pub form_no : ℕ → Order → Option ℕ
form_no clock o = cond (not (shaped o)) (Some 10) (cond (not (timely clock o)) (Some 11) None)

-- the first question that is answered no, by its number
unfoldable pub order_no : ℕ → List Order → ℕ → Order → Option ℕ
order_no limit os clock o =
    cond (not (shaped o)) (Some 10)
    (cond (not (timely clock o)) (Some 11)
    (cond (overlaps o os) (Some 12) (cond (nat_le limit (length (remaining clock os))) (Some 13) None)))

-- the orders after a call whose first no has this number
abbrev pub orders_after : Option ℕ → List Order → List Order → List Order
orders_after None before after = after
orders_after (Some number) before after = before

-- the orders after an ordering: the ended ones are dropped and the new one comes last
unfoldable pub ordered : ℕ → List Order → ℕ → Order → List Order
ordered limit os clock o = orders_after (order_no limit os clock o) os (remaining clock os ++ o ∷ [])
