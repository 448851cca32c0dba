-- Orders that a layer holds, and what `retain` leaves of a list.
use Rattle.std.proofs.Common.{◌≡◌, ℕ, ◌<◌, ◌≤◌, Bool, true, List, [], ◌∷◌, length, filter, slice_index_or}
use Rattle.std.proofs.ByRecursion.{All-get_or}
use Rattle.std.specs.List.Retain.{RetainsInTurn}
use Rattle.calendars.specs.Orders.{IsOrder, compatible}
use Rattle.calendars.specs.declared.orders.Order.{Order}
use Rattle.calendars.specs.Compatible.{all_orders}

-- each of them has a period
pub period_within : (os : List Order) (k : ℕ) (d : Order) → compatible os ≡ true → k < length os → (slice_index_or os k d).period ≤ 8
period_within os k d sound within = (All-get_or IsOrder os k d within (all_orders os sound)).period_to

-- what `retain` leaves, where each call answers by the test, and changes neither the closure nor the item
pub retain_same : {F X : Type 0} (R : F → X → Bool → F → X → Type 0) (test : X → Bool) (f : F) → ((x : X) (b : Bool) (f' : F) (y : X) → R f x b f' y → (b ≡ test x) × (f' ≡ f) × (y ≡ x)) → (xs ys : List X) → RetainsInTurn R f xs ys → ys ≡ filter test xs
retain_same R test f h [] ys r = r
retain_same R test f h (x ∷ xs) ys (b, f', y, call, zs, rest, e) =
    let answered = h x b f' y call in
    let others : zs ≡ filter test xs = retain_same R test f h xs zs (rw answered.1 at rest) in
    cc
