-- Orders that can be held together, and what stays of it when some end and one comes.
use Rattle.std.specs.Prelude.{◌≡◌, ℕ, zero, suc, ◌<◌, Bool, true, false, not, ◌&&◌, List, [], ◌∷◌, ◌++◌, length, filter, slice_index_or, refl}
use Rattle.std.proofs.Common.{ap, arith}
use Rattle.std.specs.List.{AllByRecursion}
use Rattle.std.proofs.lemmas.Bool.{and_parts, and_from, or_parts, or_from, not-true, not_from_false, both_ways, cond_both}
use Rattle.std.proofs.lemmas.Bool.Decides.{nat_tests}
use Rattle.calendars.specs.Orders.{Holds, IsOrder, Apart, shaped, overlap, overlaps, compatible}
use Rattle.calendars.specs.declared.orders.Order.{Order}

pub is_order : (o : Order) → shaped o ≡ true → IsOrder o
is_order o h = record { length_from = grind (arith, nat_tests); length_to = grind (arith, nat_tests); period_from = grind (arith, nat_tests); period_to = grind (arith, nat_tests) }

-- two orders that hold one stamp overlap
pub overlap_at : (o p : Order) (s : ℕ) → Holds o s → Holds p s → overlap o p ≡ true
overlap_at o p s h k = grind (arith, nat_tests)

-- an order that overlaps none of a list overlaps no one in it
pub overlap_none : (o : Order) (os : List Order) (i : ℕ) (d : Order) → i < length os → overlaps o os ≡ false → overlap o (slice_index_or os i d) ≡ false
overlap_none o [] i d l h = absurd (omega arith)
overlap_none o (p ∷ ps) zero d l h = (or_parts (overlap o p) (overlaps o ps) h).0
overlap_none o (p ∷ ps) (suc i) d l h = overlap_none o ps i d (omega arith) (or_parts (overlap o p) (overlaps o ps) h).1

-- the first of them, and the others
first_of : (o : Order) (os : List Order) → compatible (o ∷ os) ≡ true → (shaped o ≡ true) × (overlaps o os ≡ false) × (compatible os ≡ true)
first_of o os h =
    let p = and_parts (shaped o) (not (overlaps o os) && compatible os) h in
    let q = and_parts (not (overlaps o os)) (compatible os) p.1 in
    (p.0, not-true (overlaps o os) q.0, q.1)

first_from : (o : Order) (os : List Order) → shaped o ≡ true → overlaps o os ≡ false → compatible os ≡ true → compatible (o ∷ os) ≡ true
first_from o os s a h =
    and_from (shaped o) (not (overlaps o os) && compatible os) s
    (and_from (not (overlaps o os)) (compatible os) (not_from_false (overlaps o os) a) h)

pub all_orders : (os : List Order) → compatible os ≡ true → AllByRecursion IsOrder os
all_orders [] h = tt
all_orders (o ∷ os) h = let p = first_of o os h in (is_order o p.0, all_orders os p.2)

-- the first holds no stamp of another
first_alone : (o : Order) (os : List Order) (i s : ℕ) (d : Order) → overlaps o os ≡ false → i < length os → Holds o s → Holds (slice_index_or os i d) s → ⊥
first_alone o os i s d a l h k = both_ways (overlap o (slice_index_or os i d)) (overlap_none o os i d l a) (overlap_at o (slice_index_or os i d) s h k)

pub all_apart : (os : List Order) → compatible os ≡ true → Apart os
all_apart [] c i j s d li lj hi hj = absurd (omega arith)
all_apart (o ∷ os) c zero zero s d li lj hi hj = refl
all_apart (o ∷ os) c zero (suc j) s d li lj hi hj = absurd (first_alone o os j s d (first_of o os c).1 (omega arith) hi hj)
all_apart (o ∷ os) c (suc i) zero s d li lj hi hj = absurd (first_alone o os i s d (first_of o os c).1 (omega arith) hj hi)
all_apart (o ∷ os) c (suc i) (suc j) s d li lj hi hj = ap suc (all_apart os (first_of o os c).2 i j s d (omega arith) (omega arith) hi hj)

overlaps_kept : (test : Order → Bool) (o : Order) (os : List Order) → overlaps o os ≡ false → overlaps o (filter test os) ≡ false
overlaps_kept test o [] h = refl
overlaps_kept test o (p ∷ ps) h =
    let parts = or_parts (overlap o p) (overlaps o ps) h in
    let rest = overlaps_kept test o ps parts.1 in
    cond_both (test p) (p ∷ filter test ps) (filter test ps) (λ qs. overlaps o qs ≡ false)
    (λ _. or_from (overlap o p) (overlaps o (filter test ps)) parts.0 rest) (λ _. rest)

-- some of them
pub compatible_kept : (test : Order → Bool) (os : List Order) → compatible os ≡ true → compatible (filter test os) ≡ true
compatible_kept test [] h = refl
compatible_kept test (o ∷ os) h =
    let p = first_of o os h in
    let rest = compatible_kept test os p.2 in
    cond_both (test o) (o ∷ filter test os) (filter test os) (λ qs. compatible qs ≡ true)
    (λ _. first_from o (filter test os) p.0 (overlaps_kept test o os p.1) rest) (λ _. rest)

overlaps_push : (o : Order) (os : List Order) (p : Order) → overlaps o os ≡ false → overlap p o ≡ false → overlaps o (os ++ p ∷ []) ≡ false
overlaps_push o [] p h e = grind (arith, nat_tests)
overlaps_push o (q ∷ qs) p h e =
    let parts = or_parts (overlap o q) (overlaps o qs) h in
    or_from (overlap o q) (overlaps o (qs ++ p ∷ [])) parts.0 (overlaps_push o qs p parts.1 e)

-- they and one more
pub compatible_push : (os : List Order) (p : Order) → compatible os ≡ true → shaped p ≡ true → overlaps p os ≡ false → compatible (os ++ p ∷ []) ≡ true
compatible_push [] p h s a = first_from p [] s refl refl
compatible_push (o ∷ os) p h s a =
    let first = first_of o os h in
    let parts = or_parts (overlap p o) (overlaps p os) a in
    first_from o (os ++ p ∷ []) first.0 (overlaps_push o os p first.1 parts.0)
    (compatible_push os p first.2 s parts.1)

pub compatible_more : (test : Order → Bool) (os : List Order) (p : Order) → compatible os ≡ true → shaped p ≡ true → overlaps p os ≡ false → compatible (filter test os ++ p ∷ []) ≡ true
compatible_more test os p h s a = compatible_push (filter test os) p (compatible_kept test os h) s (overlaps_kept test p os a)
