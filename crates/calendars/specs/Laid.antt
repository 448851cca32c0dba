-- Maps with orders laid over them.
use Rattle.std.specs.Prelude.{◌≡◌, ℕ, zero, suc, ◌<◌, Bool, true, false, cond, List, [], ◌∷◌, length, slice_index_or, Some, None, Option, find, option_map, refl}
use Rattle.std.proofs.Common.{sym, ap, ◌∙◌, arith}
use Rattle.std.specs.List.{AllByRecursion}
use Rattle.std.proofs.lemmas.Bool.{cond_both, cond-true, cond-false}
use Rattle.std.proofs.lemmas.Bool.Decides.{nat_tests}
use Rattle.legal_time.specs.declared.Moment.{Moment}
use Rattle.calendars.specs.Meanings.{Plan, Verdict, reads, faults, IsPeriod, Lawful, LawfulVerdict, carried}
use Rattle.calendars.specs.Orders.{Holds, IsOrder, Apart, holds, laid, ruling}
use Rattle.calendars.specs.declared.orders.Order.{Order}

-- the period of the ruling order, else this one
abbrev pub ruled : Option ℕ → ℕ → ℕ
ruled (Some period) other = period
ruled None other = other

ruled_cond : (b : Bool) (o : Order) (found : Option Order) (q : ℕ) → cond b o.period (ruled (option_map (λ p. p.period) found) q) ≡ ruled (option_map (λ p. p.period) (cond b (Some o) found)) q
ruled_cond true o found q = refl
ruled_cond false o found q = refl

laid_ruled : (os : List Order) (plan : Plan) (m : Moment) → laid os plan m ≡ ruled (ruling os m.stamp) (plan m)
unfolding laid
laid_ruled [] plan m = refl
laid_ruled (o ∷ os) plan m =
    ap (λ p. cond (holds o m.stamp) o.period p) (laid_ruled os plan m) ∙ ruled_cond (holds o m.stamp) o (find (λ p. holds p m.stamp) os) (plan m)

pub laid_told : (os : List Order) (plan : Plan) (m : Moment) (s : ℕ) (o : Option ℕ) → s ≡ m.stamp → o ≡ ruling os s → ruled o (plan m) ≡ laid os plan m
laid_told os plan m s o e r = ap (λ x. ruled x (plan m)) (r ∙ ap (ruling os) e) ∙ sym (laid_ruled os plan m)

holds_from : (o : Order) (s : ℕ) → Holds o s → holds o s ≡ true
holds_from o s h = grind (arith, nat_tests)

holds_not : (o : Order) (s : ℕ) → (Holds o s → ⊥) → holds o s ≡ false
holds_not o s h = grind (arith, nat_tests)

-- orders without the first are apart too
apart_rest : (o : Order) (os : List Order) → Apart (o ∷ os) → Apart os
apart_rest o os a i j s d li lj hi hj = let e = a (suc i) (suc j) s d (omega arith) (omega arith) hi hj in omega arith

pub laid_by_order : (os : List Order) (plan : Plan) (m : Moment) (i : ℕ) (d : Order) → Apart os → i < length os → Holds (slice_index_or os i d) m.stamp → laid os plan m ≡ (slice_index_or os i d).period
unfolding laid
laid_by_order [] plan m i d a l h = absurd (omega arith)
laid_by_order (o ∷ os) plan m zero d a l h = cond-true (holds o m.stamp) o.period (laid os plan m) (holds_from o m.stamp h)
laid_by_order (o ∷ os) plan m (suc i) d a l h =
    let alone : Holds o m.stamp → ⊥ = λ k. let e = a 0 (suc i) m.stamp d (omega arith) l k h in omega arith in
    cond-false (holds o m.stamp) o.period (laid os plan m) (holds_not o m.stamp alone) ∙ laid_by_order os plan m i d (apart_rest o os a) (omega arith) h

pub laid_by_map : (os : List Order) (plan : Plan) (m : Moment) → AllByRecursion (λ o. Holds o m.stamp → ⊥) os → laid os plan m ≡ plan m
unfolding laid
laid_by_map [] plan m h = refl
laid_by_map (o ∷ os) plan m h =
    cond-false (holds o m.stamp) o.period (laid os plan m) (holds_not o m.stamp h.0) ∙ laid_by_map os plan m h.1

pub laid_lawful : (os : List Order) (plan : Plan) → AllByRecursion IsOrder os → Lawful plan → Lawful (laid os plan)
unfolding laid
laid_lawful [] plan h l m = l m
laid_lawful (o ∷ os) plan h l m =
    cond_both (holds o m.stamp) o.period (laid os plan m) IsPeriod
    (λ _. (h.0.period_from, h.0.period_to)) (λ _. laid_lawful os plan h.1 l m)

pub carried_lawful : (os : List Order) (v : Verdict Plan) → AllByRecursion IsOrder os → LawfulVerdict v → LawfulVerdict (carried (laid os) v)
carried_lawful os (reads plan) h l = laid_lawful os plan h l
carried_lawful os (faults number place) h l = tt
