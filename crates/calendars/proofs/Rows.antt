-- Rows that `array::from_fn` makes, and where their parts stand.
use Rattle.std.proofs.Common.{◌≡◌, ℕ, zero, suc, ◌+◌, ◌*◌, ◌<◌, ◌≤◌, List, slice_index_or, ◌∙◌, inl, inr, mul-le-mul_left, mul-add, arith}
use Rattle.std.specs.Array.{IsFromFnResult, IsFromFnResultFrom}
use Rattle.std.specs.Fn.{Called}
use Rattle.std.proofs.lemmas.Bool.{cases_lt}
use Rattle.std.proofs.lemmas.List.FromFn.{fill_by_all}
use Rattle.calendars.specs.Layouts.{row, profile_in, profiles_in}
use Rattle.calendars.specs.declared.profiles.DayProfile.{DayProfile}
use denote.Param.Members.{Mut}

module _ {F X : Type 0} (g : Mut F (ℕ × Unit {0}) X) (at : ℕ → X) (f : F) (h : (k : ℕ) (x : X) (f' : F) → Called g f (k, tt) x f' → (x ≡ at k) × (f' ≡ f)) (xs : List X) where
  -- what stands at place k, of n calls from place i on
  placed : (i n k : ℕ) → IsFromFnResultFrom g f xs i n → i ≤ k → k < i + n → slice_index_or xs k (at 0) ≡ at k
  placed i zero k r from to = absurd (omega arith)
  placed i (suc n) k (f', x, is, call, rest) from to =
      let gave = h i x f' call in
      elim (cases_lt i k) [
        | inl later ↦ placed (i + 1) n k (rw gave.1 at rest) (omega arith) (omega arith)
        | inr here ↦ let e : k ≡ i = omega arith in rw e (is.1 (at 0) ∙ gave.0)
      ]

  -- each call gives what stands there, and leaves the closure as it was
  pub row_from_fn : (n : ℕ) → IsFromFnResult g f xs n → xs ≡ row at n
  row_from_fn n r = fill_by_all at xs n (at 0) r.long (λ k below. placed 0 n k r.each (omega arith) (omega arith))

-- the day types that `array::from_fn` makes
pub profiles_from_fn : {F : Type 0} (bytes : List ℕ) (n days first : ℕ) (g : Mut F (ℕ × Unit {0}) (DayProfile n)) (f : F) → ((k : ℕ) (x : DayProfile n) (f' : F) → Called g f (k, tt) x f' → (x ≡ profile_in bytes n (first + (1 + 3 * n) * k)) × (f' ≡ f)) → (xs : List (DayProfile n)) → IsFromFnResult g f xs days → xs ≡ profiles_in bytes n days first
unfolding profiles_in
profiles_from_fn bytes n days first g f h xs made = row_from_fn g _ f h xs days made

-- the k-th of n parts of one size lies within them
pub stride : (size k n : ℕ) → k < n → size * k + size ≤ size * n
stride size k n h =
    let next : size * (k + 1) ≤ size * n = mul-le-mul_left size (omega arith) in
    omega (arith, mul-add size k 1)
