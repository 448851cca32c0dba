-- The last place whose start is not past a number.
use Rattle.std.proofs.Common.{◌≡◌, ℕ, zero, suc, ◌<◌, ◌≤◌, sym, ◌∙◌, inl, inr, arith}
use Rattle.std.proofs.lemmas.Bool.{cases_eq, cases_lt, cond-true, cond-false, le-leb, lt-leb}
use Rattle.legal_time.specs.Days.{last_started}

-- what is started at j and at no later place is the answer
pub last_is : (start : ℕ → ℕ) (k n j : ℕ) → j ≤ k → start j ≤ n → ((i : ℕ) → j < i → i ≤ k → n < start i) → last_started start k n ≡ j
unfolding last_started
last_is start zero n j to h past = omega arith
last_is start (suc k) n j to h past =
    elim (cases_eq j (suc k)) [
      | inl e ↦ cond-true _ _ _ (le-leb (start (suc k)) n (rw e at h)) ∙ sym e
      | inr ne ↦
          cond-false _ _ _ (lt-leb (start (suc k)) n (past (suc k) (omega arith) (omega arith)))
          ∙ last_is start k n j (omega arith) h (λ i a b. past i a (omega arith))
    ]

pub last_within : (start : ℕ → ℕ) (k n : ℕ) → last_started start k n ≤ k
unfolding last_started
last_within start zero n = omega arith
last_within start (suc k) n =
    elim (cases_lt n (start (suc k))) [
      | inl before ↦ rw (lt-leb (start (suc k)) n before) (omega (arith, last_within start k n))
      | inr after ↦ rw (le-leb (start (suc k)) n after) (omega arith)
    ]

-- the answer has started, if place 0 has
pub last_started_lem : (start : ℕ → ℕ) (k n : ℕ) → start 0 ≤ n → start (last_started start k n) ≤ n
unfolding last_started
last_started_lem start zero n first = first
last_started_lem start (suc k) n first =
    elim (cases_lt n (start (suc k))) [
      | inl before ↦ rw (lt-leb (start (suc k)) n before) (last_started_lem start k n first)
      | inr after ↦ rw (le-leb (start (suc k)) n after) after
    ]

-- the place after the answer has not started
pub last_next : (start : ℕ → ℕ) (k n : ℕ) → last_started start k n < k → n < start (suc (last_started start k n))
unfolding last_started
last_next start zero n = λ h. omega arith
last_next start (suc k) n =
    elim (cases_lt n (start (suc k))) [
      | inl before ↦ rw (lt-leb (start (suc k)) n before)
          (λ h. elim (cases_eq (last_started start k n) k) [
            | inl e ↦ rw e before
            | inr ne ↦ last_next start k n (let w : last_started start k n ≤ k = last_within start k n in omega arith)
          ])
      | inr after ↦ rw (le-leb (start (suc k)) n after) (λ h. omega arith)
    ]
