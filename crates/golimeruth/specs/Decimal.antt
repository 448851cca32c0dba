-- The numbers of a script, in decimal.
use Rattle.std.specs.Prelude.{◌≡◌, ℕ, ◌+◌, ◌-◌, ◌*◌, ◌<◌, ◌≤◌, List, length, Ok, Err, fold, Result, slice_index}
use Rattle.golimeruth.specs.declared.words.Slip.{Slip}
use Rattle.golimeruth.specs.declared.words.Slip.TheVariants.{UnknownCommand, WordMissing, WordTooMany, NotANumber, NumberTooLarge, UnknownCalendar, NotBytes}

-- every byte is a digit, '0' to '9'
abbrev pub Digits : List ℕ → Type 0
Digits word = (k : ℕ) → k < length word → (48 ≤ slice_index word k) × (slice_index word k ≤ 57)

-- the number that the digits spell
abbrev pub spelled : List ℕ → ℕ
spelled word = fold (λ n digit. n * 10 + (digit - 48)) 0 word

-- what a word is read as
abbrev pub Spells : List ℕ → Result ℕ Slip → Type 0
Spells word (Ok n) = Digits word × (n ≡ spelled word)
Spells word (Err NumberTooLarge) = Digits word × (4294967296 ≤ spelled word)
Spells word (Err NotANumber) = Digits word → ⊥
Spells word (Err UnknownCommand) = ⊥
Spells word (Err WordMissing) = ⊥
Spells word (Err WordTooMany) = ⊥
Spells word (Err UnknownCalendar) = ⊥
Spells word (Err NotBytes) = ⊥
