-- The bytes of a script, in hexadecimal.
use Rattle.std.specs.Prelude.{◌≡◌, ℕ, ◌+◌, ◌*◌, ◌<◌, cond, ◌&&◌, ◌⊎◌, List, [], length, Some, None, Ok, Err, vec_items, codes, Option, Result, Vec, nat_lt, slice_index}
use Rattle.std.specs.Char.{digit_value}
use Rattle.std.specs.declared.alloc.Global.{Global}
use Rattle.golimeruth.specs.declared.words.Slip.TheVariants.{UnknownCommand, WordMissing, WordTooMany, NotANumber, NumberTooLarge, UnknownCalendar, NotBytes}
use Rattle.golimeruth.specs.declared.words.Unread.{Unread}
use Rattle.golimeruth.specs.declared.words.Unread.TheVariants.{Slip as TheSlip, Memory}

-- the byte that two digits spell, the high one first; a digit is '0' to '9', 'A' to 'F' or 'a' to 'f'
abbrev pub pair_of : ℕ → ℕ → Option ℕ
pair_of high low =
    cond (nat_lt (digit_value high) 16 && nat_lt (digit_value low) 16) (Some (16 * digit_value high + digit_value low)) None

-- the word is pairs of digits, one for each byte
pub record Paired (word bytes : List ℕ) : Type 0 where
  pub long : length word ≡ 2 * length bytes
  pub each : (k : ℕ) → k < length bytes → pair_of (slice_index word (2 * k)) (slice_index word (2 * k + 1)) ≡ Some (slice_index bytes k)

-- the word spells the bytes; a dash spells none
abbrev pub Spelled : List ℕ → List ℕ → Type 0
Spelled word bytes = ((word ≡ codes "-") × (bytes ≡ [])) ⊎ Paired word bytes

-- what a word is read as; memory may run out
abbrev pub SpellsBytes : List ℕ → Result (Vec ℕ Global) Unread → Type 0
SpellsBytes word (Ok bytes) = Spelled word (vec_items bytes)
SpellsBytes word (Err (Memory e)) = Unit {0}
SpellsBytes word (Err (TheSlip NotBytes)) = (bytes : List ℕ) → Spelled word bytes → ⊥
SpellsBytes word (Err (TheSlip UnknownCommand)) = ⊥
SpellsBytes word (Err (TheSlip WordMissing)) = ⊥
SpellsBytes word (Err (TheSlip WordTooMany)) = ⊥
SpellsBytes word (Err (TheSlip NotANumber)) = ⊥
SpellsBytes word (Err (TheSlip NumberTooLarge)) = ⊥
SpellsBytes word (Err (TheSlip UnknownCalendar)) = ⊥
