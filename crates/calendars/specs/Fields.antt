-- A layout as a list of fields: each has its offset and is lawful or not. The first that is not decides.
use Rattle.std.specs.Prelude.{ℕ, zero, suc, ◌+◌, ◌-◌, ◌*◌, Bool, cond, not, ◌&&◌, ◌||◌, List, [], ◌∷◌, ◌++◌, Some, None, Option, ◌==◌, nat_le, nat_lt, slice_index}
use Rattle.legal_time.specs.Refusals.{Reply, gives, refuses}
use Rattle.calendars.specs.Meanings.{Verdict, reads, faults}

pub record Field : Type 0 where
  pub offset : ℕ
  pub lawful : Bool

abbrev pub field : ℕ → Bool → Field
field offset lawful = record { offset = offset; lawful = lawful }

-- the offset of the first wrong field
abbrev pub first_wrong : List Field → Option ℕ
first_wrong [] = None
first_wrong (f ∷ fs) = cond f.lawful (first_wrong fs) (Some f.offset)

-- the fields of n parts from part i on
unfoldable pub parts : (ℕ → List Field) → ℕ → ℕ → List Field
parts fields i zero = []
parts fields i (suc n) = fields i ++ parts fields (i + 1) n

-- question 8: is every field lawful? The place is the first wrong field's offset.
abbrev pub passed : {X : Type 0} → X → Option ℕ → Verdict X
passed x None = reads x
passed x (Some offset) = faults 8 offset

-- what a check answers that found this first wrong field
abbrev pub found : Option ℕ → Reply (Unit {0})
found None = gives tt
found (Some offset) = refuses 8 0 offset

-- the byte at an offset, and the number in the two bytes there, high byte first
abbrev pub byte_at : List ℕ → ℕ → ℕ
byte_at bytes k = slice_index bytes k

abbrev pub wide_at : List ℕ → ℕ → ℕ
wide_at bytes k = 256 * byte_at bytes k + byte_at bytes (k + 1)

-- 1 to n
abbrev pub up_to : ℕ → ℕ → Bool
up_to n x = nat_le 1 x && nat_le x n

-- three letters, then version 1 in 16 bits
unfoldable pub marked : List ℕ → List ℕ → Bool
marked letters bytes =
    (byte_at bytes 0 == byte_at letters 0)
    && (byte_at bytes 1 == byte_at letters 1 && (byte_at bytes 2 == byte_at letters 2 && wide_at bytes 3 == 1))

-- the k-th of some bytes from `first` on, each 1 to n
unfoldable pub choice : List ℕ → ℕ → ℕ → ℕ → List Field
choice bytes n first k = field (first + k) (up_to n (byte_at bytes (first + k))) ∷ []

-- The eight labels, three bytes each, stand at `labels`; label p names period p, unless it is XXX.
unfoldable pub named : List ℕ → ℕ → ℕ → Bool
named bytes labels p =
    not (byte_at bytes (labels + 3 * (p - 1)) == 88
    && (byte_at bytes (labels + 3 * (p - 1) + 1) == 88 && byte_at bytes (labels + 3 * (p - 1) + 2) == 88))

unfoldable pub printable : ℕ → Bool
printable byte = nat_le 32 byte && nat_le byte 126

-- a label is one field of three bytes from 32 to 126
unfoldable pub label_fields : List ℕ → ℕ → ℕ → List Field
label_fields bytes labels k =
    field (labels + 3 * k)
    (printable (byte_at bytes (labels + 3 * k))
    && (printable (byte_at bytes (labels + 3 * k + 1)) && printable (byte_at bytes (labels + 3 * k + 2)))) ∷ []

-- A day type at `base` is a slot count and then its slots, each a start minute in two bytes and a period.
abbrev pub start_at : List ℕ → ℕ → ℕ → ℕ
start_at bytes base i = wide_at bytes (base + 1 + 3 * i)

abbrev pub period_at : List ℕ → ℕ → ℕ → ℕ
period_at bytes base i = byte_at bytes (base + 1 + 3 * i + 2)

-- the first start is 0, starts rise, and all are below 1,440; past the count a start is 0
unfoldable pub start_lawful : List ℕ → ℕ → ℕ → Bool
start_lawful bytes base i =
    cond (i == 0 || nat_le (byte_at bytes base) i) (start_at bytes base i == 0)
    (nat_lt (start_at bytes base (i - 1)) (start_at bytes base i) && nat_lt (start_at bytes base i) 1440)

-- a period is 1 to 8 and has a label other than XXX; past the count it is 0
unfoldable pub period_lawful : List ℕ → ℕ → ℕ → ℕ → Bool
period_lawful bytes labels base i =
    cond (nat_le (byte_at bytes base) i) (period_at bytes base i == 0)
    (up_to 8 (period_at bytes base i) && named bytes labels (period_at bytes base i))

-- a slot has two fields
unfoldable pub slot_fields : List ℕ → ℕ → ℕ → ℕ → List Field
slot_fields bytes labels base i =
    field (base + 1 + 3 * i) (start_lawful bytes base i)
    ∷ field (base + 1 + 3 * i + 2) (period_lawful bytes labels base i)
    ∷ []

-- a day type with room for n slots
unfoldable pub day_fields : List ℕ → ℕ → ℕ → ℕ → List Field
day_fields bytes labels n base = field base (up_to n (byte_at bytes base)) ∷ parts (slot_fields bytes labels base) 0 n

-- day type k of those that stand one after the other from `first` on
unfoldable pub day_at : List ℕ → ℕ → ℕ → ℕ → ℕ → List Field
day_at bytes labels n first k = day_fields bytes labels n (first + (1 + 3 * n) * k)
