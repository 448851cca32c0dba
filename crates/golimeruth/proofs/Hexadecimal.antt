-- What the decoder of hexadecimal text reads is what a word spells.
use Rattle.std.proofs.Common.{◌≡◌, ℕ, zero, suc, ◌+◌, ◌*◌, ◌<◌, Bool, true, false, cond, ◌&&◌, List, [], ◌∷◌, length, nat_lt, slice_index, codes, inl, inr, Option, Some, None, Result, Ok, Err, refl, sym, ap, ◌∙◌, arith}
use Rattle.std.specs.Prelude.{MatchOption}
use Rattle.std.specs.Char.{digit_value, is_ascii_hexdigit}
use Rattle.std.specs.List.{fold, list_all}
use Rattle.std.proofs.Math.Bool.{and-true, and_assoc}
use Rattle.std.proofs.lemmas.Bool.Decides.{nat_tests}
use Rattle.hex.specs.Hex.{decode_of, decode_pairs, digit_or_error, hex_digit_value, pair_value, ◌>>=◌}
use Rattle.hex.specs.declared.error.FromHexError.{FromHexError}
use Rattle.hex.proofs.HexLemmas.{decode_of-even, decode_of-ok}
use Rattle.hex.proofs.Pairs.{cons_byte, decode_pairs-ok_pair}
use Rattle.golimeruth.specs.Hexadecimal.{pair_of, Paired, Spelled}

-- the decoder's digits are those of a word, with the same values
hex_digit_value-digit_value : (c : ℕ) → hex_digit_value c ≡ cond (nat_lt (digit_value c) 16) (Some (digit_value c)) None
hex_digit_value-digit_value c = grind (arith, nat_tests)

-- two digits are read as the byte that they spell, and else not at all
abbrev ReadAs : Option ℕ → Result ℕ FromHexError → Type 0
ReadAs o r = MatchOption o ((v : ℕ) → r ≡ Ok v → ⊥) (λ v. r ≡ Ok v)

-- the same, of any two tests with their values
read_from_tests : (a b i x y : ℕ) (p q : Bool)
    → ReadAs (cond (p && q) (Some (16 * x + y)) None) (digit_or_error a i (cond p (Some x) None) >>= (λ h. digit_or_error b (i + 1) (cond q (Some y) None) >>= (λ l. Ok (h * 16 + l))))
read_from_tests a b i x y true true = ap Ok (omega arith)
read_from_tests a b i x y true false = λ v h. cc h
read_from_tests a b i x y false q = λ v h. cc h

-- the decoder reads two digits so
ReadAs-pair_value : (a b i : ℕ) → ReadAs (pair_of a b) (pair_value a b i)
ReadAs-pair_value a b i =
    rw (hex_digit_value-digit_value a, hex_digit_value-digit_value b)
    (read_from_tests a b i (digit_value a) (digit_value b) (nat_lt (digit_value a) 16) (nat_lt (digit_value b) 16))

-- a byte that is spelled is read
read_pair : (a b v i : ℕ) → pair_of a b ≡ Some v → pair_value a b i ≡ Ok v
read_pair a b v i spelled = rw spelled at (ReadAs-pair_value a b i)

-- a byte that is read is spelled
pair_read : (o : Option ℕ) (r : Result ℕ FromHexError) (v : ℕ) → ReadAs o r → r ≡ Ok v → o ≡ Some v
pair_read None r v reads h = absurd (reads v h)
pair_read (Some w) r v reads h = cc (reads, h)

-- an answer comes of a value that came before
bound : {A B : Type 0} (r : Result A FromHexError) (f : A → Result B FromHexError) (y : B) → (r >>= f) ≡ Ok y → (x : A) × (r ≡ Ok x) × (f x ≡ Ok y)
bound (Ok x) f y h = (x, refl, h)
bound (Err e) f y h = cc h

-- a pair of digits before others
Paired-cons : (a b v : ℕ) (rest bytes : List ℕ) → pair_of a b ≡ Some v → Paired rest bytes → Paired (a ∷ b ∷ rest) (v ∷ bytes)
Paired-cons a b v rest bytes first others = record { long = omega (arith, others.long); each = each }
  where
    each : (k : ℕ) → k < suc (length bytes) → pair_of (slice_index (a ∷ b ∷ rest) (2 * k)) (slice_index (a ∷ b ∷ rest) (2 * k + 1)) ≡ Some (slice_index (v ∷ bytes) k)
    each zero h = first
    each (suc k) h =
        let high : 2 * suc k ≡ suc (suc (2 * k)) = omega arith in
        let low : suc (suc (2 * k)) + 1 ≡ suc (suc (2 * k + 1)) = omega arith in
        rw (high, low) (others.each k (omega arith))

-- the pairs after the first
Paired-tail : (a b v : ℕ) (rest bytes : List ℕ) → Paired (a ∷ b ∷ rest) (v ∷ bytes) → Paired rest bytes
Paired-tail a b v rest bytes p = record {
  long = omega (arith, p.long);
  each =
      λ k h.
      let high : 2 * suc k ≡ suc (suc (2 * k)) = omega arith in
      let low : suc (suc (2 * k)) + 1 ≡ suc (suc (2 * k + 1)) = omega arith in
      rw (high, low) at (p.each (suc k) (omega arith));
}

-- pairs that are read are those of the word
Paired-from_decode_pairs : (i : ℕ) (word bytes : List ℕ) → decode_pairs i word ≡ Ok bytes → Paired word bytes
unfolding decode_pairs
Paired-from_decode_pairs i [] [] h = record { long = refl; each = λ k h. absurd (omega arith) }
Paired-from_decode_pairs i [] (v ∷ bytes) h = cc h
Paired-from_decode_pairs i (a ∷ []) bytes h = cc h
Paired-from_decode_pairs i (a ∷ b ∷ rest) bytes h =
    let first = bound (pair_value a b i) _ bytes h in
    let others = bound (decode_pairs (i + 2) rest) _ bytes first.2 in
    let whole : first.0 ∷ others.0 ≡ bytes = cc others.2 in
    rw (← whole)
    (Paired-cons a b first.0 rest others.0 (pair_read _ _ first.0 (ReadAs-pair_value a b i) first.1)
    (Paired-from_decode_pairs (i + 2) rest others.0 others.1))

-- the pairs of a word are read
decode_pairs-paired : (i : ℕ) (word bytes : List ℕ) → Paired word bytes → decode_pairs i word ≡ Ok bytes
unfolding decode_pairs
decode_pairs-paired i [] [] p = refl
decode_pairs-paired i (a ∷ b ∷ rest) (v ∷ bytes) p =
    let first = read_pair a b v i (p.each 0 (omega arith)) in
    decode_pairs-ok_pair i a b v rest first ∙ ap (cons_byte v) (decode_pairs-paired (i + 2) rest bytes (Paired-tail a b v rest bytes p))
decode_pairs-paired i [] (v ∷ bytes) p = absurd (omega (arith, p.long))
decode_pairs-paired i (a ∷ []) bytes p = absurd (omega (arith, p.long))
decode_pairs-paired i (a ∷ b ∷ rest) [] p = absurd (omega (arith, p.long))

-- bytes that are read are spelled
pub spelled_as_read : (word bytes : List ℕ) → decode_of word ≡ Ok bytes → Spelled word bytes
spelled_as_read word bytes h =
    let even = (decode_of-ok word bytes h).0 in
    inr (Paired-from_decode_pairs 0 word bytes (sym (decode_of-even word even) ∙ h))

-- a word that is not read spells nothing, but for the dash
pub unread_spells_nothing : (word bytes : List ℕ) (e : FromHexError) → (word ≡ codes "-" → ⊥) → decode_of word ≡ Err e → Spelled word bytes → ⊥
unread_spells_nothing word bytes e other h (inl dash) = other dash.0
unread_spells_nothing word bytes e other h (inr pairs) = cc (h, decode_of-even word (omega (arith, pairs.long)), decode_pairs-paired 0 word bytes pairs)

-- a digit has a value below 16, and nothing else has
below_16 : (c : ℕ) → nat_lt (digit_value c) 16 ≡ is_ascii_hexdigit c
below_16 c = grind (arith, nat_tests)

-- two digits that spell a byte
both_digits : (a b v : ℕ) (p q : Bool) (o : ℕ) → cond (p && q) (Some o) None ≡ Some v → (p ≡ true) × (q ≡ true)
both_digits a b v true true o h = (refl, refl)
both_digits a b v true false o h = cc h
both_digits a b v false q o h = cc h

digits_of : (a b v : ℕ) → pair_of a b ≡ Some v → (is_ascii_hexdigit a ≡ true) × (is_ascii_hexdigit b ≡ true)
digits_of a b v h =
    let both = both_digits a b v (nat_lt (digit_value a) 16) (nat_lt (digit_value b) 16) _ h in
    (sym (below_16 a) ∙ both.0, sym (below_16 b) ∙ both.1)

-- a word of pairs is all digits
all_digits : (word bytes : List ℕ) → Paired word bytes → list_all is_ascii_hexdigit word ≡ true
all_digits [] [] p = refl
all_digits (a ∷ b ∷ rest) (v ∷ bytes) p =
    let both = digits_of a b v (p.each 0 (omega arith)) in
    rw (both.0, both.1) (all_digits rest bytes (Paired-tail a b v rest bytes p))
all_digits [] (v ∷ bytes) p = absurd (omega (arith, p.long))
all_digits (a ∷ []) bytes p = absurd (omega (arith, p.long))
all_digits (a ∷ b ∷ rest) [] p = absurd (omega (arith, p.long))

-- a word that has something else than digits spells nothing, but for the dash
pub other_digits_spell_nothing : (word bytes : List ℕ) → (word ≡ codes "-" → ⊥) → list_all is_ascii_hexdigit word ≡ false → Spelled word bytes → ⊥
other_digits_spell_nothing word bytes other h (inl dash) = other dash.0
other_digits_spell_nothing word bytes other h (inr pairs) = cc (h, all_digits word bytes pairs)

-- a test of all, asked of one after the other
all_after : {X : Type 0} (test : X → Bool) (so_far : Bool) (xs : List X) → fold (λ all x. all && test x) so_far xs ≡ so_far && list_all test xs
all_after test so_far [] = sym (and-true so_far)
all_after test so_far (x ∷ xs) = all_after test (so_far && test x) xs ∙ and_assoc so_far (test x) (list_all test xs)

pub all_asked : {X : Type 0} (test : X → Bool) (xs : List X) → fold (λ all x. all && test x) true xs ≡ list_all test xs
all_asked test xs = all_after test true xs
