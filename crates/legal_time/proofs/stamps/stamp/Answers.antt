use Rattle.std.proofs.Common.{◌≡◌, Bool, true, false, not, sym, refl, ◌∙◌, arith}
use mathlib.Core.Bool.{beq}
use Rattle.legal_time.proofs.Labels.{label_found, one_stamp}
use Rattle.legal_time.proofs.stamps.stamp.Goals as goal

-- what the test on the two marks tells
same : (a b : Bool) → not (beq a b) ≡ false → a ≡ b
same true true e = refl
same true false e = cc
same false true e = cc
same false false e = refl

pub returns : goal.returns
returns c =
    let found =
    label_found _ _ _ _ (omega arith) (omega arith) (omega arith) (omega (arith, c.offset_of-offset.ensures))
    (sym c.is_summer.ensures ∙ same _ _ c.if-is_summer-summer.false) in
    (found, λ t h. one_stamp t _ _ _ _ h found)
