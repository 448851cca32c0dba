use Rattle.std.proofs.Common.{true, ◌&&◌, ◌∙◌, rules, tests}
use Rattle.std.specs.Char.{is_ascii_hexdigit}
use Rattle.std.proofs.lemmas.Iterator.{YieldsList-from_slice}
use Rattle.std.proofs.lemmas.Iterator.Consumers.{fold_from_yields_List}
use Rattle.golimeruth.proofs.Hexadecimal.{all_asked}
use Rattle.golimeruth.proofs.words.is_hexadecimal.Goals as goal

pub returns : goal.returns
returns c =
    fold_from_yields_List _ (λ all byte. all && is_ascii_hexdigit byte) true _ c.fold.ensures.ran (YieldsList-from_slice c.args.word.now (cc)) (λ a x b q k. search (rules, tests))
    ∙ all_asked is_ascii_hexdigit c.args.word.now
