-- The answer of `locator::fits_at`: the bytes of the word beside those of the text,
-- by a law of proofs/Words.
use Rattle.std.proofs.Common.{◌∙◌, rules}
use Rattle.std.proofs.lemmas.Iterator.{YieldsList-from_slice, YieldsList-from_zip}
use Rattle.std.proofs.lemmas.Iterator.Search.{all_from_yields_List}
use Rattle.locator.proofs.Words.{alike, fits_alike}
use Rattle.locator.proofs.fits_at.Goals as goal

pub returns-then-word-text : goal.returns-then-word-text
returns-then-word-text c =
    all_from_yields_List alike c.all.new.self _ c.all.result c.all.ensures.ran
    (YieldsList-from_zip (YieldsList-from_slice c.args.word.now (cc)) (YieldsList-from_slice _ (cc)))
    (λ x b q k. search rules)
    ∙ fits_alike _ _ _ c.if-word-text.true
