-- The invariant of `attributes::attr_value`:
-- the words that are left give the value.
use Rattle.std.proofs.Common.{◌≡◌}
use Rattle.attributes.specs.Attributes.{attr_value, value_in}
use Rattle.attributes.specs.Values.{words_left}
use Rattle.attributes.proofs.attr_value.Given as goal

abbrev pub invariant-loop-word : goal.invariant-loop-word
invariant-loop-word l = attr_value l.attributes l.key ≡ value_in l.key (words_left l.word-iterator)
