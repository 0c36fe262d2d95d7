-- `attributes::attr_value`: all words are left,
-- and one without `=` or with the key ends the search.
use Rattle.std.proofs.Common.{refl}
use Rattle.attributes.specs.Attributes.{words_of, attr_value}
use Rattle.attributes.proofs.WordLaws.{value_plain, value_given}
use Rattle.attributes.proofs.attr_value.Goals as goal

pub loop-word-init : goal.loop-word-init
unfolding attr_value words_of
loop-word-init c = rw c.into_iter-word-iterator.ensures.into_iter_gives refl

pub returns-then-word-equals : goal.returns-then-word-equals
returns-then-word-equals c =
    value_plain c.args.key.now c.loop-word.invariant c.in-Some.word.now _ c.in-Some.ensures.steps c.find_byte-equals.ensures c.if-word-equals.true

pub returns-then-eq : goal.returns-then-eq
returns-then-eq c =
    value_given c.args.key.now c.loop-word.invariant c.in-Some.word.now _ c.in-Some.ensures.steps c.find_byte-equals.ensures c.if-word-equals.false
    c.eq.ensures c.if-eq.true c.bare.ensures
