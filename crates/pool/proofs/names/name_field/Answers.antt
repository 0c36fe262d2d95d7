-- `names::name_field`: no part of the name has the tag,
-- or one is the first that has it.
use Rattle.std.proofs.Common.{rules, refl, ◌∙◌}
use Rattle.std.proofs.lemmas.Iterator.Consumers.{YieldsList-from_first}
use Rattle.std.proofs.lemmas.Iterator.Search.{find_from_yields_List, YieldsList-from_take_while}
use Rattle.std.specs.Prelude.{None, Some}
use Rattle.pool.specs.Views.{field_lent, fields_left}
use Rattle.pool.proofs.FindLaws.{has_tag, is_part, field_none, field_some, part_found}
use Rattle.pool.proofs.names.name_field.Goals as goal

pub returns-in_err-field : goal.returns-in_err-field
returns-in_err-field c =
    rw c.from_residual.ensures
    (field_none c.args.tag _
    (find_from_yields_List (has_tag c.args.tag) c.find.new.self _ None c.in_err-field.ensures.ran
    (YieldsList-from_take_while _ is_part (YieldsList-from_first field_lent fields_left (fields_left c.args.fields) (rw c.take_while-parts.ensures.source refl)) c.take_while-parts.ensures.closure c.take_while-parts.ensures.done (λ x b q k. search rules))
    (λ x b q k. search rules))
    ∙ part_found c.args.tag (fields_left c.args.fields) c.requires.0 c.requires.1)

pub returns : goal.returns
returns c =
    field_some c.args.tag _ (field_lent c.in_ok-field.field)
    (find_from_yields_List (has_tag c.args.tag) c.find.new.self _ (Some c.in_ok-field.field) c.in_ok-field.ensures.ran
    (YieldsList-from_take_while _ is_part (YieldsList-from_first field_lent fields_left (fields_left c.args.fields) (rw c.take_while-parts.ensures.source refl)) c.take_while-parts.ensures.closure c.take_while-parts.ensures.done (λ x b q k. search rules))
    (λ x b q k. search rules))
    ∙ part_found c.args.tag (fields_left c.args.fields) c.requires.0 c.requires.1
