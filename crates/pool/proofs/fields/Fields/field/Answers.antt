-- `Fields::field`: no field has the tag,
-- or one is the first that has it.
use Rattle.std.proofs.Common.{rules, refl}
use Rattle.std.proofs.lemmas.Iterator.Consumers.{YieldsList-from_first}
use Rattle.std.proofs.lemmas.Iterator.Search.{find_from_yields_List}
use Rattle.std.specs.Prelude.{None, Some}
use Rattle.pool.specs.Views.{field_lent, fields_left}
use Rattle.pool.proofs.FindLaws.{has_tag, field_none, field_some}
use Rattle.pool.proofs.fields.Fields.field.Goals as goal

pub returns-in_err-field : goal.returns-in_err-field
returns-in_err-field c =
    rw c.from_residual.ensures
    (field_none c.args.tag (fields_left c.args.self)
    (find_from_yields_List (has_tag c.args.tag) c.find.new.self _ None c.in_err-field.ensures.ran (YieldsList-from_first field_lent fields_left _ refl) (λ x b q k. search rules)))

pub returns : goal.returns
returns c =
    field_some c.args.tag (fields_left c.args.self) (field_lent c.in_ok-field.field)
    (find_from_yields_List (has_tag c.args.tag) c.find.new.self _ (Some c.in_ok-field.field) c.in_ok-field.ensures.ran (YieldsList-from_first field_lent fields_left _ refl) (λ x b q k. search rules))
