-- Follows the code; nothing to believe: the readers' types,
-- as the layout's values.
use Rattle.std.specs.Prelude.{List}
use Rattle.base.specs.Lent.{lent}
use Rattle.pool.specs.declared.field.Field.{Field as FieldPart}
use Rattle.pool.specs.declared.fields.Fields.{Fields}
use Rattle.pool.specs.declared.names.NameParts.{NameParts}
use Rattle.pool.specs.declared.names.Names.{Names}
use Rattle.pool.specs.Fields.{Field}
use Rattle.pool.specs.Entries.{Name, names_in}
use Rattle.pool.specs.Readers.{all_fields}

-- a field that is lent
abbrev pub field_lent : FieldPart → Field
field_lent f = record { tag = f.tag; bytes = f.bytes.now }

-- the fields that are left
abbrev pub fields_left : Fields → List Field
fields_left f = all_fields f.bytes.now

-- a name that is lent
abbrev pub name_lent : NameParts → Name
name_lent n = record { family = lent n.family; given = lent n.given; literal = lent n.literal }

-- the names that are left
abbrev pub names_left : Names → List Name
names_left n = names_in (fields_left n.fields)
