-- `add_names`: the names are joined,
-- once those that are left are.
use Rattle.base.specs.Fold.{fold}
use Rattle.pool.specs.Views.{names_left}
use Rattle.source_parts.specs.declared.Text.{Text}
use Rattle.source_parts.specs.Parts.{Edits}
use Rattle.source_text.specs.Text.{add_name}
use Rattle.source_text.proofs.add_names.Given as goal

abbrev pub invariant-loop-name : goal.invariant-loop-name
invariant-loop-name l =
    (last : Text) → Edits (λ text. fold add_name text (names_left l.name-iterator)) l.text last
    → Edits (λ text. fold add_name text (names_left l.initial.name-iterator)) l.initial.text last
