-- `write_text`: names, year and title are the body,
-- and a stop follows what is not empty.
use Rattle.std.proofs.Common.{◌∙◌, sym, refl, rules}
use Rattle.pool.specs.Entries.{entry_of}
use Rattle.pool.specs.Views.{fields_left}
use Rattle.source_parts.specs.Parts.{Holds}
use Rattle.source_parts.proofs.PartLaws.{holds_as}
use Rattle.source_text.specs.Text.{body_of, source_text_of}
use Rattle.source_text.proofs.TextLaws.{nothing_held, head_year, body_title, text_none, text_stop, held_area}
use Rattle.source_text.proofs.write_text.Goals as goal

pub returns-then-text-eq0 : goal.returns-then-text-eq0
returns-then-text-eq0 c =
    let e = entry_of (fields_left c.args.fields) in
    let h : Holds (body_of e) c.args.area.now c.join-2.new.self =
    holds_as (body_title (fields_left c.args.fields) c.requires.1)
    (c.join-2.ensures.held _ _
    (holds_as (head_year e refl c.requires.0) (c.join.ensures.held _ _ (c.add_names.ensures.held _ _ (nothing_held _ refl))))) in
    let k = text_none e h c.if-text-eq0.true in
    let n = c.join-2.ensures.same_area ∙ c.join.ensures.same_area ∙ c.add_names.ensures.same_area in
    record {
      count = sym c.if-text-eq0.true ∙ k.count;
      area = λ r. held_area (source_text_of e) c.args.area.now c.join-2.new.self k n (search rules) r;
    }

pub returns : goal.returns
returns c =
    let e = entry_of (fields_left c.args.fields) in
    let h : Holds (body_of e) c.args.area.now c.join-2.new.self =
    holds_as (body_title (fields_left c.args.fields) c.requires.1)
    (c.join-2.ensures.held _ _
    (holds_as (head_year e refl c.requires.0) (c.join.ensures.held _ _ (c.add_names.ensures.held _ _ (nothing_held _ refl))))) in
    let k = holds_as (text_stop e h c.if-text-eq0.false) (c.push.ensures.held _ _ h) in
    let n = c.push.ensures.same_area ∙ c.join-2.ensures.same_area ∙ c.join.ensures.same_area ∙ c.add_names.ensures.same_area in
    record {
      count = k.count;
      area = λ r. held_area (source_text_of e) c.args.area.now c.push.new.self k n (search rules) r;
    }
