-- `annotation::theorems` meets its contract:
-- the theorems of the files that it names.
use Rattle.annotation.proofs.Truth.{annotate_true, annotate_leaves, annotate_keeps}
use Rattle.annotation.proofs.Uses.{uses_added_lem}
use Rattle.annotation.proofs.Numbers.{sources_in_order, sources_differ, numbers_are_places, numbers_stay}
use Rattle.annotation.proofs.Standings.{standings_stated}
use Rattle.annotation.proofs.Records.{records_numbered, records_marked}
use Rattle.annotation.proofs.UsesRun.{records_used, sources_used}
use Rattle.annotation.proofs.References.{references_all, references_by_number, references_by_rank}
use Rattle.annotation.proofs.Found.{swept_fits}
use Rattle.annotation.proofs.Passes.{definitions_agree, numbers_agree}
use Rattle.annotation.proofs.ByRecords.{references_agree, content_agrees}
use Rattle.annotation.proofs.theorems.Goals as goal

pub returns : goal.returns
returns c = record {
  annotate_true = annotate_true;
  annotate_leaves = annotate_leaves;
  annotate_keeps = annotate_keeps;
  sources_in_order = sources_in_order;
  sources_differ = sources_differ;
  numbers_are_places = numbers_are_places;
  numbers_stay = numbers_stay;
  standings_stated = standings_stated;
  records_numbered = records_numbered;
  records_marked = records_marked;
  records_used = records_used;
  sources_used = sources_used;
  uses_added = uses_added_lem;
  references_all = references_all;
  references_by_number = references_by_number;
  references_by_rank = references_by_rank;
  swept_fits = swept_fits;
  definitions_agree = definitions_agree;
  numbers_agree = numbers_agree;
  references_agree = references_agree;
  content_agrees = content_agrees;
}
