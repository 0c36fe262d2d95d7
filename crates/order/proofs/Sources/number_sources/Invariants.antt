-- The invariant of `Sources::number_sources`:
-- the first places hold the numbers of the sources for those of their definitions.
use Rattle.std.proofs.Common.{◌≡◌, map, take}
use Rattle.base.specs.Lists.{written}
use Rattle.order.specs.ByDefinitions.{source_of}
use Rattle.order.proofs.Sources.number_sources.Given as goal

abbrev pub invariant-loop-reference : goal.invariant-loop-reference
invariant-loop-reference l = l.reference-items ≡ written (map (source_of l.self.definitions l.self.m) (take l.reference-index l.initial.reference-items)) l.initial.reference-items
