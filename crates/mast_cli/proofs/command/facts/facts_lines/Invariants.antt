-- The lines are those of the split mappings so far.
use Rattle.std.proofs.Common.{◌≡◌, [], drop}
use Rattle.mast_cli.proofs.MapLemmas.{Written}
use Rattle.mast_cli.proofs.command.facts.facts_lines.Given as goal

abbrev pub invariant-loop-map : goal.invariant-loop-map
invariant-loop-map l = record {
  clean : l.lines.begun ≡ [];
  written : Written l.spec.vocab l.spec.tables l.tables.list (drop l.map-index l.spec.maps) l.spec.maps l.lines.lines;
}
