use Rattle.std.proofs.Common.{◌≡◌, ◌++◌, drop}
use Rattle.std.specs.Option.{option_map, option_to_list}
use Rattle.mast_mapping.specs.Columns.{meanings}
use Rattle.mast_unfold.specs.inside.Lookups.{meant}
use Rattle.mast_unfold.proofs.outputs.place_of.Given as goal

-- what is found and what the entries that are left have make the whole
abbrev pub invariant-loop-entry : goal.invariant-loop-entry
invariant-loop-entry l = record {
  at : l.number ≡ l.entry-index;
  rest : option_to_list (option_map meant l.found) ++ meanings l.tables l.alias l.name l.number (drop l.entry-index l.entries) ≡ meanings l.tables l.alias l.name 0 l.entries;
}
