use Rattle.std.proofs.Common.{◌≡◌, ◌++◌, drop}
use Rattle.std.specs.Option.{option_to_list}
use Rattle.mast_mapping.specs.inside.Kinds.{kinds}
use Rattle.mast_mapping.proofs.sources.only_kind.Given as goal

-- what is found and what the entries that are left have make the whole
abbrev pub invariant-loop-entry : goal.invariant-loop-entry
invariant-loop-entry l = option_to_list l.found ++ kinds l.tables l.alias l.name (drop l.entry-index l.entries) ≡ kinds l.tables l.alias l.name l.entries
