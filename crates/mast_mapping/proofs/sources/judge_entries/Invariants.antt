use Rattle.std.proofs.Common.{◌≡◌, [], drop}
use Rattle.mast_mapping.specs.Queries.{from_breach}
use Rattle.mast_mapping.proofs.sources.judge_entries.Given as goal

-- what is wrong with the entries that are left is wrong with all
abbrev pub invariant-loop-entry : goal.invariant-loop-entry
invariant-loop-entry l = from_breach l.tables l.aliases (drop l.entry-index l.entries) ≡ from_breach l.tables [] l.entries
