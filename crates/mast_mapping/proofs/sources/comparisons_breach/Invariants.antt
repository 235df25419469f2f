use Rattle.std.proofs.Common.{◌≡◌, drop}
use Rattle.mast_mapping.specs.Queries.{comparisons_breach}
use Rattle.mast_mapping.proofs.sources.comparisons_breach.Given as goal

-- what is wrong with the comparisons that are left is wrong with all
abbrev pub invariant-loop-c : goal.invariant-loop-c
invariant-loop-c l = comparisons_breach l.tables l.entries (drop l.c-index l.comparisons) ≡ comparisons_breach l.tables l.entries l.comparisons
