-- The stages of the tables so far, and how much these left of the limits.
use Rattle.std.proofs.Common.{◌≡◌, ◌≤◌, ◌++◌, List, IfSome, drop}
use Rattle.mast_canon.specs.Fitting.{Fits}
use Rattle.mast_tables.specs.Rows.{Row}
use Rattle.mast_cli.specs.declared.limits.TheConstants.{TABLE_BYTES}
use Rattle.mast_cli.proofs.LoadingLemmas.{Gone}
use Rattle.mast_cli.proofs.tables.judge_tables.Given as goal

abbrev pub invariant-loop-decl : goal.invariant-loop-decl
invariant-loop-decl g l = record {
  kept : g.F.Files.contents l.files ≡ g.F.Files.contents l.fn.files;
  quiet : g.F.Files.faults l.files ≡ g.F.Files.faults l.fn.files;
  less : l.left.bytes ≤ TABLE_BYTES;
  fits : (more : List (List Row)) → Fits (drop l.decl-index l.decls) more → Fits l.decls (l.tables ++ more);
  told : IfSome (g.F.Files.contents l.fn.files) (λ c. Gone c l.decls (drop l.decl-index l.decls) l.left.bytes l.left.rows l.tables);
}
