-- The tables so far fit their declarations.
use Rattle.std.proofs.Common.{take}
use Rattle.mast_canon.specs.Fitting.{Fits}
use Rattle.mast_join_tests.proofs.extension_tests.tables_of.Given as goal

abbrev pub invariant-loop-place : goal.invariant-loop-place
invariant-loop-place l = Fits (take l.place l.decls) l.list
