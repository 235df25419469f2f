-- The lines of the choices so far, and those of the choices that are left.
use Rattle.std.proofs.Common.{◌≡◌, ◌++◌, [], drop}
use Rattle.mast_cli.specs.inside.FactLines.{lines_of}
use Rattle.mast_cli.proofs.command.facts.put_choices.Given as goal

abbrev pub invariant-loop-number : goal.invariant-loop-number
invariant-loop-number l = record {
  clean : l.lines.begun ≡ [];
  lines : l.lines.lines ++ lines_of l.plan l.tables (drop l.number l.chosen.list) ≡ l.fn.lines.lines ++ lines_of l.plan l.tables l.chosen.list;
}
