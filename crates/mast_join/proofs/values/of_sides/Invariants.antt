use Rattle.std.proofs.Common.{List, drop}
use Rattle.std.specs.Prelude.{Option}
use Rattle.mast_terms.specs.declared.value.Value.{Value}
use Rattle.mast_join.specs.inside.Values.{AreNoted, HasReadTo, KeepsNumbers, ReadAll}
use Rattle.mast_join.proofs.values.of_sides.Given as goal

-- what is read so far, and what is left to be read
abbrev pub invariant-loop-side : goal.invariant-loop-side
invariant-loop-side l = record {
  noted : AreNoted l.terms.terms l.tables.list l.known;
  kept : KeepsNumbers l.fn.terms l.terms;
  reads : (vs : Option (List Value)) → ReadAll l.fn.terms.terms l.tables.list l.choice l.sides vs → HasReadTo l.terms.terms l.tables.list l.choice (drop l.side-index l.sides) l.numbers.items vs;
}
