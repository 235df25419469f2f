use Rattle.std.proofs.Common.{take}
use Rattle.mast_join.specs.inside.Keeping.{IsKept, IsStoreMore, extended}
use Rattle.mast_join.specs.inside.Namings.{AreMadePatterns}
use Rattle.mast_join.proofs.conjunction.atom_patterns.Given as goal

-- the patterns so far
abbrev pub invariant-loop-number : goal.invariant-loop-number
invariant-loop-number l = IsKept l.base l.store × IsStoreMore l.fn.store l.store × AreMadePatterns (extended l.base l.store) l.first (take l.number l.atoms) (take l.number l.fronts) l.patterns.items
