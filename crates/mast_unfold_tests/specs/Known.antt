-- Atoms whose constants are known.
use Rattle.std.specs.Prelude.{ℕ, Option, Some, None, Result, Ok, Err}
use Rattle.mast_terms.specs.declared.memory.NoMemory.{NoMemory}
use Rattle.mast_cq.specs.declared.atom.Atom.{Atom}
use Rattle.mast_cq.specs.UnifierMeanings.{IsBelow, KnownAtom}

-- the constants of an atom that was found are below the bound
abbrev pub OnKnown : ℕ → Result (Option Atom) NoMemory → Type 0
OnKnown bound (Ok (Some atom)) = KnownAtom (IsBelow bound) atom
OnKnown bound (Ok None) = Unit {0}
OnKnown bound (Err e) = Unit {0}
