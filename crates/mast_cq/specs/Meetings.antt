-- What bindings and meetings of the program stand for.
use Rattle.std.specs.Prelude.{Option, Some, None}
use Rattle.mast_cq.specs.declared.atom.Arg.TheVariants.{Var}
use Rattle.mast_cq.specs.Unification.{Replacement, only, after, Meeting}
use Rattle.mast_cq.specs.declared.unifier.Binding.{Binding}
use Rattle.mast_cq.specs.declared.unifier.Bindings.{Bindings}
use Rattle.mast_cq.specs.declared.unifier.Met.{Met}

-- what a binding does to each variable
abbrev pub binding_of : Option Binding → Replacement
binding_of None = Var
binding_of (Some b) = only b.var b.arg

-- what two bindings do to each variable, the first before the second
abbrev pub replacement_of : Bindings → Replacement
replacement_of b = after (binding_of b.first) (binding_of b.second)

-- the meeting that a value of the program stands for
abbrev pub meeting_of : Option Met → Option Meeting
meeting_of None = None
meeting_of (Some m) = Some (record { replacement = replacement_of m.replacement; atom = m.atom })
