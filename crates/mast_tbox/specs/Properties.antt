-- Properties: which are below which by stated inclusions, and which are equivalent.
use Rattle.std.specs.Prelude.{List}
use Rattle.mast_tbox.specs.declared.expression.Prop.{Prop}
use Rattle.mast_tbox.specs.declared.axiom.Inclusion.{Inclusion}
use Rattle.mast_tbox.specs.Inclusions.{Leads}
use Rattle.mast_tbox.specs.Lists.{Reaches}

-- a list of stated inclusions, which may be empty, leads from the first property to the second
abbrev pub IsBelow : List Inclusion → Prop → Prop → Type 0
IsBelow tbox = Reaches (Leads tbox)

-- each of the two properties is below the other
abbrev pub AreEquivalent : List Inclusion → Prop → Prop → Type 0
AreEquivalent tbox p q = IsBelow tbox p q × IsBelow tbox q p
