-- The premises of what a hasher is fed: names are below 2^32, as memory has them.
use Rattle.mast_terms.specs.Hashes.{FitsName}
use Rattle.mast_tbox.specs.declared.expression.RoleExpr.{RoleExpr}
use Rattle.mast_tbox.specs.declared.expression.RoleExpr.TheVariants.{Direct, Inverse}
use Rattle.mast_tbox.specs.declared.expression.Basic.{Basic}
use Rattle.mast_tbox.specs.declared.expression.Basic.TheVariants.{Class as BClass, Some as BSome, Subjects}
use Rattle.mast_tbox.specs.declared.expression.Prop.{Prop}
use Rattle.mast_tbox.specs.declared.expression.Prop.TheVariants.{Role as PRole, Attr as PAttr}

-- the name of a role expression fits
abbrev pub FitsRole : RoleExpr → Type 0
FitsRole (Direct p) = FitsName p
FitsRole (Inverse p) = FitsName p

-- the name of a basic concept fits
abbrev pub FitsBasic : Basic → Type 0
FitsBasic (BClass a) = FitsName a
FitsBasic (BSome r) = FitsRole r
FitsBasic (Subjects u) = FitsName u

-- the name of a property fits
abbrev pub FitsProp : Prop → Type 0
FitsProp (PRole r) = FitsRole r
FitsProp (PAttr u) = FitsName u
