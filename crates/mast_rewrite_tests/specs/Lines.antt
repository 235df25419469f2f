-- Inclusions as the axioms of a TBox.
use Rattle.std.specs.Prelude.{List, map}
use Rattle.mast_tbox.specs.declared.axiom.Inclusion.{Inclusion}
use Rattle.mast_tbox.specs.declared.axiom.Lined.{Lined}

-- the inclusions as axioms of the first line
abbrev pub on_one_line : List Inclusion → List (Lined Inclusion)
on_one_line = map (λ i. record { line = 1; item = i })
