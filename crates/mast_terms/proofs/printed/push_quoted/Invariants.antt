use Rattle.std.proofs.Common.{◌≡◌, ◌++◌, ◌∷◌, [], drop}
use Rattle.std.specs.List.{flat_map}
use Rattle.mast_terms.specs.Printed.{escaped, quoted}
use Rattle.mast_terms.specs.inside.Growth.{Grows}
use Rattle.mast_terms.proofs.printed.push_quoted.Given as goal

-- what is written and what is left make the text in quotes
abbrev pub invariant-loop-byte : goal.invariant-loop-byte
invariant-loop-byte l = record {
  text : l.out.items ++ (flat_map escaped (drop l.byte-index l.text) ++ 34 ∷ []) ≡ l.fn.out.items ++ quoted l.text;
  grows : Grows l.fn.out.items l.out.items;
}
