use Rattle.std.proofs.Common.{◌≡◌, ◌++◌, drop, map}
use Rattle.std.specs.List.{flat_map}
use Rattle.mast_expressions.specs.Reads.{page}
use Rattle.mast_onto.specs.Rights.{right_forms}
use Rattle.mast_onto.specs.inside.Shown.{shown_part}
use Rattle.mast_onto.proofs.reader.Reader.+opening.Given as goal

-- what is opened and the parts of the items that are left make the whole
abbrev pub invariant-open_each-loop-item : goal.invariant-open_each-loop-item
invariant-open_each-loop-item l =
    map shown_part l.forms.items ++ flat_map (right_forms (page l.self.places)) (drop l.item-index l.items)
    ≡ map shown_part l.fn.forms.items ++ flat_map (right_forms (page l.self.places)) l.items
