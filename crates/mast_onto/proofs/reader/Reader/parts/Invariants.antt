use Rattle.std.proofs.Common.{drop, map}
use Rattle.mast_expressions.specs.Reads.{page}
use Rattle.mast_onto.specs.Rights.{part_judged, IsPart}
use Rattle.mast_onto.specs.inside.Reads.{Leads}
use Rattle.mast_onto.specs.inside.Shown.{shown_part}
use Rattle.mast_onto.proofs.reader.Reader.parts.Given as goal

-- what is read of the forms that are left leads to the whole
abbrev pub invariant-loop-form : goal.invariant-loop-form
invariant-loop-form l =
    Leads (part_judged (page l.self.places)) (IsPart (page l.self.places)) l.fn.vocab (map shown_part l.forms) l.vocab (map shown_part (drop l.form-index l.forms)) l.parts
