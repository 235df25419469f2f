-- The items so far lead nowhere.
use Rattle.std.proofs.Common.{◌≡◌, drop}
use Rattle.mast_constr.specs.Paths.{some_leads}
use Rattle.mast_constr.specs.inside.Rules.{page_in}
use Rattle.mast_constr.proofs.reader.Reader.some_leads.Given as goal

abbrev pub invariant-loop-item : goal.invariant-loop-item
invariant-loop-item l = some_leads (page_in l.self) (drop l.item-index l.items) ≡ some_leads (page_in l.self) l.items
