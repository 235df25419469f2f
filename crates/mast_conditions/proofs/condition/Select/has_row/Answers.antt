use Rattle.std.proofs.Common.{ap, sym, ◌∙◌}
use Rattle.mast_conditions.specs.declared.condition.Condition.{Condition}
use Rattle.mast_conditions.specs.declared.condition.Condition.TheVariants.{Row, rolls-Row}
use Rattle.mast_conditions.proofs.RowLemmas.{asks_next}
use Rattle.mast_conditions.proofs.condition.Select.has_row.Goals as goal

pub loop-entry-preserved : goal.loop-entry-preserved
loop-entry-preserved c =
    let l = c.loop-entry in
    asks_next c.args.self.entries c.args.self.condition l.entries c.pop.new.self c.in-Some.entry l.condition (Row c.in-Some.entry c.in_ok-new.field-0) c.in-Some.ensures
    (ap (λ (k : Condition). Row c.in-Some.entry k) c.in_ok-new.ensures ∙ sym (rolls-Row c.in-Some.entry l.condition)) l.invariant
