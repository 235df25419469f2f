-- The rows in order are of the tables, and their lines stand behind the line of the origin.
use Rattle.std.proofs.Common.{subst, sym}
use Rattle.std.specs.List.{AllByRecursion}
use Rattle.mast_write.specs.ConflictLines.{IsOfTables}
use Rattle.mast_write.proofs.ConflictLemmas.{all_in_order, conflict_is}
use Rattle.mast_write.proofs.conflicts.conflict_text.Goals as goal

pub push_rows-requires : goal.push_rows-requires
push_rows-requires c =
    subst (AllByRecursion (IsOfTables c.args.tables.now)) (sym c.deref.ensures.value)
    (all_in_order (IsOfTables c.args.tables.now) c.args.rows.now c.in_ok-ordered.ordered.items c.in_ok-ordered.ensures c.requires)

pub returns : goal.returns
returns c =
    conflict_is c.args.origin.now c.args.tables.now c.args.rows.now c.in_ok-ordered.ordered.items _ _ c.push_rows.new.text.items c.in_ok-ordered.ensures c.deref.ensures.value
    c.in_ok-text.ensures c.in_ok-push_rows.ensures
