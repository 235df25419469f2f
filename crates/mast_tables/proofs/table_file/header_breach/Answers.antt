use Rattle.std.proofs.Common.{◌≡◌, ◌<◌, ◌+◌, ℕ, List, [], length, get_or, sym, ap, ◌∙◌, arith, subst, true≢false}
use Rattle.std.proofs.lemmas.List.{get_or-map, length-map}
use Rattle.csv.specs.Records.{fields_of}
use Rattle.mast_tables.specs.declared.declaration.Column.{Column}
use Rattle.mast_tables.specs.Breach.{header_of, DiffersAt}
use Rattle.mast_tables.proofs.HeaderLemmas.{differs_end, differs_here, differs_after, agrees_more}
use Rattle.mast_tables.proofs.table_file.header_breach.Goals as goal

names_long : (columns : List Column) → length (header_of columns) ≡ length columns
names_long columns = length-map columns (λ (k : Column). k.name)

name_at : (columns : List Column) (i : ℕ) (column : Column) → i < length columns → column ≡ get_or columns i column → get_or (header_of columns) i [] ≡ column.name
name_at columns i column lt is = get_or-map (λ (k : Column). k.name) columns i column [] lt ∙ ap (λ (k : Column). k.name) (sym is)

pub returns-then-i-len-clause-differs : goal.returns-then-i-len-clause-differs
returns-then-i-len-clause-differs c =
    differs_end (header_of c.args.columns.now) (fields_of c.args.header.now) c.loop-i.i c.loop-i.invariant (omega (arith, names_long c.args.columns.now)) (omega arith)

pub returns-then-not-is_name-clause-differs : goal.returns-then-not-is_name-clause-differs
returns-then-not-is_name-clause-differs c =
    let columns = c.args.columns.now in
    let lt : c.loop-i.i < length columns = omega arith in
    let name = name_at columns c.loop-i.i c.index-columns-i.result lt c.index-columns-i.is in
    differs_here (header_of columns) (fields_of c.args.header.now) c.loop-i.i c.loop-i.invariant (omega (arith, names_long columns)) (omega arith) (λ e. true≢false (sym (c.is_name.ensures.1 (c.field.ensures ∙ e ∙ name)) ∙ c.if-not-is_name.true))

pub loop-i-preserved : goal.loop-i-preserved
loop-i-preserved c =
    let columns = c.args.columns.now in
    let lt : c.loop-i.i < length columns = omega arith in
    let name = name_at columns c.loop-i.i c.index-columns-i.result lt c.index-columns-i.is in
    agrees_more (header_of columns) (fields_of c.args.header.now) c.loop-i.i c.loop-i.invariant (omega (arith, names_long columns)) (omega arith) (sym c.field.ensures ∙ c.is_name.ensures.0 c.if-not-is_name.false ∙ sym name)

pub returns-then-len-columns-clause-differs : goal.returns-then-len-columns-clause-differs
returns-then-len-columns-clause-differs c =
    let columns = c.args.columns.now in
    subst (λ (k : ℕ). DiffersAt 1 (header_of columns) (fields_of c.args.header.now) (k + 1)) (omega arith) (differs_after (header_of columns) (fields_of c.args.header.now) c.loop-i.i c.loop-i.invariant (omega (arith, names_long columns)) (omega (arith, names_long columns)))
