use Rattle.std.proofs.Common.{◌≡◌, ◌<◌, ◌+◌, ◌∷◌, ℕ, List, [], length, get_or, drop, refl, sym, ap, ◌∙◌, arith}
use Rattle.std.proofs.lemmas.List.{drop_more}
use Rattle.csv.specs.Records.{fields_of}
use Rattle.mast_tables.specs.declared.declaration.Column.{Column}
use Rattle.mast_tables.specs.inside.Reading.{value_of}
use Rattle.mast_tables.proofs.ReadingLemmas.{begun_more, begun_all, begun_wrong}
use Rattle.mast_tables.proofs.table_file.read_cells.Goals as goal

column_at : (columns : List Column) (i : ℕ) (column : Column) → i < length columns → column ≡ get_or columns i column → drop i columns ≡ column ∷ drop (i + 1) columns
column_at columns i column lt is = drop_more columns i column lt ∙ ap (λ (k : Column). k ∷ drop (i + 1) columns) (sym is)

pub returns-in-Err : goal.returns-in-Err
returns-in-Err c =
    let columns = c.args.columns.now in
    let fields = fields_of c.args.line.now in
    let i = c.loop-i.i in
    let lt : c.loop-i.i < length c.args.columns.now = omega arith in
    let ef = drop_more fields i [] (omega (arith, c.requires.width)) in
    (refl, begun_wrong columns fields i _ _ c.index-columns-i.result (get_or fields i []) c.in-Err.kind c.loop-i.invariant (column_at columns i c.index-columns-i.result lt c.index-columns-i.is) ef (rw c.field.ensures at c.in-Err.ensures))

pub loop-i-preserved : goal.loop-i-preserved
loop-i-preserved c =
    let columns = c.args.columns.now in
    let fields = fields_of c.args.line.now in
    let i = c.loop-i.i in
    let lt : c.loop-i.i < length c.args.columns.now = omega arith in
    let ef = drop_more fields i [] (omega (arith, c.requires.width)) in
    begun_more columns fields i _ _ _ c.index-columns-i.result (get_or fields i []) (value_of c.in-Ok.content) c.loop-i.invariant (column_at columns i c.index-columns-i.result lt c.index-columns-i.is) ef (rw c.field.ensures at c.in-Ok.ensures) c.in_ok-push-in-Ok.ensures.cells c.in_ok-push-in-Ok.ensures.pushed c.in_ok-push-in-Ok.ensures.wide

pub returns : goal.returns
returns c =
    begun_all c.args.columns.now (fields_of c.args.line.now) c.loop-i.i _ _ c.loop-i.invariant (omega arith) c.requires.width
