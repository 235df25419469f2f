use Rattle.std.proofs.Common.{◌≡◌, [], drop}
use Rattle.mast_mapping.specs.Declarations.{columns_of}
use Rattle.mast_mapping.specs.inside.Indices.{column_kinds}
use Rattle.mast_mapping.specs.inside.Readers.{doc_of}
use Rattle.mast_mapping.proofs.doc_reader.DocReader.columns.Given as goal

-- the columns that are left make the whole with those that are read, whose kinds are known
abbrev pub invariant-loop-item : goal.invariant-loop-item
invariant-loop-item l =
    (columns_of (doc_of l.self) l.columns (drop l.item-index l.items) ≡ columns_of (doc_of l.self) [] l.items) × (l.kinds ≡ column_kinds l.columns)
