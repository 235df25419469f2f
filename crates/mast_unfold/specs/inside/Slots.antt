-- What slots stand for, and the equations of the slots of two templates.
use Rattle.std.specs.Prelude.{ℕ, List, [], ◌∷◌, Option, Some, None, Bool, ◌&&◌, nat_eq, length}
use Rattle.std.specs.Str.{bytes_eq}
use Rattle.std.specs.Option.{option_map}
use Rattle.mast_sql.specs.declared.query.SourceQuery.{SourceQuery}
use Rattle.mast_tables.specs.declared.declaration.TableDecl.{TableDecl}
use Rattle.mast_mapping.specs.declared.map.Slot.{Slot}
use Rattle.mast_mapping.specs.declared.map.Slot.TheVariants.{Output, Constant}
use Rattle.mast_mapping.specs.declared.map.Template.{Template}
use Rattle.mast_mapping.specs.Columns.{meaning_of_output}
use Rattle.mast_unfold.specs.declared.columns.Place.{Place}
use Rattle.mast_unfold.specs.inside.Equations.{Cell, column, constant, nothing}
use Rattle.mast_unfold.specs.inside.Lookups.{place_of}

-- a column, if there is one
abbrev pub cell_at : Option Place → Cell
cell_at None = nothing
cell_at (Some place) = column place

-- what a slot stands for, where the outputs have these columns
abbrev pub cell_by : (List ℕ → Option Place) → Slot → Cell
cell_by places (Output name) = cell_at (places name)
cell_by places (Constant value) = constant value

-- the columns of the outputs of a source query
abbrev pub output_places : List TableDecl → SourceQuery → List ℕ → Option Place
output_places decls query name = option_map place_of (meaning_of_output decls query name)

-- what a slot stands for over a source query
abbrev pub slot_cell : List TableDecl → SourceQuery → Slot → Cell
slot_cell decls query = cell_by (output_places decls query)

-- the equations of slots with slots in the same places
abbrev pub equated : (List ℕ → Option Place) → List Slot → List Slot → List (Cell × Cell)
equated places [] to = []
equated places (a ∷ from) [] = []
equated places (a ∷ from) (b ∷ to) = (cell_by places a, cell_by places b) ∷ equated places from to

-- whether two templates have one symbol and as many arguments
abbrev pub have_one_shape : Template → Template → Bool
have_one_shape from to = bytes_eq from.symbol to.symbol && nat_eq (length from.args) (length to.args)
