use Rattle.std.proofs.Common.{sym, ◌∙◌, ap}
use Rattle.std.specs.Prelude.{option_map}
use Rattle.csv.proofs.RecordFacts.{field-get}
use Rattle.csv.specs.Records.{fields_of}
use Rattle.mast_tables.proofs.FieldLemmas.{there}
use Rattle.mast_tables.proofs.table_file.field.Goals as goal

pub unwrap-requires : goal.unwrap-requires
unwrap-requires c = there _ (λ x. x.now) (fields_of c.args.line.now) c.args.i c.requires c.get.ensures.value

pub returns : goal.returns
returns c = sym (field-get (fields_of c.args.line.now) c.args.i c.unwrap.result.now (sym c.get.ensures.value ∙ ap (option_map (λ s. s.now)) c.unwrap.ensures))
