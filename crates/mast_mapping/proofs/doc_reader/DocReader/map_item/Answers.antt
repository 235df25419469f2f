use Rattle.mast_mapping.specs.inside.Progress.{page}
use Rattle.mast_mapping.proofs.ProgressLemmas.{map_breaks}
use Rattle.mast_mapping.proofs.StopLemmas.{stopped}
use Rattle.mast_mapping.proofs.doc_reader.DocReader.map_item.Goals as goal

pub returns-in_err-map : goal.returns-in_err-map
returns-in_err-map c = λ texts are.
    stopped _ _ _ _ c.from_residual.result c.in_err-map.field-0.0 c.from_residual.ensures.1
    (λ b e. map_breaks texts (page c.args.self.now) c.args.before c.args.line c.args.items.now b e)
    (c.in_err-map.ensures texts are)
