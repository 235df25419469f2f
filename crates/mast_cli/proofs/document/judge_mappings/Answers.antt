-- The bytes that were read are the file's content.
use Rattle.mast_mapping.specs.Documents.{HasMappings, IsMappingsBreach}
use Rattle.mast_tree.specs.declared.document.DocName.TheVariants as doc
use Rattle.mast_cli.specs.stage.Document.{MappingsStage}
use Rattle.mast_cli.proofs.MappingsLemmas.{one_mappings}
use Rattle.mast_cli.proofs.StageLemmas.{content_of, document_told, document_unread}
use Rattle.mast_cli.proofs.document.judge_mappings.Goals as goal

pub returns-in-Read-clause-told : goal.returns-in-Read-clause-told
unfolding MappingsStage
returns-in-Read-clause-told g c =
    let reading = g.F.Files.reading c.read_file.new.files in
    let old = c.args.vocab in
    document_told (λ document. HasMappings document old) (λ document. IsMappingsBreach document old) doc.Mappings (λ contents file. (one_mappings old c.len.ensures.lawful contents file).some)
    _ c.args.file.now c.deref.result.now c.document_bytes.result reading c.in-Read.bytes c.mappings_of.result c.deref.ensures.value c.document_bytes.ensures.value
    (content_of _ c.args.file.now c.document_bytes.result _ reading c.in_ok-bytes.field-0 c.in-Read.bytes c.in-Read.is c.in_ok-bytes.ensures.told)
    c.mappings_of.ensures.told

pub returns-in-Ended-clause-told : goal.returns-in-Ended-clause-told
unfolding MappingsStage
returns-in-Ended-clause-told g c =
    let reading = g.F.Files.reading c.read_file.new.files in
    let old = c.args.vocab in
    document_unread (λ document. HasMappings document old) (λ document. IsMappingsBreach document old) doc.Mappings (λ contents file. (one_mappings old c.len.ensures.lawful contents file).some)
    _ c.args.file.now c.document_bytes.result reading c.in_ok-bytes.field-0 c.in-Ended.judged c.document_bytes.ensures.value c.in-Ended.is c.in_ok-bytes.ensures.told
