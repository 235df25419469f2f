-- What the stages tell is what the command tells.
use Rattle.std.proofs.Common.{◌∙◌}
use Rattle.mast_cli.proofs.FactsLemmas.{are_maps, facts_done, mappings_ended, no_fault, same_facts, tables_ended, tables_numbered}
use Rattle.mast_cli.proofs.command.facts.judge_facts.Goals as goal

pub returns-in-Ended-clause-told : goal.returns-in-Ended-clause-told
returns-in-Ended-clause-told g c =
    mappings_ended c.files_have_one_answer.ensures.some (g.F.Files.contents c.args.files.now) c.args.file.now (g.F.Files.reading c.mappings_alone.new.files)
    c.in_ok-mappings.field-0 c.in-Ended.judged c.in-Ended.is c.in_ok-mappings.ensures.told

pub judge_tables-requires : goal.judge_tables-requires
judge_tables-requires g c =
    tables_numbered c.in-Read.mappings c.in_ok-spec.spec.tables c.as_slice.result.now c.in_ok-spec.ensures.tables c.as_slice.ensures
    c.in_ok-mappings.field-0 c.in-Read.is c.in_ok-mappings.ensures.maps

pub returns-in-Ended-2-clause-told : goal.returns-in-Ended-2-clause-told
returns-in-Ended-2-clause-told g c =
    tables_ended c.files_have_one_answer.ensures.some (g.F.Files.contents c.args.files.now) (g.F.Files.contents c.mappings_alone.new.files) c.args.file.now
    (g.F.Files.reading c.mappings_alone.new.files) (g.F.Files.reading c.judge_tables.new.files) c.in_ok-mappings.field-0 c.in-Read.mappings c.as_slice.result.now
    c.in_ok-list.field-0 c.in-Ended-2.judged c.mappings_alone.ensures.kept (c.as_slice.ensures ∙ c.in_ok-spec.ensures.tables) c.in-Read.is c.in-Ended-2.is
    c.in_ok-mappings.ensures.told c.in_ok-list.ensures.told

pub facts_text-requires-clause-maps : goal.facts_text-requires-clause-maps
facts_text-requires-clause-maps g c =
    are_maps c.in-Read.mappings c.in_ok-spec.spec.vocab c.in_ok-spec.spec.tables c.in_ok-spec.spec.maps
    c.in_ok-spec.ensures.vocab c.in_ok-spec.ensures.tables c.in_ok-spec.ensures.maps c.in_ok-mappings.field-0 c.in-Read.is c.in_ok-mappings.ensures.maps

pub returns-clause-told : goal.returns-clause-told
returns-clause-told g c =
    facts_done (g.F.Files.contents c.args.files.now) (g.F.Files.contents c.mappings_alone.new.files) c.args.file.now
    (g.F.Files.reading c.mappings_alone.new.files) (g.F.Files.reading c.judge_tables.new.files) c.in_ok-mappings.field-0 c.in-Read.mappings c.as_slice.result.now
    c.in_ok-list.field-0 c.in-Read-2.list c.in_ok-facts_text.field-0.items
    c.mappings_alone.ensures.kept (c.as_slice.ensures ∙ c.in_ok-spec.ensures.tables) c.in-Read.is c.in-Read-2.is c.in_ok-mappings.ensures.told c.in_ok-list.ensures.told
    (same_facts c.in-Read.mappings c.in_ok-spec.spec.vocab c.in_ok-spec.spec.tables c.in_ok-spec.spec.maps
    c.in_ok-spec.ensures.vocab c.in_ok-spec.ensures.tables c.in_ok-spec.ensures.maps c.in-Read-2.list c.in_ok-facts_text.field-0.items c.in_ok-facts_text.ensures)

pub returns-clause-kept : goal.returns-clause-kept
returns-clause-kept g c = c.judge_tables.ensures.kept ∙ c.mappings_alone.ensures.kept

pub returns-clause-cause : goal.returns-clause-cause
returns-clause-cause g c =
    no_fault (g.F.Files.faults c.mappings_alone.new.files) (g.F.Files.faults c.judge_tables.new.files) (g.F.Files.reading c.judge_tables.new.files) c.in_ok-list.field-0 c.in-Read-2.list c.in-Read-2.is c.in_ok-list.ensures.cause
    ∙ no_fault (g.F.Files.faults c.args.files.now) (g.F.Files.faults c.mappings_alone.new.files) (g.F.Files.reading c.mappings_alone.new.files) c.in_ok-mappings.field-0 c.in-Read.mappings c.in-Read.is c.in_ok-mappings.ensures.cause
