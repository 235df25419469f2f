-- A new vocabulary names nothing.
use Rattle.std.proofs.Common.{IfOk, subst}
use Rattle.std.specs.Prelude.{IfSome}
use Rattle.mast_cli.specs.inside.Readings.{TellsMappings}
use Rattle.mast_cli.proofs.MappingsLemmas.{maps_of}
use Rattle.mast_cli.proofs.command.facts.mappings_alone.Goals as goal

pub returns-clause-told : goal.returns-clause-told
returns-clause-told g c =
    subst (λ v. IfOk c.judge_mappings.result (λ what. IfSome (g.F.Files.contents c.args.files.now) (λ k. TellsMappings v c.args.file.now (g.F.Files.reading c.judge_mappings.new.files) k what)))
    c.new.ensures c.judge_mappings.ensures.told

pub returns-clause-maps : goal.returns-clause-maps
returns-clause-maps g c = maps_of _ c.judge_mappings.result c.judge_mappings.ensures.fit
