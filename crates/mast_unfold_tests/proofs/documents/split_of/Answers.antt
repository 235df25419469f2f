use Rattle.std.proofs.Common.{◌≡◌, sym, subst}
use Rattle.std.proofs.lemmas.Result.{IfOk-weaker}
use Rattle.mast_mapping.specs.Split.{split_maps}
use Rattle.mast_unfold.specs.Sources.{HeadsAreOver}
use Rattle.mast_unfold.proofs.OverLemmas.{heads_over}
use Rattle.mast_unfold_tests.proofs.documents.split_of.Goals as goal

pub returns-clause-over : goal.returns-clause-over
returns-clause-over c =
    let m = c.args.mappings.now in
    IfOk-weaker c.split.result (λ maps. maps ≡ split_maps m.maps) (HeadsAreOver m.tables) (λ maps e. subst (HeadsAreOver m.tables) (sym e) (heads_over m.tables m.maps c.requires)) c.split.ensures
