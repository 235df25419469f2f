-- The documents are one specification: each was read over the names of the one before.
use Rattle.std.proofs.Common.{subst}
use Rattle.mast_tree.specs.Growing.{Begins}
use Rattle.mast_canon_tests.proofs.ReaderLemmas.{read_are_one}
use Rattle.mast_canon_tests.proofs.documents.specification_of.Goals as goal

pub new-requires : goal.new-requires
new-requires c =
    let o = c.in_ok-ontology.ontology in
    let cs = c.in_ok-constraints.constraints in
    let ms = c.in_ok-mappings.mappings in
    let read = c.in_ok-constraints.ensures in
    let maps = c.in_ok-mappings.ensures in
    read_are_one o cs ms c.in_ok-ontology.ensures
    (subst (λ names. Begins cs.vocab names) c.in_ok-vocab.ensures read.begins) read.kept read.numbered
    (subst (λ names. Begins ms.vocab names) c.in_ok-vocab-2.ensures maps.begins) maps.maps
