use Rattle.std.proofs.Common.{ℕ, List, ◌+◌, ◌++◌, length, ap, ◌∙◌}
use Rattle.mast_cq.specs.Queries.{viewed}
use Rattle.mast_join.specs.inside.Keeping.{extended}
use Rattle.mast_join.specs.inside.Namings.{IsNamed, places_of}
use Rattle.mast_join.specs.inside.Relates.{counted_sets}
use Rattle.mast_join.proofs.ConjoinLemmas.{conjoined, zip_long}
use Rattle.mast_join.proofs.conjunction.conjunction.Goals as goal

pub places-requires-clause-long : goal.places-requires-clause-long
places-requires-clause-long c =
    let names = c.in_ok-names.ensures.names in
    ap length c.deref.ensures.value ∙ zip_long (IsNamed names.vars) c.args.query.answer.now c.in_ok-names.names.answer.items names.answer

pub returns-clause-conjunction : goal.returns-clause-conjunction
returns-clause-conjunction c =
    let base = c.args.base.now in
    let names = c.in_ok-names.names in
    let count = length c.args.query.atoms.now in
    conjoined (extended base c.patterns.new.store) (viewed c.args.query) names (record { answer = c.count_sets.new.places; patterns = c.in_ok-patterns.patterns }) (length base.spec.now.vocab.constants)
    c.requires.asked c.in_ok-names.ensures.names c.in_ok-patterns.ensures.patterns
    (c.in_ok-count_sets.ensures ∙ ap (λ (k : List ℕ). k ++ counted_sets base.wanted names.count count)
    (c.in_ok-answer.ensures ∙ ap (λ (k : List ℕ). places_of (names.count + count) c.args.query.answer.now k) c.deref.ensures.value))
