use Rattle.std.proofs.Common.{ℕ, List, length, ap, subst, sym, ◌∙◌}
use Rattle.mast_cq.specs.Queries.{viewed}
use Rattle.mast_relations.specs.declared.query.Pattern.{Pattern}
use Rattle.mast_join.specs.inside.Keeping.{extended}
use Rattle.mast_join.specs.inside.Namings.{AreMadePatterns, ArePatternsOf, IsFrontOf}
use Rattle.mast_join.proofs.ConjoinLemmas.{known_args, patterns_made, zip_long}
use Rattle.mast_join.proofs.KeepingLemmas.{grown_twice}
use Rattle.mast_join.proofs.conjunction.patterns.Goals as goal

pub atom_patterns-requires-clause-long : goal.atom_patterns-requires-clause-long
atom_patterns-requires-clause-long c =
    ap length c.deref.ensures.value ∙ zip_long (IsFrontOf c.requires.names.vars) c.args.query.atoms.now c.args.names.now.fronts.items c.requires.names.fronts

pub add_constants-requires-clause-known : goal.add_constants-requires-clause-known
add_constants-requires-clause-known c = known_args (length c.args.base.now.spec.now.vocab.constants) c.args.query.atoms.now c.args.query.answer.now c.requires.asked.answer

pub returns-in_err-add_constants-clause-more : goal.returns-in_err-add_constants-clause-more
returns-in_err-add_constants-clause-more c = grown_twice c.args.store.now c.atom_patterns.new.store c.add_constants.new.store c.in_ok-patterns.ensures.more c.in_err-add_constants.ensures.more

pub returns-in_err-add_unit-clause-more : goal.returns-in_err-add_unit-clause-more
returns-in_err-add_unit-clause-more c =
    grown_twice c.args.store.now c.add_constants.new.store c.add_unit.new.store
    (grown_twice c.args.store.now c.atom_patterns.new.store c.add_constants.new.store c.in_ok-patterns.ensures.more c.in_ok-add_constants.ensures.more) c.in_err-add_unit.ensures.more

pub returns-clause-patterns : goal.returns-clause-patterns
returns-clause-patterns c =
    let base = c.args.base.now in
    let names = c.args.names.now in
    let q = viewed c.args.query in
    let made = subst (λ (fronts : List (List ℕ)). AreMadePatterns (extended base c.atom_patterns.new.store) names.count c.args.query.atoms.now fronts c.in_ok-patterns.patterns.items)
    c.deref.ensures.value c.in_ok-patterns.ensures.patterns in
    subst (λ (all : List Pattern). ArePatternsOf (extended base c.add_unit.new.store) q names all) (sym c.from_vec.ensures)
    (patterns_made base c.atom_patterns.new.store c.add_constants.new.store c.add_unit.new.store q names c.in_ok-patterns.patterns.items c.add_constants.new.patterns.items c.add_unit.new.patterns.items
    c.in_ok-add_constants.ensures.more c.in_ok-add_unit.ensures.more made c.in_ok-add_constants.ensures.added c.in_ok-add_unit.ensures.added c.in_ok-add_unit.ensures.some)

pub returns-clause-more : goal.returns-clause-more
returns-clause-more c =
    grown_twice c.args.store.now c.add_constants.new.store c.add_unit.new.store
    (grown_twice c.args.store.now c.atom_patterns.new.store c.add_constants.new.store c.in_ok-patterns.ensures.more c.in_ok-add_constants.ensures.more) c.in_ok-add_unit.ensures.more
