use Rattle.std.proofs.Common.{length, sym, subst, ◌∙◌}
use Rattle.mast_cq.specs.declared.atom.Atom.{Atom}
use Rattle.mast_cq.specs.UnifierMeanings.{IsBelow}
use Rattle.mast_join.specs.inside.Keeping.{IsExtensionAt, extended, same_atom}
use Rattle.mast_join.specs.inside.Shapes.{shape}
use Rattle.mast_join.proofs.KeepingLemmas.{grown_twice, put_each, shape_known, sources_known, sources_of, unchanged_get}
use Rattle.mast_join.proofs.making.make_extension.Goals as goal

pub gather-requires-clause-sources : goal.gather-requires-clause-sources
gather-requires-clause-sources c =
    let base = c.args.base.now in
    sources_known base (shape c.args.atom) c.as_slice.result.now (shape_known (IsBelow (length base.spec.now.vocab.constants)) c.args.atom c.requires.known)
    (sources_of base (shape c.args.atom) c.shape-shape.result c.in_ok-sources.sources c.as_slice.result.now c.requires.kept.based c.shape-shape.ensures c.as_slice.ensures c.in_ok-sources.ensures.exact)

pub fill_extension-requires-clause-sources : goal.fill_extension-requires-clause-sources
fill_extension-requires-clause-sources c =
    sources_of c.args.base.now (shape c.args.atom) c.shape-shape.result c.in_ok-sources.sources c.as_slice-2.result.now c.requires.kept.based c.shape-shape.ensures c.as_slice-2.ensures c.in_ok-sources.ensures.exact

pub returns-in_err-number-clause-more : goal.returns-in_err-number-clause-more
returns-in_err-number-clause-more c = grown_twice c.args.store.now c.gather.new.store c.fill_extension.new.store c.gather.ensures.more c.fill_extension.ensures.more

pub returns-in_err-insert-clause-kept : goal.returns-in_err-insert-clause-kept
returns-in_err-insert-clause-kept c =
    let kept = c.fill_extension.ensures.kept in
    record {
      based = kept.based;
      noted = kept.noted;
      facts = kept.facts;
      made = λ g number e. kept.made g number (sym (unchanged_get same_atom c.fill_extension.new.store.made c.insert.new.self c.in_err-insert.ensures.err g) ∙ e);
    }

pub returns-in_err-insert-clause-more : goal.returns-in_err-insert-clause-more
returns-in_err-insert-clause-more c =
    let more = grown_twice c.args.store.now c.gather.new.store c.fill_extension.new.store c.gather.ensures.more c.fill_extension.ensures.more in
    record { pool = more.pool; relations = more.relations }

pub returns-clause-kept : goal.returns-clause-kept
returns-clause-kept c =
    let kept = c.fill_extension.ensures.kept in
    let e = extended c.args.base.now c.fill_extension.new.store in
    record {
      based = kept.based;
      noted = kept.noted;
      facts = kept.facts;
      made = put_each same_atom (IsExtensionAt e) c.fill_extension.new.store.made c.insert.new.self kept.made c.shape-shape.result c.in_ok-number.number c.in_ok-insert.ensures.updates
          (λ q same. (c.atom_laws.ensures.equal c.shape-shape.result q).0 same)
          (subst (λ (g : Atom). IsExtensionAt e g c.in_ok-number.number) (sym c.shape-shape.ensures) c.in_ok-number.ensures.number);
    }

pub returns-clause-more : goal.returns-clause-more
returns-clause-more c =
    let more = grown_twice c.args.store.now c.gather.new.store c.fill_extension.new.store c.gather.ensures.more c.fill_extension.ensures.more in
    record { pool = more.pool; relations = more.relations }
