use Rattle.std.proofs.Common.{refl}
use Rattle.mast_join.proofs.KeepingLemmas.{pool_kept}
use Rattle.mast_join.proofs.ValueLemmas.{front_refl, noted_front}
use Rattle.mast_join.proofs.making.constant.Goals as goal

pub returns-clause-kept : goal.returns-clause-kept
returns-clause-kept c =
    let pool = c.args.store.now.pool in
    let terms = c.constant_number.new.terms in
    pool_kept c.args.base.now c.args.store.now (record { terms = terms; values = pool.values; sets = pool.sets }) c.requires.kept
    (noted_front c.args.base.now.tables.now.list pool.terms.terms terms.terms pool.values pool.values c.requires.kept.noted c.constant_number.ensures.kept.terms (λ k. refl))
    (record { terms = c.constant_number.ensures.kept; sets = front_refl pool.sets.items })
