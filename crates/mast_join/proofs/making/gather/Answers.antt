use Rattle.std.proofs.Common.{◌+◌, List, take, sym, subst}
use Rattle.std.specs.List.{AllZip}
use Rattle.mast_join.specs.declared.fill.Gathered.{Gathered}
use Rattle.mast_join.specs.inside.Gathers.{IsGathered}
use Rattle.mast_join.proofs.KeepingLemmas.{all_gathered_kept, grown_twice, zip_at}
use Rattle.mast_join.proofs.making.gather.Goals as goal

pub returns-in_err-gathered-clause-more : goal.returns-in_err-gathered-clause-more
returns-in_err-gathered-clause-more c = grown_twice c.args.store.now c.loop-source.store c.gathered.new.store c.loop-source.invariant.more c.gathered.ensures.more

pub returns-in_err-push-clause-more : goal.returns-in_err-push-clause-more
returns-in_err-push-clause-more c = grown_twice c.args.store.now c.loop-source.store c.gathered.new.store c.loop-source.invariant.more c.gathered.ensures.more

pub loop-source-preserved : goal.loop-source-preserved
loop-source-preserved c =
    let base = c.args.base.now in
    let l = c.loop-source in
    let new = c.gathered.new.store in
    record {
      kept = c.gathered.ensures.kept;
      more = grown_twice c.args.store.now l.store new l.invariant.more c.gathered.ensures.more;
      gathered = subst (λ (all : List Gathered). AllZip (IsGathered base new.pool new.facts.items) (take (l.source-index + 1) c.args.sources.now) all) (sym c.in_ok-push.ensures.items)
          (zip_at (IsGathered base new.pool new.facts.items) c.args.sources.now l.all.items l.source-index _ c.in_ok-gathered.field-0 c.loop-source-test.true
          (all_gathered_kept base l.store.pool new.pool l.store.facts.items new.facts.items c.gathered.ensures.more.pool c.gathered.ensures.facts (take l.source-index c.args.sources.now) l.all.items l.invariant.gathered)
          c.in_ok-gathered.ensures.gathered);
    }
