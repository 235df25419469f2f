use Rattle.std.proofs.Common.{[], get_or, map, take, sym, subst, ◌∙◌}
use Rattle.mast_cq.specs.declared.query.CqRef.{CqRef}
use Rattle.mast_cq.specs.Queries.{viewed}
use Rattle.mast_check.specs.inside.Pieces.{IsAskedOver}
use Rattle.mast_check.proofs.ReadyLemmas.{asked_at, asked_rest, map_front, ready_more}
use Rattle.mast_check.proofs.violated.made_ready.Goals as goal

-- what stands in place of a query that is not there
abbrev nowhere : CqRef
nowhere = record { answer = record { ref_ptr = (0, 0); now = [] }; atoms = record { ref_ptr = (0, 0); now = [] } }

pub ready-requires : goal.ready-requires
ready-requires c =
    let asked = asked_at (IsAskedOver c.args.extensions.now.over) viewed c.args.queries.now c.loop-query.query-index nowhere c.loop-query-test.true c.loop-query.invariant.left in
    subst (λ o. IsAskedOver o (viewed (get_or c.args.queries.now c.loop-query.query-index nowhere))) (sym c.loop-query.invariant.same.over) asked

pub loop-query-preserved : goal.loop-query-preserved
loop-query-preserved c = record {
  ready = ready_more c.loop-query.extensions c.ready.new.self (map viewed (take c.loop-query.query-index c.args.queries.now)) _ c.loop-query.all.items c.push.new.self.items _ c.in_ok-ready.field-0 c.ready.ensures.kept
      c.loop-query.invariant.ready (c.in_ok-ready.ensures.query, c.in_ok-ready.ensures.ready) (map_front viewed c.args.queries.now c.loop-query.query-index _ c.loop-query-test.true) c.in_ok-push.ensures.items;
  left = asked_rest (IsAskedOver c.args.extensions.now.over) viewed c.args.queries.now c.loop-query.query-index c.loop-query.invariant.left;
  same = record { over = c.ready.ensures.over.over ∙ c.loop-query.invariant.same.over; wanted = c.ready.ensures.over.wanted ∙ c.loop-query.invariant.same.wanted };
}
