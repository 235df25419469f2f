use Rattle.std.proofs.Common.{◌≡◌, ◌-◌, ℕ, List, [], get_or, refl, sym, ap, ◌∙◌, arith}
use Rattle.mast_relations.specs.Plans.{picked}
use Rattle.mast_relations.specs.inside.Indices.{AgreesBy}
use Rattle.mast_relations.specs.inside.Lasts.{HasHash}
use Rattle.mast_relations.proofs.IndexLemmas.{index_hash}
use Rattle.mast_relations.proofs.LastLemmas.{last_at, last_end, last_past, last_weaker}
use Rattle.mast_relations.proofs.relation.agreeing.Goals as goal

pub loop-place-init : goal.loop-place-init
loop-place-init c =
    let rows = c.args.rows.now in
    let index = c.args.index.now in
    record {
      within = c.requires.within;
      hashed = c.requires.hashed;
      passed = λ count le a. last_weaker (HasHash index.hashes c.args.hash) (AgreesBy rows index.columns.items c.args.values.now c.args.places.now) count c.args.place
          (λ p lt h. index_hash rows index c.args.values.now c.args.places.now c.args.hash p c.requires.index c.requires.lookup (omega (arith, lt, le)) h) a;
    }

pub returns-then-agree : goal.returns-then-agree
returns-then-agree c =
    let rows = c.args.rows.now in
    let index = c.args.index.now in
    let read : picked (get_or rows.list (c.loop-place.place - 1) []) index.columns.items ≡ picked c.args.values.now c.args.places.now =
    ap (λ (r : List ℕ). picked r index.columns.items) (sym c.row.ensures.row) ∙ ap (picked c.row.result.now) (sym c.deref.ensures.value) ∙ c.if-agree.ensures.yes refl in
    record {
      last = λ count le a. last_at (HasHash index.hashes c.args.hash) (AgreesBy rows index.columns.items c.args.values.now c.args.places.now) count c.loop-place.place
          (c.loop-place.invariant.passed count le a) c.loop-place-test.true read;
    }

pub loop-place-preserved : goal.loop-place-preserved
loop-place-preserved c =
    let rows = c.args.rows.now in
    let index = c.args.index.now in
    let Agree = AgreesBy rows index.columns.items c.args.values.now c.args.places.now in
    record {
      within = omega (arith, c.before-place.ensures.within, c.loop-place.invariant.within, c.loop-place-test.true);
      hashed = λ some. c.before-place.ensures.here (c.before-place.result - 1) (omega (arith, some));
      passed = λ count le a. last_past (HasHash index.hashes c.args.hash) Agree count c.loop-place.place c.before-place.result
          (λ p lt h. index_hash rows index c.args.values.now c.args.places.now c.args.hash p c.requires.index c.requires.lookup (omega (arith, lt, le)) h)
          c.loop-place-test.true (c.loop-place.invariant.passed count le a)
          (λ h. c.if-agree.ensures.no refl (ap (picked c.row.result.now) c.deref.ensures.value ∙ ap (λ (r : List ℕ). picked r index.columns.items) c.row.ensures.row ∙ h))
          c.before-place.ensures;
    }

pub returns : goal.returns
returns c =
    let rows = c.args.rows.now in
    let index = c.args.index.now in
    record {
      last = λ count le a. last_end (HasHash index.hashes c.args.hash) (AgreesBy rows index.columns.items c.args.values.now c.args.places.now) count c.loop-place.place
          (c.loop-place.invariant.passed count le a) (omega (arith, c.loop-place-test.false));
    }
