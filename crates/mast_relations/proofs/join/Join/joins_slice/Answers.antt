use Rattle.std.proofs.Common.{◌≡◌, ◌++◌, ◌<◌, Bool, ℕ, List, [], length, get_or, sym, ap, subst, ◌∙◌, arith}
use Rattle.std.specs.Prelude.{Ok}
use Rattle.std.proofs.lemmas.List.{get_or_read}
use Rattle.mast_terms.specs.declared.memory.NoMemory.{NoMemory}
use Rattle.mast_relations.specs.Matches.{Rows}
use Rattle.mast_relations.specs.Plans.{none}
use Rattle.mast_relations.specs.Stores.{HasAll, Stored}
use Rattle.mast_relations.specs.inside.Joins.{HasEnded, LeftAnswer, SliceAnswer}
use Rattle.mast_relations.proofs.JoinLemmas.{ended_err}
use Rattle.mast_relations.proofs.SliceLemmas.{first_rows, first_there, slice_all, slice_only, slice_row}
use Rattle.mast_relations.proofs.join.Join.joins_slice.Goals as goal

pub returns-in_err-joins : goal.returns-in_err-joins
returns-in_err-joins g c =
    let stored = c.args.self.now.relations.now in
    let plan = c.args.self.now.plan.now in
    let passes = g.T.Test.passes c.args.self.now.test.now in
    let p = c.requires.plan in
    let l = c.loop-place in
    let held = c.extend_from_slice.new.self.items in
    let read = c.index-self-self.is in
    let found : c.index-self-self.result ≡ get_or stored plan.relation none = get_or_read stored plan.relation c.index-self-self.result (first_there stored plan p) c.index-self-self.is none in
    let relation : get_or stored plan.relation c.index-self-self.result ≡ get_or stored plan.relation none = sym read ∙ found in
    let rows : c.rows-rows.result.now ≡ (get_or stored plan.relation none).rows = c.rows-rows.ensures ∙ ap (λ (s : Stored). s.rows) relation in
    let is : held ≡ get_or (first_rows stored plan) l.place [] =
    c.in_ok-extend_from_slice.ensures.items ∙ ap (λ (k : List ℕ). k ++ c.row.result.now) c.clear.ensures.items ∙ (c.row.ensures.row ∙ ap (λ (r : Rows). get_or r.list l.place []) rows) in
    let high : l.place < c.args.to = omega (arith, c.loop-place-test.true, c.smaller-end.ensures.low) in
    let within : l.place < length (first_rows stored plan) = omega (arith, c.loop-place-test.true, c.smaller-end.ensures.high, c.len.ensures.len, ap (λ (r : Rows). length r.list) rows) in
    record {
      only = slice_only stored plan p passes c.args.from c.args.to c.deref.result.now held l.place c.args.found.now l.found c.joins.new.found c.deref.ensures.value is (omega (arith, l.auto.place)) high within l.invariant.only c.in_err-joins.ensures.gained.only;
      ended = ended_err c.from_residual-in_err-joins.result c.in_err-joins.field-0.0 (SliceAnswer stored plan passes c.args.from c.args.to) c.args.self.now.first c.joins.new.found c.from_residual-in_err-joins.ensures.1;
    }

pub returns-then-branch : goal.returns-then-branch
returns-then-branch g c =
    let stored = c.args.self.now.relations.now in
    let plan = c.args.self.now.plan.now in
    let passes = g.T.Test.passes c.args.self.now.test.now in
    let p = c.requires.plan in
    let l = c.loop-place in
    let held = c.extend_from_slice.new.self.items in
    let read = c.index-self-self.is in
    let found : c.index-self-self.result ≡ get_or stored plan.relation none = get_or_read stored plan.relation c.index-self-self.result (first_there stored plan p) c.index-self-self.is none in
    let relation : get_or stored plan.relation c.index-self-self.result ≡ get_or stored plan.relation none = sym read ∙ found in
    let rows : c.rows-rows.result.now ≡ (get_or stored plan.relation none).rows = c.rows-rows.ensures ∙ ap (λ (s : Stored). s.rows) relation in
    let is : held ≡ get_or (first_rows stored plan) l.place [] =
    c.in_ok-extend_from_slice.ensures.items ∙ ap (λ (k : List ℕ). k ++ c.row.result.now) c.clear.ensures.items ∙ (c.row.ensures.row ∙ ap (λ (r : Rows). get_or r.list l.place []) rows) in
    let high : l.place < c.args.to = omega (arith, c.loop-place-test.true, c.smaller-end.ensures.low) in
    let within : l.place < length (first_rows stored plan) = omega (arith, c.loop-place-test.true, c.smaller-end.ensures.high, c.len.ensures.len, ap (λ (r : Rows). length r.list) rows) in
    record {
      only = slice_only stored plan p passes c.args.from c.args.to c.deref.result.now held l.place c.args.found.now l.found c.joins.new.found c.deref.ensures.value is (omega (arith, l.auto.place)) high within l.invariant.only c.in_ok-joins.ensures.gained.only;
      ended = subst (λ (b : Bool). HasEnded {E = NoMemory} (Ok b) (LeftAnswer stored plan passes c.deref.result.now held) c.args.self.now.first c.joins.new.found) c.if-branch.true c.in_ok-joins.ensures.gained.ended;
    }

pub loop-place-preserved : goal.loop-place-preserved
loop-place-preserved g c =
    let stored = c.args.self.now.relations.now in
    let plan = c.args.self.now.plan.now in
    let passes = g.T.Test.passes c.args.self.now.test.now in
    let p = c.requires.plan in
    let l = c.loop-place in
    let held = c.extend_from_slice.new.self.items in
    let read = c.index-self-self.is in
    let found : c.index-self-self.result ≡ get_or stored plan.relation none = get_or_read stored plan.relation c.index-self-self.result (first_there stored plan p) c.index-self-self.is none in
    let relation : get_or stored plan.relation c.index-self-self.result ≡ get_or stored plan.relation none = sym read ∙ found in
    let rows : c.rows-rows.result.now ≡ (get_or stored plan.relation none).rows = c.rows-rows.ensures ∙ ap (λ (s : Stored). s.rows) relation in
    let is : held ≡ get_or (first_rows stored plan) l.place [] =
    c.in_ok-extend_from_slice.ensures.items ∙ ap (λ (k : List ℕ). k ++ c.row.result.now) c.clear.ensures.items ∙ (c.row.ensures.row ∙ ap (λ (r : Rows). get_or r.list l.place []) rows) in
    let high : l.place < c.args.to = omega (arith, c.loop-place-test.true, c.smaller-end.ensures.low) in
    let within : l.place < length (first_rows stored plan) = omega (arith, c.loop-place-test.true, c.smaller-end.ensures.high, c.len.ensures.len, ap (λ (r : Rows). length r.list) rows) in
    let all : HasAll (LeftAnswer stored plan passes c.deref.result.now held) c.joins.new.found =
    subst (λ (b : Bool). HasEnded {E = NoMemory} (Ok b) (LeftAnswer stored plan passes c.deref.result.now held) c.args.self.now.first c.joins.new.found) c.if-branch.false c.in_ok-joins.ensures.gained.ended in
    record {
      only = slice_only stored plan p passes c.args.from c.args.to c.deref.result.now held l.place c.args.found.now l.found c.joins.new.found c.deref.ensures.value is (omega (arith, l.auto.place)) high within l.invariant.only c.in_ok-joins.ensures.gained.only;
      all = slice_all stored plan p passes c.args.from c.args.to c.deref.result.now held l.place c.args.found.now l.found c.joins.new.found c.deref.ensures.value is (omega (arith, l.auto.place)) high within l.invariant.only c.in_ok-joins.ensures.gained.only l.invariant.all all;
    }

pub returns : goal.returns
returns g c =
    let stored = c.args.self.now.relations.now in
    let plan = c.args.self.now.plan.now in
    let passes = g.T.Test.passes c.args.self.now.test.now in
    let p = c.requires.plan in
    let l = c.loop-place in
    let read = c.index-self-self.is in
    let found : c.index-self-self.result ≡ get_or stored plan.relation none = get_or_read stored plan.relation c.index-self-self.result (first_there stored plan p) c.index-self-self.is none in
    let relation : get_or stored plan.relation c.index-self-self.result ≡ get_or stored plan.relation none = sym read ∙ found in
    let rows : c.rows-rows.result.now ≡ (get_or stored plan.relation none).rows = c.rows-rows.ensures ∙ ap (λ (s : Stored). s.rows) relation in
    record {
      only = l.invariant.only;
      ended = λ tuple x.
          let r = slice_row stored plan p passes c.args.from c.args.to tuple x in
          let within : r.place < c.len.result = omega (arith, r.within, c.len.ensures.len, ap (λ (k : Rows). length k.list) rows) in
          l.invariant.all r.place r.low (omega (arith, c.smaller-end.ensures.all r.place r.high within, c.loop-place-test.false)) tuple r.answer;
    }
