use Rattle.std.proofs.Common.{sym, ◌∙◌}
use Rattle.std.proofs.lemmas.List.{length-map}
use Rattle.mast_relations.specs.Stores.{Stored}
use Rattle.mast_join.specs.inside.Filling.{IsFilled}
use Rattle.mast_join.proofs.FillStepLemmas.{next_filled, next_more}
use Rattle.mast_join.proofs.fill.fill.Goals as goal

pub returns-in_err-fill_all-clause-more : goal.returns-in_err-fill_all-clause-more
returns-in_err-fill_all-clause-more c =
    next_more c.args.relations.now c.begin.new.self c.fill_all.new.relations _ c.in_ok-number.number (c.in_ok-number.ensures.number ∙ sym (length-map c.args.relations.now (λ (s : Stored). s.rows))) c.in_ok-number.ensures.ok c.begin.ensures.plans c.fill_all.ensures.refilled

pub returns-clause-more : goal.returns-clause-more
returns-clause-more c =
    next_more c.args.relations.now c.begin.new.self c.fill_all.new.relations _ c.in_ok-number.number (c.in_ok-number.ensures.number ∙ sym (length-map c.args.relations.now (λ (s : Stored). s.rows))) c.in_ok-number.ensures.ok c.begin.ensures.plans c.fill_all.ensures.refilled

pub returns-clause-next : goal.returns-clause-next
returns-clause-next c =
    next_filled c.args.relations.now c.begin.new.self c.fill_all.new.relations _ c.in_ok-number.number (c.in_ok-number.ensures.number ∙ sym (length-map c.args.relations.now (λ (s : Stored). s.rows))) c.in_ok-number.ensures.ok c.begin.ensures.plans c.fill_all.ensures.refilled
    (IsFilled c.args.wanted c.args.width c.args.facts.now c.args.sources.now) c.in_ok-fill_all.ensures.filled
