-- A closure's step keeps the meaning: what the query has it has after the step, and the other way.
use Rattle.std.proofs.Common.{◌≡◌, ℕ, List, Some}
use Rattle.mast_cq.specs.declared.atom.Atom.{Atom}
use Rattle.mast_cq.specs.declared.query.Cq.{Cq}
use Rattle.mast_cq.specs.Meanings.{Fact, Match, MetBy, HasTuple}
use Rattle.mast_cq.specs.Queries.{TakesTwo}
use Rattle.mast_cq.specs.Steps.{merged, Implies, StepsAreSound, StepsAreComplete, StepsFollow, Holding}
use Rattle.mast_cq.specs.Unification.{replace, Meeting, meeting}
use Rattle.mast_cq.specs.UnifierMeanings.{before, IsBelow, Parts, Respects}
use Rattle.mast_cq.proofs.JoinLemmas.{join}
use Rattle.mast_cq.proofs.ListLemmas.{each_map, map_each}
use Rattle.mast_cq.proofs.PartsLemmas.{parts}
use Rattle.mast_cq.proofs.ReplacementLemmas.{respects_match, respects_gives, match_before, gives_before}
use Rattle.mast_cq.proofs.SameTuplesLemmas.{normal_form_into, normal_form_out}
use Rattle.mast_cq.proofs.TakesLemmas.{two_each, at_places}

module _ {X : Type 0} (constant : ℕ → X) (P : Fact X → Type 0) where
  -- what the query has after a merge of two atoms that imply two of its own, it had before, under the assignment before the replacement
  pub merge_before : (q : Cq) (g h left right : Atom) (others : List Atom) (m : Meeting) (tuple : List X) → TakesTwo q.atoms g h others → meeting q.answer left right ≡ Some m
      → Implies constant P left g → Implies constant P right h → HasTuple constant P (merged q m others) tuple → HasTuple constant P q tuple
  merge_before q g h left right others m tuple two e a b w = record {
    under = before constant w.under m.replacement;
    each = two_each (MetBy constant P (before constant w.under m.replacement)) two (a (before constant w.under m.replacement) (back left (record { fact = first.fact; matches = both.0; holds = first.holds })))
        (b (before constant w.under m.replacement) (back right (record { fact = first.fact; matches = both.1; holds = first.holds })))
        (map_each (MetBy constant P (before constant w.under m.replacement)) (MetBy constant P w.under) (replace m.replacement) back others w.each.1);
    answers = gives_before constant w.under m.replacement p.proper q.answer tuple w.answers;
  }
    where
      p : Parts constant left right m
      p = parts constant q.answer left right m e

      first : MetBy constant P w.under m.atom
      first = w.each.0

      both : Match constant w.under (replace m.replacement left) first.fact × Match constant w.under (replace m.replacement right) first.fact
      both = p.splits w.under first.fact first.matches

      back : (x : Atom) → MetBy constant P w.under (replace m.replacement x) → MetBy constant P (before constant w.under m.replacement) x
      back x v = record { fact = v.fact; matches = match_before constant w.under m.replacement p.proper x v.fact v.matches; holds = v.holds }

  -- a query has the tuple after a merge whose replacement the assignment respects and whose atom it makes a fact that holds
  pub merge_after : (s : ℕ → X) (q : Cq) (m : Meeting) (others : List Atom) (tuple : List X) → Respects constant s m.replacement → MetBy constant P s m.atom
      → Holding constant P s q others tuple → HasTuple constant P (merged q m others) tuple
  merge_after s q m others tuple r a h = record {
    under = s;
    each = (
      a,
      each_map (MetBy constant P s) (MetBy constant P s) (replace m.replacement)
          (λ g v. record { fact = v.fact; matches = respects_match constant s m.replacement r g v.fact v.matches; holds = v.holds }) others h.each,
    );
    answers = respects_gives constant s m.replacement r q.answer tuple h.answers;
  }

  -- a step is sound
  pub step_sound : StepsAreSound constant P
  step_sound q g h left right others m tuple two e a b w =
      merge_before q g h left right others m tuple (at_places q.atoms g h others two) e a b (normal_form_out constant P (merged q m others) tuple w)

  -- what holds under an assignment follows by a step
  pub step_follows : StepsFollow constant P
  step_follows s q m others tuple r a h = normal_form_into constant P (merged q m others) tuple (merge_after s q m others tuple r a h)

  -- a step is complete
  pub step_complete : StepsAreComplete constant P
  step_complete bound s q left right others f tuple apart kl kr both holds h =
      let j = join constant (IsBelow bound) apart q.answer s left right f kl kr both.first both.second in
      record {
        by = j.by;
        is = j.is;
        respects = j.respects;
        has = step_follows s q j.by others tuple j.respects (record { fact = f; matches = j.matches; holds = holds }) h;
      }
