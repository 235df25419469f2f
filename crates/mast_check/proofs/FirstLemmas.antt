-- A breach of the first of some violations that is breached, violation by violation; and what it tells of models.
use Rattle.std.proofs.Common.{◌≡◌, ◌↔◌, true, false, List, [], ◌∷◌, Option, Some, None, is_some, inl, refl, sym, ap, subst}
use Rattle.std.proofs.lemmas.Bool.{true≢false, false≢true}
use Rattle.std.specs.Option.{IfSome}
use Rattle.std.specs.Prelude.{Result, Ok, Err, IfOk}
use Rattle.mast_terms.specs.Vocabularies.{IsVocabulary}
use Rattle.mast_cq.specs.Queries.{In}
use Rattle.mast_cq.proofs.ListLemmas.{append_right, each_in}
use Rattle.mast_tables.specs.Rows.{Row}
use Rattle.mast_canon.specs.declared.rows.RowId.{RowId}
use Rattle.mast_canon.specs.declared.spec.Spec.{Spec}
use Rattle.mast_canon.specs.SpecFacts.{FactsOf}
use Rattle.mast_canon.specs.Theories.{theory_of}
use Rattle.mast_join.specs.Extensions.{Over, TakesPart, over_of}
use Rattle.mast_violate.specs.declared.violation.Violation.{Violation}
use Rattle.mast_violate.specs.Breaches.{violations_of}
use Rattle.mast_violate.proofs.BreachLemmas.{are_breaches}
use Rattle.mast_check.specs.declared.breach.Breach.{Breach}
use Rattle.mast_check.specs.Checks.{HasNoModelOver, IsOfFirst, TellsModel}
use Rattle.mast_check.specs.inside.Pieces.{IsBreachBy, IsUnbreachedOver, TellsBreach, TellsFirstBreach}
use Rattle.mast_check.proofs.FormLemmas.{spec_proper}

-- one more violation in front that is not breached
first_later : (spec : Spec) (over : Over) (v : Violation) (rest : List Violation) (found : Option Breach) → IsUnbreachedOver spec over v → TellsFirstBreach spec over rest found → TellsFirstBreach spec over (v ∷ rest) found
first_later spec over v rest None u t = (u, t)
first_later spec over v rest (Some breach) u t = record {
  is = t.is;
  first = record {
    before = v ∷ t.first.before;
    violation = t.first.violation;
    after = t.first.after;
    parted = ap (λ vs. v ∷ vs) t.first.parted;
    whole = (u, t.first.whole);
    breached = t.first.breached;
    of_origin = t.first.of_origin;
  };
}

-- the violation in front is breached
first_here : (spec : Spec) (over : Over) (v : Violation) (rest : List Violation) (breach : Breach) → IsBreachBy spec over v breach → TellsFirstBreach spec over (v ∷ rest) (Some breach)
first_here spec over v rest breach b =
    record { is = b.is; first = record { before = []; violation = v; after = rest; parted = refl; whole = tt; breached = b.breached; of_origin = b.of_origin } }

-- what is told of the rest of a list is told of the whole
abbrev pub TellsRest : Spec → Over → (list rest : List Violation) → Type 0
TellsRest spec over list rest = (found : Option Breach) → TellsFirstBreach spec over rest found → TellsFirstBreach spec over list found

-- so it is behind a violation that is not breached
pub rest_later : (spec : Spec) (over : Over) (list rest now : List Violation) (v : Violation) (found : Option Breach) → now ≡ v ∷ rest → is_some found ≡ false → TellsBreach spec over v found → TellsRest spec over list now
    → TellsRest spec over list rest
rest_later spec over list rest now v None cut none told before later t = before later (subst (λ vs. TellsFirstBreach spec over vs later) (sym cut) (first_later spec over v rest later told t))
rest_later spec over list rest now v (Some breach) cut none told before later t = absurd (true≢false none)

-- and the breach of one that is breached is told of the whole
pub rest_here : (spec : Spec) (over : Over) (list rest now : List Violation) (v : Violation) (found : Option Breach) → now ≡ v ∷ rest → is_some found ≡ true → TellsBreach spec over v found → TellsRest spec over list now
    → TellsFirstBreach spec over list found
rest_here spec over list rest now v None cut some told before = absurd (false≢true some)
rest_here spec over list rest now v (Some breach) cut some told before = before (Some breach) (subst (λ vs. TellsFirstBreach spec over vs (Some breach)) (sym cut) (first_here spec over v rest breach told))

-- where none is left, none is breached
pub rest_end : (spec : Spec) (over : Over) (list rest : List Violation) → rest ≡ [] → TellsRest spec over list rest → TellsFirstBreach spec over list None
rest_end spec over list rest none before = before None (subst (λ vs. TellsFirstBreach spec over vs None) (sym none) tt)

module _ (spec : Spec) (vocab : IsVocabulary spec.vocab) (tables : List (List Row)) (only : Option (List RowId)) where
  abbrev over : Over
  over = over_of spec tables only

  -- where no violation of the list is breached there is a model
  pub tells_model : (found : Option Breach) → TellsFirstBreach spec over (violations_of (theory_of spec)) found → TellsModel spec tables only found
  tells_model None t = λ broken.
      let w = (are_breaches (theory_of spec) (FactsOf spec tables (TakesPart tables only)) (spec_proper spec vocab).formed broken.0).0 broken.1 in
      each_in (IsUnbreachedOver spec over) w.violation (violations_of (theory_of spec)) t w.stands w.breached
  tells_model (Some breach) t = t.is

  pub tells_first : (found : Option Breach) → TellsFirstBreach spec over (violations_of (theory_of spec)) found → IfSome found (IsOfFirst spec tables only)
  tells_first None t = tt
  tells_first (Some breach) t = t.first

  -- where one is there is none
  no_model : (breach : Breach) → IsOfFirst spec tables only breach → HasNoModelOver spec tables only
  no_model breach f = (
    f.violation.origin,
    (are_breaches (theory_of spec) (FactsOf spec tables (TakesPart tables only)) (spec_proper spec vocab).formed f.violation.origin).1 (record {
      violation = f.violation;
      stands = subst (In f.violation) (sym f.parted) (append_right f.violation f.before (f.violation ∷ f.after) (inl refl));
      has_origin = refl;
      breached = f.breached;
    }),
  )

  -- so none is found exactly where there is a model
  pub exact_model : (found : Option Breach) → TellsModel spec tables only found → IfSome found (IsOfFirst spec tables only) → (found ≡ None) ↔ (HasNoModelOver spec tables only → ⊥)
  exact_model None t f = (λ e. t, λ k. refl)
  exact_model (Some breach) t f = (λ e. absurd (cc), λ k. absurd (k (no_model breach f)))

  module _ (o : Over) (same : o ≡ over) (list : List Violation) (lists : list ≡ violations_of (theory_of spec)) where
    first_of_list : (found : Option Breach) → TellsFirstBreach spec o list found → TellsFirstBreach spec over (violations_of (theory_of spec)) found
    first_of_list found t = subst (λ p. TellsFirstBreach spec p (violations_of (theory_of spec)) found) same (subst (λ vs. TellsFirstBreach spec o vs found) lists t)

    -- what is answered of the violation list tells of models
    pub model_told : {E : Type 0} → (result : Result (Option Breach) E) → IfOk result (TellsFirstBreach spec o list) → IfOk result (TellsModel spec tables only)
    model_told (Ok found) t = tells_model found (first_of_list found t)
    model_told (Err e) t = tt

    -- and which violation a breach is of
    pub first_told : {E : Type 0} → (result : Result (Option Breach) E) → IfOk result (TellsFirstBreach spec o list) → IfOk result (λ found. IfSome found (IsOfFirst spec tables only))
    first_told (Ok found) t = tells_first found (first_of_list found t)
    first_told (Err e) t = tt
