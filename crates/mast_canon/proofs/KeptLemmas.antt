-- Kept of a specification and the facts of its tables is a kept interpretation.
use Rattle.std.proofs.Common.{List, ◌↔◌, refl}
use Rattle.mast_cq.specs.Meanings.{Fact, InClass, InRole, InAttr}
use Rattle.mast_tables.specs.Rows.{Row}
use Rattle.mast_canon.specs.declared.spec.Spec.{Spec}
use Rattle.mast_canon.specs.Elements.{Element, Named}
use Rattle.mast_canon.specs.Interpretations.{Interpretation, IsTrue}
use Rattle.mast_canon.specs.KeptMembers.{IsTrueInKept, kept_fill, kept_kind}
use Rattle.mast_canon.specs.SpecFacts.{AllFacts}
use Rattle.mast_canon.specs.SpecLaws.{HasNoModel, IsKeptOf}
use Rattle.mast_canon.specs.Theories.{theory_of}
use Rattle.mast_canon.specs.WorldLaws.{KeptLaw}
use Rattle.mast_canon.proofs.KeptChoiceLemmas.{fill_is, kind_is}
use Rattle.mast_canon.proofs.KeptWorldLemmas.{kept_law}
use Rattle.mast_canon.proofs.ListedLemmas.{terms_of, terms_of_listed}
use Rattle.mast_canon.proofs.SpecLemmas.{all_listed, all_sorted, spec_restricted}

module _ (spec : Spec) (tables : List (List Row)) where
  -- Kept as an interpretation
  abbrev pub kept_of : Interpretation Element
  kept_of = record {
    class = λ a e. IsTrueInKept spec tables (InClass a e);
    role = λ p e f. IsTrueInKept spec tables (InRole p e f);
    attr = λ u e v. IsTrueInKept spec tables (InAttr u e v);
    kind = kept_kind spec tables;
    named = Named;
    fill = kept_fill spec tables;
  }

  facts : (f : Fact Element) → IsTrue kept_of f ↔ IsTrueInKept spec tables f
  facts (InClass a e) = ((λ h. h), λ h. h)
  facts (InRole p e f) = ((λ h. h), λ h. h)
  facts (InAttr u e v) = ((λ h. h), λ h. h)

  -- its relations, names, kinds and fillers are those of the definition
  pub is_kept_of : IsKeptOf kept_of spec tables
  is_kept_of = record {
    facts = facts;
    names = λ t. refl;
    kinds = kind_is spec.tbox.inclusions (AllFacts spec tables) (all_listed spec tables);
    fillers = fill_is spec.tbox.inclusions (AllFacts spec tables) (all_listed spec tables);
  }

  -- so it is a world with the certain answers where the facts have a model
  pub kept_of_law : (HasNoModel spec tables → ⊥) → KeptLaw kept_of (theory_of spec) (AllFacts spec tables)
  kept_of_law model =
      let l = all_listed spec tables in
      kept_law kept_of (theory_of spec) (AllFacts spec tables) (spec_restricted spec) (terms_of l.list) (terms_of_listed (AllFacts spec tables) l) (all_sorted spec tables) model is_kept_of
