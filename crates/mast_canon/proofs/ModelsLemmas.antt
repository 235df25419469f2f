-- Models law: a list of facts breaks nothing exactly where it has a world, and certain answers are the answers in every world.
use Rattle.std.proofs.Common.{inl, inr}
use Rattle.mast_terms.specs.declared.term.Term.{Term}
use Rattle.mast_cq.specs.Meanings.{Fact}
use Rattle.mast_tbox.specs.Laws.{Decided}
use Rattle.mast_canon.specs.Interpretations.{decided}
use Rattle.mast_canon.specs.NoModels.{NoModel}
use Rattle.mast_canon.specs.Theories.{Theory}
use Rattle.mast_canon.specs.TheoryPremises.{AreSorted, IsRestricted}
use Rattle.mast_canon.specs.WorldLaws.{IsListed, HasKeptWorld, HasNoWorld, HasWorld, KeptLaw, ModelsLaw}
use Rattle.mast_canon.proofs.DecidedKeptLemmas.{has_kept_world}
use Rattle.mast_canon.proofs.KeptWorldLemmas.{kept_law}
use Rattle.mast_canon.proofs.ListedLemmas.{terms_of, terms_of_listed}
use Rattle.mast_canon.proofs.WorldLemmas.{world_unbroken, certain_true}

module _ (theory : Theory) (F : Fact Term → Type 0) (l : IsListed F) (restricted : IsRestricted theory) (sorted : AreSorted F) where
  kept : HasKeptWorld theory F
  kept = has_kept_world theory F l

  kept_is : (NoModel theory F → ⊥) → KeptLaw (decided kept.interpretation) theory F
  kept_is model = kept_law (decided kept.interpretation) theory F restricted (terms_of l.list) (terms_of_listed F l) sorted model kept.kept

  has_world : (NoModel theory F → ⊥) → HasWorld theory F
  has_world model = record { interpretation = kept.interpretation; world = (kept_is model).world }

  broken : NoModel theory F → HasNoWorld theory F
  broken n w = world_unbroken (decided w.interpretation) theory F w.world n

  judged : Decided (NoModel theory F) → HasNoWorld theory F → NoModel theory F
  judged (inl n) none = n
  judged (inr model) none = absurd (none (has_world model))

  pub models_law : ModelsLaw theory F
  models_law = record {
    broken = broken;
    worldless = λ none model. none (has_world model);
    unbroken = (has_world, λ w. world_unbroken (decided w.interpretation) theory F w.world);
    where_decided = λ d. (broken, judged d);
    answers = λ model q tuple. (
      λ c w world. certain_true (decided w) theory F world q tuple c,
      λ each. ((kept_is model).answers q tuple).0 (each kept.interpretation (kept_is model).world),
    );
  }
