-- The answers of a query's conjunction tell what is wanted of the query.
use Rattle.std.proofs.Common.{◌≡◌, ℕ, refl, sym, subst}
use Rattle.mast_terms.specs.Vocabularies.{EachOnce}
use Rattle.mast_cq.specs.declared.query.Cq.{Cq}
use Rattle.mast_relations.specs.declared.query.Conjunction.{Conjunction}
use Rattle.mast_relations.specs.Matches.{IsAnswer}
use Rattle.mast_relations.specs.Stores.{contents}
use Rattle.mast_join.specs.declared.extensions.Wanted.{Wanted}
use Rattle.mast_join.specs.declared.extensions.Wanted.TheVariants.{Tuples, SomeHits, AllHits}
use Rattle.mast_join.specs.Answers.{Extended, IsAsked, Tell}
use Rattle.mast_join.specs.inside.Relates.{IsConjunctionOf}
use Rattle.mast_join.proofs.FoundLemmas.{all_hits_found, some_hit_found, tuple_found}
use Rattle.mast_join.proofs.RightLemmas.{HasSets, hit_right, tuple_right}

module _ (e : Extended) (q : Cq) (conjunction : Conjunction) (is : IsConjunctionOf e q conjunction) (constants : ℕ) (asked : IsAsked constants q) (one : EachOnce e.numbered.terms) where
  tells : (w : Wanted) → e.wanted ≡ w → Tell w e q (IsAnswer (contents e.relations) conjunction)
  tells Tuples w = record {
    right = λ row x. tuple_right e q conjunction is constants asked row x w;
    all = λ tuple h. tuple_found e q conjunction is constants asked one tuple w h;
  }
  tells SomeHits w = record {
    right = λ row x. hit_right e q conjunction is constants asked row x (subst HasSets (sym w) tt);
    all = λ tuple h. some_hit_found e q conjunction is constants asked one tuple w h;
  }
  tells AllHits w = record {
    right = λ row x. hit_right e q conjunction is constants asked row x (subst HasSets (sym w) tt);
    all = λ tuple sets h. all_hits_found e q conjunction is constants asked one tuple w sets h;
  }

  -- they do
  pub tells_query : Tell e.wanted e q (IsAnswer (contents e.relations) conjunction)
  tells_query = tells e.wanted refl
