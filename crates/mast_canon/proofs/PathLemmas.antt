-- The tests of paths tell which properties are below which, and which are specialised, and where basic concepts lead.
use Rattle.std.proofs.Common.{◌≡◌, true, List, [], ◌∷◌, ◌++◌, Contains, Some, None, refl, sym, ap, ◌∙◌, subst}
use Rattle.mast_tbox.specs.declared.axiom.Inclusion.{Inclusion}
use Rattle.mast_tbox.specs.declared.axiom.Inclusion.TheVariants.{Class as IClass, Exists, HasValue, Role as IRole, Attr as IAttr, Range}
use Rattle.mast_tbox.specs.declared.expression.Basic.{Basic}
use Rattle.mast_tbox.specs.declared.expression.Prop.{Prop}
use Rattle.mast_tbox.specs.declared.expression.Prop.TheVariants.{Role as PRole, Attr as PAttr}
use Rattle.mast_tbox.specs.inside.StepLists.{prop_pairs}
use Rattle.mast_tbox.specs.Expressions.{inverse, same_basic, same_prop}
use Rattle.mast_tbox.specs.Inclusions.{Leads, IsDirectlyBelow, concept_pairs, firsts, pairs}
use Rattle.mast_tbox.specs.Lists.{Reaches}
use Rattle.mast_tbox.specs.Properties.{IsBelow, AreEquivalent}
use Rattle.mast_tbox.specs.Restrictions.{IsLike, Specialises, IsSpecialised}
use Rattle.mast_tbox.proofs.BelowLemmas.{directly_is, directly_pair, firsts_has, leading_is, leads_pair, pairs_has}
use Rattle.mast_tbox.proofs.EqualityLemmas.{prop_same, prop_itself, basic_same, basic_itself}
use Rattle.mast_tbox.proofs.OnceLemmas.{once_has}
use Rattle.mast_canon.specs.Paths.{wider_pairs, is_below, is_under, are_equivalent, is_like, specialises, is_specialised}
use Rattle.mast_canon.proofs.TestLemmas.{Tells, tells_and, tells_no, tells_not, tells_or, tells_reached, tells_some}

-- two properties are one
pub tells_prop : (p q : Prop) → Tells (same_prop p q) (p ≡ q)
tells_prop p q = record { yes = prop_same p q; holds = λ e. subst (λ z. same_prop p z ≡ true) e (prop_itself p) }

-- two basic concepts are one
pub tells_basic : (b c : Basic) → Tells (same_basic b c) (b ≡ c)
tells_basic b c = record { yes = basic_same b c; holds = λ e. subst (λ z. same_basic b z ≡ true) e (basic_itself b) }

same_pairs : (i : Inclusion) → prop_pairs i ≡ wider_pairs i
same_pairs (IClass b a) = refl
same_pairs (Exists b r end k) = refl
same_pairs (HasValue b u k) = refl
same_pairs (IRole r s) = refl
same_pairs (IAttr u v) = refl
same_pairs (Range u kind) = refl

all_same : (is : List Inclusion) → pairs prop_pairs is ≡ pairs wider_pairs is
all_same [] = refl
all_same (i ∷ is) = ap (λ w. w ++ pairs prop_pairs is) (same_pairs i) ∙ ap (λ w. wider_pairs i ++ w) (all_same is)

module _ (tbox : List Inclusion) where
  wider_leads : (p q : Prop) → Contains (pairs wider_pairs tbox) (p, q) → Leads tbox p q
  wider_leads p q c = (leading_is tbox q p).0
      (once_has same_prop prop_same prop_itself (firsts same_prop q (pairs prop_pairs tbox)) p
      (firsts_has same_prop prop_same prop_itself q (pairs prop_pairs tbox) p (subst (λ w. Contains w (p, q)) (sym (all_same tbox)) c)))

  leads_wider : (p q : Prop) → Leads tbox p q → Contains (pairs wider_pairs tbox) (p, q)
  leads_wider p q l =
      let w = leads_pair tbox p q l in subst (λ z. Contains z (p, q)) (all_same tbox) (pairs_has prop_pairs tbox w.inclusion (p, q) w.stands w.gives)

  -- the first property is below the second
  pub tells_below : (p q : Prop) → Tells (is_below tbox p q) (IsBelow tbox p q)
  tells_below p q = tells_reached same_prop tells_prop (pairs wider_pairs tbox) (Leads tbox) (λ x y. (wider_leads x y, leads_wider x y)) p q

  directly_from : (c b : Basic) → Contains (pairs concept_pairs tbox) (c, b) → IsDirectlyBelow tbox c b
  directly_from c b i = (directly_is tbox b c).0
      (once_has same_basic basic_same basic_itself (firsts same_basic b (pairs concept_pairs tbox)) c (firsts_has same_basic basic_same basic_itself b (pairs concept_pairs tbox) c i))

  directly_to : (c b : Basic) → IsDirectlyBelow tbox c b → Contains (pairs concept_pairs tbox) (c, b)
  directly_to c b d = let w = directly_pair tbox c b d in pairs_has concept_pairs tbox w.inclusion (c, b) w.stands w.gives

  -- inclusions lead from the first basic concept to the second
  pub tells_under : (c b : Basic) → Tells (is_under tbox c b) (Reaches (IsDirectlyBelow tbox) c b)
  tells_under c b = tells_reached same_basic tells_basic (pairs concept_pairs tbox) (IsDirectlyBelow tbox) (λ x y. (directly_from x y, directly_to x y)) c b

  -- the properties are equivalent
  pub tells_equivalent : (p q : Prop) → Tells (are_equivalent tbox p q) (AreEquivalent tbox p q)
  tells_equivalent p q = tells_and (tells_below p q) (tells_below q p)

  tells_like : (p q : Prop) → Tells (is_like tbox p q) (IsLike tbox p q)
  tells_like p q = tells_or (tells_equivalent p q) (tells_equivalent p (inverse q))

  tells_specialises : (p : Prop) (i : Inclusion) → Tells (specialises tbox p i) (Specialises tbox i p)
  tells_specialises p (IClass b a) = tells_no
  tells_specialises p (Exists b r None k) = tells_no
  tells_specialises p (Exists b r (Some a) k) = tells_like p (PRole r)
  tells_specialises p (HasValue b u k) = tells_no
  tells_specialises p (IRole r s) = tells_and (tells_not (tells_equivalent (PRole r) (PRole s))) (tells_like p (PRole s))
  tells_specialises p (IAttr u v) = tells_and (tells_not (tells_equivalent (PAttr u) (PAttr v))) (tells_like p (PAttr v))
  tells_specialises p (Range u kind) = tells_no

  -- something specialises the property
  pub tells_specialised : (p : Prop) → Tells (is_specialised tbox p) (IsSpecialised tbox p)
  tells_specialised p = tells_some (tells_specialises p) tbox
