-- Being below, equivalent, specialised and directly below: each is decided.
use Rattle.std.proofs.Common.{◌≡◌, inl, inr, Bool, true, false, List, Some, None, map, Contains, refl, sym, ap, ◌∙◌}
use Rattle.mast_tbox.specs.declared.expression.Basic.{Basic}
use Rattle.mast_tbox.specs.declared.expression.Prop.{Prop}
use Rattle.mast_tbox.specs.declared.expression.Prop.TheVariants.{Role as PRole, Attr as PAttr}
use Rattle.mast_tbox.specs.declared.axiom.Inclusion.{Inclusion}
use Rattle.mast_tbox.specs.declared.axiom.Inclusion.TheVariants.{Class as IClass, Exists, HasValue, Role as IRole, Attr as IAttr, Range}
use Rattle.mast_tbox.specs.inside.Components.{all_ends}
use Rattle.mast_tbox.specs.Expressions.{inverse, same_prop, same_basic}
use Rattle.mast_tbox.specs.Inclusions.{Leads, IsDirectlyBelow, concept_pairs, pairs, directly_below}
use Rattle.mast_tbox.specs.inside.StepLists.{leading_to}
use Rattle.mast_tbox.specs.Laws.{Decided}
use Rattle.mast_tbox.specs.Lists.{Reaches}
use Rattle.mast_tbox.specs.Properties.{IsBelow, AreEquivalent}
use Rattle.mast_tbox.specs.Restrictions.{IsLike, Specialises, IsSpecialised}
use Rattle.mast_tbox.proofs.BelowLemmas.{leading_is, directly_is, directly_pair, pairs_has}
use Rattle.mast_tbox.proofs.ComponentLemmas.{leads_ends}
use Rattle.mast_tbox.proofs.EqualityLemmas.{prop_same, prop_itself, basic_same, basic_itself}
use Rattle.mast_tbox.proofs.MemberLemmas.{map_in}
use Rattle.mast_tbox.proofs.ThroughLemmas.{dec_or, dec_and, dec_as, dec_not, dec_some, dec_in, dec_reaches}

-- where a test holds exactly of equal ones, it is decided whether two are one
dec_same : {X : Type 0} (eq : X → X → Bool) → ((x y : X) → eq x y ≡ true → x ≡ y) → ((x : X) → eq x x ≡ true) → (x y : X) → Decided (x ≡ y)
dec_same eq same itself x y = go (eq x y) refl
  where
    go : (b : Bool) → eq x y ≡ b → Decided (x ≡ y)
    go true e = inl (same x y e)
    go false e = inr (λ f. absurd (let g : true ≡ false = sym (itself x) ∙ (ap (eq x) f ∙ e) in cc))

-- whether two properties are one
pub same_prop_decided : (p q : Prop) → Decided (p ≡ q)
same_prop_decided = dec_same same_prop prop_same prop_itself

-- whether two basic concepts are one
pub same_basic_decided : (b c : Basic) → Decided (b ≡ c)
same_basic_decided = dec_same same_basic basic_same basic_itself

module _ (tbox : List Inclusion) where
  -- whether a stated inclusion leads from one property to another
  pub leads_decided : (p q : Prop) → Decided (Leads tbox p q)
  leads_decided p q = dec_as (leading_is tbox q p) (dec_in same_prop_decided (leading_to tbox q) p)

  -- whether a property is below another
  pub below_decided : (p q : Prop) → Decided (IsBelow tbox p q)
  below_decided p q = dec_reaches (Leads tbox) (λ x. Unit {0}) (all_ends tbox) (λ x y u l. (tt, (leads_ends tbox x y l).1)) same_prop_decided leads_decided p q tt

  -- whether two properties are equivalent
  pub equivalent_decided : (p q : Prop) → Decided (AreEquivalent tbox p q)
  equivalent_decided p q = dec_and (below_decided p q) (below_decided q p)

  -- whether a property is equivalent to another or to its inverse
  pub like_decided : (p q : Prop) → Decided (IsLike tbox p q)
  like_decided p q = dec_or (equivalent_decided p q) (equivalent_decided p (inverse q))

  -- whether an inclusion specialises a property
  pub specialises_decided : (i : Inclusion) (p : Prop) → Decided (Specialises tbox i p)
  specialises_decided (IClass b a) p = inr (λ s. s)
  specialises_decided (Exists b r None k) p = inr (λ s. s)
  specialises_decided (Exists b r (Some a) k) p = like_decided p (PRole r)
  specialises_decided (HasValue b u k) p = inr (λ s. s)
  specialises_decided (IRole r s) p = dec_and (dec_not (equivalent_decided (PRole r) (PRole s))) (like_decided p (PRole s))
  specialises_decided (IAttr u v) p = dec_and (dec_not (equivalent_decided (PAttr u) (PAttr v))) (like_decided p (PAttr v))
  specialises_decided (Range u kind) p = inr (λ s. s)

  -- whether something specialises a property
  pub specialised_decided : (p : Prop) → Decided (IsSpecialised tbox p)
  specialised_decided p = dec_some (λ i. specialises_decided i p) tbox

  -- whether a basic concept is directly below another
  pub directly_decided : (c b : Basic) → Decided (IsDirectlyBelow tbox c b)
  directly_decided c b = dec_as (directly_is tbox b c) (dec_in same_basic_decided (directly_below tbox b) c)

  upper_has : (c b : Basic) → IsDirectlyBelow tbox c b → Contains (map (λ p. p.1) (pairs concept_pairs tbox)) b
  upper_has c b d = let w = directly_pair tbox c b d in map_in (λ p. p.1) (pairs concept_pairs tbox) (c, b) (pairs_has concept_pairs tbox w.inclusion (c, b) w.stands w.gives)

  -- whether a basic concept is reached from another by what is directly below
  pub concept_reach_decided : (c b : Basic) → Decided (Reaches (IsDirectlyBelow tbox) c b)
  concept_reach_decided c b =
      dec_reaches (IsDirectlyBelow tbox) (λ x. Unit {0}) (map (λ p. p.1) (pairs concept_pairs tbox)) (λ x y u d. (tt, upper_has x y d)) same_basic_decided directly_decided c b tt
