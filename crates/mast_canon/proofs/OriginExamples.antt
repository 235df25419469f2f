-- Worked origins, as theorems: one theory, its facts, and for each ground the axiom or constraint that they break, with its document and line.
use Rattle.std.proofs.Common.{◌≡◌, ◌≢◌, ℕ, inl, inr, List, [], ◌∷◌, length, refl, ap, arith}
use Rattle.std.specs.Prelude.{codes}
use Rattle.mast_terms.specs.declared.name.Name.{Name}
use Rattle.mast_terms.specs.declared.term.Term.{Term}
use Rattle.mast_terms.specs.declared.term.Term.TheVariants as term
use Rattle.mast_terms.specs.declared.value.Kind.{Kind}
use Rattle.mast_terms.specs.declared.value.Kind.TheVariants as kind
use Rattle.mast_terms.specs.declared.value.Value.TheVariants as value
use Rattle.mast_tree.specs.declared.document.DocName.TheVariants as doc
use Rattle.mast_cq.specs.declared.atom.Arg.TheVariants.{Var}
use Rattle.mast_cq.specs.declared.atom.Atom.TheVariants.{Role}
use Rattle.mast_cq.specs.Meanings.{Fact, InClass, InRole, InAttr}
use Rattle.mast_cq.specs.Queries.{In}
use Rattle.mast_tbox.specs.declared.axiom.Inclusion.{Inclusion}
use Rattle.mast_tbox.specs.declared.axiom.Inclusion.TheVariants.{Range}
use Rattle.mast_tbox.specs.declared.axiom.Lined.{Lined}
use Rattle.mast_tbox.specs.declared.axiom.Negative.{Negative}
use Rattle.mast_tbox.specs.declared.axiom.Negative.TheVariants.{Concepts, Irreflexive}
use Rattle.mast_tbox.specs.declared.constraint.Constraint.{Constraint}
use Rattle.mast_tbox.specs.declared.constraint.Constraint.TheVariants.{Functional, Identify, Deny}
use Rattle.mast_tbox.specs.declared.constraint.Step.TheVariants.{Role as SRole}
use Rattle.mast_tbox.specs.declared.expression.Basic.TheVariants.{Class as BClass}
use Rattle.mast_tbox.specs.declared.expression.Prop.{Prop}
use Rattle.mast_tbox.specs.declared.expression.Prop.TheVariants.{Role as PRole}
use Rattle.mast_tbox.specs.declared.expression.RoleExpr.TheVariants.{Direct}
use Rattle.mast_tbox.proofs.MemberLemmas.{front, later}
use Rattle.mast_canon.specs.declared.origin.Ground.TheVariants as grounds
use Rattle.mast_canon.specs.CertainAnswers.{HoldsBy}
use Rattle.mast_canon.specs.Derivations.{source}
use Rattle.mast_canon.specs.Elements.{Named, map_fact}
use Rattle.mast_canon.specs.NoModels.{By, origin_of, BreaksFunctional, wrong, negative, range, functional, constraint}
use Rattle.mast_canon.specs.Theories.{Theory}

abbrev first_name : Name
first_name = record { 0 = 0 }

abbrev second_name : Name
second_name = record { 0 = 1 }

-- A and B are disjoint; p is irreflexive
abbrev apart : Lined Negative
apart = record { item = Concepts (BClass first_name) (BClass second_name); line = 2 }

abbrev unlike : Lined Negative
unlike = record { item = Irreflexive first_name; line = 3 }

-- u has integers; p is functional, by the ontology
abbrev integers : Lined Inclusion
integers = record { item = Range first_name kind.Integer; line = 4 }

abbrev one_p : Lined Prop
one_p = record { item = PRole (Direct first_name); line = 5 }

-- and by a constraint; an A is identified by its p; there is no p
abbrev only_one_p : Lined Constraint
only_one_p = record { item = Functional (PRole (Direct first_name)); line = 6 }

abbrev by_p : Lined Constraint
by_p = record { item = Identify (BClass first_name) ((SRole (Direct first_name) ∷ []) ∷ []); line = 7 }

abbrev no_p : Lined Constraint
no_p = record { item = Deny (Role first_name (Var 0) (Var 1) ∷ []); line = 8 }

abbrev theory : Theory
theory = record {
  inclusions = integers ∷ [];
  negatives = apart ∷ unlike ∷ [];
  functional = one_p ∷ [];
  constraints = only_one_p ∷ by_p ∷ no_p ∷ [];
  constants = [];
}

abbrev object : List ℕ → Term
object symbol = term.Object (record { symbol = symbol; args = [] })

abbrev ann : Term
ann = object (codes "ann")

abbrev acme : Term
acme = object (codes "acme")

abbrev long : Term → ℕ
long (term.Value v) = 0
long (term.Object o) = length o.symbol

ann_acme : ann ≢ acme
ann_acme e = let n : 3 ≡ 4 = ap long e in omega (arith, n)

-- the facts
abbrev listed : List (Fact Term)
listed =
    InClass first_name ann ∷ InClass second_name ann ∷ InClass first_name acme ∷ InRole first_name ann ann ∷ InRole first_name ann acme ∷
    InRole first_name acme acme ∷ InAttr first_name ann (term.Value (value.Text (codes "x"))) ∷ []

abbrev Given : Fact Term → Type 0
Given f = In f listed

holds_given : (f : Fact Term) → In f listed → HoldsBy theory Given (map_fact Named f)
holds_given f i = source (record { fact = f; given = i; is = refl })

ann_a : HoldsBy theory Given (InClass first_name (Named ann))
ann_a = holds_given (InClass first_name ann) (inl refl)

ann_b : HoldsBy theory Given (InClass second_name (Named ann))
ann_b = holds_given (InClass second_name ann) (inr (inl refl))

acme_a : HoldsBy theory Given (InClass first_name (Named acme))
acme_a = holds_given (InClass first_name acme) (inr (inr (inl refl)))

ann_ann : HoldsBy theory Given (InRole first_name (Named ann) (Named ann))
ann_ann = holds_given (InRole first_name ann ann) (inr (inr (inr (inl refl))))

ann_to_acme : HoldsBy theory Given (InRole first_name (Named ann) (Named acme))
ann_to_acme = holds_given (InRole first_name ann acme) (inr (inr (inr (inr (inl refl)))))

acme_acme : HoldsBy theory Given (InRole first_name (Named acme) (Named acme))
acme_acme = holds_given (InRole first_name acme acme) (inr (inr (inr (inr (inr (inl refl))))))

ann_x : HoldsBy theory Given (InAttr first_name (Named ann) (Named (term.Value (value.Text (codes "x")))))
ann_x = holds_given (InAttr first_name ann (term.Value (value.Text (codes "x")))) (inr (inr (inr (inr (inr (inr (inl refl)))))))

two_fillers : BreaksFunctional (HoldsBy theory Given) (PRole (Direct first_name))
two_fillers = record { subject = ann; one = ann; other = acme; first = ann_ann; second = ann_to_acme; differ = ann_acme }

-- Ann is an A and a B
disjoint : By theory Given (origin_of grounds.Disjoint doc.Ontology 2)
disjoint = negative apart (front apart (unlike ∷ [])) (Named ann, ((Named ann, ann_a), (Named ann, ann_b))) refl

-- she is her own p
irreflexive : By theory Given (origin_of grounds.Irreflexive doc.Ontology 3)
irreflexive = negative unlike (later unlike apart (unlike ∷ []) (front unlike [])) (Named ann, ann_ann) refl

text_is_no_integer : ◌≡◌ {A = Kind} kind.Text kind.Integer → ⊥
text_is_no_integer e = cc

-- her u is a text
value_type : By theory Given (origin_of grounds.ValueType doc.Ontology 4)
value_type = range [] [] integers first_name kind.Integer refl refl (wrong (Named ann) (value.Text (codes "x")) ann_x text_is_no_integer) refl

-- she has two different p
functional_axiom : By theory Given (origin_of grounds.Functional doc.Ontology 5)
functional_axiom = functional one_p (front one_p []) two_fillers refl

functional_constraint : By theory Given (origin_of grounds.Functional doc.Constraints 6)
functional_constraint = constraint only_one_p (front only_one_p (by_p ∷ no_p ∷ [])) two_fillers refl

-- two different A have one p
identify : By theory Given (origin_of grounds.Identify doc.Constraints 7)
identify = constraint by_p (later by_p only_one_p (by_p ∷ no_p ∷ []) (front by_p (no_p ∷ []))) (record {
  one = ann;
  other = acme;
  first = (Named ann, ann_a);
  second = (Named acme, acme_a);
  share = ((Named acme, ((Named acme, (ann_to_acme, refl)), (Named acme, (acme_acme, refl)))), tt);
  differ = ann_acme;
}) refl

-- and there is a p
deny : By theory Given (origin_of grounds.Deny doc.Constraints 8)
deny = constraint no_p (later no_p only_one_p (by_p ∷ no_p ∷ []) (later no_p by_p (no_p ∷ []) (front no_p []))) (record {
  under = λ x. Named ann;
  each = (record { fact = InRole first_name (Named ann) (Named ann); matches = (refl, refl, refl); holds = ann_ann }, tt);
  answers = tt;
}) refl
