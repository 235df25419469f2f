-- What grows with the facts: facts that hold, what they break, and the tuples of queries.
use Rattle.std.proofs.Common.{ℕ, List, [], ◌∷◌}
use Rattle.mast_terms.specs.declared.name.Name.{Name}
use Rattle.mast_terms.specs.declared.term.Term.{Term}
use Rattle.mast_terms.specs.declared.value.Kind.{Kind}
use Rattle.mast_cq.specs.declared.atom.Atom.{Atom}
use Rattle.mast_cq.specs.declared.query.Cq.{Cq}
use Rattle.mast_cq.specs.Meanings.{Fact, MetBy, HasTuple}
use Rattle.mast_tbox.specs.declared.axiom.Inclusion.{Inclusion}
use Rattle.mast_tbox.specs.declared.axiom.Negative.{Negative}
use Rattle.mast_tbox.specs.declared.axiom.Negative.TheVariants.{Concepts, Roles, Attrs, Irreflexive}
use Rattle.mast_tbox.specs.declared.constraint.Constraint.{Constraint}
use Rattle.mast_tbox.specs.declared.constraint.Constraint.TheVariants.{Functional, Identify, Deny}
use Rattle.mast_tbox.specs.declared.constraint.Step.{Step}
use Rattle.mast_tbox.specs.declared.constraint.Step.TheVariants.{Role as SRole, Test, Attr as SAttr}
use Rattle.mast_tbox.specs.declared.expression.Basic.{Basic}
use Rattle.mast_tbox.specs.declared.expression.Prop.{Prop}
use Rattle.mast_canon.specs.declared.origin.Origin.{Origin}
use Rattle.mast_canon.specs.CertainAnswers.{constant_in}
use Rattle.mast_canon.specs.DerivationLaws.{LieWithin}
use Rattle.mast_canon.specs.Derivations.{Holds, source, follows}
use Rattle.mast_canon.specs.Elements.{Element}
use Rattle.mast_canon.specs.Memberships.{IsIn, LeadsTo, ShareEnd}
use Rattle.mast_canon.specs.NoModels.{BreaksNegative, BreaksRange, wrong, two, BreaksFunctional, BreaksConstraint, Breaks, negative, range, functional, constraint, asks}
use Rattle.mast_canon.specs.Theories.{Theory}
use Rattle.mast_canon.proofs.SupportLemmas.{each_weaker}

-- what holds over F holds over G
pub holds_grows : (F G : Fact Term → Type 0) → LieWithin F G → (tbox : List Inclusion) (f : Fact Element) → Holds tbox F f → Holds tbox G f
holds_grows F G more tbox f (source s) = source (record { fact = s.fact; given = more s.fact s.given; is = s.is })
holds_grows F G more tbox f (follows {f = g} h step) = follows (holds_grows F G more tbox g h) step

-- more facts
module _ {X : Type 0} (P Q : Fact X → Type 0) (more : (f : Fact X) → P f → Q f) where
  pub met_grows : (constant s : ℕ → X) (g : Atom) → MetBy constant P s g → MetBy constant Q s g
  met_grows constant s g m = record { fact = m.fact; matches = m.matches; holds = more m.fact m.holds }

  pub tuple_grows : (constant : ℕ → X) (q : Cq) (tuple : List X) → HasTuple constant P q tuple → HasTuple constant Q q tuple
  tuple_grows constant q tuple h = record {
    under = h.under;
    each = each_weaker (MetBy constant P h.under) (MetBy constant Q h.under) (met_grows constant h.under) q.atoms h.each;
    answers = h.answers;
  }

  in_grows : (b : Basic) (t : X) → IsIn P b t → IsIn Q b t
  in_grows b t i = (i.0, more _ i.1)

  leads_grows : (path : List Step) (t u : X) → LeadsTo P path t u → LeadsTo Q path t u
  leads_grows [] t u l = l
  leads_grows (SRole r ∷ path) t u l = (l.0, (more _ l.1.0, leads_grows path l.0 u l.1.1))
  leads_grows (Test a ∷ path) t u l = (more _ l.0, leads_grows path t u l.1)
  leads_grows (SAttr a ∷ path) t u l = (l.0, (more _ l.1.0, leads_grows path l.0 u l.1.1))

  pub share_grows : (t u : X) (path : List Step) → ShareEnd P t u path → ShareEnd Q t u path
  share_grows t u path s = (s.0, (leads_grows path t s.0 s.1.0, leads_grows path u s.0 s.1.1))

  pub negative_grows : (n : Negative) → BreaksNegative P n → BreaksNegative Q n
  negative_grows (Concepts left right) b = (b.0, (in_grows left b.0 b.1.0, in_grows right b.0 b.1.1))
  negative_grows (Roles left right) b = (b.0, (b.1.0, (more _ b.1.1.0, more _ b.1.1.1)))
  negative_grows (Attrs left right) b = (b.0, (b.1.0, (more _ b.1.1.0, more _ b.1.1.1)))
  negative_grows (Irreflexive role) b = (b.0, more _ b.1)

-- what is broken stays broken
module _ (P Q : Fact Element → Type 0) (more : (f : Fact Element) → P f → Q f) where
  range_grows : (earlier : List Inclusion) (attr : Name) (kind : Kind) → BreaksRange P earlier attr kind → BreaksRange Q earlier attr kind
  range_grows earlier attr kind (wrong t v h e) = wrong t v (more _ h) e
  range_grows earlier attr kind (two other its t s v c e h k) = two other its t s v c e (more _ h) (more _ k)

  functional_grows : (p : Prop) → BreaksFunctional P p → BreaksFunctional Q p
  functional_grows p b = record { subject = b.subject; one = b.one; other = b.other; first = more _ b.first; second = more _ b.second; differ = b.differ }

  constraint_grows : (theory : Theory) (c : Constraint) → BreaksConstraint theory P c → BreaksConstraint theory Q c
  constraint_grows theory (Functional p) b = functional_grows p b
  constraint_grows theory (Identify concept paths) b = record {
    one = b.one;
    other = b.other;
    first = (b.first.0, more _ b.first.1);
    second = (b.second.0, more _ b.second.1);
    share = each_weaker (ShareEnd P _ _) (ShareEnd Q _ _) (share_grows P Q more _ _) paths b.share;
    differ = b.differ;
  }
  constraint_grows theory (Deny atoms) b = tuple_grows P Q more (constant_in theory) (asks atoms) [] b

  pub breaks_grow : (theory : Theory) (origin : Origin) → Breaks theory P origin → Breaks theory Q origin
  breaks_grow theory origin (negative l c b e) = negative l c (negative_grows P Q more l.item b) e
  breaks_grow theory origin (range before after l attr kind i r b e) = range before after l attr kind i r (range_grows _ attr kind b) e
  breaks_grow theory origin (functional l c b e) = functional l c (functional_grows l.item b) e
  breaks_grow theory origin (constraint l c b e) = constraint l c (constraint_grows theory l.item b) e
