-- Images: a function on terms takes the facts of one interpretation to those of another, with what they show, break and answer.
use Rattle.std.proofs.Common.{◌≡◌, ℕ, List, [], ◌∷◌, map, refl, ap, subst}
use Rattle.mast_cq.specs.declared.atom.Arg.{Arg}
use Rattle.mast_cq.specs.declared.atom.Arg.TheVariants.{Blank, Var, Constant}
use Rattle.mast_cq.specs.declared.atom.Atom.{Atom}
use Rattle.mast_cq.specs.declared.atom.Atom.TheVariants.{Class, Role, Attr}
use Rattle.mast_cq.specs.declared.query.Cq.{Cq}
use Rattle.mast_cq.specs.Meanings.{Fact, InClass, InRole, InAttr, Fits, Match, Gives, MetBy, HasTuple}
use Rattle.mast_tbox.specs.declared.axiom.Negative.{Negative}
use Rattle.mast_tbox.specs.declared.axiom.Negative.TheVariants.{Concepts, Roles, Attrs, Irreflexive}
use Rattle.mast_tbox.specs.declared.constraint.Step.{Step}
use Rattle.mast_tbox.specs.declared.constraint.Step.TheVariants.{Role as SRole, Test, Attr as SAttr}
use Rattle.mast_tbox.specs.declared.expression.Basic.{Basic}
use Rattle.mast_tbox.specs.declared.expression.Basic.TheVariants.{Class as BClass, Some as BSome, Subjects}
use Rattle.mast_tbox.specs.declared.expression.Prop.{Prop}
use Rattle.mast_tbox.specs.declared.expression.Prop.TheVariants.{Role as PRole, Attr as PAttr}
use Rattle.mast_tbox.specs.declared.expression.RoleExpr.TheVariants.{Direct, Inverse}
use Rattle.mast_canon.specs.Elements.{map_fact}
use Rattle.mast_canon.specs.Memberships.{pair_fact, shows, IsIn, LeadsTo, ShareEnd}
use Rattle.mast_canon.specs.NoModels.{BreaksNegative}
use Rattle.mast_canon.proofs.SupportLemmas.{each_weaker}

module _ {X Y : Type 0} (f : X → Y) where
  pub map_pair : (p : Prop) (t u : X) → map_fact f (pair_fact p t u) ≡ pair_fact p (f t) (f u)
  map_pair (PRole (Direct p)) t u = refl
  map_pair (PRole (Inverse p)) t u = refl
  map_pair (PAttr v) t u = refl

  pub map_shows : (b : Basic) (t u : X) → map_fact f (shows b t u) ≡ shows b (f t) (f u)
  map_shows (BClass a) t u = refl
  map_shows (BSome r) t u = map_pair (PRole r) t u
  map_shows (Subjects v) t u = refl

  module _ (constant s : ℕ → X) where
    abbrev c' : ℕ → Y
    c' n = f (constant n)

    abbrev s' : ℕ → Y
    s' n = f (s n)

    pub fits_map : (x : Arg) (t : X) → Fits constant s x t → Fits c' s' x (f t)
    fits_map Blank t h = tt
    fits_map (Var x) t h = ap f h
    fits_map (Constant c) t h = ap f h

    pub match_map : (g : Atom) (h : Fact X) → Match constant s g h → Match c' s' g (map_fact f h)
    match_map (Class a x) (InClass b t) m = (m.0, fits_map x t m.1)
    match_map (Class a x) (InRole b t u) m = absurd m
    match_map (Class a x) (InAttr b t u) m = absurd m
    match_map (Role a x y) (InClass b t) m = absurd m
    match_map (Role a x y) (InRole b t u) m = (m.0, fits_map x t m.1, fits_map y u m.2)
    match_map (Role a x y) (InAttr b t u) m = absurd m
    match_map (Attr a x y) (InClass b t) m = absurd m
    match_map (Attr a x y) (InRole b t u) m = absurd m
    match_map (Attr a x y) (InAttr b t u) m = (m.0, fits_map x t m.1, fits_map y u m.2)

    -- an answer list takes the image of a tuple of named terms, where each term's image is that of its name
    pub gives_map : {Z : Type 0} (g : Z → X) (h : Z → Y) → ((z : Z) → f (g z) ≡ h z) → (xs : List Arg) (tuple : List Z)
        → Gives constant s xs (map g tuple) → Gives c' s' xs (map h tuple)
    gives_map g h e [] [] w = tt
    gives_map g h e [] (z ∷ zs) w = absurd w
    gives_map g h e (x ∷ xs) [] w = absurd w
    gives_map g h e (x ∷ xs) (z ∷ zs) w = (subst (Fits c' s' x) (e z) (fits_map x (g z) w.0), gives_map g h e xs zs w.1)

  -- the images of facts with P have Q
  module _ (P : Fact X → Type 0) (Q : Fact Y → Type 0) (keeps : (h : Fact X) → P h → Q (map_fact f h)) where
    pub pair_image : (p : Prop) (t u : X) → P (pair_fact p t u) → Q (pair_fact p (f t) (f u))
    pair_image p t u h = subst Q (map_pair p t u) (keeps (pair_fact p t u) h)

    pub in_image : (b : Basic) (t : X) → IsIn P b t → IsIn Q b (f t)
    in_image b t i = (f i.0, subst Q (map_shows b t i.0) (keeps (shows b t i.0) i.1))

    leads_image : (path : List Step) (t u : X) → LeadsTo P path t u → LeadsTo Q path (f t) (f u)
    leads_image [] t u l = ap f l
    leads_image (SRole r ∷ path) t u l = (f l.0, (pair_image (PRole r) t l.0 l.1.0, leads_image path l.0 u l.1.1))
    leads_image (Test a ∷ path) t u l = (keeps (InClass a t) l.0, leads_image path t u l.1)
    leads_image (SAttr a ∷ path) t u l = (f l.0, (keeps (InAttr a t l.0) l.1.0, leads_image path l.0 u l.1.1))

    pub share_image : (t u : X) (path : List Step) → ShareEnd P t u path → ShareEnd Q (f t) (f u) path
    share_image t u path s = (f s.0, (leads_image path t s.0 s.1.0, leads_image path u s.0 s.1.1))

    pub negative_image : (n : Negative) → BreaksNegative P n → BreaksNegative Q n
    negative_image (Concepts left right) b = (f b.0, (in_image left b.0 b.1.0, in_image right b.0 b.1.1))
    negative_image (Roles left right) b = (f b.0, (f b.1.0, (pair_image (PRole left) b.0 b.1.0 b.1.1.0, pair_image (PRole right) b.0 b.1.0 b.1.1.1)))
    negative_image (Attrs left right) b = (f b.0, (f b.1.0, (pair_image (PAttr left) b.0 b.1.0 b.1.1.0, pair_image (PAttr right) b.0 b.1.0 b.1.1.1)))
    negative_image (Irreflexive role) b = (f b.0, keeps (InRole role b.0 b.0) b.1)

    pub met_image : (constant s : ℕ → X) (g : Atom) → MetBy constant P s g → MetBy (λ c. f (constant c)) Q (λ x. f (s x)) g
    met_image constant s g m = record { fact = map_fact f m.fact; matches = match_map constant s g m.fact m.matches; holds = keeps m.fact m.holds }

    -- a query has the image of each tuple
    pub tuple_image : {Z : Type 0} (constant : ℕ → X) (g : Z → X) (h : Z → Y) → ((z : Z) → f (g z) ≡ h z) → (q : Cq) (tuple : List Z)
        → HasTuple constant P q (map g tuple) → HasTuple (λ c. f (constant c)) Q q (map h tuple)
    tuple_image constant g h e q tuple w = record {
      under = λ x. f (w.under x);
      each = each_weaker (MetBy constant P w.under) (MetBy (λ c. f (constant c)) Q (λ x. f (w.under x))) (met_image constant w.under) q.atoms w.each;
      answers = gives_map constant w.under g h e q.answer tuple w.answers;
    }
