-- Over a list of facts the tests of Decisions tell what holds, which elements are kept, and who fills. So all this is decided.
use Rattle.std.proofs.Common.{◌≡◌, ℕ, ◌<◌, ◌⊎◌, inl, inr, Bool, ◌&&◌, nat_lt, List, Option, Some, None, Contains, refl, sym, ap, ◌∙◌, subst}
use Rattle.std.specs.Cmp.{Equal-is}
use Rattle.std.specs.List.{list_any}
use Rattle.mast_terms.specs.declared.name.Name.{Name}
use Rattle.mast_terms.specs.declared.term.Term.{Term}
use Rattle.mast_terms.specs.Orders.{term_order}
use Rattle.mast_terms.proofs.OrderLemmas.{term_orders}
use Rattle.mast_cq.specs.Meanings.{Fact, InClass, InRole, InAttr}
use Rattle.mast_cq.specs.Queries.{In}
use Rattle.mast_tbox.specs.declared.axiom.Inclusion.{Inclusion}
use Rattle.mast_tbox.specs.declared.axiom.Inclusion.TheVariants.{Class as IClass, Exists, HasValue, Role as IRole, Attr as IAttr, Range}
use Rattle.mast_tbox.specs.declared.expression.Basic.{Basic}
use Rattle.mast_tbox.specs.declared.expression.Basic.TheVariants.{Class as BClass, Some as BSome, Subjects}
use Rattle.mast_tbox.specs.declared.expression.Prop.{Prop}
use Rattle.mast_tbox.specs.declared.expression.Prop.TheVariants.{Role as PRole, Attr as PAttr}
use Rattle.mast_tbox.specs.declared.expression.RoleExpr.TheVariants.{Direct, Inverse}
use Rattle.mast_tbox.specs.Expressions.{inverse, inverse_role}
use Rattle.mast_tbox.specs.Inclusions.{Adds, IsDirectlyBelow}
use Rattle.mast_tbox.specs.Laws.{Decided}
use Rattle.mast_tbox.specs.Lists.{Reaches}
use Rattle.mast_tbox.specs.Properties.{IsBelow, AreEquivalent}
use Rattle.mast_tbox.specs.Restrictions.{IsSpecialised}
use Rattle.mast_canon.specs.Decisions.{same_term, same_element, is_role, adds_with, shows_in, end_under, makes_in, is_in, needs_with, gives_pair, is_filler, has_named_filler, has_parent_filler, is_free, gets, is_kept}
use Rattle.mast_canon.specs.Derivations.{Holds}
use Rattle.mast_canon.specs.Elements.{Element, Named, Successor, IsNamed, map_fact}
use Rattle.mast_canon.specs.FactLists.{terms_of}
use Rattle.mast_canon.specs.KeptTerms.{Needs, IsParent, IsFree, Gets, IsKept}
use Rattle.mast_canon.specs.Memberships.{pair_fact, shows, IsIn}
use Rattle.mast_canon.specs.Paths.{are_equivalent}
use Rattle.mast_canon.specs.WorldLaws.{IsListed}
use Rattle.mast_canon.proofs.FoundLemmas.{filler_listed}
use Rattle.mast_canon.proofs.ListedLemmas.{terms_of_listed}
use Rattle.mast_canon.proofs.OriginLemmas.{PairOrigin, given, made, back, pair_origin, origin_pair, Starts, given_in, at_end, in_end, InOrigin, origin_in, is_in_origin}
use Rattle.mast_canon.proofs.PathLemmas.{tells_below, tells_under, tells_equivalent, tells_specialised}
use Rattle.mast_canon.proofs.TestLemmas.{Tells, tells_among, tells_and, tells_as, tells_decided, tells_less, tells_no, tells_not, tells_number, tells_or, tells_some, tells_unless, tells_yes}
use Rattle.mast_canon.proofs.UnspecialisedLemmas.{IsRole}

-- two terms are one
tells_term : (t u : Term) → Tells (same_term t u) (t ≡ u)
tells_term t u =
    let e = Equal-is (term_order t u) in let o = term_orders.ties t u in record { yes = λ h. o.0 (e.0 h); holds = λ h. e.1 (o.1 h) }

successor_is : (t u : Element) (k j : ℕ) → (t ≡ u) × (k ≡ j) → Successor t k ≡ Successor u j
successor_is t u k j e = ap (λ z. Successor z k) e.0 ∙ ap (Successor u) e.1

-- successors that are one have one parent and one number
pub successor_parts : (t u : Element) (k j : ℕ) → Successor t k ≡ Successor u j → (t ≡ u) × (k ≡ j)
successor_parts t u k j e = let i : t ≡ u = cc in let l : k ≡ j = cc in (i, l)

named_apart : (t : Term) (u : Element) (k : ℕ) → Named t ≡ Successor u k → ⊥
named_apart t u k e = cc

apart_named : (t : Term) (u : Element) (k : ℕ) → Successor u k ≡ Named t → ⊥
apart_named t u k e = cc

named_is : (t u : Term) → ◌≡◌ {A = Element} (Named t) (Named u) → t ≡ u
named_is t u e = cc

-- two elements are one
tells_element : (t u : Element) → Tells (same_element t u) (t ≡ u)
tells_element (Named t) (Named u) = tells_as (ap Named, named_is t u) (tells_term t u)
tells_element (Named t) (Successor u k) = tells_as ((λ h. absurd h), named_apart t u k) tells_no
tells_element (Successor u k) (Named t) = tells_as ((λ h. absurd h), apart_named t u k) tells_no
tells_element (Successor t k) (Successor u j) = tells_as (successor_is t u k j, successor_parts t u k j) (tells_and (tells_element t u) (tells_number k j))

-- what is said of the left side, the property and the number is so of the existential inclusion
abbrev pub AddsWith : (Basic → Prop → ℕ → Type 0) → Inclusion → Type 0
AddsWith Q (IClass b a) = ⊥
AddsWith Q (Exists b r end k) = Q b (PRole r) k
AddsWith Q (HasValue b v k) = Q b (PAttr v) k
AddsWith Q (IRole r s) = ⊥
AddsWith Q (IAttr u v) = ⊥
AddsWith Q (Range u kind) = ⊥

-- and so of some stated one
abbrev pub SomeAdding : (Basic → Prop → ℕ → Type 0) → List Inclusion → Type 0
SomeAdding Q tbox = (b : Basic) × ((p : Prop) × ((k : ℕ) × (Adds tbox b p k × Q b p k)))

tells_adds : {test : Basic → Prop → ℕ → Bool} {Q : Basic → Prop → ℕ → Type 0} → ((b : Basic) (p : Prop) (k : ℕ) → Tells (test b p k) (Q b p k)) → (i : Inclusion) → Tells (adds_with test i) (AddsWith Q i)
tells_adds t (IClass b a) = tells_no
tells_adds t (Exists b r end k) = t b (PRole r) k
tells_adds t (HasValue b v k) = t b (PAttr v) k
tells_adds t (IRole r s) = tells_no
tells_adds t (IAttr u v) = tells_no
tells_adds t (Range u kind) = tells_no

module _ (Q : Basic → Prop → ℕ → Type 0) (tbox : List Inclusion) where
  -- the stated one, as an existential inclusion
  pub to_adding : (i : Inclusion) → Contains tbox i → AddsWith Q i → SomeAdding Q tbox
  to_adding (IClass b a) c h = absurd h
  to_adding (Exists b r end k) c h = (b, (PRole r, (k, ((end, c), h))))
  to_adding (HasValue b v k) c h = (b, (PAttr v, (k, (c, h))))
  to_adding (IRole r s) c h = absurd h
  to_adding (IAttr u v) c h = absurd h
  to_adding (Range u kind) c h = absurd h

  -- and back
  pub from_adding : (b : Basic) (p : Prop) (k : ℕ) → Adds tbox b p k → Q b p k → (i : Inclusion) × (Contains tbox i × AddsWith Q i)
  from_adding b (PRole r) k (end, c) h = (Exists b r end k, (c, h))
  from_adding b (PAttr v) k c h = (HasValue b v k, (c, h))

tells_adding : {test : Basic → Prop → ℕ → Bool} {Q : Basic → Prop → ℕ → Type 0} → ((b : Basic) (p : Prop) (k : ℕ) → Tells (test b p k) (Q b p k)) → (tbox : List Inclusion) → Tells (list_any (adds_with test) tbox) (SomeAdding Q tbox)
tells_adding {test} {Q} t tbox = tells_as (λ w. to_adding Q tbox w.0 w.1.0 w.1.1, λ w. from_adding Q tbox w.0 w.1.0 w.1.1.0 w.1.1.1.0 w.1.1.1.1) (tells_some (tells_adds t) tbox)

tells_role : (p : Prop) → Tells (is_role p) (IsRole p)
tells_role (PRole r) = tells_yes
tells_role (PAttr v) = tells_no

-- a given fact is between named terms
source_named : (c : Basic) (t u : Element) (f : Fact Term) → shows c t u ≡ map_fact Named f → IsNamed t
source_named (BClass a) t u (InClass b x) e = let i : t ≡ Named x = cc in (x, i)
source_named (BClass a) t u (InRole p x y) e = absurd (cc e)
source_named (BClass a) t u (InAttr v x y) e = absurd (cc e)
source_named (BSome (Direct p)) t u (InClass b x) e = absurd (cc e)
source_named (BSome (Direct p)) t u (InRole q x y) e = let i : t ≡ Named x = cc in (x, i)
source_named (BSome (Direct p)) t u (InAttr v x y) e = absurd (cc e)
source_named (BSome (Inverse p)) t u (InClass b x) e = absurd (cc e)
source_named (BSome (Inverse p)) t u (InRole q x y) e = let i : t ≡ Named y = cc in (y, i)
source_named (BSome (Inverse p)) t u (InAttr v x y) e = absurd (cc e)
source_named (Subjects w) t u (InClass b x) e = absurd (cc e)
source_named (Subjects w) t u (InRole q x y) e = absurd (cc e)
source_named (Subjects w) t u (InAttr v x y) e = let i : t ≡ Named x = cc in (x, i)

module _ (tbox : List Inclusion) (F : Fact Term → Type 0) (l : IsListed F) where
  abbrev facts : List (Fact Term)
  facts = l.list

  abbrev P : Fact Element → Type 0
  P f = Holds tbox F f

  abbrev Reach : Basic → Basic → Type 0
  Reach c b = Reaches (IsDirectlyBelow tbox) c b

  -- the fact shows the named term in a basic concept from which b is reached
  abbrev ShowsIn : Basic → Term → Fact Term → Type 0
  ShowsIn b x (InClass a y) = (x ≡ y) × Reach (BClass a) b
  ShowsIn b x (InRole r y z) = ((x ≡ y) × Reach (BSome (Direct r)) b) ⊎ ((x ≡ z) × Reach (BSome (Inverse r)) b)
  ShowsIn b x (InAttr v y z) = (x ≡ y) × Reach (Subjects v) b

  tells_shows : (b : Basic) (x : Term) (f : Fact Term) → Tells (shows_in tbox facts b x f) (ShowsIn b x f)
  tells_shows b x (InClass a y) = tells_and (tells_term x y) (tells_under tbox (BClass a) b)
  tells_shows b x (InRole r y z) = tells_or (tells_and (tells_term x y) (tells_under tbox (BSome (Direct r)) b)) (tells_and (tells_term x z) (tells_under tbox (BSome (Inverse r)) b))
  tells_shows b x (InAttr v y z) = tells_and (tells_term x y) (tells_under tbox (Subjects v) b)

  shown_origin : (b c : Basic) (x y : Term) (u : Element) (f : Fact Term) → In f facts → shows c (Named y) u ≡ map_fact Named f → x ≡ y → Reach c b → InOrigin tbox F b (Named x)
  shown_origin b c x y u f i e n r = record { start = c; starts = given_in u (record { fact = f; given = (l.are f).1 i; is = ap (λ z. shows c (Named z) u) n ∙ e }); leads = r }

  shows_origin : (b : Basic) (x : Term) (f : Fact Term) → In f facts → ShowsIn b x f → InOrigin tbox F b (Named x)
  shows_origin b x (InClass a y) i h = shown_origin b (BClass a) x y (Named y) (InClass a y) i refl h.0 h.1
  shows_origin b x (InRole r y z) i (inl h) = shown_origin b (BSome (Direct r)) x y (Named z) (InRole r y z) i refl h.0 h.1
  shows_origin b x (InRole r y z) i (inr h) = shown_origin b (BSome (Inverse r)) x z (Named y) (InRole r y z) i refl h.0 h.1
  shows_origin b x (InAttr v y z) i h = shown_origin b (Subjects v) x y (Named z) (InAttr v y z) i refl h.0 h.1

  origin_shows : (b c : Basic) (x : Term) (u : Element) (f : Fact Term) → shows c (Named x) u ≡ map_fact Named f → Reach c b → ShowsIn b x f
  origin_shows b (BClass a) x u (InClass a' y) e r = let i : x ≡ y = cc in let n : a ≡ a' = cc in (i, subst (λ z. Reach (BClass z) b) n r)
  origin_shows b (BClass a) x u (InRole p y z) e r = absurd (cc e)
  origin_shows b (BClass a) x u (InAttr v y z) e r = absurd (cc e)
  origin_shows b (BSome (Direct p)) x u (InClass a' y) e r = absurd (cc e)
  origin_shows b (BSome (Direct p)) x u (InRole q y z) e r = let i : x ≡ y = cc in let n : p ≡ q = cc in inl (i, subst (λ w. Reach (BSome (Direct w)) b) n r)
  origin_shows b (BSome (Direct p)) x u (InAttr v y z) e r = absurd (cc e)
  origin_shows b (BSome (Inverse p)) x u (InClass a' y) e r = absurd (cc e)
  origin_shows b (BSome (Inverse p)) x u (InRole q y z) e r = let i : x ≡ z = cc in let n : p ≡ q = cc in inr (i, subst (λ w. Reach (BSome (Inverse w)) b) n r)
  origin_shows b (BSome (Inverse p)) x u (InAttr v y z) e r = absurd (cc e)
  origin_shows b (Subjects w) x u (InClass a' y) e r = absurd (cc e)
  origin_shows b (Subjects w) x u (InRole q y z) e r = absurd (cc e)
  origin_shows b (Subjects w) x u (InAttr v y z) e r = let i : x ≡ y = cc in let n : w ≡ v = cc in (i, subst (λ q. Reach (Subjects q) b) n r)

  named_shows : (b : Basic) (x : Term) → IsIn P b (Named x) → (f : Fact Term) × (In f facts × ShowsIn b x f)
  named_shows b x h = at (is_in_origin tbox F b (Named x) h)
    where
      go : (c : Basic) → Starts tbox F c (Named x) → Reach c b → (f : Fact Term) × (In f facts × ShowsIn b x f)
      go c (given_in u s) r = (s.fact, ((l.are s.fact).0 s.given, origin_shows b c x u s.fact s.is r))
      go c (at_end d q end k s i j e m) r = absurd (named_apart x s k e)
      go c (in_end d q a k s i j e m) r = absurd (named_apart x s k e)

      at : InOrigin tbox F b (Named x) → (f : Fact Term) × (In f facts × ShowsIn b x f)
      at o = go o.start o.starts o.leads

  tells_named : (b : Basic) (x : Term) → Tells (is_in tbox facts (Named x) b) (IsIn P b (Named x))
  tells_named b x = tells_as (λ w. origin_in tbox F b (Named x) (shows_origin b x w.0 w.1.0 w.1.1), named_shows b x) (tells_among (tells_shows b x) facts)

  -- the successor of s by the number k is in b by the inclusion
  abbrev EndReaches : Option Name → Basic → Type 0
  EndReaches None b = ⊥
  EndReaches (Some a) b = Reach (BClass a) b

  abbrev MakesIn : Basic → Element → ℕ → Inclusion → Type 0
  MakesIn b s k (IClass c a) = ⊥
  MakesIn b s k (Exists c r end j) = (j ≡ k) × (IsIn P c s × (Reach (BSome (inverse_role r)) b ⊎ EndReaches end b))
  MakesIn b s k (HasValue c v j) = ⊥
  MakesIn b s k (IRole r t) = ⊥
  MakesIn b s k (IAttr u v) = ⊥
  MakesIn b s k (Range u kind) = ⊥

  tells_end : (end : Option Name) (b : Basic) → Tells (end_under tbox facts end b) (EndReaches end b)
  tells_end None b = tells_no
  tells_end (Some a) b = tells_under tbox (BClass a) b

  tells_makes : {parent : Basic → Bool} (b : Basic) (s : Element) (k : ℕ) → ((c : Basic) → Tells (parent c) (IsIn P c s)) → (i : Inclusion) → Tells (makes_in tbox facts b k parent i) (MakesIn b s k i)
  tells_makes b s k t (IClass c a) = tells_no
  tells_makes b s k t (Exists c r end j) = tells_and (tells_number j k) (tells_and (t c) (tells_or (tells_under tbox (BSome (inverse_role r)) b) (tells_end end b)))
  tells_makes b s k t (HasValue c v j) = tells_no
  tells_makes b s k t (IRole r u) = tells_no
  tells_makes b s k t (IAttr u v) = tells_no
  tells_makes b s k t (Range u kind) = tells_no

  makes_origin : (b : Basic) (s : Element) (k : ℕ) (i : Inclusion) → Contains tbox i → MakesIn b s k i → InOrigin tbox F b (Successor s k)
  makes_origin b s k (IClass c a) i h = absurd h
  makes_origin b s k (Exists c r end j) i (n, (h, inl w)) = record { start = BSome (inverse_role r); starts = at_end c r end j s i h (ap (Successor s) (sym n)) refl; leads = w }
  makes_origin b s k (Exists c r None j) i (n, (h, inr w)) = absurd w
  makes_origin b s k (Exists c r (Some a) j) i (n, (h, inr w)) = record { start = BClass a; starts = in_end c r a j s i h (ap (Successor s) (sym n)) refl; leads = w }
  makes_origin b s k (HasValue c v j) i h = absurd h
  makes_origin b s k (IRole r t) i h = absurd h
  makes_origin b s k (IAttr u v) i h = absurd h
  makes_origin b s k (Range u kind) i h = absurd h

  successor_makes : (b : Basic) (s : Element) (k : ℕ) → IsIn P b (Successor s k) → (i : Inclusion) × (Contains tbox i × MakesIn b s k i)
  successor_makes b s k h = at (is_in_origin tbox F b (Successor s k) h)
    where
      not_named : IsNamed (Successor s k) → ⊥
      not_named (t, e) = cc

      go : (c : Basic) → Starts tbox F c (Successor s k) → Reach c b → (i : Inclusion) × (Contains tbox i × MakesIn b s k i)
      go c (given_in u w) r = absurd (not_named (source_named c (Successor s k) u w.fact w.is))
      go c (at_end d q end j x i h e m) r =
          let w = successor_parts s x k j e in (Exists d q end j, (i, (sym w.1, (subst (IsIn P d) (sym w.0) h, inl (subst (λ z. Reach z b) m r)))))
      go c (in_end d q a j x i h e m) r =
          let w = successor_parts s x k j e in (Exists d q (Some a) j, (i, (sym w.1, (subst (IsIn P d) (sym w.0) h, inr (subst (λ z. Reach z b) m r)))))

      at : InOrigin tbox F b (Successor s k) → (i : Inclusion) × (Contains tbox i × MakesIn b s k i)
      at o = go o.start o.starts o.leads

  -- the element is in the basic concept
  pub tells_in : (t : Element) (b : Basic) → Tells (is_in tbox facts t b) (IsIn P b t)
  tells_in (Named x) b = tells_named b x
  tells_in (Successor s k) b =
      tells_as (λ w. origin_in tbox F b (Successor s k) (makes_origin b s k w.0 w.1.0 w.1.1), successor_makes b s k) (tells_some (tells_makes b s k (tells_in s)) tbox)

  -- so it is decided
  pub in_decided : (t : Element) (b : Basic) → Decided (IsIn P b t)
  in_decided t b = tells_decided (is_in tbox facts t b) (tells_in t b)

  -- the element is in the left side of a number, of which and of whose property something is so
  abbrev pub AddingWith : (ℕ → Prop → Type 0) → Element → Type 0
  AddingWith Q t = SomeAdding (λ b p k. IsIn P b t × Q k p) tbox

  -- the same, of what the element needs
  abbrev pub NeedWith : (ℕ → Prop → Type 0) → Element → Type 0
  NeedWith Q t = (k : ℕ) × ((p : Prop) × (Needs tbox P k p t × Q k p))

  to_need : (Q : ℕ → Prop → Type 0) (t : Element) → AddingWith Q t → NeedWith Q t
  to_need Q t (b, (p, (k, (a, (i, q))))) = (k, (p, (record { left = b; stated = a; is_in = i }, q)))

  from_need : (Q : ℕ → Prop → Type 0) (t : Element) → NeedWith Q t → AddingWith Q t
  from_need Q t (k, (p, (n, q))) = (n.left, (p, (k, (n.stated, (n.is_in, q)))))

  -- a test of it
  pub tells_need : {test : ℕ → Prop → Bool} (Q : ℕ → Prop → Type 0) → ((k : ℕ) (p : Prop) → Tells (test k p) (Q k p)) → (t : Element) → Tells (needs_with tbox facts test t) (NeedWith Q t)
  tells_need Q h t = tells_as (to_need Q t, from_need Q t) (tells_adding (λ b p k. tells_and (tells_in t b) (h k p)) tbox)

  -- the fact gives the pair to a property that p is above
  abbrev Gives : Prop → Element → Element → Fact Term → Type 0
  Gives p t u (InClass a x) = ⊥
  Gives p t u (InRole r x y) = ((t ≡ Named x) × ((u ≡ Named y) × IsBelow tbox (PRole (Direct r)) p)) ⊎ ((t ≡ Named y) × ((u ≡ Named x) × IsBelow tbox (PRole (Inverse r)) p))
  Gives p t u (InAttr v x y) = (t ≡ Named x) × ((u ≡ Named y) × IsBelow tbox (PAttr v) p)

  tells_gives : (p : Prop) (t u : Element) (f : Fact Term) → Tells (gives_pair tbox facts p t u f) (Gives p t u f)
  tells_gives p t u (InClass a x) = tells_no
  tells_gives p t u (InRole r x y) =
      tells_or (tells_and (tells_element t (Named x)) (tells_and (tells_element u (Named y)) (tells_below tbox (PRole (Direct r)) p)))
      (tells_and (tells_element t (Named y)) (tells_and (tells_element u (Named x)) (tells_below tbox (PRole (Inverse r)) p)))
  tells_gives p t u (InAttr v x y) = tells_and (tells_element t (Named x)) (tells_and (tells_element u (Named y)) (tells_below tbox (PAttr v) p))

  given_at : (p q : Prop) (t u : Element) (x y : Term) (f : Fact Term) → In f facts → pair_fact q (Named x) (Named y) ≡ map_fact Named f → t ≡ Named x → u ≡ Named y → IsBelow tbox q p → PairOrigin tbox F p t u
  given_at p q t u x y f i e m n b = given q (record { fact = f; given = (l.are f).1 i; is = ap (λ z. pair_fact q z u) m ∙ ap (pair_fact q (Named x)) n ∙ e }) b

  gives_origin : (p : Prop) (t u : Element) (f : Fact Term) → In f facts → Gives p t u f → PairOrigin tbox F p t u
  gives_origin p t u (InClass a x) i h = absurd h
  gives_origin p t u (InRole r x y) i (inl h) = given_at p (PRole (Direct r)) t u x y (InRole r x y) i refl h.0 h.1.0 h.1.1
  gives_origin p t u (InRole r x y) i (inr h) = given_at p (PRole (Inverse r)) t u y x (InRole r x y) i refl h.0 h.1.0 h.1.1
  gives_origin p t u (InAttr v x y) i h = given_at p (PAttr v) t u x y (InAttr v x y) i refl h.0 h.1.0 h.1.1

  source_gives : (p q : Prop) (t u : Element) (f : Fact Term) → pair_fact q t u ≡ map_fact Named f → IsBelow tbox q p → Gives p t u f
  source_gives p (PRole (Direct r)) t u (InClass a x) e b = absurd (cc e)
  source_gives p (PRole (Direct r)) t u (InRole s x y) e b =
      let i : t ≡ Named x = cc in let j : u ≡ Named y = cc in let n : r ≡ s = cc in inl (i, (j, subst (λ z. IsBelow tbox (PRole (Direct z)) p) n b))
  source_gives p (PRole (Direct r)) t u (InAttr v x y) e b = absurd (cc e)
  source_gives p (PRole (Inverse r)) t u (InClass a x) e b = absurd (cc e)
  source_gives p (PRole (Inverse r)) t u (InRole s x y) e b =
      let i : t ≡ Named y = cc in let j : u ≡ Named x = cc in let n : r ≡ s = cc in inr (i, (j, subst (λ z. IsBelow tbox (PRole (Inverse z)) p) n b))
  source_gives p (PRole (Inverse r)) t u (InAttr v x y) e b = absurd (cc e)
  source_gives p (PAttr w) t u (InClass a x) e b = absurd (cc e)
  source_gives p (PAttr w) t u (InRole s x y) e b = absurd (cc e)
  source_gives p (PAttr w) t u (InAttr v x y) e b =
      let i : t ≡ Named x = cc in let j : u ≡ Named y = cc in let n : w ≡ v = cc in (i, (j, subst (λ z. IsBelow tbox (PAttr z) p) n b))

  -- a pair comes from a given one, or from the successor of one of the two
  abbrev GivenPair : Prop → Element → Element → Type 0
  GivenPair p t u = (f : Fact Term) × (In f facts × Gives p t u f)

  abbrev MadePair : Prop → Element → Element → ℕ → Prop → Type 0
  MadePair p t u k q = (u ≡ Successor t k) × IsBelow tbox q p

  abbrev BackPair : Prop → Element → Element → ℕ → Prop → Type 0
  BackPair p t u k q = IsRole q × ((t ≡ Successor u k) × IsBelow tbox (inverse q) p)

  abbrev PairBy : Prop → Element → Element → Type 0
  PairBy p t u = GivenPair p t u ⊎ (NeedWith (MadePair p t u) t ⊎ NeedWith (BackPair p t u) u)

  to_origin : (p : Prop) (t u : Element) → PairBy p t u → PairOrigin tbox F p t u
  to_origin p t u (inl (f, (i, g))) = gives_origin p t u f i g
  to_origin p t u (inr (inl (k, (q, (n, (e, b)))))) = made k q n e b
  to_origin p t u (inr (inr (k, (q, (n, (r, (e, b))))))) = back k q r n e b

  from_origin : (p : Prop) (t u : Element) → PairOrigin tbox F p t u → PairBy p t u
  from_origin p t u (given q s b) = inl (s.fact, ((l.are s.fact).0 s.given, source_gives p q t u s.fact s.is b))
  from_origin p t u (made k q n e b) = inr (inl (k, (q, (n, (e, b)))))
  from_origin p t u (back k q r n e b) = inr (inr (k, (q, (n, (r, (e, b))))))

  tells_pair_by : (p : Prop) (t u : Element) → Tells (is_filler tbox facts p t u) (PairBy p t u)
  tells_pair_by p t u =
      tells_or (tells_among (tells_gives p t u) facts)
      (tells_or (tells_need (MadePair p t u) (λ k q. tells_and (tells_element u (Successor t k)) (tells_below tbox q p)) t)
      (tells_need (BackPair p t u) (λ k q. tells_and (tells_role q) (tells_and (tells_element t (Successor u k)) (tells_below tbox (inverse q) p))) u))

  -- the pair holds
  pub tells_filler : (p : Prop) (t u : Element) → Tells (is_filler tbox facts p t u) (P (pair_fact p t u))
  tells_filler p t u =
      tells_as (λ w. origin_pair tbox F p t u (to_origin p t u w), λ h. from_origin p t u (pair_origin tbox F (pair_fact p t u) h p t u refl)) (tells_pair_by p t u)

  -- so it is decided
  pub pair_decided : (p : Prop) (t u : Element) → Decided (P (pair_fact p t u))
  pair_decided p t u = tells_decided (is_filler tbox facts p t u) (tells_filler p t u)

  -- some named term, or the parent, is a filler
  tells_named_filler : (p : Prop) (t : Element) → Tells (has_named_filler tbox facts p t) ((u : Term) × P (pair_fact p t (Named u)))
  tells_named_filler p t =
      tells_as (λ w. (w.0, w.1.1), λ w. (w.0, (filler_listed tbox F (terms_of facts) (terms_of_listed F l) p t w.0 w.1, w.1)))
      (tells_among (λ u. tells_filler p t (Named u)) (terms_of facts))

  to_parent : (p : Prop) (s : Element) (k : ℕ) → P (pair_fact p (Successor s k) s) → (u : Element) × (IsParent tbox P (Successor s k) u × P (pair_fact p (Successor s k) u))
  to_parent p s k h = (s, ((k, refl), h))

  from_parent : (p : Prop) (s : Element) (k : ℕ) → (u : Element) × (IsParent tbox P (Successor s k) u × P (pair_fact p (Successor s k) u)) → P (pair_fact p (Successor s k) s)
  from_parent p s k (u, ((j, e), h)) = let w = successor_parts s u k j e in subst (λ z. P (pair_fact p (Successor s k) z)) (sym w.0) h

  -- a named term is no successor
  pub named_orphan : (p : Prop) (x : Term) → (u : Element) × (IsParent tbox P (Named x) u × P (pair_fact p (Named x) u)) → ⊥
  named_orphan p x w = named_apart x w.0 w.1.0.0 w.1.0.1

  tells_parent : (p : Prop) (t : Element) → Tells (has_parent_filler tbox facts p t) ((u : Element) × (IsParent tbox P t u × P (pair_fact p t u)))
  tells_parent p (Named x) = tells_as ((λ h. absurd h), named_orphan p x) tells_no
  tells_parent p (Successor s k) = tells_as (to_parent p s k, from_parent p s k) (tells_filler p (Successor s k) s)

  abbrev IsSmaller : ℕ → Prop → ℕ → Prop → Type 0
  IsSmaller k p j q = (j < k) × AreEquivalent tbox q p

  tells_smaller : (k : ℕ) (p : Prop) (t : Element) → Tells (needs_with tbox facts (λ j q. nat_lt j k && are_equivalent tbox q p) t) (NeedWith (IsSmaller k p) t)
  tells_smaller k p t = tells_need (IsSmaller k p) (λ j q. tells_and (tells_less j k) (tells_equivalent tbox q p)) t

  tells_free : (k : ℕ) (p : Prop) (t : Element) → Tells (is_free tbox facts k p t) (IsFree tbox P k p t)
  tells_free k p t =
      tells_as (
        λ w. record { no_named = λ u h. w.0 (u, h); no_parent = λ u i h. w.1.0 (u, (i, h)); no_smaller = λ j q l e n. w.1.1 (j, (q, (n, (l, e)))) },
        λ f. (λ w. f.no_named w.0 w.1, (λ w. f.no_parent w.0 w.1.0 w.1.1, λ w. f.no_smaller w.0 w.1.0 w.1.1.1.0 w.1.1.1.1 w.1.1.0)),
      )
      (tells_and (tells_not (tells_named_filler p t)) (tells_and (tells_not (tells_parent p t)) (tells_not (tells_smaller k p t))))

  abbrev IsGot : ℕ → Element → ℕ → Prop → Type 0
  IsGot k t j p = (j ≡ k) × ((IsSpecialised tbox p → ⊥) → IsFree tbox P k p t)

  to_gets : (k : ℕ) (t : Element) → NeedWith (IsGot k t) t → Gets tbox P k t
  to_gets k t (j, (p, (n, (e, f)))) = record { prop = p; needs = subst (λ z. Needs tbox P z p t) e n; free = f }

  from_gets : (k : ℕ) (t : Element) → Gets tbox P k t → NeedWith (IsGot k t) t
  from_gets k t g = (k, (g.prop, (g.needs, (refl, g.free))))

  tells_gets : (k : ℕ) (t : Element) → Tells (gets tbox facts k t) (Gets tbox P k t)
  tells_gets k t = tells_as (to_gets k t, from_gets k t) (tells_need (IsGot k t) (λ j p. tells_and (tells_number j k) (tells_unless (tells_specialised tbox p) (tells_free k p t))) t)

  -- the element is kept
  pub tells_kept : (t : Element) → Tells (is_kept tbox facts t) (IsKept tbox P t)
  tells_kept (Named x) = tells_yes
  tells_kept (Successor s k) = tells_and (tells_kept s) (tells_gets k s)

  -- so it is decided
  pub kept_decided : (t : Element) → Decided (IsKept tbox P t)
  kept_decided t = tells_decided (is_kept tbox facts t) (tells_kept t)
