-- Where each variable of the atoms stands for a named term, what they meet they meet by named terms.
use Rattle.std.proofs.Common.{◌≡◌, ℕ, List, [], ◌∷◌, map, inl, inr, refl, sym, ap, ◌∙◌}
use Rattle.mast_terms.specs.declared.term.Term.{Term}
use Rattle.mast_cq.specs.declared.atom.Arg.{Arg}
use Rattle.mast_cq.specs.declared.atom.Arg.TheVariants.{Blank, Var, Constant}
use Rattle.mast_cq.specs.declared.atom.Atom.{Atom}
use Rattle.mast_cq.specs.declared.atom.Atom.TheVariants.{Class, Role, Attr}
use Rattle.mast_cq.specs.Meanings.{Fact, InClass, InRole, InAttr, Fits, Match, Gives}
use Rattle.mast_cq.specs.NormalForms.{Occurs}
use Rattle.mast_cq.specs.Queries.{Takes, first, later}
use Rattle.mast_canon.specs.Elements.{Element, Named}
use Rattle.mast_rewrite.proofs.DepthLemmas.{depth, root, named_root}

module _ (constant : ℕ → Term) (s : ℕ → Element) where
  abbrev by_name : ℕ → Element
  by_name c = Named (constant c)

  -- the named terms from which the elements of the assignment come
  abbrev pub rooted : ℕ → Term
  rooted n = root (s n)

  abbrev named : ℕ → Element
  named n = Named (rooted n)

  fits_named : (x : Arg) (t : Element) → ((n : ℕ) → x ≡ Var n → depth (s n) ≡ 0) → Fits by_name s x t → Fits by_name named x t
  fits_named Blank t flat f = tt
  fits_named (Var n) t flat f = f ∙ named_root (s n) (flat n refl)
  fits_named (Constant c) t flat f = f

  -- an atom whose variables stand for named terms is the fact by these
  pub match_named : (g : Atom) (f : Fact Element) → ((n : ℕ) → Occurs n g → depth (s n) ≡ 0) → Match by_name s g f → Match by_name named g f
  match_named (Class a x) (InClass b t) flat m = (m.0, fits_named x t flat m.1)
  match_named (Class a x) (InRole b t u) flat m = absurd m
  match_named (Class a x) (InAttr b t u) flat m = absurd m
  match_named (Role a x y) (InClass b t) flat m = absurd m
  match_named (Role a x y) (InRole b t u) flat m = (m.0, fits_named x t (λ n e. flat n (inl e)) m.1, fits_named y u (λ n e. flat n (inr e)) m.2)
  match_named (Role a x y) (InAttr b t u) flat m = absurd m
  match_named (Attr a x y) (InClass b t) flat m = absurd m
  match_named (Attr a x y) (InRole b t u) flat m = absurd m
  match_named (Attr a x y) (InAttr b t u) flat m = (m.0, fits_named x t (λ n e. flat n (inl e)) m.1, fits_named y u (λ n e. flat n (inr e)) m.2)

  fits_term : (x : Arg) (t : Term) → Fits by_name s x (Named t) → Fits constant rooted x t
  fits_term Blank t f = tt
  fits_term (Var n) t f = ap root f
  fits_term (Constant c) t f = ap root f

  -- an answer list takes a tuple of named terms by these
  pub gives_terms : (xs : List Arg) (tuple : List Term) → Gives by_name s xs (map Named tuple) → Gives constant rooted xs tuple
  gives_terms [] [] h = tt
  gives_terms [] (t ∷ ts) h = absurd h
  gives_terms (x ∷ xs) [] h = absurd h
  gives_terms (x ∷ xs) (t ∷ ts) h = (fits_term x t h.0, gives_terms xs ts h.1)

  -- and each of its variables stands for a named term
  pub answer_flat : (n : ℕ) {xs : List Arg} {rest : List Arg} (tuple : List Term) → Takes xs (Var n) rest → Gives by_name s xs (map Named tuple) → depth (s n) ≡ 0
  answer_flat n [] first h = absurd h
  answer_flat n (t ∷ ts) first h = sym (ap depth h.0)
  answer_flat n [] (later i) h = absurd h
  answer_flat n (t ∷ ts) (later i) h = answer_flat n ts i h.1
