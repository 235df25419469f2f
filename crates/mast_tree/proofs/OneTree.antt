-- A list of kinds has one tree.
use Rattle.std.proofs.Common.{◌≡◌, ℕ, zero, suc, List, ◌∷◌, [], ◌++◌, refl, ap, sym, ◌∙◌}
use Rattle.std.proofs.lemmas.List.{append-nil}
use Rattle.mast_tree.specs.declared.token.TokenKind.{TokenKind}
use Rattle.mast_tree.specs.declared.token.TokenKind.TheVariants.{Open, Close, Equals, Carets, Lang, Iri, Name, Str}
use Rattle.mast_tree.specs.Grammar.{Items, done, name, iri, str, str_lang, str_name, str_iri, bind, node, kinds_of}
use Rattle.mast_tree.proofs.GrammarLemmas.{End, front_is, no_open, no_equals, no_carets, no_lang, node_kinds}

-- nothing begins as an item does
not_end : (items : Items) (d : ℕ) (r s : List TokenKind) → r ≡ kinds_of items ++ s → End d r → End d s → (done ≡ items) × (r ≡ s)
not_end done d r s e h g = (refl, e)
not_end (name m) d r s e h g = let c = front_is d Name (kinds_of m ++ s) r (sym e) h in absurd (cc)
not_end (iri m) d r s e h g = let c = front_is d Iri (kinds_of m ++ s) r (sym e) h in absurd (cc)
not_end (str m) d r s e h g = let c = front_is d Str (kinds_of m ++ s) r (sym e) h in absurd (cc)
not_end (str_lang m) d r s e h g = let c = front_is d Str (Lang ∷ (kinds_of m ++ s)) r (sym e) h in absurd (cc)
not_end (str_name m) d r s e h g = let c = front_is d Str (Carets ∷ Name ∷ (kinds_of m ++ s)) r (sym e) h in absurd (cc)
not_end (str_iri m) d r s e h g = let c = front_is d Str (Carets ∷ Iri ∷ (kinds_of m ++ s)) r (sym e) h in absurd (cc)
not_end (bind m) d r s e h g = let c = front_is d Name (Equals ∷ Iri ∷ (kinds_of m ++ s)) r (sym e) h in absurd (cc)
not_end (node i m) d r s e h g = let f = e ∙ node_kinds i m s in let c = front_is d Name (Open ∷ (kinds_of i ++ (Close ∷ (kinds_of m ++ s)))) r (sym f) h in absurd (cc)

grow : {r s : List TokenKind} (f : Items → Items) (a b : Items) → (a ≡ b) × (r ≡ s) → (f a ≡ f b) × (r ≡ s)
grow f a b h = (ap f h.0, h.1)

-- kinds that end one list of items end no other
pub one_tree : (a b : Items) (d : ℕ) (r s : List TokenKind) → kinds_of a ++ r ≡ kinds_of b ++ s → End d r → End d s → (a ≡ b) × (r ≡ s)
one_tree done b d r s e h g = not_end b d r s e h g
one_tree (name m) done d r s e h g = let t = not_end (name m) d s r (sym e) g h in (sym t.0, sym t.1)
one_tree (iri m) done d r s e h g = let t = not_end (iri m) d s r (sym e) g h in (sym t.0, sym t.1)
one_tree (str m) done d r s e h g = let t = not_end (str m) d s r (sym e) g h in (sym t.0, sym t.1)
one_tree (str_lang m) done d r s e h g = let t = not_end (str_lang m) d s r (sym e) g h in (sym t.0, sym t.1)
one_tree (str_name m) done d r s e h g = let t = not_end (str_name m) d s r (sym e) g h in (sym t.0, sym t.1)
one_tree (str_iri m) done d r s e h g = let t = not_end (str_iri m) d s r (sym e) g h in (sym t.0, sym t.1)
one_tree (bind m) done d r s e h g = let t = not_end (bind m) d s r (sym e) g h in (sym t.0, sym t.1)
one_tree (node i m) done d r s e h g = let t = not_end (node i m) d s r (sym e) g h in (sym t.0, sym t.1)
one_tree (name m) (name n) d r s e h g = grow name m n (one_tree m n d r s (cc) h g)
one_tree (iri m) (iri n) d r s e h g = grow iri m n (one_tree m n d r s (cc) h g)
one_tree (str m) (str n) d r s e h g = grow str m n (one_tree m n d r s (cc) h g)
one_tree (str_lang m) (str_lang n) d r s e h g = grow str_lang m n (one_tree m n d r s (cc) h g)
one_tree (str_name m) (str_name n) d r s e h g = grow str_name m n (one_tree m n d r s (cc) h g)
one_tree (str_iri m) (str_iri n) d r s e h g = grow str_iri m n (one_tree m n d r s (cc) h g)
one_tree (bind m) (bind n) d r s e h g = grow bind m n (one_tree m n d r s (cc) h g)
one_tree (name m) (bind n) d r s e h g = absurd (no_equals m d (Iri ∷ (kinds_of n ++ s)) r (cc) h)
one_tree (bind m) (name n) d r s e h g = absurd (no_equals n d (Iri ∷ (kinds_of m ++ r)) s (cc) g)
one_tree (name m) (node j n) d r s e h g = let f = e ∙ node_kinds j n s in absurd (no_open m d (kinds_of j ++ (Close ∷ (kinds_of n ++ s))) r (cc) h)
one_tree (node i m) (name n) d r s e h g = let f = sym e ∙ node_kinds i m r in absurd (no_open n d (kinds_of i ++ (Close ∷ (kinds_of m ++ r))) s (cc) g)
one_tree (str m) (str_lang n) d r s e h g = absurd (no_lang m d (kinds_of n ++ s) r (cc) h)
one_tree (str m) (str_name n) d r s e h g = absurd (no_carets m d (Name ∷ (kinds_of n ++ s)) r (cc) h)
one_tree (str m) (str_iri n) d r s e h g = absurd (no_carets m d (Iri ∷ (kinds_of n ++ s)) r (cc) h)
one_tree (str_lang m) (str n) d r s e h g = absurd (no_lang n d (kinds_of m ++ r) s (cc) g)
one_tree (str_name m) (str n) d r s e h g = absurd (no_carets n d (Name ∷ (kinds_of m ++ r)) s (cc) g)
one_tree (str_iri m) (str n) d r s e h g = absurd (no_carets n d (Iri ∷ (kinds_of m ++ r)) s (cc) g)
one_tree (node i m) (node j n) d r s e h g =
    let f : Name ∷ Open ∷ (kinds_of i ++ (Close ∷ (kinds_of m ++ r))) ≡ Name ∷ Open ∷ (kinds_of j ++ (Close ∷ (kinds_of n ++ s))) = sym (node_kinds i m r) ∙ e ∙ node_kinds j n s in
    let t = one_tree i j (suc d) (Close ∷ (kinds_of m ++ r)) (Close ∷ (kinds_of n ++ s)) (cc) (kinds_of m ++ r, m, r, refl, refl, h) (kinds_of n ++ s, n, s, refl, refl, g) in
    let c = t.1 in
    let u = one_tree m n d r s (cc) h g in
    let k = t.0 in
    let l = u.0 in
    (cc, u.1)
one_tree a b d r s e h g = absurd (cc)

-- items with the same kinds are the same
pub one_document : (a b : Items) → kinds_of a ≡ kinds_of b → a ≡ b
one_document a b e = (one_tree a b zero [] [] (append-nil (kinds_of a) ∙ e ∙ sym (append-nil (kinds_of b))) refl refl).0
