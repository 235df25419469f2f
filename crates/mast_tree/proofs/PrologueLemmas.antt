-- What a document begins with, item by item, is its prefixes up to the main node, or the first breach.
use Rattle.std.proofs.Common.{◌≡◌, ◌⊎◌, inl, inr, ℕ, true, false, List, ◌∷◌, [], ◌++◌, refl, ap, sym, ◌∙◌, subst, append_assoc}
use Rattle.std.specs.Prelude.{Option, Some, None, Result, Ok, Err, is_some, codes}
use Rattle.std.specs.Str.{bytes_eq}
use Rattle.std.proofs.lemmas.Bool.{cases_Bool}
use Rattle.std.proofs.lemmas.List.{append-nil}
use Rattle.std.proofs.lemmas.Slice.Eq.{bytes_eq-Decides}
use Rattle.mast_terms.specs.declared.memory.Stop.{Stop}
use Rattle.mast_terms.specs.declared.memory.Stop.TheVariants.{Named, NoMemory}
use Rattle.mast_tree.specs.declared.token.Token.{Token}
use Rattle.mast_tree.specs.declared.item.Item.{Item, out-Item}
use Rattle.mast_tree.specs.declared.item.Item.TheOpen.{Item-F}
use Rattle.mast_tree.specs.declared.shape.ShapeBreach.{ShapeBreach}
use Rattle.mast_tree.specs.Prefixes.{first_in, first_of, colon_split, namespace_of, shape_at}
use Rattle.mast_tree.specs.Results.{Gives}
use Rattle.mast_tree.specs.Words.{word_of, line_of}
use Rattle.mast_tree.specs.inside.Prologue.{Part, main, prefix, wrong, bound, binding_in, one_binding, part_in, on_part, prologue_of}
use Rattle.mast_tree.specs.Prologue.{AnswersPrologue, IsNode, Binds, IsPrefixNode, IsOther, ArePrefixNodes, EachOnce, IsPrologue, IsWrongBinding, IsWrongFrom, IsPrologueBreach}
use Rattle.mast_tree.specs.Laws.{HasOnePrologue}

same : (xs ys : List ℕ) → bytes_eq xs ys ≡ true → xs ≡ ys
same xs ys h = (bytes_eq-Decides xs ys).0 h

other : (xs ys : List ℕ) → bytes_eq xs ys ≡ false → xs ≡ ys → ⊥
other xs ys h e = let g = (bytes_eq-Decides xs ys).1 e in cc

-- what one item is

abbrev pub PartTells : List ℕ → List Token → List ℕ → Item → Part → Type 0
PartTells source tokens word item main = (inside : List Item) × IsNode source tokens word item inside
PartTells source tokens word item (prefix name iri) = IsOther source tokens word item × IsPrefixNode source tokens item name iri
PartTells source tokens word item (wrong line) =
    IsOther source tokens word item
    × ((((only : Item) → IsNode source tokens (codes "Prefix") item (only ∷ []) → ⊥) × (line ≡ line_of tokens (first_of item)))
    ⊎ ((only : Item) × IsWrongBinding source tokens item only × (line ≡ line_of tokens (first_of only))))

-- an item that is no node
not_node : (source : List ℕ) (tokens : List Token) (word : List ℕ) (item : Item) (layer : Item-F Item) → out-Item item ≡ layer → ((t : ℕ) (inside : List Item) → layer ≡ Item-F.Node t inside → ⊥) → PartTells source tokens word item (wrong (line_of tokens (first_in layer)))
not_node source tokens word item layer h never = ((λ inside n. never n.0 inside (sym h ∙ n.1)), inl ((λ only n. never n.0 (only ∷ []) (sym h ∙ n.1)), ap (λ l. line_of tokens (first_in l)) (sym h)))

-- a node of another word
not_named : (source : List ℕ) (tokens : List Token) (word : List ℕ) (item : Item) (t : ℕ) (items : List Item) → out-Item item ≡ Item-F.Node t items → bytes_eq (word_of source tokens t) word ≡ false → IsOther source tokens word item
not_named source tokens word item t items h e inside n =
    let g = sym h ∙ n.1 in
    let s : n.0 ≡ t = cc in
    other (word_of source tokens t) word e (ap (λ x. word_of source tokens x) (sym s) ∙ n.2)

inner : (p q : List ℕ × List ℕ) → ◌≡◌ {A = Option (List ℕ × List ℕ)} (Some p) (Some q) → p ≡ q
inner p q h = cc

-- what stands alone in a `Prefix` node
abbrev pub BindingTells : List ℕ → List Token → Item → Part → Type 0
BindingTells source tokens only main = ⊥
BindingTells source tokens only (prefix name iri) = Binds source tokens only name iri
BindingTells source tokens only (wrong line) = ((name iri : List ℕ) → Binds source tokens only name iri → ⊥) × (line ≡ line_of tokens (first_of only))

not_bound : (source : List ℕ) (tokens : List Token) (only : Item) (layer : Item-F Item) → out-Item only ≡ layer → ((t v : ℕ) → layer ≡ Item-F.Bind t v → ⊥) → BindingTells source tokens only (wrong (line_of tokens (first_in layer)))
not_bound source tokens only layer h never = ((λ name iri b. never b.0 b.1 (sym h ∙ b.2)), ap (λ l. line_of tokens (first_in l)) (sym h))

wrong_name : (source : List ℕ) (tokens : List Token) (only : Item) (t v : ℕ) → out-Item only ≡ Item-F.Bind t v → ((name : List ℕ) → colon_split (word_of source tokens t) ≡ Some (name, []) → ⊥) → BindingTells source tokens only (wrong (line_of tokens t))
wrong_name source tokens only t v h never = ((λ name iri b. (let g = sym h ∙ b.2 in let s : b.0 ≡ t = cc in never name (ap (λ x. colon_split (word_of source tokens x)) (sym s) ∙ b.3))), ap (λ l. line_of tokens (first_in l)) (sym h))

name_tells : (source : List ℕ) (tokens : List Token) (only : Item) (t v : ℕ) → out-Item only ≡ Item-F.Bind t v → (split : Option (List ℕ × List ℕ)) → colon_split (word_of source tokens t) ≡ split → BindingTells source tokens only (bound split (word_of source tokens v) (line_of tokens t))
name_tells source tokens only t v h None e = wrong_name source tokens only t v h (λ name g. (let f : ◌≡◌ {A = Option (List ℕ × List ℕ)} None (Some (name, [])) = sym e ∙ g in cc))
name_tells source tokens only t v h (Some p) e = go p.0 p.1 e
  where
    go : (name rest : List ℕ) → colon_split (word_of source tokens t) ≡ Some (name, rest) → BindingTells source tokens only (bound (Some (name, rest)) (word_of source tokens v) (line_of tokens t))
    go name [] e = (t, v, h, e, refl)
    go name (b ∷ rest) e = wrong_name source tokens only t v h (λ again g. (let f = ap (λ p. p.1) (inner (name, b ∷ rest) (again, []) (sym e ∙ g)) in cc))

binding_tells : (source : List ℕ) (tokens : List Token) (only : Item) (layer : Item-F Item) → out-Item only ≡ layer → BindingTells source tokens only (binding_in source tokens layer)
binding_tells source tokens only (Item-F.Bind t v) h = name_tells source tokens only t v h (colon_split (word_of source tokens t)) refl
binding_tells source tokens only (Item-F.Leaf t) h = not_bound source tokens only (Item-F.Leaf t) h (λ n v e. cc)
binding_tells source tokens only (Item-F.Iri t) h = not_bound source tokens only (Item-F.Iri t) h (λ n v e. cc)
binding_tells source tokens only (Item-F.Str t tag) h = not_bound source tokens only (Item-F.Str t tag) h (λ n v e. cc)
binding_tells source tokens only (Item-F.Node t items) h = not_bound source tokens only (Item-F.Node t items) h (λ n v e. cc)

-- a `Prefix` node that is not the main node
prefix_tells : (source : List ℕ) (tokens : List Token) (word : List ℕ) (item : Item) (t : ℕ) (items : List Item) → out-Item item ≡ Item-F.Node t items → IsOther source tokens word item → word_of source tokens t ≡ codes "Prefix" → PartTells source tokens word item (one_binding source tokens (line_of tokens t) items)
prefix_tells source tokens word item t [] h o e = (o, inl ((λ only n. (let g = sym h ∙ n.1 in cc)), ap (λ l. line_of tokens (first_in l)) (sym h)))
prefix_tells source tokens word item t (a ∷ b ∷ more) h o e = (o, inl ((λ only n. (let g = sym h ∙ n.1 in cc)), ap (λ l. line_of tokens (first_in l)) (sym h)))
prefix_tells source tokens word item t (only ∷ []) h o e = go (binding_in source tokens (out-Item only)) (binding_tells source tokens only (out-Item only) refl)
  where
    go : (p : Part) → BindingTells source tokens only p → PartTells source tokens word item p
    go main x = absurd x
    go (prefix name iri) x = (o, (only, (t, h, e), x))
    go (wrong line) x = (o, inr (only, ((t, h, e), x.0), x.1))

node_tells : (source : List ℕ) (tokens : List Token) (word : List ℕ) (item : Item) (t : ℕ) (items : List Item) → out-Item item ≡ Item-F.Node t items → PartTells source tokens word item (part_in source tokens word (Item-F.Node t items))
node_tells source tokens word item t items h = elim (cases_Bool (bytes_eq (word_of source tokens t) word)) [
  | inl e ↦ rw e (items, (t, h, same (word_of source tokens t) word e))
  | inr e ↦ elim (cases_Bool (bytes_eq (word_of source tokens t) (codes "Prefix"))) [
    | inl f ↦ rw (e, f) (prefix_tells source tokens word item t items h (not_named source tokens word item t items h e) (same (word_of source tokens t) (codes "Prefix") f))
    | inr f ↦ rw (e, f) (not_named source tokens word item t items h e, inl ((λ only n. not_named source tokens (codes "Prefix") item t items h f (only ∷ []) n), ap (λ l. line_of tokens (first_in l)) (sym h)))
  ]
]

part_tells : (source : List ℕ) (tokens : List Token) (word : List ℕ) (item : Item) (layer : Item-F Item) → out-Item item ≡ layer → PartTells source tokens word item (part_in source tokens word layer)
part_tells source tokens word item (Item-F.Node t items) h = node_tells source tokens word item t items h
part_tells source tokens word item (Item-F.Leaf t) h = not_node source tokens word item (Item-F.Leaf t) h (λ n i e. cc)
part_tells source tokens word item (Item-F.Iri t) h = not_node source tokens word item (Item-F.Iri t) h (λ n i e. cc)
part_tells source tokens word item (Item-F.Str t tag) h = not_node source tokens word item (Item-F.Str t tag) h (λ n i e. cc)
part_tells source tokens word item (Item-F.Bind t v) h = not_node source tokens word item (Item-F.Bind t v) h (λ n i e. cc)

-- an item is one thing only

same_only : (source : List ℕ) (tokens : List Token) (v w : List ℕ) (item a b : Item) → IsNode source tokens v item (a ∷ []) → IsNode source tokens w item (b ∷ []) → a ≡ b
same_only source tokens v w item a b x y = let g = sym x.1 ∙ y.1 in cc

same_binding : (source : List ℕ) (tokens : List Token) (only : Item) (a b i j : List ℕ) → Binds source tokens only a i → Binds source tokens only b j → ◌≡◌ {A = Part} (prefix a i) (prefix b j)
same_binding source tokens only a b i j x y =
    let g = sym x.2 ∙ y.2 in
    let t : x.0 ≡ y.0 = cc in
    let v : x.1 ≡ y.1 = cc in
    let n = ap (λ p. p.0) (inner (a, []) (b, []) (sym x.3 ∙ ap (λ n. colon_split (word_of source tokens n)) t ∙ y.3)) in
    ap (λ z. prefix z i) n ∙ ap (λ z. prefix b z) (sym x.4 ∙ ap (λ n. word_of source tokens n) v ∙ y.4)

one_part : (source : List ℕ) (tokens : List Token) (word : List ℕ) (item : Item) (p q : Part) → PartTells source tokens word item p → PartTells source tokens word item q → p ≡ q
one_part source tokens word item main main x y = refl
one_part source tokens word item main (prefix b j) x y = absurd (y.0 x.0 x.1)
one_part source tokens word item main (wrong n) x y = absurd (y.0 x.0 x.1)
one_part source tokens word item (prefix a i) main x y = absurd (x.0 y.0 y.1)
one_part source tokens word item (wrong m) main x y = absurd (x.0 y.0 y.1)
one_part source tokens word item (prefix a i) (prefix b j) x y = same_binding source tokens y.1.0 a b i j (subst (λ o. Binds source tokens o a i) (same_only source tokens (codes "Prefix") (codes "Prefix") item x.1.0 y.1.0 x.1.1 y.1.1) x.1.2) y.1.2
one_part source tokens word item (prefix a i) (wrong n) x y = elim (y.1) [
  | inl z ↦ absurd (z.0 x.1.0 x.1.1)
  | inr z ↦ absurd (z.1.1 a i (subst (λ o. Binds source tokens o a i) (same_only source tokens (codes "Prefix") (codes "Prefix") item x.1.0 z.0 x.1.1 z.1.0) x.1.2))
]
one_part source tokens word item (wrong m) (prefix b j) x y = elim (x.1) [
  | inl z ↦ absurd (z.0 y.1.0 y.1.1)
  | inr z ↦ absurd (z.1.1 b j (subst (λ o. Binds source tokens o b j) (same_only source tokens (codes "Prefix") (codes "Prefix") item y.1.0 z.0 y.1.1 z.1.0) y.1.2))
]
one_part source tokens word item (wrong m) (wrong n) x y = ap (λ l. wrong l) (elim (x.1) [
  | inl u ↦ elim (y.1) [
    | inl v ↦ u.1 ∙ sym v.1
    | inr v ↦ absurd (u.0 v.0 v.1.0)
  ]
  | inr u ↦ elim (y.1) [
    | inl v ↦ absurd (v.0 u.0 u.1.0)
    | inr v ↦ u.2 ∙ ap (λ o. line_of tokens (first_of o)) (same_only source tokens (codes "Prefix") (codes "Prefix") item u.0 v.0 u.1.0 v.1.0) ∙ sym v.2
  ]
])

part_is : (source : List ℕ) (tokens : List Token) (word : List ℕ) (item : Item) (p : Part) → PartTells source tokens word item p → part_in source tokens word (out-Item item) ≡ p
part_is source tokens word item p x = one_part source tokens word item (part_in source tokens word (out-Item item)) p (part_tells source tokens word item (out-Item item) refl) x

-- a prefix more

nodes_more : (source : List ℕ) (tokens : List Token) (word : List ℕ) (before : List Item) (table : List (List ℕ × List ℕ)) (item : Item) (name iri : List ℕ) → ArePrefixNodes source tokens word before table → IsOther source tokens word item → IsPrefixNode source tokens item name iri
    → ArePrefixNodes source tokens word (before ++ item ∷ []) (table ++ (name, iri) ∷ [])
nodes_more source tokens word [] [] item name iri h o n = (o, n, tt)
nodes_more source tokens word [] (e ∷ es) item name iri h o n = absurd h
nodes_more source tokens word (i ∷ is) [] item name iri h o n = absurd h
nodes_more source tokens word (i ∷ is) (e ∷ es) item name iri h o n = (h.0, h.1, nodes_more source tokens word is es item name iri h.2 o n)

turned : (xs ys : List ℕ) → bytes_eq xs ys ≡ false → bytes_eq ys xs ≡ false
turned xs ys h = elim (cases_Bool (bytes_eq ys xs)) [
  | inl e ↦ absurd (other xs ys h (sym (same ys xs e)))
  | inr e ↦ e
]

none_first : (name : List ℕ) (e : List ℕ × List ℕ) (es : List (List ℕ × List ℕ)) → namespace_of name (e ∷ es) ≡ None → (bytes_eq name e.0 ≡ false) × (namespace_of name es ≡ None)
none_first name e es h = elim (cases_Bool (bytes_eq name e.0)) [
  | inl g ↦ absurd (let f : ◌≡◌ {A = Option (List ℕ)} (Some e.1) None = rw g at h in cc)
  | inr g ↦ (g, rw g at h)
]

none_more : (name : List ℕ) (es : List (List ℕ × List ℕ)) (d : List ℕ × List ℕ) → namespace_of name es ≡ None → bytes_eq name d.0 ≡ false → namespace_of name (es ++ d ∷ []) ≡ None
none_more name [] d h g = rw g refl
none_more name (e ∷ es) d h g = let f = none_first name e es h in rw f.0 (none_more name es d f.1 g)

once_more : (table : List (List ℕ × List ℕ)) (d : List ℕ × List ℕ) → EachOnce table → namespace_of d.0 table ≡ None → EachOnce (table ++ d ∷ [])
once_more [] d h g = (refl, tt)
once_more (e ∷ es) d h g = let f = none_first d.0 e es g in (none_more e.0 es d h.0 (turned d.0 e.0 f.0), once_more es d h.1 f.1)

none_of : (name : List ℕ) (table : List (List ℕ × List ℕ)) → is_some (namespace_of name table) ≡ false → namespace_of name table ≡ None
none_of name table h = go (namespace_of name table) h
  where
    go : (o : Option (List ℕ)) → is_some o ≡ false → o ≡ None
    go None h = refl
    go (Some x) h = absurd (cc)

-- what the prologue tells

-- the table of a prologue, or its breach
abbrev pub PrologueTells : List ℕ → List Token → List ℕ → List Item → Result (List (List ℕ × List ℕ)) ShapeBreach → Type 0
PrologueTells source tokens word items (Ok table) = IsPrologue source tokens word items table
PrologueTells source tokens word items (Err breach) = IsPrologueBreach source tokens word items breach

-- the item behind the prefixes, and what is told of the prologue with one prefix more
tells_part : (source : List ℕ) (tokens : List Token) (word : List ℕ) (all before : List Item) (table : List (List ℕ × List ℕ)) (item : Item) (items : List Item) (p : Part) → all ≡ before ++ item ∷ items → ArePrefixNodes source tokens word before table → EachOnce table → PartTells source tokens word item p
    → ((name iri : List ℕ) → IsOther source tokens word item → IsPrefixNode source tokens item name iri → namespace_of name table ≡ None → PrologueTells source tokens word all (prologue_of source tokens word (table ++ (name, iri) ∷ []) items))
    → PrologueTells source tokens word all (on_part p (line_of tokens (first_of item)) table (λ more. prologue_of source tokens word more items))
tells_part source tokens word all before table item items main e h o x more = record { before = before; main = item; inside = x.0; after = items; parts = e; prefixes = h; once = o; node = x.1 }
tells_part source tokens word all before table item items (wrong line) e h o x more = record { before = before; rest = item ∷ items; table = table; parts = e; prefixes = h; once = o; wrong = (x.0, elim (x.1) [ inl u ↦ inl (inl u.0, u.1) | inr u ↦ inr u ]); kind = refl }
tells_part source tokens word all before table item items (prefix name iri) e h o x more = elim (cases_Bool (is_some (namespace_of name table))) [
  | inl s ↦ rw s (record { before = before; rest = item ∷ items; table = table; parts = e; prefixes = h; once = o; wrong = (x.0, inl (inr (name, iri, x.1, s), refl)); kind = refl })
  | inr s ↦ rw s (more name iri x.0 x.1 (none_of name table s))
]

tells_after : (source : List ℕ) (tokens : List Token) (word : List ℕ) (all before : List Item) (table : List (List ℕ × List ℕ)) (items : List Item) → all ≡ before ++ items → ArePrefixNodes source tokens word before table → EachOnce table
    → PrologueTells source tokens word all (prologue_of source tokens word table items)
tells_after source tokens word all before table [] e h o = record { before = before; rest = []; table = table; parts = e; prefixes = h; once = o; wrong = refl; kind = refl }
tells_after source tokens word all before table (item ∷ items) e h o =
    tells_part source tokens word all before table item items (part_in source tokens word (out-Item item)) e h o (part_tells source tokens word item (out-Item item) refl)
    (λ name iri x n s. tells_after source tokens word all (before ++ item ∷ []) (table ++ (name, iri) ∷ []) items (e ∙ sym (append_assoc before (item ∷ []) items)) (nodes_more source tokens word before table item name iri h x n) (once_more table (name, iri) o s))

-- what is computed item by item is right
pub prologue_tells : (source : List ℕ) (tokens : List Token) (word : List ℕ) (items : List Item) → PrologueTells source tokens word items (prologue_of source tokens word [] items)
prologue_tells source tokens word items = tells_after source tokens word items [] [] items refl tt tt

-- only that is told

none_at : (name : List ℕ) (es : List (List ℕ × List ℕ)) (d : List ℕ × List ℕ) (more : List (List ℕ × List ℕ)) → namespace_of name (es ++ d ∷ more) ≡ None → bytes_eq name d.0 ≡ false
none_at name [] d more h = (none_first name d more h).0
none_at name (e ∷ es) d more h = none_at name es d more (none_first name e (es ++ d ∷ more) h).1

once_before : (table : List (List ℕ × List ℕ)) (d : List ℕ × List ℕ) (more : List (List ℕ × List ℕ)) → EachOnce (table ++ d ∷ more) → namespace_of d.0 table ≡ None
once_before [] d more h = refl
once_before (e ∷ es) d more h = let g = turned e.0 d.0 (none_at e.0 es d more h.0) in rw g (once_before es d more h.1)

passes : (source : List ℕ) (tokens : List Token) (word : List ℕ) (table : List (List ℕ × List ℕ)) (before : List Item) (more : List (List ℕ × List ℕ)) (rest : List Item) → ArePrefixNodes source tokens word before more → EachOnce (table ++ more)
    → prologue_of source tokens word table (before ++ rest) ≡ prologue_of source tokens word (table ++ more) rest
passes source tokens word table [] [] rest h o = ap (λ t. prologue_of source tokens word t rest) (sym (append-nil table))
passes source tokens word table [] (d ∷ more) rest h o = absurd h
passes source tokens word table (item ∷ before) [] rest h o = absurd h
passes source tokens word table (item ∷ before) (d ∷ more) rest h o =
    let n = once_before table d more o in
    let at = append_assoc table (d ∷ []) more in
    ap (λ p. on_part p (line_of tokens (first_of item)) table (λ t. prologue_of source tokens word t (before ++ rest))) (part_is source tokens word item (prefix d.0 d.1) (h.0, h.1))
    ∙ rw n (passes source tokens word (table ++ d ∷ []) before more rest h.2 (subst EachOnce (sym at) o) ∙ ap (λ t. prologue_of source tokens word t rest) at)

reaches : (source : List ℕ) (tokens : List Token) (word : List ℕ) (items before rest : List Item) (table : List (List ℕ × List ℕ)) → items ≡ before ++ rest → ArePrefixNodes source tokens word before table → EachOnce table → prologue_of source tokens word [] items ≡ prologue_of source tokens word table rest
reaches source tokens word items before rest table e h o = ap (λ x. prologue_of source tokens word [] x) e ∙ passes source tokens word [] before table rest h o

at_part : (source : List ℕ) (tokens : List Token) (word : List ℕ) (table : List (List ℕ × List ℕ)) (item : Item) (items : List Item) (p : Part) → PartTells source tokens word item p → prologue_of source tokens word table (item ∷ items) ≡ on_part p (line_of tokens (first_of item)) table (λ more. prologue_of source tokens word more items)
at_part source tokens word table item items p x = ap (λ q. on_part q (line_of tokens (first_of item)) table (λ more. prologue_of source tokens word more items)) (part_is source tokens word item p x)

stops_at : (source : List ℕ) (tokens : List Token) (word : List ℕ) (table : List (List ℕ × List ℕ)) (rest : List Item) (line : ℕ) → IsWrongFrom source tokens word table rest line → prologue_of source tokens word table rest ≡ Err (shape_at line)
stops_at source tokens word table [] line h = ap (λ n. Err (shape_at n)) (sym h)
stops_at source tokens word table (item ∷ items) line h = elim (h.1) [
  | inl u ↦ elim (u.0) [
    | inl v ↦ at_part source tokens word table item items (wrong line) (h.0, inl (v, u.1))
    | inr v ↦ at_part source tokens word table item items (prefix v.0 v.1) (h.0, v.2) ∙ rw v.3 (ap (λ n. Err (shape_at n)) (sym u.1))
  ]
  | inr u ↦ at_part source tokens word table item items (wrong line) (h.0, inr u)
]

-- what is right as the answer on the items is what is computed of them
pub prologue_is : (source : List ℕ) (tokens : List Token) (word : List ℕ) (items : List Item) (r : Result (List (List ℕ × List ℕ)) ShapeBreach) → PrologueTells source tokens word items r → prologue_of source tokens word [] items ≡ r
prologue_is source tokens word items (Ok table) h = reaches source tokens word items h.before (h.main ∷ h.after) table h.parts h.prefixes h.once ∙ at_part source tokens word table h.main h.after main (h.inside, h.node)
prologue_is source tokens word items (Err breach) h =
    reaches source tokens word items h.before h.rest h.table h.parts h.prefixes h.once
    ∙ stops_at source tokens word h.table h.rest breach.line h.wrong
    ∙ ap (λ b. Err b) (λ i. record { line = breach.line; kind = sym h.kind i })

-- what is computed item by item is the prologue
pub answers_prologue : (source : List ℕ) (tokens : List Token) (word : List ℕ) (items : List Item) (r : Result (List (List ℕ × List ℕ)) (Stop ShapeBreach)) → Gives r (prologue_of source tokens word [] items) → AnswersPrologue source tokens word items r
answers_prologue source tokens word items (Ok table) h = subst (λ r. PrologueTells source tokens word items r) h (prologue_tells source tokens word items)
answers_prologue source tokens word items (Err (Named breach)) h = subst (λ r. PrologueTells source tokens word items r) h (prologue_tells source tokens word items)
answers_prologue source tokens word items (Err NoMemory) h = tt

-- the prologue is what is computed item by item: so a crate above that computes with it rests on the clause of `prefixes`
pub prologue_value : (source : List ℕ) (tokens : List Token) (word : List ℕ) (items : List Item) (r : Result (List (List ℕ × List ℕ)) (Stop ShapeBreach)) → AnswersPrologue source tokens word items r → Gives r (prologue_of source tokens word [] items)
prologue_value source tokens word items (Ok table) h = prologue_is source tokens word items (Ok table) h
prologue_value source tokens word items (Err (Named breach)) h = prologue_is source tokens word items (Err breach) h
prologue_value source tokens word items (Err NoMemory) h = tt

either_prologue : (source : List ℕ) (tokens : List Token) (word : List ℕ) (items : List Item) (r : Result (List (List ℕ × List ℕ)) ShapeBreach) → PrologueTells source tokens word items r
    → ((table : List (List ℕ × List ℕ)) × IsPrologue source tokens word items table) ⊎ ((breach : ShapeBreach) × IsPrologueBreach source tokens word items breach)
either_prologue source tokens word items (Ok table) h = inl (table, h)
either_prologue source tokens word items (Err breach) h = inr (breach, h)

-- items have one table up to the main node or one first breach
pub has_one_prologue : (source : List ℕ) (tokens : List Token) (word : List ℕ) (items : List Item) → HasOnePrologue source tokens word items
has_one_prologue source tokens word items = record {
  either = either_prologue source tokens word items (prologue_of source tokens word [] items) (prologue_tells source tokens word items);
  not_both = λ table breach x y. (let h : ◌≡◌ {A = Result (List (List ℕ × List ℕ)) ShapeBreach} (Ok table) (Err breach) = sym (prologue_is source tokens word items (Ok table) x) ∙ prologue_is source tokens word items (Err breach) y in cc);
  one_table = λ a b x y. (let h : ◌≡◌ {A = Result (List (List ℕ × List ℕ)) ShapeBreach} (Ok a) (Ok b) = sym (prologue_is source tokens word items (Ok a) x) ∙ prologue_is source tokens word items (Ok b) y in cc);
  one_breach = λ a b x y. (let h : ◌≡◌ {A = Result (List (List ℕ × List ℕ)) ShapeBreach} (Err a) (Err b) = sym (prologue_is source tokens word items (Err a) x) ∙ prologue_is source tokens word items (Err b) y in cc);
}
