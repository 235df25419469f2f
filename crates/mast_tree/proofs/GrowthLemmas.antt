-- Trees grow as the grammar's trees do.
use Rattle.std.proofs.Common.{◌≡◌, ℕ, zero, suc, ◌+◌, ◌<◌, true, List, ◌∷◌, [], ◌++◌, length, refl, ap, sym, ◌∙◌, subst, arith, append_assoc}
use Rattle.std.specs.Prelude.{Some, None, Result, Ok, Err, OnOk}
use Rattle.std.proofs.lemmas.List.{append-nil, length-append}
use Rattle.mast_tree.specs.declared.token.TokenKind.{TokenKind}
use Rattle.mast_tree.specs.declared.token.TokenKind.TheVariants.{Open, Close, Equals, Carets, Lang, Iri, Name, Str}
use Rattle.mast_tree.specs.declared.parser.ParseState.{ParseState}
use Rattle.mast_tree.specs.declared.parser.ParseState.TheVariants.{Item, AfterName, AfterStr, AfterCarets, AfterEquals}
use Rattle.mast_tree.specs.declared.item.Item.{Item as AnItem}
use Rattle.mast_tree.specs.declared.item.Item.TheVariants as item
use Rattle.mast_tree.specs.declared.trees.Frame.{Frame}
use Rattle.mast_tree.specs.declared.trees.Trees.{Trees}
use Rattle.mast_tree.specs.Grammar.{Items, done, name, iri, str, str_lang, str_name, str_iri, bind, node, kinds_of}
use Rattle.mast_tree.specs.inside.Parser.{at, item_step, step, ends}
use Rattle.mast_tree.specs.Trees.{items_from, Stand}
use Rattle.mast_tree.specs.inside.Growth.{Grown, GrownAt, GrowsTo, Closes, pending}
use Rattle.mast_tree.proofs.GrammarLemmas.{node_kinds}

-- two facts of one success
pub on_ok_both : {T E P Q R : Type 0} (r : Result T E) → (P → Q → R) → OnOk r P → OnOk r Q → OnOk r R
on_ok_both (Ok x) f p q = f p q
on_ok_both (Err e) f p q = tt

-- one tree's items, and another's after them
abbrev pub join : Items → Items → Items
join done b = b
join (name a) b = name (join a b)
join (iri a) b = iri (join a b)
join (str a) b = str (join a b)
join (str_lang a) b = str_lang (join a b)
join (str_name a) b = str_name (join a b)
join (str_iri a) b = str_iri (join a b)
join (bind a) b = bind (join a b)
join (node i a) b = node i (join a b)

pub kinds_join : (a b : Items) → kinds_of (join a b) ≡ kinds_of a ++ kinds_of b
kinds_join done b = refl
kinds_join (name a) b = ap (λ x. Name ∷ x) (kinds_join a b)
kinds_join (iri a) b = ap (λ x. Iri ∷ x) (kinds_join a b)
kinds_join (str a) b = ap (λ x. Str ∷ x) (kinds_join a b)
kinds_join (str_lang a) b = ap (λ x. Str ∷ Lang ∷ x) (kinds_join a b)
kinds_join (str_name a) b = ap (λ x. Str ∷ Carets ∷ Name ∷ x) (kinds_join a b)
kinds_join (str_iri a) b = ap (λ x. Str ∷ Carets ∷ Iri ∷ x) (kinds_join a b)
kinds_join (bind a) b = ap (λ x. Name ∷ Equals ∷ Iri ∷ x) (kinds_join a b)
kinds_join (node i a) b = ap (λ x. Name ∷ Open ∷ (kinds_of i ++ (Close ∷ x))) (kinds_join a b) ∙ sym (node_kinds i a (kinds_of b))

-- how many tokens a node takes, and what follows
node_length : (i a : Items) → length (kinds_of (node i a)) ≡ 3 + length (kinds_of i) + length (kinds_of a)
node_length i a = let l = length-append (kinds_of i) (Close ∷ kinds_of a) in omega arith

pub items_join : (n : ℕ) (a b : Items) → items_from n (join a b) ≡ items_from n a ++ items_from (n + length (kinds_of a)) b
items_join n done b = ap (λ m. items_from m b) (omega arith)
items_join n (name a) b = ap (λ x. item.Leaf n ∷ x) (items_join (n + 1) a b ∙ ap (λ m. items_from (n + 1) a ++ items_from m b) (omega arith))
items_join n (iri a) b = ap (λ x. item.Iri n ∷ x) (items_join (n + 1) a b ∙ ap (λ m. items_from (n + 1) a ++ items_from m b) (omega arith))
items_join n (str a) b = ap (λ x. item.Str n None ∷ x) (items_join (n + 1) a b ∙ ap (λ m. items_from (n + 1) a ++ items_from m b) (omega arith))
items_join n (str_lang a) b = ap (λ x. item.Str n (Some (n + 1)) ∷ x) (items_join (n + 2) a b ∙ ap (λ m. items_from (n + 2) a ++ items_from m b) (omega arith))
items_join n (str_name a) b = ap (λ x. item.Str n (Some (n + 2)) ∷ x) (items_join (n + 3) a b ∙ ap (λ m. items_from (n + 3) a ++ items_from m b) (omega arith))
items_join n (str_iri a) b = ap (λ x. item.Str n (Some (n + 2)) ∷ x) (items_join (n + 3) a b ∙ ap (λ m. items_from (n + 3) a ++ items_from m b) (omega arith))
items_join n (bind a) b = ap (λ x. item.Bind n (n + 2) ∷ x) (items_join (n + 3) a b ∙ ap (λ m. items_from (n + 3) a ++ items_from m b) (omega arith))
items_join n (node i a) b =
    let l = node_length i a in
    ap (λ x. item.Node n (items_from (n + 2) i) ∷ x) (items_join (n + 2 + length (kinds_of i) + 1) a b ∙ ap (λ m. items_from (n + 2 + length (kinds_of i) + 1) a ++ items_from m b) (omega arith))

-- a whole item at the end
pub grown_push : (n : ℕ) (fs : List Frame) (items : List AnItem) (ks : List TokenKind) (it : AnItem) (tree : Items) → Grown n fs items ks → it ∷ [] ≡ items_from (n + length ks) tree → Grown n fs (items ++ it ∷ []) (ks ++ kinds_of tree)
grown_push n [] items ks it tree g e = (
  join g.0 tree,
  ap (λ x. x ++ it ∷ []) g.1 ∙ ap (λ x. items_from n g.0 ++ x) (e ∙ ap (λ x. items_from (n + length x) tree) g.2) ∙ sym (items_join n g.0 tree),
  ap (λ x. x ++ kinds_of tree) g.2 ∙ sym (kinds_join g.0 tree),
)
grown_push n (f ∷ fs) items ks it tree g e =
    let size : length ks ≡ length (kinds_of g.0) + (2 + length g.1) = ap length g.4 ∙ length-append (kinds_of g.0) (Name ∷ (Open ∷ g.1)) ∙ omega arith in
    let token = g.3 in
    let there : n + length ks ≡ f.token + 2 + length g.1 = omega arith in (
      g.0,
      g.1 ++ kinds_of tree,
      g.2,
      g.3,
      ap (λ x. x ++ kinds_of tree) g.4 ∙ append_assoc (kinds_of g.0) (Name ∷ (Open ∷ g.1)) (kinds_of tree),
      grown_push (f.token + 2) fs items g.1 it tree g.5 (e ∙ ap (λ m. items_from m tree) there),
    )

-- a node is opened
pub grown_open : (n : ℕ) (fs : List Frame) (f : Frame) (ks : List TokenKind) → Grown n fs f.items ks → f.token ≡ n + length ks → Grown n (fs ++ f ∷ []) [] (ks ++ (Name ∷ (Open ∷ [])))
grown_open n [] f ks g e = (g.0, [], g.1, e ∙ ap (λ x. n + length x) g.2, ap (λ x. x ++ (Name ∷ (Open ∷ []))) g.2, (done, refl, refl))
grown_open n (h ∷ fs) f ks g e =
    let size : length ks ≡ length (kinds_of g.0) + (2 + length g.1) = ap length g.4 ∙ length-append (kinds_of g.0) (Name ∷ (Open ∷ g.1)) ∙ omega arith in
    let token = g.3 in (
      g.0,
      g.1 ++ (Name ∷ (Open ∷ [])),
      g.2,
      g.3,
      ap (λ x. x ++ (Name ∷ (Open ∷ []))) g.4 ∙ append_assoc (kinds_of g.0) (Name ∷ (Open ∷ g.1)) (Name ∷ (Open ∷ [])),
      grown_open (h.token + 2) fs f g.1 g.5 (omega arith),
    )

-- a node is closed
pub grown_close : (n : ℕ) (fs : List Frame) (f : Frame) (items : List AnItem) (ks : List TokenKind) → Grown n (fs ++ f ∷ []) items ks → Grown n fs (f.items ++ item.Node f.token items ∷ []) (ks ++ Close ∷ [])
grown_close n [] f items ks g =
    let in_it = g.5 in
    let whole : f.items ++ item.Node f.token items ∷ [] ≡ items_from n g.0 ++ items_from (n + length (kinds_of g.0)) (node in_it.0 done) =
    ap (λ x. x ++ item.Node f.token items ∷ []) g.2
    ∙ ap (λ x. items_from n g.0 ++ item.Node f.token x ∷ []) in_it.1
    ∙ ap (λ m. items_from n g.0 ++ item.Node m (items_from (m + 2) in_it.0) ∷ []) g.3 in
    let read : ks ++ Close ∷ [] ≡ kinds_of g.0 ++ kinds_of (node in_it.0 done) =
    ap (λ x. x ++ Close ∷ []) (g.4 ∙ ap (λ x. kinds_of g.0 ++ (Name ∷ (Open ∷ x))) in_it.2)
    ∙ append_assoc (kinds_of g.0) (Name ∷ (Open ∷ kinds_of in_it.0)) (Close ∷ []) in
    (join g.0 (node in_it.0 done), whole ∙ sym (items_join n g.0 (node in_it.0 done)), read ∙ sym (kinds_join g.0 (node in_it.0 done)))
grown_close n (h ∷ fs) f items ks g = (
  g.0,
  g.1 ++ Close ∷ [],
  g.2,
  g.3,
  ap (λ x. x ++ Close ∷ []) g.4 ∙ append_assoc (kinds_of g.0) (Name ∷ (Open ∷ g.1)) (Close ∷ []),
  grown_close (h.token + 2) fs f items g.1 g.5,
)

-- what each step of the trees does

pub pushed : (old new : Trees) (ks : List TokenKind) (it : AnItem) (tree : Items) → Grown 0 old.frames old.items ks → it ∷ [] ≡ items_from (length ks) tree → new.items ≡ old.items ++ it ∷ [] → new.frames ≡ old.frames → Grown 0 new.frames new.items (ks ++ kinds_of tree)
pushed old new ks it tree g e i f =
    subst (λ x. Grown 0 x new.items (ks ++ kinds_of tree)) (sym f)
    (subst (λ x. Grown 0 old.frames x (ks ++ kinds_of tree)) (sym i)
    (grown_push 0 old.frames old.items ks it tree g (e ∙ ap (λ m. items_from m tree) (omega arith))))

-- an item is whole, and the next may begin
pub at_item : (new : Trees) (ks : List TokenKind) (d : ℕ) → Grown 0 new.frames new.items ks → length new.frames ≡ d → GrowsTo (at Item d) new ks
at_item new ks d g l = (record { whole = ks; grown = g; read = sym (append-nil ks); begins = tt }, l)

-- an IRI is an item
pub iri_read : (old new : Trees) (ks : List TokenKind) (n : ℕ) → length ks ≡ n → Grown 0 old.frames old.items ks → new.items ≡ old.items ++ item.Iri n ∷ [] → new.frames ≡ old.frames → GrowsTo (at Item (length old.frames)) new (ks ++ Iri ∷ [])
iri_read old new ks n l g i f = at_item new (ks ++ Iri ∷ []) (length old.frames) (pushed old new ks (item.Iri n) (iri done) g (ap (λ m. item.Iri m ∷ []) (sym l)) i f) (ap length f)

-- a closed node has its name and what stood inside
pub closed : (old new : Trees) (ks : List TokenKind) → Grown 0 old.frames old.items ks → Closes old new → Grown 0 new.frames new.items (ks ++ Close ∷ [])
closed old new ks g c =
    subst (λ x. Grown 0 new.frames x (ks ++ Close ∷ [])) (sym c.items)
    (grown_close 0 new.frames c.frame old.items ks (subst (λ x. Grown 0 x old.items ks) c.frames g))

-- a parenthesis closes the innermost node
pub close_read : (old new : Trees) (ks : List TokenKind) → Grown 0 old.frames old.items ks → (0 < length old.frames → Closes old new) → GrowsTo (item_step (length old.frames) Close) new (ks ++ Close ∷ [])
close_read old new ks g c = go (length old.frames) refl
  where
    go : (d : ℕ) → length old.frames ≡ d → GrowsTo (item_step d Close) new (ks ++ Close ∷ [])
    go zero e = tt
    go (suc d) e =
        let k = c (omega arith) in
        let m = ap length k.frames ∙ length-append new.frames (k.frame ∷ []) in
        at_item new (ks ++ Close ∷ []) d (closed old new ks g k) (omega arith)

-- an item that was begun becomes whole with the token k
ended : (old new : Trees) (p : ParseState) (ks : List TokenKind) (k : TokenKind) (it : AnItem) (tree : Items) (g : GrownAt p old ks) → pending p ++ k ∷ [] ≡ kinds_of tree → it ∷ [] ≡ items_from (length g.whole) tree → new.items ≡ old.items ++ it ∷ [] → new.frames ≡ old.frames → GrowsTo (at Item (length old.frames)) new (ks ++ k ∷ [])
ended old new p ks k it tree g t e i f =
    let read : ks ++ k ∷ [] ≡ g.whole ++ kinds_of tree = ap (λ x. x ++ k ∷ []) g.read ∙ append_assoc g.whole (pending p) (k ∷ []) ∙ ap (λ x. g.whole ++ x) t in
    at_item new (ks ++ k ∷ []) (length old.frames) (subst (λ x. Grown 0 new.frames new.items x) (sym read) (pushed old new g.whole it tree g.grown e i f)) (ap length f)

-- an item that was begun is whole by itself
alone : (old new : Trees) (p : ParseState) (ks : List TokenKind) (it : AnItem) (tree : Items) (g : GrownAt p old ks) → pending p ≡ kinds_of tree → it ∷ [] ≡ items_from (length g.whole) tree → new.items ≡ old.items ++ it ∷ [] → new.frames ≡ old.frames → Grown 0 new.frames new.items ks
alone old new p ks it tree g t e i f = subst (λ x. Grown 0 new.frames new.items x) (sym (g.read ∙ ap (λ x. g.whole ++ x) t)) (pushed old new g.whole it tree g.grown e i f)

-- a name that nothing follows is an item
pub name_alone : (old new : Trees) (ks : List TokenKind) → GrownAt AfterName old ks → new.items ≡ old.items ++ item.Leaf old.first ∷ [] → new.frames ≡ old.frames → Grown 0 new.frames new.items ks
name_alone old new ks g i f = alone old new AfterName ks (item.Leaf old.first) (name done) g refl (ap (λ m. item.Leaf m ∷ []) g.begins) i f

-- so is a string
pub str_alone : (old new : Trees) (ks : List TokenKind) → GrownAt AfterStr old ks → new.items ≡ old.items ++ item.Str old.first None ∷ [] → new.frames ≡ old.frames → Grown 0 new.frames new.items ks
str_alone old new ks g i f = alone old new AfterStr ks (item.Str old.first None) (str done) g refl (ap (λ m. item.Str m None ∷ []) g.begins) i f

-- behind it the parser goes on as behind an item
pub name_goes : (d e : ℕ) (new : Trees) (ks : List TokenKind) (k : TokenKind) → (k ≡ Equals → ⊥) → (k ≡ Open → ⊥) → d ≡ e → GrowsTo (item_step d k) new ks → GrowsTo (step AfterName e k) new ks
name_goes d e new ks k a b s h = go k a b (subst (λ x. GrowsTo (item_step x k) new ks) s h)
  where
    go : (k : TokenKind) → (k ≡ Equals → ⊥) → (k ≡ Open → ⊥) → GrowsTo (item_step e k) new ks → GrowsTo (step AfterName e k) new ks
    go Equals a b h = absurd (a refl)
    go Open a b h = absurd (b refl)
    go k a b h = h

-- so it does behind a string
pub str_goes : (d e : ℕ) (new : Trees) (ks : List TokenKind) (k : TokenKind) → (k ≡ Carets → ⊥) → (k ≡ Lang → ⊥) → d ≡ e → GrowsTo (item_step d k) new ks → GrowsTo (step AfterStr e k) new ks
str_goes d e new ks k a b s h = go k a b (subst (λ x. GrowsTo (item_step x k) new ks) s h)
  where
    go : (k : TokenKind) → (k ≡ Carets → ⊥) → (k ≡ Lang → ⊥) → GrowsTo (item_step e k) new ks → GrowsTo (step AfterStr e k) new ks
    go Carets a b h = absurd (a refl)
    go Lang a b h = absurd (b refl)
    go k a b h = h

-- a parenthesis behind a name opens a node
pub open_read : (old new : Trees) (ks : List TokenKind) → GrownAt AfterName old ks → new.items ≡ [] → new.frames ≡ old.frames ++ record { items = old.items; token = old.first } ∷ [] → GrowsTo (step AfterName (length old.frames) Open) new (ks ++ Open ∷ [])
open_read old new ks g i f =
    let frame : Frame = record { items = old.items; token = old.first } in
    let read : ks ++ Open ∷ [] ≡ g.whole ++ (Name ∷ (Open ∷ [])) = ap (λ x. x ++ Open ∷ []) g.read ∙ append_assoc g.whole (Name ∷ []) (Open ∷ []) in
    let grown : Grown 0 (old.frames ++ frame ∷ []) [] (g.whole ++ (Name ∷ (Open ∷ []))) = grown_open 0 old.frames frame g.whole g.grown (g.begins ∙ omega arith) in
    let same : Grown 0 new.frames new.items (ks ++ Open ∷ []) = subst (λ x. Grown 0 x new.items (ks ++ Open ∷ [])) (sym f) (subst (λ x. Grown 0 (old.frames ++ frame ∷ []) x (ks ++ Open ∷ [])) (sym i) (subst (λ x. Grown 0 (old.frames ++ frame ∷ []) [] x) (sym read) grown)) in
    at_item new (ks ++ Open ∷ []) (suc (length old.frames)) same (ap length f ∙ length-append old.frames (frame ∷ []) ∙ omega arith)

-- the number of the token that is read next, after one or two of an item that was begun
after_one : (p : ParseState) (old : Trees) (ks : List TokenKind) (n : ℕ) (k : TokenKind) (g : GrownAt p old ks) → pending p ≡ k ∷ [] → length ks ≡ n → n ≡ length g.whole + 1
after_one p old ks n k g e l = let m = ap length g.read ∙ length-append g.whole (pending p) ∙ ap (λ x. length g.whole + length x) e in omega arith

after_two : (p : ParseState) (old : Trees) (ks : List TokenKind) (n : ℕ) (j k : TokenKind) (g : GrownAt p old ks) → pending p ≡ j ∷ (k ∷ []) → length ks ≡ n → n ≡ length g.whole + 2
after_two p old ks n j k g e l = let m = ap length g.read ∙ length-append g.whole (pending p) ∙ ap (λ x. length g.whole + length x) e in omega arith

str_to : (a b m n : ℕ) → a ≡ b → m ≡ n → ◌≡◌ {A = List AnItem} (item.Str a (Some m) ∷ []) (item.Str b (Some n) ∷ [])
str_to a b m n e f = ap (λ x. item.Str x (Some m) ∷ []) e ∙ ap (λ x. item.Str b (Some x) ∷ []) f

bind_to : (a b m n : ℕ) → a ≡ b → m ≡ n → ◌≡◌ {A = List AnItem} (item.Bind a m ∷ []) (item.Bind b n ∷ [])
bind_to a b m n e f = ap (λ x. item.Bind x m ∷ []) e ∙ ap (λ x. item.Bind b x ∷ []) f

-- a language ends a string
pub lang_read : (old new : Trees) (ks : List TokenKind) (n : ℕ) → length ks ≡ n → GrownAt AfterStr old ks → new.items ≡ old.items ++ item.Str old.first (Some n) ∷ [] → new.frames ≡ old.frames → GrowsTo (at Item (length old.frames)) new (ks ++ Lang ∷ [])
lang_read old new ks n l g i f = ended old new AfterStr ks Lang (item.Str old.first (Some n)) (str_lang done) g refl (str_to old.first (length g.whole) n (length g.whole + 1) g.begins (after_one AfterStr old ks n Str g refl l)) i f

-- so does a type
pub carets_read : (old new : Trees) (ks : List TokenKind) (n : ℕ) (k : TokenKind) → length ks ≡ n → GrownAt AfterCarets old ks → new.items ≡ old.items ++ item.Str old.first (Some n) ∷ [] → new.frames ≡ old.frames → GrowsTo (step AfterCarets (length old.frames) k) new (ks ++ k ∷ [])
carets_read old new ks n Name l g i f = ended old new AfterCarets ks Name (item.Str old.first (Some n)) (str_name done) g refl (str_to old.first (length g.whole) n (length g.whole + 2) g.begins (after_two AfterCarets old ks n Str Carets g refl l)) i f
carets_read old new ks n Iri l g i f = ended old new AfterCarets ks Iri (item.Str old.first (Some n)) (str_iri done) g refl (str_to old.first (length g.whole) n (length g.whole + 2) g.begins (after_two AfterCarets old ks n Str Carets g refl l)) i f
carets_read old new ks n k l g i f = tt

-- an IRI ends a binding
pub equals_read : (old new : Trees) (ks : List TokenKind) (n : ℕ) (k : TokenKind) → length ks ≡ n → GrownAt AfterEquals old ks → new.items ≡ old.items ++ item.Bind old.first n ∷ [] → new.frames ≡ old.frames → GrowsTo (step AfterEquals (length old.frames) k) new (ks ++ k ∷ [])
equals_read old new ks n Iri l g i f = ended old new AfterEquals ks Iri (item.Bind old.first n) (bind done) g refl (bind_to old.first (length g.whole) n (length g.whole + 2) g.begins (after_two AfterEquals old ks n Name Equals g refl l)) i f
equals_read old new ks n k l g i f = tt

-- where a document may end, no node is open
no_frames : (fs : List Frame) (p : ParseState) → ends (at p (length fs)) ≡ true → fs ≡ []
no_frames [] p h = refl
no_frames (f ∷ fs) Item h = absurd (cc)
no_frames (f ∷ fs) AfterName h = absurd (cc)
no_frames (f ∷ fs) AfterStr h = absurd (cc)
no_frames (f ∷ fs) AfterCarets h = absurd (cc)
no_frames (f ∷ fs) AfterEquals h = absurd (cc)

stands : (ks : List TokenKind) (items : List AnItem) → Grown 0 [] items ks → Stand ks items
stands ks items g = (g.0, g.2, g.1)

-- the items at the end, where one more is whole by itself or none is
finish_alone : (old new : Trees) (p : ParseState) (ks : List TokenKind) → ends (at p (length old.frames)) ≡ true → Grown 0 new.frames new.items ks → new.frames ≡ old.frames → Stand ks new.items
finish_alone old new p ks h g f = stands ks new.items (subst (λ x. Grown 0 x new.items ks) (f ∙ no_frames old.frames p h) g)

pub finish_item : (old : Trees) (p : ParseState) (ks : List TokenKind) → (p ≡ AfterName → ⊥) → (p ≡ AfterStr → ⊥) → GrownAt p old ks → ends (at p (length old.frames)) ≡ true → Stand ks old.items
finish_item old Item ks a b g h = stands ks old.items (subst (λ x. Grown 0 [] old.items x) (sym (g.read ∙ append-nil g.whole)) (subst (λ x. Grown 0 x old.items g.whole) (no_frames old.frames Item h) g.grown))
finish_item old AfterName ks a b g h = absurd (a refl)
finish_item old AfterStr ks a b g h = absurd (b refl)
finish_item old AfterCarets ks a b g h = absurd (cc)
finish_item old AfterEquals ks a b g h = absurd (cc)

-- the items, where a name stands last
pub finish_name : (old : Trees) (items : List AnItem) (p : ParseState) (ks : List TokenKind) → p ≡ AfterName → items ≡ old.items ++ item.Leaf old.first ∷ [] → GrownAt p old ks → ends (at p (length old.frames)) ≡ true → Stand ks items
finish_name old items p ks e i g h =
    let new : Trees = record { frames = old.frames; items = items; first = old.first } in
    finish_alone old new p ks h (name_alone old new ks (subst (λ q. GrownAt q old ks) e g) i refl) refl

-- the items, where a string stands last
pub finish_str : (old : Trees) (items : List AnItem) (p : ParseState) (ks : List TokenKind) → p ≡ AfterStr → items ≡ old.items ++ item.Str old.first None ∷ [] → GrownAt p old ks → ends (at p (length old.frames)) ≡ true → Stand ks items
finish_str old items p ks e i g h =
    let new : Trees = record { frames = old.frames; items = items; first = old.first } in
    finish_alone old new p ks h (str_alone old new ks (subst (λ q. GrownAt q old ks) e g) i refl) refl
