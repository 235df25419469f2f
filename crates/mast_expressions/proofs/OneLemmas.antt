-- What an item says in a place is one thing.
use Rattle.std.proofs.Common.{◌≡◌, ap, ◌∙◌, subst, ℕ, List, [], ◌∷◌, Some, None}
use Rattle.std.specs.Prelude.{Result, Ok, codes}
use Rattle.mast_terms.specs.declared.name.Name.{Name}
use Rattle.mast_terms.specs.declared.name.NameKind.{NameKind}
use Rattle.mast_terms.specs.declared.name.NameKind.TheVariants as kinds
use Rattle.mast_terms.specs.Vocabularies.{Lists, iris, IsNumbered, IsVocabulary}
use Rattle.mast_tbox.specs.declared.expression.Basic.{Basic}
use Rattle.mast_tbox.specs.declared.expression.Basic.TheVariants as basic
use Rattle.mast_tbox.specs.declared.expression.RoleExpr.{RoleExpr}
use Rattle.mast_tbox.specs.declared.expression.RoleExpr.TheVariants.{Direct, Inverse}
use Rattle.mast_tree.specs.declared.item.Item.{Item, out-Item}
use Rattle.mast_tree.specs.declared.item.Item.TheOpen.{Item-F}
use Rattle.mast_tree.specs.declared.shape.ShapeBreach.{ShapeBreach}
use Rattle.mast_tree.specs.declared.token.Token.{Token}
use Rattle.mast_tree.specs.MainNode.{Prefixes}
use Rattle.mast_tree.specs.Prefixes.{iri_in}
use Rattle.mast_tree.specs.Said.{Said, node, said_in}
use Rattle.mast_tree.specs.Pages.{Page, says, names, IsNodeOf}
use Rattle.mast_expressions.specs.Given.{IsNamed, IsInverseOf, IsRole, IsSomeOf, IsSubjectsOf, IsLeft}

-- the IRIs of a kind are numbered
pub kind_numbered : (lists : Lists) (kind : NameKind) → IsVocabulary lists → IsNumbered (iris lists kind)
kind_numbered lists kinds.Class h = h.classes
kind_numbered lists kinds.Role h = h.roles
kind_numbered lists kinds.Attr h = h.attributes

same_iri : (e : Result (List ℕ) ShapeBreach) (x y : List ℕ) → e ≡ Ok x → e ≡ Ok y → x ≡ y
same_iri e x y h g = cc

-- a name
pub named_one : (lists : Lists) (kind : NameKind) (page : Page) (item : Item) (m n : Name) → IsVocabulary lists → IsNamed lists kind page item m → IsNamed lists kind page item n → m ≡ n
named_one lists kind page item m n v h g =
    let iri : h.0 ≡ g.0 = same_iri (names page item) h.0 g.0 h.1 g.1 in
    let number : m.0 ≡ n.0 = (kind_numbered lists kind v).once m.0 n.0 g.0 (h.2 ∙ ap (λ x. Some x) iri) g.2 in
    λ i. record { 0 = number i }

-- a node names no IRI
layer_names : (source : List ℕ) (tokens : List Token) (prefixes : Prefixes) (layer : Item-F Item) (word : List ℕ) (at : ℕ) (items : List Item) (iri : List ℕ)
    → said_in source tokens layer ≡ node word at items → iri_in source tokens prefixes layer ≡ Ok iri → ⊥
layer_names source tokens prefixes (Item-F.Leaf t) word at items iri h g = cc
layer_names source tokens prefixes (Item-F.Iri t) word at items iri h g = cc
layer_names source tokens prefixes (Item-F.Str t None) word at items iri h g = cc
layer_names source tokens prefixes (Item-F.Str t (Some tag)) word at items iri h g = cc
layer_names source tokens prefixes (Item-F.Bind t value) word at items iri h g = cc
layer_names source tokens prefixes (Item-F.Node t inside) word at items iri h g = cc

-- a node says no name
pub node_no_name : (lists : Lists) (kind : NameKind) (page : Page) (item : Item) (word : List ℕ) (items : List Item) (n : Name) → IsNodeOf page word item items → IsNamed lists kind page item n → ⊥
node_no_name lists kind page item word items n h g = layer_names page.doc.source page.doc.tokens page.prefixes (out-Item item) word h.0 items g.0 h.1 g.1

same_inside : (s : Said) (word : List ℕ) (a b : ℕ) (xs ys : List Item) → s ≡ node word a xs → s ≡ node word b ys → xs ≡ ys
same_inside s word a b xs ys h g = cc

-- what stands inside a node is one
pub inside_one : (page : Page) (word : List ℕ) (item : Item) (xs ys : List Item) → IsNodeOf page word item xs → IsNodeOf page word item ys → xs ≡ ys
inside_one page word item xs ys h g = same_inside (says page item) word h.0 g.0 xs ys h.1 g.1

same_word : (s : Said) (v w : List ℕ) (a b : ℕ) (xs ys : List Item) → s ≡ node v a xs → s ≡ node w b ys → v ≡ w
same_word s v w a b xs ys h g = cc

-- so is its word
pub word_one : (page : Page) (v w : List ℕ) (item : Item) (xs ys : List Item) → IsNodeOf page v item xs → IsNodeOf page w item ys → v ≡ w
word_one page v w item xs ys h g = same_word (says page item) v w h.0 g.0 xs ys h.1 g.1

inverse_one : (lists : Lists) (page : Page) (items : List Item) (m n : Name) → IsVocabulary lists → IsInverseOf lists page items m → IsInverseOf lists page items n → m ≡ n
inverse_one lists page [] m n v h g = absurd h
inverse_one lists page (only ∷ []) m n v h g = named_one lists kinds.Role page only m n v h g
inverse_one lists page (one ∷ two ∷ more) m n v h g = absurd h

-- a role
pub role_one : (lists : Lists) (page : Page) (item : Item) (r s : RoleExpr) → IsVocabulary lists → IsRole lists page item r → IsRole lists page item s → r ≡ s
role_one lists page item (Direct p) (Direct q) v h g = ap Direct (named_one lists kinds.Role page item p q v h g)
role_one lists page item (Direct p) (Inverse q) v h g = absurd (node_no_name lists kinds.Role page item (codes "ObjectInverseOf") g.0 p g.1 h)
role_one lists page item (Inverse p) (Direct q) v h g = absurd (node_no_name lists kinds.Role page item (codes "ObjectInverseOf") h.0 q h.1 g)
role_one lists page item (Inverse p) (Inverse q) v h g =
    let inside : h.0 ≡ g.0 = inside_one page (codes "ObjectInverseOf") item h.0 g.0 h.1 g.1 in
    ap Inverse (inverse_one lists page g.0 p q v (subst (λ xs. IsInverseOf lists page xs p) inside h.2) g.2)

some_one : (lists : Lists) (page : Page) (items : List Item) (r s : RoleExpr) → IsVocabulary lists → IsSomeOf lists page items r → IsSomeOf lists page items s → r ≡ s
some_one lists page [] r s v h g = absurd h
some_one lists page (one ∷ []) r s v h g = absurd h
some_one lists page (role ∷ filler ∷ []) r s v h g = role_one lists page role r s v h.0 g.0
some_one lists page (one ∷ two ∷ three ∷ more) r s v h g = absurd h

subjects_one : (lists : Lists) (page : Page) (items : List Item) (m n : Name) → IsVocabulary lists → IsSubjectsOf lists page items m → IsSubjectsOf lists page items n → m ≡ n
subjects_one lists page [] m n v h g = absurd h
subjects_one lists page (one ∷ []) m n v h g = absurd h
subjects_one lists page (attr ∷ filler ∷ []) m n v h g = named_one lists kinds.Attr page attr m n v h.0 g.0
subjects_one lists page (one ∷ two ∷ three ∷ more) m n v h g = absurd h

some_no_value : codes "ObjectSomeValuesFrom" ≡ codes "DataSomeValuesFrom" → ⊥
some_no_value h = cc

-- a left side
pub left_one : (lists : Lists) (page : Page) (item : Item) (b c : Basic) → IsVocabulary lists → IsLeft lists page item b → IsLeft lists page item c → b ≡ c
left_one lists page item (basic.Class m) (basic.Class n) v h g = ap basic.Class (named_one lists kinds.Class page item m n v h g)
left_one lists page item (basic.Class m) (basic.Some s) v h g = absurd (node_no_name lists kinds.Class page item (codes "ObjectSomeValuesFrom") g.0 m g.1 h)
left_one lists page item (basic.Class m) (basic.Subjects w) v h g = absurd (node_no_name lists kinds.Class page item (codes "DataSomeValuesFrom") g.0 m g.1 h)
left_one lists page item (basic.Some r) (basic.Class n) v h g = absurd (node_no_name lists kinds.Class page item (codes "ObjectSomeValuesFrom") h.0 n h.1 g)
left_one lists page item (basic.Some r) (basic.Some s) v h g =
    let inside : h.0 ≡ g.0 = inside_one page (codes "ObjectSomeValuesFrom") item h.0 g.0 h.1 g.1 in
    ap basic.Some (some_one lists page g.0 r s v (subst (λ xs. IsSomeOf lists page xs r) inside h.2) g.2)
left_one lists page item (basic.Some r) (basic.Subjects w) v h g = absurd (some_no_value (word_one page (codes "ObjectSomeValuesFrom") (codes "DataSomeValuesFrom") item h.0 g.0 h.1 g.1))
left_one lists page item (basic.Subjects u) (basic.Class n) v h g = absurd (node_no_name lists kinds.Class page item (codes "DataSomeValuesFrom") h.0 n h.1 g)
left_one lists page item (basic.Subjects u) (basic.Some s) v h g = absurd (some_no_value (word_one page (codes "ObjectSomeValuesFrom") (codes "DataSomeValuesFrom") item g.0 h.0 g.1 h.1))
left_one lists page item (basic.Subjects u) (basic.Subjects w) v h g =
    let inside : h.0 ≡ g.0 = inside_one page (codes "DataSomeValuesFrom") item h.0 g.0 h.1 g.1 in
    ap basic.Subjects (subjects_one lists page g.0 u w v (subst (λ xs. IsSubjectsOf lists page xs u) inside h.2) g.2)
