-- What is judged lets a vocabulary grow, and names keep their numbers.
use Rattle.std.proofs.Common.{◌≡◌, refl, ap, sym, ◌∙◌, subst, ℕ, zero, suc, Bool, true, false, if◌then◌else◌, List, [], ◌∷◌, ◌++◌, append_assoc}
use Rattle.std.specs.Prelude.{Some, slice_get}
use Rattle.std.proofs.lemmas.List.{append-nil}
use Rattle.mast_terms.specs.declared.name.Name.{Name}
use Rattle.mast_terms.specs.declared.name.NameKind.{NameKind}
use Rattle.mast_terms.specs.declared.name.NameKind.TheVariants as kinds
use Rattle.mast_terms.specs.Vocabularies.{Lists, iris, stands, with_iri, value_stands}
use Rattle.mast_tree.specs.Seen.{Document}
use Rattle.mast_tree.specs.declared.item.Item.{Item}
use Rattle.mast_tree.specs.Growing.{BeginsWith, Begins}
use Rattle.mast_tree.specs.Judgements.{Judgement, uses, numbers, breaks, after_one, after, AreRight}
use Rattle.mast_tree.specs.Names.{IsName}

same_list : {A : Type 0} (xs : List A) → BeginsWith xs xs
same_list xs = ([], sym (append-nil xs))

joined_lists : {A : Type 0} (a b c : List A) → BeginsWith c b → BeginsWith b a → BeginsWith c a
joined_lists a b c k h = (h.0 ++ k.0, k.1 ∙ (ap (λ xs. xs ++ k.0) h.1 ∙ append_assoc a h.0 k.0))

-- a vocabulary begins with itself
pub begins_same : (lists : Lists) → Begins lists lists
begins_same lists = record { classes = same_list lists.classes; roles = same_list lists.roles; attributes = same_list lists.attributes; constants = same_list lists.constants }

-- what begins with what begins with a vocabulary begins with it
pub begins_join : (a b c : Lists) → Begins c b → Begins b a → Begins c a
begins_join a b c k h = record {
  classes = joined_lists a.classes b.classes c.classes k.classes h.classes;
  roles = joined_lists a.roles b.roles c.roles k.roles h.roles;
  attributes = joined_lists a.attributes b.attributes c.attributes k.attributes h.attributes;
  constants = joined_lists a.constants b.constants c.constants k.constants h.constants;
}

put_where : {A : Type 0} (is : Bool) (known : List A) (one : A) → BeginsWith (if is then known else known ++ one ∷ []) known
put_where true known one = same_list known
put_where false known one = (one ∷ [], refl)

with_one_iri : (lists : Lists) (kind : NameKind) (iri : List ℕ) → Begins (with_iri lists kind iri) lists
with_one_iri lists kinds.Class iri = record { classes = put_where (stands iri lists.classes) lists.classes iri; roles = same_list lists.roles; attributes = same_list lists.attributes; constants = same_list lists.constants }
with_one_iri lists kinds.Role iri = record { classes = same_list lists.classes; roles = put_where (stands iri lists.roles) lists.roles iri; attributes = same_list lists.attributes; constants = same_list lists.constants }
with_one_iri lists kinds.Attr iri = record { classes = same_list lists.classes; roles = same_list lists.roles; attributes = put_where (stands iri lists.attributes) lists.attributes iri; constants = same_list lists.constants }

one_begins : (lists : Lists) (j : Judgement) → Begins (after_one lists j) lists
one_begins lists (uses kind iri line) = with_one_iri lists kind iri
one_begins lists (numbers value line) = record { classes = same_list lists.classes; roles = same_list lists.roles; attributes = same_list lists.attributes; constants = put_where (value_stands value lists.constants) lists.constants value }
one_begins lists (breaks kind line) = begins_same lists

-- once these are judged, the vocabulary begins with what it was
pub after_begins : (lists : Lists) (judgements : List Judgement) → Begins (after lists judgements) lists
after_begins lists [] = begins_same lists
after_begins lists (j ∷ js) = begins_join lists (after_one lists j) (after (after_one lists j) js) (after_begins (after_one lists j) js) (one_begins lists j)

-- the same of what was judged without a breach
pub right_begins : (old new : Lists) (judgements : List Judgement) → AreRight old judgements new → Begins new old
right_begins old new judgements right = subst (λ lists. Begins lists old) (sym right.then) (after_begins old judgements)

get_append : {A : Type 0} (xs more : List A) (n : ℕ) (x : A) → slice_get xs n ≡ Some x → slice_get (xs ++ more) n ≡ Some x
get_append [] more n x h = cc
get_append (y ∷ ys) more zero x h = h
get_append (y ∷ ys) more (suc n) x h = get_append ys more n x h

-- what stands at a place of a list stands there in each list that begins with it
pub get_grows : {A : Type 0} (new old : List A) (n : ℕ) (x : A) → BeginsWith new old → slice_get old n ≡ Some x → slice_get new n ≡ Some x
get_grows new old n x b h = ap (λ xs. slice_get xs n) b.1 ∙ get_append old b.0 n x h

kind_begins : (new old : Lists) (kind : NameKind) → Begins new old → BeginsWith (iris new kind) (iris old kind)
kind_begins new old kinds.Class b = b.classes
kind_begins new old kinds.Role b = b.roles
kind_begins new old kinds.Attr b = b.attributes

-- a name is the same in a vocabulary that begins with its own
pub name_grows : (new old : Lists) (kind : NameKind) (doc : Document) (prefixes : List (List ℕ × List ℕ)) (item : Item) (name : Name)
    → Begins new old → IsName old kind doc prefixes item name → IsName new kind doc prefixes item name
name_grows new old kind doc prefixes item name b h = (h.0, h.1, get_grows (iris new kind) (iris old kind) name.0 h.0 (kind_begins new old kind b) h.2)
