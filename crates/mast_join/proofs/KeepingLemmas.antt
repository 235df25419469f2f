-- What is kept stays right as it grows: facts of maps, what is gathered of sources, and relations of atoms.
use Rattle.std.proofs.Common.{◌≡◌, ◌↔◌, Contains, ℕ, zero, suc, ◌+◌, ◌<◌, ◌≤◌, Bool, true, false, if◌then◌else◌, List, [], ◌∷◌, ◌++◌, length, get_or, take, refl, sym, ap, subst, ◌∙◌, arith}
use Rattle.std.specs.Prelude.{Some, nat_eq, slice_get}
use Rattle.std.specs.List.{AllByRecursion, AllZip}
use Rattle.std.specs.Map.{lookup}
use Rattle.std.proofs.lemmas.List.{append-nil, get_or_append_left, length-append}
use Rattle.std.proofs.lemmas.Option.{get_or_from_slice_get, same_Some, slice_get_read}
use Rattle.indexmap.specs.IndexMap.{IndexMap, IsUnchanged, Updates, get}
use Rattle.mast_terms.specs.Vocabularies.{EachOnce}
use Rattle.mast_terms.specs.declared.term.Term.{Term}
use Rattle.mast_terms.specs.declared.term.Term.TheVariants as term
use Rattle.mast_terms.specs.declared.value.Value.{Value}
use Rattle.mast_terms.specs.declared.value.Value.TheVariants as value
use Rattle.mast_cq.specs.declared.atom.Arg.{Arg}
use Rattle.mast_cq.specs.declared.atom.Arg.TheVariants.{Blank, Var, Constant}
use Rattle.mast_cq.specs.declared.atom.Atom.{Atom}
use Rattle.mast_cq.specs.declared.atom.Atom.TheVariants.{Class, Role, Attr}
use Rattle.mast_cq.specs.UnifierMeanings.{IsBelow, KnownArg, KnownAtom}
use Rattle.mast_cq.proofs.ListLemmas.{in_each}
use Rattle.mast_mapping.specs.declared.split_map.SplitMap.{SplitMap}
use Rattle.mast_canon.proofs.ChoiceLemmas.{place_within}
use Rattle.mast_unfold.specs.Sources.{IsSource, Unfolding}
use Rattle.mast_unfold.specs.declared.source.Source.{Source}
use Rattle.mast_unfold.proofs.ElementLemmas.{in_contains}
use Rattle.mast_unfold.proofs.KnownLemmas.{down_known}
use Rattle.mast_relations.specs.Matches.{Rows, nothing}
use Rattle.mast_relations.specs.Stores.{Stored, contents}
use Rattle.mast_join.specs.declared.base.Base.{Base}
use Rattle.mast_join.specs.declared.facts.MadeFact.{MadeFact}
use Rattle.mast_join.specs.declared.facts.Pool.{Pool}
use Rattle.mast_join.specs.declared.fill.Gathered.{Gathered}
use Rattle.mast_join.specs.declared.shapes.Asked.{Asked}
use Rattle.mast_join.specs.declared.store.Store.{Store}
use Rattle.mast_join.specs.Answers.{Extended}
use Rattle.mast_join.specs.Extensions.{constant_over}
use Rattle.mast_join.specs.inside.Filling.{AreRelationsMore, IsFilled, IsFull, IsRelationNext}
use Rattle.mast_join.specs.inside.Gathers.{Asks, IsGathered}
use Rattle.mast_join.specs.inside.Keeping.{AreSourcesOf, HasMapFacts, IsExtensionAt, IsKept, IsKnownSource, IsStoreMore, extended, same_atom}
use Rattle.mast_join.specs.inside.MadeFacts.{AreFactsOf, IsBase, IsPoolMore, IsPoolOf, asked_over}
use Rattle.mast_join.specs.inside.Relates.{TellsAtom}
use Rattle.mast_join.specs.inside.Shapes.{arguments, first_shape, second_shape, shape, variables, variables_of}
use Rattle.mast_join.specs.inside.Values.{IsFront}
use Rattle.mast_join.proofs.FactsLemmas.{facts_of_more, pool_refl, pool_twice}
use Rattle.mast_join.proofs.FillLemmas.{relations_refl, relations_twice}
use Rattle.mast_join.proofs.FilledLemmas.{filled_tells, gathered_full}
use Rattle.mast_join.proofs.HeadLemmas.{zip_more}
use Rattle.mast_join.proofs.KeptLemmas.{relation_kept, tells_kept, there_kept}
use Rattle.mast_join.proofs.ShapeLemmas.{tells_shape}
use Rattle.mast_join.proofs.ValueLemmas.{front_refl, get_front}

-- a store that grows in no way, and in two steps
pub grown_refl : (store : Store) → IsStoreMore store store
grown_refl store = record { pool = pool_refl store.pool; relations = relations_refl store.relations }

-- a store that grows, and again
pub grown_twice : (a b c : Store) → IsStoreMore a b → IsStoreMore b c → IsStoreMore a c
grown_twice a b c f g = record { pool = pool_twice a.pool b.pool c.pool f.pool g.pool; relations = relations_twice a.relations b.relations c.relations f.relations g.relations }

-- what is read at a place of a front is read there in the list
pub front_read : {X : Type 0} (a b : List X) (place : ℕ) (d : X) → IsFront a b → place < length a → get_or b place d ≡ get_or a place d
front_read {X} a b place d f lt = ap (λ (l : List X). get_or l place d) f.1 ∙ get_or_append_left a f.0 d place lt

-- and the list is as long at least
pub front_long : {X : Type 0} (a b : List X) (place : ℕ) → IsFront a b → place < length a → place < length b
front_long a b place f lt = let l : length b ≡ length a + length f.0 = ap length f.1 ∙ length-append a f.0 in omega (arith, lt, l)

-- the last element
pub last_read : {X : Type 0} (xs : List X) (x d : X) → get_or (xs ++ x ∷ []) (length xs) d ≡ x
last_read [] x d = refl
last_read (y ∷ xs) x d = last_read xs x d

-- what holds of each pair of a map holds of each after one was put into it of which it holds
module _ {K V S : Type 0} (eq : K → K → Bool) (P : K → V → Type 0) (old new : IndexMap K V S) (each : (q : K) (w : V) → get eq old q ≡ Some w → P q w) where
  pub put_each : (k : K) (v : V) → Updates eq old new k (Some v) → ((q : K) → eq k q ≡ true → k ≡ q) → P k v → (q : K) (w : V) → get eq new q ≡ Some w → P q w
  put_each k v updates same h q w e = by (eq k q) refl
    where
      by : (b : Bool) → eq k q ≡ b → P q w
      by true t = subst (λ (x : K). P x w) (same q t) (subst (P k) (same_Some v w (sym (ap (λ (c : Bool). if c then Some v else get eq old q) t) ∙ sym (updates.0 q) ∙ e)) h)
      by false t = each q w (sym (ap (λ (c : Bool). if c then Some v else get eq old q) t) ∙ sym (updates.0 q) ∙ e)

module _ (base : Base) (old new : Pool) (before after : List (List MadeFact)) (more : IsPoolMore old new) (front : IsFront before after) where
  -- the facts of a map stay where they are
  pub map_facts_kept : (map place : ℕ) → HasMapFacts base old before map place → HasMapFacts base new after map place
  map_facts_kept map place h = record {
    split = h.split;
    stands = h.stands;
    there = front_long before after place front h.there;
    are = subst (λ (facts : List MadeFact). AreFactsOf base new h.split facts) (sym (front_read before after place [] front h.there)) (facts_of_more base h.split old new (get_or before place []) more h.are);
  }

  pub asks_kept : (constant : ℕ → Term) (arg : Arg) (asked : Asked) → Asks old.terms.terms constant arg asked → Asks new.terms.terms constant arg asked
  asks_kept constant Blank asked h = h
  asks_kept constant (Var x) asked h = h
  asks_kept constant (Constant c) asked h = (h.0, h.1, get_front old.terms.terms new.terms.terms h.0 (constant c) more.terms.terms h.2)

  -- and what is gathered of a source stays right
  pub gathered_kept : (source : Source) (gathered : Gathered) → IsGathered base old before source gathered → IsGathered base new after source gathered
  gathered_kept source gathered h = record {
    first = asks_kept (constant_over (asked_over base)) (arguments source.member).0 gathered.first h.first;
    second = asks_kept (constant_over (asked_over base)) (arguments source.member).1 gathered.second h.second;
    there = front_long before after gathered.place front h.there;
    map = h.map;
    stands = h.stands;
    facts_of = subst (λ (facts : List MadeFact). AreFactsOf base new h.map facts) (sym (front_read before after gathered.place [] front h.there))
        (facts_of_more base h.map old new (get_or before gathered.place []) more h.facts_of);
  }

  pub all_gathered_kept : (sources : List Source) (all : List Gathered) → AllZip (IsGathered base old before) sources all → AllZip (IsGathered base new after) sources all
  all_gathered_kept [] [] z = tt
  all_gathered_kept [] (x ∷ all) z = absurd z
  all_gathered_kept (s ∷ sources) [] z = absurd z
  all_gathered_kept (s ∷ sources) (x ∷ all) z = (gathered_kept s x z.0, all_gathered_kept sources all z.1)

module _ (base : Base) (old new : Store) (more : IsStoreMore old new) where
  -- the relation of an atom still tells its extension
  pub extension_kept : (g : Atom) (number : ℕ) → IsExtensionAt (extended base old) g number → IsExtensionAt (extended base new) g number
  extension_kept g number h =
      let there = there_kept (asked_over base) base.wanted old.pool.terms new.pool.terms old.pool.sets.items new.pool.sets.items old.relations new.relations more.pool.terms.terms more.pool.sets more.relations.front in
      let same = relation_kept (asked_over base) base.wanted old.pool.terms new.pool.terms old.pool.sets.items new.pool.sets.items old.relations new.relations more.pool.terms.terms more.pool.sets more.relations.front in
      let told = tells_kept (asked_over base) base.wanted old.pool.terms new.pool.terms old.pool.sets.items new.pool.sets.items old.relations new.relations more.pool.terms.terms more.pool.sets in
      record {
        there = there number h.there;
        tells = subst (λ (r : Rows). TellsAtom (extended base new) g r) (sym (same number h.there)) (told g (get_or (contents old.relations) number nothing) h.tells);
      }

  -- so what is kept stays right where nothing else is noted
  pub kept_on : IsKept base old → IsPoolOf base new.pool → IsFront old.facts.items new.facts.items → ((map : ℕ) → get nat_eq new.fact_places map ≡ get nat_eq old.fact_places map)
      → ((g : Atom) → get same_atom new.made g ≡ get same_atom old.made g) → IsKept base new
  kept_on kept noted front places made = record {
    based = kept.based;
    noted = noted;
    facts = λ map place e. map_facts_kept base old.pool new.pool old.facts.items new.facts.items more.pool front map place (kept.facts map place (sym (places map) ∙ e));
    made = λ g number e. extension_kept g number (kept.made g number (sym (made g) ∙ e));
  }

-- an entry is found as before where the entries are as they were
pub unchanged_get : {K V S : Type 0} (eq : K → K → Bool) (old new : IndexMap K V S) → IsUnchanged old new → (q : K) → get eq new q ≡ get eq old q
unchanged_get eq old new h q = ap (λ es. lookup (eq q) es) h

-- a list is a front of itself with more behind it
pub front_push : {X : Type 0} (old new more : List X) → new ≡ old ++ more → IsFront old new
front_push old new more e = (more, e)

-- a list is a front of itself
pub front_same : {X : Type 0} (old new : List X) → new ≡ old → IsFront old new
front_same old new e = ([], e ∙ sym (append-nil old))

-- the store with another pool, where the numbers in it stay
pub pool_kept : (base : Base) (store : Store) (pool : Pool) → IsKept base store → IsPoolOf base pool → IsPoolMore store.pool pool
    → IsKept base (record { pool = pool; facts = store.facts; fact_places = store.fact_places; relations = store.relations; made = store.made })
pool_kept base store pool kept noted more =
    kept_on base store (record { pool = pool; facts = store.facts; fact_places = store.fact_places; relations = store.relations; made = store.made })
    (record { pool = more; relations = relations_refl store.relations }) kept noted (front_refl store.facts.items) (λ map. refl) (λ g. refl)

-- and with more relations
pub relations_kept : (base : Base) (store : Store) (relations : List Stored) → IsKept base store → AreRelationsMore store.relations relations
    → IsKept base (record { pool = store.pool; facts = store.facts; fact_places = store.fact_places; relations = relations; made = store.made })
relations_kept base store relations kept more =
    kept_on base store (record { pool = store.pool; facts = store.facts; fact_places = store.fact_places; relations = relations; made = store.made })
    (record { pool = pool_refl store.pool; relations = more }) kept kept.noted (front_refl store.facts.items) (λ map. refl) (λ g. refl)

-- the facts that were put behind the others are those of the map
pub new_facts : (base : Base) (pool : Pool) (old new : List (List MadeFact)) (given : List MadeFact) (map place : ℕ) (split : SplitMap) → place ≡ length old → new ≡ old ++ given ∷ []
    → slice_get base.spec.now.maps map ≡ Some split → AreFactsOf base pool split given → HasMapFacts base pool new map place
new_facts base pool old new given map place split at is stands are =
    let l : length new ≡ length old + 1 = ap length is ∙ length-append old (given ∷ []) in
    let read : get_or new place [] ≡ given = ap (λ (i : ℕ). get_or new i []) at ∙ ap (λ (fs : List (List MadeFact)). get_or fs (length old) []) is ∙ last_read old given [] in
    record { split = split; stands = stands; there = omega (arith, at, l); are = subst (λ (facts : List MadeFact). AreFactsOf base pool split facts) (sym read) are }

-- what an element of a slice is, by the list as it was lent
pub lent_get : {X : Type 0} (list lent : List X) (i : ℕ) (x : X) → lent ≡ list → i < length list → x ≡ get_or lent i x → slice_get list i ≡ Some x
lent_get {X} list lent i x e lt is = slice_get_read list (length list) i x refl lt (is ∙ ap (λ (k : List X). get_or k i x) e)

default_read : {X : Type 0} (xs : List X) (i : ℕ) (d : X) → i < length xs → get_or xs i d ≡ get_or xs i (get_or xs i d)
default_read [] i d lt = absurd (omega (arith, lt))
default_read (x ∷ xs) zero d lt = refl
default_read (x ∷ xs) (suc i) d lt = default_read xs i d (omega (arith, lt))

-- one more of two lists that go together
pub zip_at : {X Y : Type 0} (R : X → Y → Type 0) (xs : List X) (ys : List Y) (i : ℕ) (d : X) (y : Y) → i < length xs → AllZip R (take i xs) ys → R (get_or xs i d) y → AllZip R (take (i + 1) xs) (ys ++ y ∷ [])
zip_at R xs ys i d y lt z r = zip_more R xs ys i (get_or xs i d) y lt (default_read xs i d lt) z r

-- the sources that an unfolder gives are those of the atom
pub sources_of : (base : Base) (g shaped : Atom) (list given : List Source) → IsBase base → shaped ≡ g → given ≡ list → ((s : Source) → Contains list s ↔ IsSource base.unfolder.now shaped s) → AreSourcesOf base g given
sources_of base g shaped list given based same e exact s =
    subst (λ (k : Unfolding). Contains given s ↔ IsSource k g s) based.unfolder
    (subst (λ (h : Atom). Contains given s ↔ IsSource base.unfolder.now h s) same (subst (λ (l : List Source). Contains l s ↔ IsSource base.unfolder.now shaped s) (sym e) (exact s)))

-- a relation that was put behind the others, filled by the sources of an atom's shape, is that of its extension
pub extension_next : (base : Base) (store : Store) (relations : List Stored) (g : Atom) (width number : ℕ) (facts : List (List MadeFact)) (sources : List Source) (all : List Gathered) → IsBase base → EachOnce store.pool.terms.terms
    → width ≡ length (variables (shape g)) → facts ≡ store.facts.items → AreSourcesOf base (shape g) sources → AllZip (IsGathered base store.pool store.facts.items) sources all
    → IsRelationNext (IsFilled base.wanted width facts all) store.relations relations number
    → IsExtensionAt (extended base (record { pool = store.pool; facts = store.facts; fact_places = store.fact_places; relations = relations; made = store.made })) (shape g) number
extension_next base store relations g width number facts sources all based once wide same exact are next =
    let e : Extended = record { over = asked_over base; wanted = base.wanted; numbered = store.pool.terms; sets = store.pool.sets.items; relations = relations } in
    let l : length (contents relations) ≡ length (contents store.relations) + 1 = ap length next.is ∙ length-append (contents store.relations) (next.rows ∷ []) in
    let at = next.next in
    let filled = subst (λ (w : ℕ). IsFilled base.wanted w store.facts.items all next.rows) wide (subst (λ (fs : List (List MadeFact)). IsFilled base.wanted width fs all next.rows) same next.tells) in
    let read : get_or (contents relations) number nothing ≡ next.rows =
    ap (λ (i : ℕ). get_or (contents relations) i nothing) at ∙ ap (λ (rs : List Rows). get_or rs (length (contents store.relations)) nothing) next.is ∙ last_read (contents store.relations) next.rows nothing in
    record {
      there = omega (arith, at, l);
      tells = subst (λ (r : Rows). TellsAtom e (shape g) r) (sym read) (filled_tells base store.pool store.facts.items g sources exact all are once based relations next.rows filled);
    }

-- the relation of a shape is that of its atom
pub extension_of_shape : (e : Extended) (g : Atom) (number : ℕ) → IsExtensionAt e (shape g) number → IsExtensionAt e g number
extension_of_shape e g number h = record { there = h.there; tells = tells_shape e g (get_or (contents e.relations) number nothing) h.tells }

-- a constant of the vocabulary stands for the value that it is
pub constant_is : (base : Base) (c : ℕ) (v : Value) → slice_get base.spec.now.vocab.constants c ≡ Some v → constant_over (asked_over base) c ≡ term.Value v
constant_is base c v h = ap (λ (x : Value). term.Value x) (get_or_from_slice_get base.spec.now.vocab.constants c v (value.Text []) h)

-- the constants of a shape are those of its atom
first_known : (P : ℕ → Type 0) (x : Arg) → KnownArg P x → KnownArg P (first_shape x)
first_known P Blank k = k
first_known P (Var x) k = k
first_known P (Constant c) k = k

if_known : (P : ℕ → Type 0) (b : Bool) → KnownArg P (if b then Var 0 else Var 1)
if_known P true = tt
if_known P false = tt

second_known : (P : ℕ → Type 0) (x y : Arg) → KnownArg P y → KnownArg P (second_shape x y)
second_known P Blank y k = first_known P y k
second_known P (Constant c) y k = first_known P y k
second_known P (Var x) Blank k = k
second_known P (Var x) (Constant c) k = k
second_known P (Var x) (Var y) k = if_known P (nat_eq x y)

-- the shape of an atom whose numbers are known has known numbers
pub shape_known : (P : ℕ → Type 0) (g : Atom) → KnownAtom P g → KnownAtom P (shape g)
shape_known P (Class a x) k = first_known P x k
shape_known P (Role a x y) k = (first_known P x k.0, second_known P x y k.1)
shape_known P (Attr a x y) k = (first_known P x k.0, second_known P x y k.1)

-- the arguments of a known atom are known
pub first_argument_known : (P : ℕ → Type 0) (g : Atom) → KnownAtom P g → KnownArg P (arguments g).0
first_argument_known P (Class a x) k = k
first_argument_known P (Role a x y) k = k.0
first_argument_known P (Attr a x y) k = k.0

pub second_argument_known : (P : ℕ → Type 0) (g : Atom) → KnownAtom P g → KnownArg P (arguments g).1
second_argument_known P (Class a x) k = tt
second_argument_known P (Role a x y) k = k.1
second_argument_known P (Attr a x y) k = k.1

-- the sources of a known atom are known
pub sources_known : (base : Base) (g : Atom) (sources : List Source) → KnownAtom (IsBelow (length base.spec.now.vocab.constants)) g → AreSourcesOf base g sources → AllByRecursion (IsKnownSource base) sources
sources_known base g sources known are = in_each (IsKnownSource base) sources (λ s i.
    let is = (are s).0 (in_contains s sources i) in
    record {
      map = place_within base.spec.now.maps s.map is.map is.stands;
      member = down_known (IsBelow (length base.spec.now.vocab.constants)) base.spec.now.normal g s.member known is.below;
    })

-- an atom has at most two variables
if_few : (b : Bool) (xs ys : List ℕ) → length xs ≤ 2 → length ys ≤ 2 → length (if b then xs else ys) ≤ 2
if_few true xs ys p q = p
if_few false xs ys p q = q

args_few : (x y : Arg) → length (variables_of x y) ≤ 2
args_few (Var x) (Var y) = if_few (nat_eq x y) (x ∷ []) (x ∷ y ∷ []) (omega arith) (omega arith)
args_few (Var x) Blank = omega arith
args_few (Var x) (Constant c) = omega arith
args_few Blank (Var y) = omega arith
args_few Blank Blank = omega arith
args_few Blank (Constant d) = omega arith
args_few (Constant c) (Var y) = omega arith
args_few (Constant c) Blank = omega arith
args_few (Constant c) (Constant d) = omega arith

pub variables_few : (g : Atom) → length (variables g) ≤ 2
variables_few (Class a x) = args_few x Blank
variables_few (Role a x y) = args_few x y
variables_few (Attr a x y) = args_few x y

-- what is gathered of an atom's sources asks for each of its columns, and its facts are there
module _ (base : Base) (pool : Pool) (facts : List (List MadeFact)) (g : Atom) where
  full_each : (sources : List Source) (all : List Gathered) → AllByRecursion (IsSource (asked_over base).sources (shape g)) sources → AllZip (IsGathered base pool facts) sources all → AllByRecursion (IsFull (length (variables (shape g)))) all
  full_each [] [] s z = tt
  full_each [] (x ∷ all) s z = absurd z
  full_each (y ∷ sources) [] s z = absurd z
  full_each (y ∷ sources) (x ∷ all) s z = (gathered_full base pool facts g y x s.0 z.0, full_each sources all s.1 z.1)

  pub all_full : (sources : List Source) (all : List Gathered) → AreSourcesOf base (shape g) sources → AllZip (IsGathered base pool facts) sources all → AllByRecursion (IsFull (length (variables (shape g)))) all
  all_full sources all are z = full_each sources all (in_each (IsSource (asked_over base).sources (shape g)) sources (λ s i. (are s).0 (in_contains s sources i))) z

  pub all_there : (sources : List Source) (all : List Gathered) → AllZip (IsGathered base pool facts) sources all → AllByRecursion (λ (gathered : Gathered). gathered.place < length facts) all
  all_there [] [] z = tt
  all_there [] (x ∷ all) z = absurd z
  all_there (y ∷ sources) [] z = absurd z
  all_there (y ∷ sources) (x ∷ all) z = (z.0.there, all_there sources all z.1)
