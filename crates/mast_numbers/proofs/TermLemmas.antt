-- Keys and the terms that they stand for.
use Rattle.std.proofs.Common.{◌≡◌, ℕ, zero, suc, ◌<◌, ◌≤◌, inl, inr, List, [], ◌∷◌, ◌++◌, map, length, slice_get, get_or, Some, refl, ap, sym, ◌∙◌, subst, arith}
use Rattle.std.specs.List.{AllByRecursion}
use Rattle.std.proofs.lemmas.List.{map-append}
use Rattle.mast_terms.specs.Vocabularies.{EachOnce}
use Rattle.mast_terms.specs.declared.term.Object.{Object}
use Rattle.mast_terms.specs.declared.term.Term.{Term}
use Rattle.mast_terms.specs.declared.term.Term.TheVariants as term
use Rattle.mast_terms.specs.declared.value.Value.{Value}
use Rattle.mast_terms.specs.declared.value.Value.TheVariants as value
use Rattle.mast_numbers.specs.declared.key.Key.{Key}
use Rattle.mast_numbers.specs.declared.key.Key.TheVariants as key
use Rattle.mast_numbers.specs.Numbered.{Numbered, HasOneEach, IsJoined, value_of, value_at, IsValueAt, object_of}
use Rattle.mast_numbers.proofs.JoinLemmas.{get_more}
use Rattle.mast_numbers.specs.inside.Keys.{key_value, value_in, term_of, terms_of, HasValue, Refers, AreKeys, most_terms}

-- ---- places of longer lists

or_more : {X : Type 0} (xs more : List X) (i : ℕ) (d : X) → i < length xs → get_or (xs ++ more) i d ≡ get_or xs i d
or_more [] more i d h = absurd (omega arith)
or_more (y ∷ ys) more zero d h = refl
or_more (y ∷ ys) more (suc i) d h = or_more ys more i d (omega arith)

or_get : {X : Type 0} (xs : List X) (i : ℕ) (x d : X) → slice_get xs i ≡ Some x → get_or xs i d ≡ x
or_get [] i x d h = absurd (cc)
or_get (y ∷ ys) zero x d h = cc
or_get (y ∷ ys) (suc i) x d h = or_get ys i x d h

get_or-map : {X Y : Type 0} (f : X → Y) (xs : List X) (i : ℕ) (d : X) → get_or (map f xs) i (f d) ≡ f (get_or xs i d)
get_or-map f [] i d = refl
get_or-map f (x ∷ xs) zero d = refl
get_or-map f (x ∷ xs) (suc i) d = get_or-map f xs i d

-- what stands at a place of the images is the image of what stands there
pub get_map : {X Y : Type 0} (f : X → Y) (xs : List X) (i : ℕ) (x : X) → slice_get xs i ≡ Some x → slice_get (map f xs) i ≡ Some (f x)
get_map f [] i x h = absurd (cc)
get_map f (y ∷ ys) zero x h = let e : y ≡ x = cc in ap (λ k. Some (f k)) e
get_map f (y ∷ ys) (suc i) x h = get_map f ys i x h

-- and each image is of something that stands there
pub map_get : {X Y : Type 0} (f : X → Y) (xs : List X) (i : ℕ) (y : Y) → slice_get (map f xs) i ≡ Some y → (x : X) × (slice_get xs i ≡ Some x) × (f x ≡ y)
map_get f [] i y h = absurd (cc)
map_get f (x ∷ xs) zero y h = (x, refl, cc)
map_get f (x ∷ xs) (suc i) y h = map_get f xs i y h

each_at : {X : Type 0} (P : X → Type 0) (xs : List X) (i : ℕ) (x : X) → AllByRecursion P xs → slice_get xs i ≡ Some x → P x
each_at P [] i x h g = absurd (cc)
each_at P (y ∷ ys) zero x h g = let e : y ≡ x = cc in subst P e h.0
each_at P (y ∷ ys) (suc i) x h g = each_at P ys i x h.1 g

each_of : {X : Type 0} (P Q : X → Type 0) → ((x : X) → P x → Q x) → (xs : List X) → AllByRecursion P xs → AllByRecursion Q xs
each_of P Q f [] h = tt
each_of P Q f (x ∷ xs) h = (f x h.0, each_of P Q f xs h.1)

each_push : {X : Type 0} (P : X → Type 0) (xs : List X) (x : X) → AllByRecursion P xs → P x → AllByRecursion P (xs ++ x ∷ [])
each_push P [] x h p = (p, tt)
each_push P (y ∷ ys) x h p = (h.0, each_push P ys x h.1 p)

-- ---- values and terms of longer lists of keys

value_more : (keys more : List Key) (place : ℕ) → HasValue keys place → value_in (keys ++ more) place ≡ value_in keys place
value_more keys more place h =
    ap key_value (or_get (keys ++ more) place (key.Value h.0) (key.Value (value.Text [])) (get_more keys more place (key.Value h.0) h.1) ∙ sym (or_get keys place (key.Value h.0) (key.Value (value.Text [])) h.1))

values_more : (keys more : List Key) (places : List ℕ) → AllByRecursion (HasValue keys) places → map (value_in (keys ++ more)) places ≡ map (value_in keys) places
values_more keys more [] h = refl
values_more keys more (place ∷ places) h = λ i. value_more keys more place h.0 i ∷ values_more keys more places h.1 i

term_more : (symbols : List (List ℕ)) (keys more : List Key) (k : Key) → Refers symbols keys k → term_of symbols (keys ++ more) k ≡ term_of symbols keys k
term_more symbols keys more (key.Value v) h = refl
term_more symbols keys more (key.Object symbol args) h =
    ap (λ (l : List Value). term.Object (record { symbol = get_or symbols symbol []; args = l })) (values_more keys more args h.1)

terms_more : (symbols : List (List ℕ)) (keys more ks : List Key) → AllByRecursion (Refers symbols keys) ks → map (term_of symbols (keys ++ more)) ks ≡ map (term_of symbols keys) ks
terms_more symbols keys more [] h = refl
terms_more symbols keys more (k ∷ ks) h = λ i. term_more symbols keys more k h.0 i ∷ terms_more symbols keys more ks h.1 i

symbol_more : (symbols more : List (List ℕ)) (keys : List Key) (k : Key) → Refers symbols keys k → term_of (symbols ++ more) keys k ≡ term_of symbols keys k
symbol_more symbols more keys (key.Value v) h = refl
symbol_more symbols more keys (key.Object symbol args) h =
    ap (λ (s : List ℕ). term.Object (record { symbol = s; args = map (value_in keys) args })) (or_more symbols more symbol [] h.0)

symbols_more : (symbols more : List (List ℕ)) (keys ks : List Key) → AllByRecursion (Refers symbols keys) ks → map (term_of (symbols ++ more) keys) ks ≡ map (term_of symbols keys) ks
symbols_more symbols more keys [] h = refl
symbols_more symbols more keys (k ∷ ks) h = λ i. symbol_more symbols more keys k h.0 i ∷ symbols_more symbols more keys ks h.1 i

has_more : (keys more : List Key) (place : ℕ) → HasValue keys place → HasValue (keys ++ more) place
has_more keys more place h = (h.0, get_more keys more place (key.Value h.0) h.1)

refers_more : (symbols : List (List ℕ)) (keys more : List Key) (k : Key) → Refers symbols keys k → Refers symbols (keys ++ more) k
refers_more symbols keys more (key.Value v) h = tt
refers_more symbols keys more (key.Object symbol args) h = (h.0, each_of (HasValue keys) (HasValue (keys ++ more)) (has_more keys more) args h.1)

longer : {X : Type 0} (xs more : List X) → length xs ≤ length (xs ++ more)
longer [] more = omega arith
longer (x ∷ xs) more = let h = longer xs more in omega arith

refers_wider : (symbols more : List (List ℕ)) (keys : List Key) (k : Key) → Refers symbols keys k → Refers (symbols ++ more) keys k
refers_wider symbols more keys (key.Value v) h = tt
refers_wider symbols more keys (key.Object symbol args) h = let l = longer symbols more in let b = h.0 in (omega arith, h.1)

-- ---- what the calls need

-- the terms after a key joined the keys
pub joined_terms : (symbols : List (List ℕ)) (keys after : List Key) (k : Key) → AreKeys symbols keys → Refers symbols keys k → IsJoined keys after k → IsJoined (terms_of symbols keys) (terms_of symbols after) (term_of symbols keys k)
joined_terms symbols keys after k are here (inl e) = inl (ap (terms_of symbols) e)
joined_terms symbols keys after k are here (inr e) =
    inr (ap (terms_of symbols) e ∙ map-append (term_of symbols (keys ++ k ∷ [])) keys (k ∷ []) ∙ (λ i. terms_more symbols keys (k ∷ []) keys are.refer i ++ term_more symbols keys (k ∷ []) k here i ∷ []))

-- a key that joined, at its place, gives its term there
pub joined_place : (symbols : List (List ℕ)) (keys after : List Key) (k : Key) (place : ℕ) → Refers symbols keys k → IsJoined keys after k → slice_get after place ≡ Some k → slice_get (terms_of symbols after) place ≡ Some (term_of symbols keys k)
joined_place symbols keys after k place here (inl e) h =
    get_map (term_of symbols after) after place k h ∙ ap (λ (l : List Key). Some (term_of symbols l k)) e
joined_place symbols keys after k place here (inr e) h =
    get_map (term_of symbols after) after place k h ∙ ap (λ (l : List Key). Some (term_of symbols l k)) e ∙ ap (λ t. Some t) (term_more symbols keys (k ∷ []) k here)

-- keys that a key joined are keys
pub joined_keys : (symbols : List (List ℕ)) (keys after : List Key) (k : Key) → AreKeys symbols keys → Refers symbols keys k → IsJoined keys after k → EachOnce after → length after ≤ most_terms → AreKeys symbols after
joined_keys symbols keys after k are here (inl e) once few = subst (AreKeys symbols) (sym e) are
joined_keys symbols keys after k are here (inr e) once few = record {
  symbols_once = are.symbols_once;
  keys_once = once;
  refer = subst (λ (l : List Key). AllByRecursion (Refers symbols l) l) (sym e) (each_push (Refers symbols (keys ++ k ∷ [])) keys k (each_of (Refers symbols keys) (Refers symbols (keys ++ k ∷ [])) (refers_more symbols keys (k ∷ [])) keys are.refer) (refers_more symbols keys (k ∷ []) k here));
  few_symbols = are.few_symbols;
  few_keys = few;
}

-- the keys stay keys, and the terms the terms, where a symbol joined the symbols
pub joined_symbols : (symbols after : List (List ℕ)) (keys : List Key) (s : List ℕ) → AreKeys symbols keys → IsJoined symbols after s → EachOnce after → length after ≤ most_terms → AreKeys after keys
joined_symbols symbols after keys s are (inl e) once few = subst (λ l. AreKeys l keys) (sym e) are
joined_symbols symbols after keys s are (inr e) once few = record {
  symbols_once = once;
  keys_once = are.keys_once;
  refer = subst (λ (l : List (List ℕ)). AllByRecursion (Refers l keys) keys) (sym e) (each_of (Refers symbols keys) (Refers (symbols ++ s ∷ []) keys) (refers_wider symbols (s ∷ []) keys) keys are.refer);
  few_symbols = few;
  few_keys = are.few_keys;
}

-- the terms of the keys stay where lists of symbols are joined
pub same_terms : (symbols after : List (List ℕ)) (keys : List Key) (s : List ℕ) → AreKeys symbols keys → IsJoined symbols after s → terms_of after keys ≡ terms_of symbols keys
same_terms symbols after keys s are (inl e) = ap (λ l. terms_of l keys) e
same_terms symbols after keys s are (inr e) = ap (λ l. terms_of l keys) e ∙ symbols_more symbols (s ∷ []) keys keys are.refer

-- ---- one number for each term

value_read : (keys : List Key) (place : ℕ) (v : Value) → HasValue keys place → value_in keys place ≡ v → slice_get keys place ≡ Some (key.Value v)
value_read keys place v h e =
    h.1 ∙ ap (λ (w : Value). Some (key.Value w)) (sym (ap key_value (or_get keys place (key.Value h.0) (key.Value (value.Text [])) h.1)) ∙ e)

places_same : (keys : List Key) → EachOnce keys → (places others : List ℕ) → AllByRecursion (HasValue keys) places → AllByRecursion (HasValue keys) others → map (value_in keys) places ≡ map (value_in keys) others → places ≡ others
places_same keys once [] [] h g e = refl
places_same keys once [] (q ∷ qs) h g e = absurd (cc)
places_same keys once (p ∷ ps) [] h g e = absurd (cc)
places_same keys once (p ∷ ps) (q ∷ qs) h g e =
    let first : value_in keys p ≡ value_in keys q = cc in
    let rest : map (value_in keys) ps ≡ map (value_in keys) qs = cc in
    let here : p ≡ q = once p q (key.Value (value_in keys q)) (value_read keys p (value_in keys q) h.0 first) (value_read keys q (value_in keys q) g.0 refl) in
    λ i. here i ∷ places_same keys once ps qs h.1 g.1 rest i

get_of_or : {X : Type 0} (xs : List X) (i : ℕ) (d : X) → i < length xs → slice_get xs i ≡ Some (get_or xs i d)
get_of_or [] i d h = absurd (omega arith)
get_of_or (x ∷ xs) zero d h = refl
get_of_or (x ∷ xs) (suc i) d h = get_of_or xs i d (omega arith)

module _ (symbols : List (List ℕ)) (keys : List Key) (are : AreKeys symbols keys) where
  symbol_same : (s t : ℕ) → s < length symbols → t < length symbols → get_or symbols s [] ≡ get_or symbols t [] → s ≡ t
  symbol_same s t hs ht e = are.symbols_once s t (get_or symbols t []) (get_of_or symbols s [] hs ∙ ap (λ x. Some x) e) (get_of_or symbols t [] ht)

  object_key : (s t : ℕ) (args others : List ℕ) → s ≡ t → args ≡ others → key.Object s args ≡ key.Object t others
  object_key s t args others e f = λ i. key.Object (e i) (f i)

  key_same : (a b : Key) → Refers symbols keys a → Refers symbols keys b → term_of symbols keys a ≡ term_of symbols keys b → a ≡ b
  key_same (key.Value v) (key.Value w) h g e = let s : v ≡ w = cc in ap (λ (u : Value). key.Value u) s
  key_same (key.Value v) (key.Object s args) h g e = absurd (cc)
  key_same (key.Object s args) (key.Value v) h g e = absurd (cc)
  key_same (key.Object s args) (key.Object t others) h g e =
      let o = ap object_in e in
      object_key s t args others (symbol_same s t h.0 g.0 (ap (λ (p : Object). p.symbol) o)) (places_same keys are.keys_once args others h.1 g.1 (ap (λ (p : Object). p.args) o))
    where
      object_in : Term → Object
      object_in (term.Value v) = record { symbol = []; args = [] }
      object_in (term.Object o) = o

  -- no term has two numbers
  pub one_number : EachOnce (terms_of symbols keys)
  one_number i j t h g =
      let a = map_get (term_of symbols keys) keys i t h in
      let b = map_get (term_of symbols keys) keys j t g in
      let same : a.0 ≡ b.0 = key_same a.0 b.0 (each_at (Refers symbols keys) keys i a.0 are.refer a.1) (each_at (Refers symbols keys) keys j b.0 are.refer b.1) (a.2 ∙ sym b.2) in
      are.keys_once i j b.0 (a.1 ∙ ap (λ k. Some k) same) b.1

  -- each term and each symbol has one number
  pub one_each : HasOneEach (record { symbols = symbols; terms = terms_of symbols keys })
  one_each = record { symbols = are.symbols_once; terms = one_number }

  -- the key of a number refers to what is there
  pub key_refers : (i : ℕ) (k : Key) → slice_get keys i ≡ Some k → Refers symbols keys k
  key_refers i k h = each_at (Refers symbols keys) keys i k are.refer h

-- ---- arguments by their numbers

value_is : (symbols : List (List ℕ)) (keys : List Key) (k : Key) → value_of (term_of symbols keys k) ≡ key_value k
value_is symbols keys (key.Value v) = refl
value_is symbols keys (key.Object s args) = refl

value_alike : (symbols : List (List ℕ)) (keys : List Key) (n : ℕ) → value_at (terms_of symbols keys) n ≡ value_in keys n
value_alike symbols keys n =
    ap value_of (get_or-map (term_of symbols keys) keys n (key.Value (value.Text []))) ∙ value_is symbols keys (get_or keys n (key.Value (value.Text [])))

values_alike : (symbols : List (List ℕ)) (keys : List Key) (args : List ℕ) → map (value_in keys) args ≡ map (value_at (terms_of symbols keys)) args
values_alike symbols keys [] = refl
values_alike symbols keys (n ∷ ns) = λ i. sym (value_alike symbols keys n) i ∷ values_alike symbols keys ns i

-- the term of an object's key is the object of its numbers
pub object_term : (symbols : List (List ℕ)) (keys : List Key) (symbol : ℕ) (args : List ℕ) → term_of symbols keys (key.Object symbol args) ≡ term.Object (object_of (record { symbols = symbols; terms = terms_of symbols keys }) symbol args)
object_term symbols keys symbol args =
    ap (λ (l : List Value). term.Object (record { symbol = get_or symbols symbol []; args = l })) (values_alike symbols keys args)

value_key : (symbols : List (List ℕ)) (keys : List Key) (k : Key) (v : Value) → term_of symbols keys k ≡ term.Value v → k ≡ key.Value v
value_key symbols keys (key.Value w) v h = let e : w ≡ v = cc in ap (λ (u : Value). key.Value u) e
value_key symbols keys (key.Object s args) v h = absurd (cc)

-- the number of a value is the place of its key
pub value_place : (symbols : List (List ℕ)) (keys : List Key) (n : ℕ) → IsValueAt (terms_of symbols keys) n → HasValue keys n
value_place symbols keys n h =
    let a = map_get (term_of symbols keys) keys n (term.Value h.0) h.1 in
    (h.0, a.1 ∙ ap (λ k. Some k) (value_key symbols keys a.0 h.0 a.2))

-- the same of all arguments
pub value_places : (symbols : List (List ℕ)) (keys : List Key) (args : List ℕ) → AllByRecursion (IsValueAt (terms_of symbols keys)) args → AllByRecursion (HasValue keys) args
value_places symbols keys args h = each_of (IsValueAt (terms_of symbols keys)) (HasValue keys) (value_place symbols keys) args h

-- as many terms as keys
pub as_many : (symbols : List (List ℕ)) (keys ks : List Key) → length (map (term_of symbols keys) ks) ≡ length ks
as_many symbols keys [] = refl
as_many symbols keys (k ∷ ks) = let e = as_many symbols keys ks in omega arith

-- ---- what is seen of keys

module _ (symbols : List (List ℕ)) (keys : List Key) (now : Numbered) (view : record { symbols = symbols; terms = terms_of symbols keys } ≡ now) (are : AreKeys symbols keys) where
  pub view_one : HasOneEach now
  view_one = subst HasOneEach view (one_each symbols keys are)

  pub view_many : length now.terms ≡ length keys
  view_many = sym (ap (λ (n : Numbered). length n.terms) view) ∙ as_many symbols keys keys

  -- a key that stands for a term joined the keys
  module _ (k : Key) (here : Refers symbols keys k) (t : Term) (is : term_of symbols keys k ≡ t) (after : List Key) (j : IsJoined keys after k) where
    pub view_joined : IsJoined now.terms (terms_of symbols after) t
    view_joined =
        subst (λ (n : Numbered). IsJoined n.terms (terms_of symbols after) t) view (subst (λ (u : Term). IsJoined (terms_of symbols keys) (terms_of symbols after) u) is (joined_terms symbols keys after k are here j))

    pub view_place : (place : ℕ) → slice_get after place ≡ Some k → slice_get (terms_of symbols after) place ≡ Some t
    view_place place h = joined_place symbols keys after k place here j h ∙ ap (λ (u : Term). Some u) is

  pub view_value : (held v : Value) → held ≡ v → term_of symbols keys (key.Value held) ≡ term.Value v
  view_value held v e = ap (λ (u : Value). term.Value u) e

  pub view_object : (symbol : ℕ) (args given : List ℕ) → args ≡ given → term_of symbols keys (key.Object symbol args) ≡ term.Object (object_of now symbol given)
  view_object symbol args given e = object_term symbols keys symbol args ∙ (λ i. term.Object (object_of (view i) symbol (e i)))

  -- the key of an object of known numbers refers to what is there
  pub view_refers : (symbol : ℕ) (args given : List ℕ) → args ≡ given → symbol < length now.symbols → AllByRecursion (IsValueAt now.terms) given → Refers symbols keys (key.Object symbol args)
  view_refers symbol args given e s h = (
    subst (λ (n : Numbered). symbol < length n.symbols) (sym view) s,
    value_places symbols keys args (subst (λ (n : Numbered). AllByRecursion (IsValueAt n.terms) args) (sym view) (subst (λ (l : List ℕ). AllByRecursion (IsValueAt now.terms) l) (sym e) h)),
  )
