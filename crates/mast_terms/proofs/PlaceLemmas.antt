-- The first place at which a test passes.
use Rattle.std.proofs.Common.{◌≡◌, ℕ, zero, suc, ◌+◌, ◌<◌, Bool, true, false, true≢false, cond, ◌||◌, ◌⊎◌, inl, inr, List, [], ◌∷◌, ◌++◌, map, length, slice_get, get_or, drop, Option, Some, None, refl, ap, sym, ◌∙◌, subst, arith}
use Rattle.std.specs.Prelude.{not, nat_lt, IfSome, if◌then◌else◌}
use Rattle.std.proofs.lemmas.List.Folds.{list_any-append}
use Rattle.std.specs.Str.{bytes_eq}
use Rattle.mast_terms.specs.Vocabularies.{EachOnce, IsNumbered, IsVocabulary, AreApart, stands, joined}
use Rattle.mast_terms.specs.declared.value.Value.{Value}
use Rattle.std.specs.Cmp.Lexicographic.{nat_list_eq_equiv, bytes_decides}
use Rattle.indexmap.specs.IndexSet.{insert_key}
use Rattle.std.specs.Cmp.{IsEquivalence}
use Rattle.std.specs.List.{IsDistinct, AllByRecursion, list_any, position, position_or_len, AllZip}
use Rattle.std.proofs.lemmas.Bool.Decides.{nat_tests}
use Rattle.std.proofs.lemmas.List.{length-map, length-append, map-append, drop_more}
use Rattle.std.proofs.lemmas.List.Quantifiers.{position-Some}
use Rattle.std.proofs.lemmas.Option.{slice_get-get_or}

module _ {X Y : Type 0} (f : X → Y) (p : Y → Bool) where
  -- a test of the images
  pub list_any-map : (xs : List X) → list_any p (map f xs) ≡ list_any (λ x. p (f x)) xs
  list_any-map [] = refl
  list_any-map (x ∷ xs) = ap (λ b. p (f x) || b) (list_any-map xs)

  place-map : (xs : List X) → position_or_len p (map f xs) ≡ position_or_len (λ x. p (f x)) xs
  place-map [] = refl
  place-map (x ∷ xs) = ap (λ n. cond (not (p (f x))) (1 + n) 0) (place-map xs)

  pub position-map : (xs : List X) → position p (map f xs) ≡ position (λ x. p (f x)) xs
  position-map xs = λ i. cond (nat_lt (place-map xs i) (length-map xs f i)) (Some (place-map xs i)) None

module _ {X : Type 0} (p : X → Bool) where
  place_of_new : (xs : List X) (x : X) → list_any p xs ≡ false → p x ≡ true → position_or_len p (xs ++ x ∷ []) ≡ length xs
  place_of_new [] x h e = rw e refl
  place_of_new (y ∷ ys) x h e = by (p y) refl (place_of_new ys x)
    where
      by : (b : Bool) → p y ≡ b → (list_any p ys ≡ false → p x ≡ true → position_or_len p (ys ++ x ∷ []) ≡ length ys) → position_or_len p ((y ∷ ys) ++ x ∷ []) ≡ length (y ∷ ys)
      by true q rest = absurd (true≢false (rw q at h))
      by false q rest = let r : list_any p ys ≡ false = rw q at h in let m = rest r e in rw (q, m) (omega arith)

  -- what passes and is put last has the next place
  pub position-push : (xs : List X) (x : X) → list_any p xs ≡ false → p x ≡ true → position p (xs ++ x ∷ []) ≡ Some (length xs)
  position-push xs x h e = let n = place_of_new xs x h e in let l = length-append xs (x ∷ []) in rw n (grind (arith, nat_tests, l))

  -- where one thing alone passes, it stands at its place
  pub slice_get-position : (xs : List X) (i : ℕ) (x : X) → ((y : X) → p y ≡ true → y ≡ x) → position p xs ≡ Some i → slice_get xs i ≡ Some x
  slice_get-position xs i x only h =
      let at = position-Some p xs i x h in
      slice_get-get_or xs i x at.0 ∙ ap (λ y. Some y) (only _ at.1)

  -- the same of a place that may be none
  pub slice_get-found : (xs : List X) (found : Option ℕ) (x : X) → ((y : X) → p y ≡ true → y ≡ x) → found ≡ position p xs → IfSome found (λ i. slice_get xs i ≡ Some x)
  slice_get-found xs None x only h = tt
  slice_get-found xs (Some i) x only h = slice_get-position xs i x only (sym h)

-- what is put last stands there
pub slice_get-push : {X : Type 0} (xs : List X) (x : X) → slice_get (xs ++ x ∷ []) (length xs) ≡ Some x
slice_get-push [] x = refl
slice_get-push (y ∷ ys) x = let e : length (y ∷ ys) ≡ suc (length ys) = omega arith in subst (λ (n : ℕ). slice_get (y ∷ (ys ++ x ∷ [])) n ≡ Some x) (sym e) (slice_get-push ys x)

-- elements that are seen alike give lists that are seen alike
pub map-AllZip : {X Y : Type 0} (f : X → Y) (xs ys : List X) → AllZip (λ x y. f y ≡ f x) xs ys → map f ys ≡ map f xs
map-AllZip f [] [] h = refl
map-AllZip f [] (y ∷ ys) h = absurd h
map-AllZip f (x ∷ xs) [] h = absurd h
map-AllZip f (x ∷ xs) (y ∷ ys) h = λ i. h.0 i ∷ map-AllZip f xs ys h.1 i

-- a new key goes last
pub insert_key-new : {K : Type 0} (eq : K → K → Bool) (ks : List K) (k : K) → list_any (eq k) ks ≡ false → insert_key eq ks k ≡ ks ++ k ∷ []
insert_key-new eq ks k h = rw h refl

-- so its text is the last of the texts
module _ {K : Type 0} (f : K → List ℕ) (ks : List K) (k : K) (text : List ℕ) (is : f k ≡ text) (new : list_any (bytes_eq text) (map f ks) ≡ false) where
  absent : list_any (λ x. bytes_eq (f k) (f x)) ks ≡ false
  absent = sym (list_any-map f (bytes_eq (f k)) ks) ∙ ap (λ t. list_any (bytes_eq t) (map f ks)) is ∙ new

  pub map-insert_key : (after : List K) → after ≡ insert_key (λ a b. bytes_eq (f a) (f b)) ks k → map f after ≡ map f ks ++ text ∷ []
  map-insert_key after h =
      ap (map f) (h ∙ insert_key-new (λ a b. bytes_eq (f a) (f b)) ks k absent) ∙ map-append f ks (k ∷ []) ∙ ap (λ t. map f ks ++ t ∷ []) is

  pub length-insert_key : (after : List K) → after ≡ insert_key (λ a b. bytes_eq (f a) (f b)) ks k → length after ≡ length ks + 1
  length-insert_key after h = ap length (h ∙ insert_key-new (λ a b. bytes_eq (f a) (f b)) ks k absent) ∙ length-append ks (k ∷ [])

  pub place-insert_key : (after : List K) → after ≡ insert_key (λ a b. bytes_eq (f a) (f b)) ks k → position (bytes_eq text) (map f after) ≡ Some (length ks)
  place-insert_key after h =
      ap (position (bytes_eq text)) (map-insert_key after h) ∙ position-push (bytes_eq text) (map f ks) text new (nat_list_eq_equiv.refl text) ∙ ap (λ n. Some n) (length-map ks f)

  pub shown-insert_key : (after : List K) → after ≡ insert_key (λ a b. bytes_eq (f a) (f b)) ks k → slice_get (map f after) (length ks) ≡ Some text
  shown-insert_key after h =
      ap (λ l. slice_get l (length ks)) (map-insert_key after h) ∙ ap (λ n. slice_get (map f ks ++ text ∷ []) n) (sym (length-map ks f)) ∙ slice_get-push (map f ks) text

-- the same of keys that are their own text
module _ {K : Type 0} (eq : K → K → Bool) (ks : List K) (k key : K) (is : k ≡ key) (new : list_any (eq key) ks ≡ false) (same : eq key key ≡ true) (after : List K) (h : after ≡ insert_key eq ks k) where
  last : after ≡ ks ++ key ∷ []
  last = h ∙ ap (insert_key eq ks) is ∙ insert_key-new eq ks key new

  pub place-insert_value : position (eq key) after ≡ Some (length ks)
  place-insert_value = ap (position (eq key)) last ∙ position-push (eq key) ks key new same

  pub shown-insert_value : slice_get after (length ks) ≡ Some key
  shown-insert_value = ap (λ l. slice_get l (length ks)) last ∙ slice_get-push ks key

apart_later : {K : Type 0} (eq : K → K → Bool) (k : K) (ks xs : List K) (x : K) → AllByRecursion (λ y. eq k y ≡ false) (ks ++ x ∷ xs) → eq k x ≡ false
apart_later eq k [] xs x h = h.0
apart_later eq k (y ∷ ys) xs x h = apart_later eq k ys xs x h.1

-- in a list of different keys none stands before itself
pub absent_before : {K : Type 0} {eq : K → K → Bool} → IsEquivalence eq → (all ks xs : List K) (x : K) → IsDistinct eq all → ks ++ x ∷ xs ≡ all → list_any (eq x) ks ≡ false
unfolding IsDistinct
absent_before {K} {eq} laws all ks xs x d e = by ks (subst (IsDistinct eq) (sym e) d)
  where
    by : (ys : List K) → IsDistinct eq (ys ++ x ∷ xs) → list_any (eq x) ys ≡ false
    by [] d = refl
    by (y ∷ ys) d =
        let here : eq x y ≡ false = laws.symm x y ∙ apart_later eq y ys xs x d.0 in
        ap (λ b. b || list_any (eq x) ys) here ∙ by ys d.1

-- what is left begins with the next element
pub drop-next : {X : Type 0} (items all : List X) (i : ℕ) (x : X) → items ≡ all → i < length items → x ≡ get_or items i x → drop i all ≡ x ∷ drop (i + 1) all
drop-next items all i x same inside is =
    subst (λ l. drop i l ≡ x ∷ drop (i + 1) l) same (drop_more items i x inside ∙ ap (λ y. y ∷ drop (i + 1) items) (sym is))

-- lists with alike elements are as long
pub length-AllZip : {X : Type 0} (C : X → X → Type 0) (xs ys : List X) → AllZip C xs ys → length ys ≡ length xs
length-AllZip C [] [] h = refl
length-AllZip C [] (y ∷ ys) h = absurd h
length-AllZip C (x ∷ xs) [] h = absurd h
length-AllZip C (x ∷ xs) (y ∷ ys) h = let e = length-AllZip C xs ys h.1 in omega arith

-- a key that differs from each in a list is not there
not_there : {K Y : Type 0} (eq : K → K → Bool) (f : K → Y) → ((a b : K) → f a ≡ f b → eq a b ≡ true) → (k : K) (ks : List K) (j : ℕ) → AllByRecursion (λ y. eq k y ≡ false) ks → slice_get (map f ks) j ≡ Some (f k) → ⊥
not_there eq f same k [] j all h = cc
not_there eq f same k (y ∷ ys) zero all h = let e : f y ≡ f k = cc in true≢false (sym (same k y (sym e)) ∙ all.0)
not_there eq f same k (y ∷ ys) (suc j) all h = not_there eq f same k ys j all.1 h

-- different keys have different places, and so have what is seen of them
pub once-map : {K Y : Type 0} (eq : K → K → Bool) (f : K → Y) → ((a b : K) → f a ≡ f b → eq a b ≡ true) → (ks : List K) → IsDistinct eq ks → EachOnce (map f ks)
unfolding IsDistinct
once-map eq f same [] d i j x h g = absurd (cc)
once-map eq f same (k ∷ ks) d zero zero x h g = refl
once-map {K} {Y} eq f same (k ∷ ks) d zero (suc j) x h g = let e : Some (f k) ≡ Some x = h in absurd (not_there eq f same k ks j d.0 (g ∙ sym e))
once-map {K} {Y} eq f same (k ∷ ks) d (suc i) zero x h g = let e : Some (f k) ≡ Some x = g in absurd (not_there eq f same k ks i d.0 (h ∙ sym e))
once-map eq f same (k ∷ ks) d (suc i) (suc j) x h g = ap suc (once-map eq f same ks d.1 i j x h g)

-- the same of keys that are seen as they are
pub once : {K : Type 0} (eq : K → K → Bool) → ((a b : K) → a ≡ b → eq a b ≡ true) → (ks : List K) → IsDistinct eq ks → EachOnce ks
once {K} eq same ks d = subst EachOnce (map-id ks) (once-map eq (λ k. k) same ks d)
  where
    map-id : (xs : List K) → map (λ k. k) xs ≡ xs
    map-id [] = refl
    map-id (x ∷ xs) = ap (λ l. x ∷ l) (map-id xs)

or-false : (b : Bool) → (b || false) ≡ b
or-false true = refl
or-false false = refl

-- what stands after an IRI joined: what stood, and that one
stands-joined : (x iri : List ℕ) (known : List (List ℕ)) → (stands x (joined iri known) ≡ (stands x known || bytes_eq x iri)) ⊎ (stands x (joined iri known) ≡ stands x known)
stands-joined x iri known = by (stands iri known) refl
  where
    by : (b : Bool) → stands iri known ≡ b → (stands x (joined iri known) ≡ (stands x known || bytes_eq x iri)) ⊎ (stands x (joined iri known) ≡ stands x known)
    by true e = inr (ap (λ c. stands x (if c then known else known ++ iri ∷ [])) e)
    by false e = inl (ap (λ c. stands x (if c then known else known ++ iri ∷ [])) e ∙ list_any-append (bytes_eq x) known (iri ∷ []) ∙ ap (λ c. stands x known || c) (or-false (bytes_eq x iri)))

-- an IRI that is no attribute becomes a role
pub apart-role : (iri : List ℕ) (roles after attributes : List (List ℕ)) → AreApart roles attributes → stands iri attributes ≡ false → after ≡ joined iri roles → AreApart after attributes
apart-role iri roles after attributes apart new is x h = elim (stands-joined x iri roles) [
  | inl e ↦ by (stands x roles) (bytes_eq x iri) refl refl (sym e ∙ ap (λ l. stands x l) (sym is) ∙ h)
  | inr e ↦ apart x (sym e ∙ ap (λ l. stands x l) (sym is) ∙ h)
] where
  by : (a b : Bool) → stands x roles ≡ a → bytes_eq x iri ≡ b → (stands x roles || bytes_eq x iri) ≡ true → stands x attributes ≡ false
  by true b e g or = apart x e
  by false true e g or = subst (λ t. stands t attributes ≡ false) (sym ((bytes_decides x iri).0 g)) new
  by false false e g or = absurd (true≢false (sym or ∙ rw (e, g) refl))

-- an IRI that is no role becomes an attribute
pub apart-attribute : (iri : List ℕ) (roles attributes after : List (List ℕ)) → AreApart roles attributes → stands iri roles ≡ false → after ≡ joined iri attributes → AreApart roles after
apart-attribute iri roles attributes after apart new is x h = elim (stands-joined x iri attributes) [
  | inl e ↦ ap (λ l. stands x l) is ∙ e ∙ by (bytes_eq x iri) refl
  | inr e ↦ ap (λ l. stands x l) is ∙ e ∙ apart x h
] where
  by : (b : Bool) → bytes_eq x iri ≡ b → (stands x attributes || bytes_eq x iri) ≡ false
  by true g = absurd (true≢false (sym h ∙ ap (λ t. stands t roles) ((bytes_decides x iri).0 g) ∙ new))
  by false g = rw (apart x h, g) refl

-- ---- what an addition keeps of a vocabulary

pub nothing_numbered : {A : Type 0} → IsNumbered {A = A} []
nothing_numbered = record { once = λ i j x h g. absurd (none i x h); few = omega arith }
  where
    none : {A : Type 0} (i : ℕ) (x : A) → slice_get [] i ≡ Some x → ⊥
    none i x h = cc

pub empty_vocabulary : IsVocabulary (record { classes = []; roles = []; attributes = []; constants = [] })
empty_vocabulary = record { classes = nothing_numbered; roles = nothing_numbered; attributes = nothing_numbered; constants = nothing_numbered; apart = λ iri h. refl }

module _ (classes roles attributes : List (List ℕ)) (constants : List Value) (h : IsVocabulary (record { classes = classes; roles = roles; attributes = attributes; constants = constants })) where
  pub with_class : (after : List (List ℕ)) → IsNumbered after → IsVocabulary (record { classes = after; roles = roles; attributes = attributes; constants = constants })
  with_class after n = record { classes = n; roles = h.roles; attributes = h.attributes; constants = h.constants; apart = h.apart }

  pub with_role : (iri : List ℕ) (after : List (List ℕ)) → IsNumbered after → stands iri attributes ≡ false → after ≡ joined iri roles → IsVocabulary (record { classes = classes; roles = after; attributes = attributes; constants = constants })
  with_role iri after n new is = record { classes = h.classes; roles = n; attributes = h.attributes; constants = h.constants; apart = apart-role iri roles after attributes h.apart new is }

  pub with_attribute : (iri : List ℕ) (after : List (List ℕ)) → IsNumbered after → stands iri roles ≡ false → after ≡ joined iri attributes → IsVocabulary (record { classes = classes; roles = roles; attributes = after; constants = constants })
  with_attribute iri after n new is = record { classes = h.classes; roles = h.roles; attributes = n; constants = h.constants; apart = apart-attribute iri roles attributes after h.apart new is }

  pub with_constants : (after : List Value) → IsNumbered after → IsVocabulary (record { classes = classes; roles = roles; attributes = attributes; constants = after })
  with_constants after n = record { classes = h.classes; roles = h.roles; attributes = h.attributes; constants = n; apart = h.apart }
