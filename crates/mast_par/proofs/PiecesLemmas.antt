-- Answers of pieces, one after another, and what they are.
use Rattle.std.proofs.Common.{◌≡◌, ℕ, ◌+◌, ◌<◌, List, ◌++◌, [], ◌∷◌, length, map, get_or, take, refl, subst, sym}
use Rattle.std.specs.Prelude.{Result, Ok}
use Rattle.std.specs.List.{AllZip}
use Rattle.std.specs.Fn.{FnReturnsAt}
use Rattle.std.proofs.lemmas.List.{take_more}
use Rattle.std.proofs.lemmas.Slice.Zip.{AllZip-map, AllZip-long, all_zipped_more}
use denote.Param.Members.{Shared}
use denote.Ref.{Bor}
use Rattle.mast_terms.specs.declared.memory.NoMemory.{NoMemory}
use Rattle.mast_par.specs.Pieces.{GivesAll}

-- two pairs of lists, one behind the other
zipped : {A B : Type 0} (R : A → B → Type 0) (xs ys : List A) (us vs : List B) → AllZip R xs us → AllZip R ys vs → AllZip R (xs ++ ys) (us ++ vs)
zipped R [] ys [] vs h k = k
zipped R [] ys (u ∷ us) vs h k = absurd h
zipped R (x ∷ xs) ys [] vs h k = absurd h
zipped R (x ∷ xs) ys (u ∷ us) vs h k = (h.0, zipped R xs ys us vs h.1 k)

module _ {F T U : Type 0} (g : Shared F (Bor T × Unit {0}) (Result U NoMemory)) (f : F) where
  -- the answers of the front, and then those of the back
  pub gives_joined : (all front back : List T) (answers us vs : List U) → all ≡ front ++ back → answers ≡ us ++ vs
      → GivesAll g f front us → GivesAll g f back vs → GivesAll g f all answers
  gives_joined all front back answers us vs cut joined h k =
      subst (λ (ts : List T). GivesAll g f ts answers) (sym cut) (subst (λ (bs : List U). GivesAll g f (front ++ back) bs) (sym joined) (zipped (λ x y. FnReturnsAt g f x (Ok y)) front back us vs h k))

  -- one call more
  pub gives_more : (pieces : List T) (i : ℕ) (p : Bor T) (r : Result U NoMemory) (answer : U) (answers more : List U)
      → i < length pieces → p.now ≡ get_or pieces i p.now → g.post f (p, tt) r → r ≡ Ok answer → more ≡ answers ++ answer ∷ []
      → GivesAll g f (take i pieces) answers → GivesAll g f (take (i + 1) pieces) more
  gives_more pieces i p r answer answers more lt is call ok grown h =
      let gives : FnReturnsAt g f p.now (Ok answer) = record { shown = p; shows = refl; says = record { met = subst (λ s. g.post f (p, tt) s) ok call } } in
      rw (grown, take_more pieces i p.now lt, sym is) (all_zipped_more (λ x y. FnReturnsAt g f x (Ok y)) (take i pieces) answers p.now answer h gives)

-- ---- what answers are, for callers

-- what follows from R place by place
related : {A B : Type 0} (R S : A → B → Type 0) → ((x : A) (y : B) → R x y → S x y) → (xs : List A) (ys : List B) → AllZip R xs ys → AllZip S xs ys
related R S h [] [] z = tt
related R S h [] (y ∷ ys) z = absurd z
related R S h (x ∷ xs) [] z = absurd z
related R S h (x ∷ xs) (y ∷ ys) z = (h x y z.0, related R S h xs ys z.1)

module _ {F T U : Type 0} (g : Shared F (Bor T × Unit {0}) (Result U NoMemory)) (f : F) where
  -- what holds of each piece and each answer that f may give of it holds of the pieces and the answers, place by place
  pub gives_related : (S : T → U → Type 0) → ((x : T) (y : U) → FnReturnsAt g f x (Ok y) → S x y)
      → (pieces : List T) (answers : List U) → GivesAll g f pieces answers → AllZip S pieces answers
  gives_related S says pieces answers h = related (λ x y. FnReturnsAt g f x (Ok y)) S says pieces answers h

  -- where f gives no answer of a piece but that of a function, the answers are its map
  pub gives_map : (h : T → U) → ((x : T) (y : U) → FnReturnsAt g f x (Ok y) → y ≡ h x)
      → (pieces : List T) (answers : List U) → GivesAll g f pieces answers → answers ≡ map h pieces
  gives_map h says pieces answers all = AllZip-map h pieces answers (gives_related (λ x y. y ≡ h x) says pieces answers all)

  -- there are as many answers as pieces
  pub gives_long : (pieces : List T) (answers : List U) → GivesAll g f pieces answers → length answers ≡ length pieces
  gives_long pieces answers h = AllZip-long (λ x y. FnReturnsAt g f x (Ok y)) pieces answers h
