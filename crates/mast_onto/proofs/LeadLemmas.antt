-- Elements that are read one by one.
use Rattle.std.proofs.Common.{◌≡◌, refl, sym, subst, List, [], ◌∷◌, ◌++◌, append_assoc, append-nil}
use Rattle.std.specs.Prelude.{Some, Err}
use Rattle.std.specs.List.{flat_map}
use Rattle.mast_terms.specs.Vocabularies.{Lists}
use Rattle.mast_terms.specs.declared.memory.Stop.{Stop}
use Rattle.mast_terms.specs.declared.memory.Stop.TheVariants.{Named, NoMemory}
use Rattle.mast_tbox.specs.Lists.{AreEach}
use Rattle.mast_tree.specs.declared.shape.ShapeBreach.{ShapeBreach}
use Rattle.mast_tree.specs.Growing.{Begins}
use Rattle.mast_tree.specs.Judgements.{Judgement, first_breach, AreRight, Judges}
use Rattle.mast_tree.proofs.GrowingLemmas.{right_begins}
use Rattle.mast_tree.proofs.JudgementLemmas.{right_parts, breach_first, breach_second}
use Rattle.mast_onto.specs.inside.Reads.{Leads}

-- nothing to judge is right
pub right_nothing : (lists : Lists) → AreRight lists [] lists
right_nothing lists = record { none = refl; then = refl }

-- what an element gives is kept by a vocabulary that begins with its own
abbrev pub Kept : {X Y : Type 0} → (Lists → X → Y → Type 0) → Type 0
Kept {X} {Y} Is = (new old : Lists) (x : X) (y : Y) → Begins new old → Is old x y → Is new x y

-- so is what elements give
pub each_kept : {X Y : Type 0} (Is : Lists → X → Y → Type 0) → Kept Is → (new old : Lists) (xs : List X) (ys : List Y)
    → Begins new old → AreEach (Is old) xs ys → AreEach (Is new) xs ys
each_kept Is kept new old [] [] b h = h
each_kept Is kept new old [] (y ∷ ys) b h = h
each_kept Is kept new old (x ∷ xs) [] b h = h
each_kept Is kept new old (x ∷ xs) (y ∷ ys) b h = (kept new old x y b h.0, each_kept Is kept new old xs ys b h.1)

-- at first nothing is read
pub leads_start : {X Y : Type 0} (judged : X → List Judgement) (Is : Lists → X → Y → Type 0) (old : Lists) (whole : List X)
    → Leads judged Is old whole old whole []
leads_start judged Is old whole = record { right = λ new ys a g. (a, g); breach = λ b e. e }

-- one element more is read
pub leads_next : {X Y : Type 0} (judged : X → List Judgement) (Is : Lists → X → Y → Type 0) (old now new : Lists) (whole rest : List X) (x : X) (y : Y) (done : List Y)
    → Kept Is → Leads judged Is old whole now (x ∷ rest) done → AreRight now (judged x) new → Is new x y → Leads judged Is old whole new rest (done ++ y ∷ [])
leads_next judged Is old now new whole rest x y done kept leads one gives = record {
  right = λ last ys a g.
      subst (λ ds. AreRight old (flat_map judged whole) last × AreEach (Is last) whole ds) (sym (append_assoc done (y ∷ []) ys))
      (leads.right last (y ∷ ys) (right_parts now new last (judged x) (flat_map judged rest) one a)
      (kept last new x y (right_begins new last (flat_map judged rest) a) gives, g));
  breach = λ b e. leads.breach b (breach_second now new (judged x) (flat_map judged rest) b one e);
}

-- a breach of an element is the first of the whole
pub leads_breach : {X Y : Type 0} (judged : X → List Judgement) (Is : Lists → X → Y → Type 0) (old now : Lists) (whole rest : List X) (x : X) (done : List Y) (breach : ShapeBreach)
    → Leads judged Is old whole now (x ∷ rest) done → first_breach now (judged x) ≡ Some breach → first_breach old (flat_map judged whole) ≡ Some breach
leads_breach judged Is old now whole rest x done breach leads e = leads.breach breach (breach_first now (judged x) (flat_map judged rest) breach e)

-- all are read
pub leads_end : {X Y : Type 0} (judged : X → List Judgement) (Is : Lists → X → Y → Type 0) (old new : Lists) (whole : List X) (done : List Y)
    → Leads judged Is old whole new [] done → AreRight old (flat_map judged whole) new × AreEach (Is new) whole done
leads_end judged Is old new whole done leads =
    subst (λ ds. AreRight old (flat_map judged whole) new × AreEach (Is new) whole ds) (append-nil done) (leads.right new [] (right_nothing new) tt)

-- what stops the reading of an element stops that of the whole
pub leads_stop : {X Y T U : Type 0} (judged : X → List Judgement) (Is : Lists → X → Y → Type 0) (old now mid new : Lists) (whole rest : List X) (x : X) (done : List Y)
    (P : T → Type 0) (Q : U → Type 0) (why : Stop ShapeBreach)
    → Leads judged Is old whole now (x ∷ rest) done → Judges now (judged x) mid P (Err why) → Judges old (flat_map judged whole) new Q (Err why)
leads_stop judged Is old now mid new whole rest x done P Q (Named breach) leads h = leads_breach judged Is old now whole rest x done breach leads h
leads_stop judged Is old now mid new whole rest x done P Q NoMemory leads h = tt
