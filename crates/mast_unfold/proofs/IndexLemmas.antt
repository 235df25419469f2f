-- The index of maps by the names of their heads, map after map.
use Rattle.std.proofs.Common.{◌≡◌, ◌≤◌, inl, inr, ◌<◌, ℕ, ◌+◌, Bool, true, false, List, [], ◌∷◌, ◌++◌, slice_get, length, refl, ap, sym, subst, ◌∙◌, arith}
use Rattle.std.specs.Prelude.{Some, if◌then◌else◌}
use native.Mathlib.Decide.{dec_lt}
use Rattle.mast_terms.specs.Orders.{TestsEquality}
use Rattle.mast_cq.specs.Queries.{In}
use Rattle.mast_cq.proofs.ListLemmas.{each_in, in_each, in_append, append_left, append_right}
use Rattle.mast_tables.specs.declared.declaration.TableDecl.{TableDecl}
use Rattle.mast_mapping.specs.declared.split_map.SplitMap.{SplitMap}
use Rattle.mast_unfold.specs.declared.forms.Entry.{Entry}
use Rattle.mast_unfold.specs.declared.forms.KindedName.{KindedName}
use Rattle.mast_unfold.specs.declared.groups.Groups.{Groups}
use Rattle.mast_unfold.specs.inside.Forms.{IsForm, head_name}
use Rattle.mast_unfold.specs.inside.Listing.{same_name, IsEntry, HasEntry, Increase, AreEntries}
use Rattle.mast_unfold.specs.inside.Lookups.{found, put}
use Rattle.mast_unfold.proofs.ElementLemmas.{read_within}

increase_last : (es : List Entry) (e : Entry) → Increase es → ((f : Entry) → In f es → f.map < e.map) → Increase (es ++ e ∷ [])
increase_last [] e h k = (tt, tt)
increase_last (x ∷ es) e h k = (
  in_each (λ (f : Entry). x.map < f.map) (es ++ e ∷ []) (λ f i. elim (in_append f es (e ∷ []) i) [
    | inl a ↦ each_in (λ (g : Entry). x.map < g.map) f es h.0 a
    | inr b ↦ elim b [ inl same ↦ subst (λ (g : Entry). x.map < g.map) (sym same) (k x (inl refl)) | inr c ↦ absurd c ]
  ]),
  increase_last es e h.1 (λ f i. k f (inr i)),
)

-- no map has an entry at first
pub no_entries : (tables : List TableDecl) (maps : List SplitMap) (of : KindedName → List Entry) → ((name : KindedName) → of name ≡ []) → AreEntries tables maps 0 of
no_entries tables maps of none = record {
  sound = λ name e i. absurd (subst (λ (es : List Entry). In e es) (none name) i);
  complete = λ n m s lt. absurd (omega arith);
  ordered = λ name. subst Increase (sym (none name)) tt;
}

module _ (law : TestsEquality same_name) (tables : List TableDecl) (maps : List SplitMap) (n : ℕ) (map : SplitMap) (stands : slice_get maps n ≡ Some map) (entry : Entry) (is : entry.map ≡ n) (form : IsForm tables map entry.form)
    (old new : Groups KindedName Entry) (added : (name : KindedName) → found same_name new name ≡ put same_name old (head_name map.head) entry name) (before : AreEntries tables maps n (found same_name old)) where
  abbrev key : KindedName
  key = head_name map.head

  -- where the entry went to a name, it stands after the others
  at_key : (name : KindedName) → same_name key name ≡ true → found same_name new name ≡ found same_name old name ++ entry ∷ []
  at_key name e =
      added name
      ∙ (ap (λ b. if b then found same_name old key ++ entry ∷ [] else found same_name old name) e
      ∙ ap (λ k. found same_name old k ++ entry ∷ []) ((law key name).0 e))

  elsewhere : (name : KindedName) → same_name key name ≡ false → found same_name new name ≡ found same_name old name
  elsewhere name e = added name ∙ ap (λ b. if b then found same_name old key ++ entry ∷ [] else found same_name old name) e

  sound_old : (name : KindedName) (e : Entry) → IsEntry tables maps n name e → IsEntry tables maps (n + 1) name e
  sound_old name e s = let lt : e.map < n = s.below in record { map = s.map; stands = s.stands; below = omega arith; named = s.named; form = s.form }

  sound_new : (name : KindedName) → same_name key name ≡ true → IsEntry tables maps (n + 1) name entry
  sound_new name e = record { map = map; stands = ap (slice_get maps) is ∙ stands; below = omega (arith, is); named = (law key name).0 e; form = form }

  sound_at : (name : KindedName) (e : Entry) → same_name key name ≡ true → In e (found same_name old name ++ entry ∷ []) → IsEntry tables maps (n + 1) name e
  sound_at name e k i = elim (in_append e (found same_name old name) (entry ∷ []) i) [
    | inl a ↦ sound_old name e (before.sound name e a)
    | inr b ↦ elim b [ inl same ↦ subst (IsEntry tables maps (n + 1) name) (sym same) (sound_new name k) | inr c ↦ absurd c ]
  ]

  sound_all : (name : KindedName) (e : Entry) → In e (found same_name new name) → IsEntry tables maps (n + 1) name e
  sound_all name e i = by (same_name key name) refl
    where
      by : (b : Bool) → same_name key name ≡ b → IsEntry tables maps (n + 1) name e
      by true k = sound_at name e k (subst (λ (es : List Entry). In e es) (at_key name k) i)
      by false k = sound_old name e (before.sound name e (subst (λ (es : List Entry). In e es) (elsewhere name k) i))

  has_old : (name : KindedName) (m : ℕ) → HasEntry m (found same_name old name) → HasEntry m (found same_name new name)
  has_old name m h = by (same_name key name) refl
    where
      by : (b : Bool) → same_name key name ≡ b → HasEntry m (found same_name new name)
      by true k = record { entry = h.entry; among = subst (λ (es : List Entry). In h.entry es) (sym (at_key name k)) (append_left h.entry (found same_name old name) (entry ∷ []) h.among); is = h.is }
      by false k = record { entry = h.entry; among = subst (λ (es : List Entry). In h.entry es) (sym (elsewhere name k)) h.among; is = h.is }

  has_new : HasEntry n (found same_name new key)
  has_new = record { entry = entry; among = subst (λ (es : List Entry). In entry es) (sym (at_key key ((law key key).1 refl))) (append_right entry (found same_name old key) (entry ∷ []) (inl refl)); is = is }

  complete_all : (m : ℕ) (other : SplitMap) → slice_get maps m ≡ Some other → m < n + 1 → HasEntry m (found same_name new (head_name other.head))
  complete_all m other s lt = go (dec_lt m n)
    where
      go : Dec (m < n) → HasEntry m (found same_name new (head_name other.head))
      go (yes d) = has_old (head_name other.head) m (before.complete m other s d)
      go (no d) =
          let e : m ≡ n = omega arith in
          let same : other ≡ map = one other map (sym s ∙ (ap (slice_get maps) e ∙ stands)) in
          subst (λ (x : SplitMap). HasEntry m (found same_name new (head_name x.head))) (sym same) (subst (λ k. HasEntry k (found same_name new key)) (sym e) has_new)
        where
          one : (a b : SplitMap) → Some a ≡ Some b → a ≡ b
          one a b e = cc

  ordered_all : (name : KindedName) → Increase (found same_name new name)
  ordered_all name = by (same_name key name) refl
    where
      by : (b : Bool) → same_name key name ≡ b → Increase (found same_name new name)
      by true k = subst Increase (sym (at_key name k)) (increase_last (found same_name old name) entry (before.ordered name) (λ f i. let lt = (before.sound name f i).below in omega (arith, is)))
      by false k = subst Increase (sym (elsewhere name k)) (before.ordered name)

  -- one map more is in the index
  pub entries_more : AreEntries tables maps (n + 1) (found same_name new)
  entries_more = record { sound = sound_all; complete = complete_all; ordered = ordered_all }

-- where no map is left, the index is that of all
pub entries_end : (tables : List TableDecl) (maps : List SplitMap) (n : ℕ) (of : KindedName → List Entry) → length maps ≤ n → AreEntries tables maps n of → AreEntries tables maps (length maps) of
entries_end tables maps n of le h = record {
  sound = λ name e i. let s = h.sound name e i in record { map = s.map; stands = s.stands; below = read_within maps e.map s.map s.stands; named = s.named; form = s.form };
  complete = λ m map s lt. h.complete m map s (omega arith);
  ordered = h.ordered;
}
