-- The sources that members have by entries: exactly these, in order.
use Rattle.std.proofs.Common.{◌≡◌, ◌↔◌, inl, inr, ◌<◌, ℕ, Bool, true, false, List, [], ◌∷◌, ◌++◌, slice_get, length, Contains, refl, ap, sym, subst, ◌∙◌}
use Rattle.std.specs.Prelude.{Some, if◌then◌else◌}
use Rattle.std.specs.List.{AllByRecursion}
use Rattle.std.specs.declared.cmp.Ordering.TheVariants.{Less}
use Rattle.mast_terms.specs.declared.value.Value.{Value}
use Rattle.mast_cq.specs.declared.atom.Atom.{Atom}
use Rattle.mast_cq.specs.NormalForms.{Ordered}
use Rattle.mast_cq.specs.Queries.{In, atom_order}
use Rattle.mast_cq.proofs.ListLemmas.{each_in, in_each, in_append, append_left, append_right}
use Rattle.mast_cq.proofs.TotalOrderLemmas.{atom_orders}
use Rattle.mast_mapping.specs.declared.split_map.SplitMap.{SplitMap}
use Rattle.mast_mapping.specs.OverTables.{IsHeadOver}
use Rattle.mast_tbox.specs.Closure.{Down}
use Rattle.mast_unfold.specs.declared.forms.Entry.{Entry}
use Rattle.mast_unfold.specs.declared.forms.KindedName.{KindedName}
use Rattle.mast_unfold.specs.declared.source.Source.{Source}
use Rattle.mast_unfold.specs.Sources.{Unfolding, HeadsAreOver, Becomes, IsSource, IsEarlier, InOrder}
use Rattle.mast_unfold.specs.inside.Forms.{head_name, atom_name, fits}
use Rattle.mast_unfold.specs.inside.Listing.{IsEntry, Increase, AreEntries, source_of, sources_of_member, sources_of_members}
use Rattle.mast_unfold.proofs.ElementLemmas.{in_contains, contains_in, read_in, read_within, each_append}
use Rattle.mast_unfold.proofs.FormLemmas.{suits, becomes}

module _ (constants : List Value) where
  -- the source comes of an entry that fits the member
  pub record ComesOf (member : Atom) (es : List Entry) (s : Source) : Type 0 where
    pub entry : Entry
    pub among : In entry es
    pub fit : fits constants member entry.form ≡ true
    pub is : s ≡ source_of member entry

  comes_later : (member : Atom) (e : Entry) (es : List Entry) (s : Source) → ComesOf member es s → ComesOf member (e ∷ es) s
  comes_later member e es s c = record { entry = c.entry; among = inr c.among; fit = c.fit; is = c.is }

  member_out : (member : Atom) (es : List Entry) (s : Source) → In s (sources_of_member constants member es) → ComesOf member es s
  member_out member [] s i = absurd i
  member_out member (e ∷ es) s i = by (fits constants member e.form) refl i (member_out member es s)
    where
      by : (b : Bool) → fits constants member e.form ≡ b → In s (if b then source_of member e ∷ sources_of_member constants member es else sources_of_member constants member es) → (In s (sources_of_member constants member es) → ComesOf member es s) → ComesOf member (e ∷ es) s
      by true f (inl g) ih = record { entry = e; among = inl refl; fit = f; is = g }
      by true f (inr j) ih = comes_later member e es s (ih j)
      by false f j ih = comes_later member e es s (ih j)

  member_in : (member : Atom) (es : List Entry) (entry : Entry) → In entry es → fits constants member entry.form ≡ true → In (source_of member entry) (sources_of_member constants member es)
  member_in member [] entry i f = absurd i
  member_in member (e ∷ es) entry (inl same) f =
      let g : fits constants member e.form ≡ true = subst (λ (k : Entry). fits constants member k.form ≡ true) same f in
      rw g (inl (ap (source_of member) same))
  member_in member (e ∷ es) entry (inr i) f = by (fits constants member e.form) (member_in member es entry i f)
    where
      by : (b : Bool) → In (source_of member entry) (sources_of_member constants member es) → In (source_of member entry) (if b then source_of member e ∷ sources_of_member constants member es else sources_of_member constants member es)
      by true j = inr j
      by false j = j

  module _ (of : KindedName → List Entry) where
    -- the source is of a member
    pub record IsOfMember (members : List Atom) (s : Source) : Type 0 where
      pub member : Atom
      pub among : In member members
      pub comes : ComesOf member (of (atom_name member)) s

    -- a source that members have is of one of them
    pub members_out : (members : List Atom) (s : Source) → In s (sources_of_members constants of members) → IsOfMember members s
    members_out [] s i = absurd i
    members_out (g ∷ gs) s i = elim (in_append s (sources_of_member constants g (of (atom_name g))) (sources_of_members constants of gs) i) [
      | inl a ↦ record { member = g; among = inl refl; comes = member_out g (of (atom_name g)) s a }
      | inr b ↦ let m = members_out gs s b in record { member = m.member; among = inr m.among; comes = m.comes }
    ]

    -- and each that fits is there
    pub members_in : (members : List Atom) (member : Atom) (entry : Entry) → In member members → In entry (of (atom_name member)) → fits constants member entry.form ≡ true → In (source_of member entry) (sources_of_members constants of members)
    members_in [] member entry i j f = absurd i
    members_in (g ∷ gs) member entry (inl same) j f =
        append_left (source_of member entry) (sources_of_member constants g (of (atom_name g))) (sources_of_members constants of gs)
        (subst (λ (k : Atom). In (source_of member entry) (sources_of_member constants k (of (atom_name k)))) same (member_in member (of (atom_name member)) entry j f))
    members_in (g ∷ gs) member entry (inr i) j f =
        append_right (source_of member entry) (sources_of_member constants g (of (atom_name g))) (sources_of_members constants of gs) (members_in gs member entry i j f)

  -- sources of one list come before those of another
  order_append : (xs ys : List Source) → InOrder xs → InOrder ys → ((x y : Source) → In x xs → In y ys → IsEarlier x y) → InOrder (xs ++ ys)
  order_append [] ys p q k = q
  order_append (x ∷ xs) ys p q k = (each_append (IsEarlier x) xs ys p.0 (in_each (IsEarlier x) ys (λ y j. k x y (inl refl) j)), order_append xs ys p.1 q (λ a b i j. k a b (inr i) j))

  member_order : (member : Atom) (es : List Entry) → Increase es → InOrder (sources_of_member constants member es)
  member_order member [] h = tt
  member_order member (e ∷ es) h = by (fits constants member e.form) (member_order member es h.1)
    where
      after : (s : Source) → In s (sources_of_member constants member es) → IsEarlier (source_of member e) s
      after s i =
          let c = member_out member es s i in
          subst (IsEarlier (source_of member e)) (sym c.is) (inr (refl, each_in (λ (f : Entry). e.map < f.map) c.entry es h.0 c.among))

      by : (b : Bool) → InOrder (sources_of_member constants member es) → InOrder (if b then source_of member e ∷ sources_of_member constants member es else sources_of_member constants member es)
      by true ih = (in_each (IsEarlier (source_of member e)) (sources_of_member constants member es) after, ih)
      by false ih = ih

  -- of atoms in order the first comes before each that stands after it
  first_before : (g : Atom) (gs : List Atom) → Ordered (g ∷ gs) → (h : Atom) → In h gs → atom_order g h ≡ Less
  first_before g [] o h i = absurd i
  first_before g (k ∷ gs) o h (inl e) = subst (λ (a : Atom). atom_order g a ≡ Less) (sym e) o.0
  first_before g (k ∷ gs) o h (inr i) = atom_orders.total.trans g k h o.0 (first_before k gs o.1 h i)

  -- the sources of members in order are in order
  pub members_order : (of : KindedName → List Entry) → ((name : KindedName) → Increase (of name)) → (members : List Atom) → Ordered members → InOrder (sources_of_members constants of members)
  members_order of h [] o = tt
  members_order of h (g ∷ gs) o =
      order_append (sources_of_member constants g (of (atom_name g))) (sources_of_members constants of gs) (member_order g (of (atom_name g)) (h (atom_name g))) (members_order of h gs o.1)
      (λ x y i j. between x y (member_out g (of (atom_name g)) x i) (members_out of gs y j))
    where
      between : (x y : Source) → ComesOf g (of (atom_name g)) x → IsOfMember of gs y → IsEarlier x y
      between x y c m =
          let a : x.member ≡ g = ap (λ s. s.member) c.is in
          let b : y.member ≡ m.member = ap (λ s. s.member) m.comes.is in
          inl (subst (λ (k : Atom). atom_order k y.member ≡ Less) (sym a) (subst (λ (k : Atom). atom_order g k ≡ Less) (sym b) (first_before g gs o m.member m.among)))

each_read : {X : Type 0} (P : X → Type 0) (xs : List X) (i : ℕ) (x : X) → AllByRecursion P xs → slice_get xs i ≡ Some x → P x
each_read P xs i x h e = each_in P x xs h (read_in xs i x e)

module _ (u : Unfolding) (of : KindedName → List Entry) (over : HeadsAreOver u.tables u.maps) (are : AreEntries u.tables u.maps (length u.maps) of) where
  -- each source that the members of Down have by the entries is a source
  pub is_source : (atom : Atom) (members : List Atom) → ((h : Atom) → Contains members h ↔ Down u.normal atom h) → (s : Source) → In s (sources_of_members u.vocab.constants of members) → IsSource u atom s
  is_source atom members down s i =
      let m = members_out u.vocab.constants of members s i in
      let c = m.comes in
      let e = are.sound (atom_name m.member) c.entry c.among in
      subst (IsSource u atom) (sym c.is) (record {
        below = (down m.member).0 (in_contains m.member members m.among);
        map = e.map;
        stands = e.stands;
        becomes = becomes u.vocab.constants u.tables e.map.query e.map.head c.entry.form
            (each_read (λ (m : SplitMap). IsHeadOver u.tables m.query m.head) u.maps c.entry.map e.map over e.stands) e.form m.member (sym e.named) c.fit;
      })

  -- and each source is among them
  pub source_is : (atom : Atom) (members : List Atom) → ((h : Atom) → Contains members h ↔ Down u.normal atom h) → (s : Source) → IsSource u atom s → In s (sources_of_members u.vocab.constants of members)
  source_is atom members down s h =
      let entry = are.complete s.map h.map h.stands (read_within u.maps s.map h.map h.stands) in
      let sound = are.sound (head_name h.map.head) entry.entry entry.among in
      by entry.entry entry.is entry.among sound
    where
      by : (e : Entry) → e.map ≡ s.map → In e (of (head_name h.map.head)) → IsEntry u.tables u.maps (length u.maps) (head_name h.map.head) e → In s (sources_of_members u.vocab.constants of members)
      by e is among sound =
          let one : sound.map ≡ h.map = map_one sound.map h.map (sym sound.stands ∙ (ap (slice_get u.maps) is ∙ h.stands)) in
          let fit = suits u.vocab.constants u.tables sound.map.query sound.map.head e.form sound.form s.member (subst (λ (m : SplitMap). Becomes u.tables u.vocab.constants m s.member) (sym one) h.becomes) in
          let there : In e (of (atom_name s.member)) = subst (λ (k : KindedName). In e (of k)) (sym (fit.named ∙ sound.named)) among in
          let found : In (source_of s.member e) (sources_of_members u.vocab.constants of members) = members_in u.vocab.constants of members s.member e (contains_in s.member members ((down s.member).1 h.below)) there fit.fit in
          subst (λ (k : Source). In k (sources_of_members u.vocab.constants of members)) (ap (λ (n : ℕ). let t : Source = record { member = s.member; map = n } in t) is) found
        where
          map_one : (a b : SplitMap) → Some a ≡ Some b → a ≡ b
          map_one a b e = cc
