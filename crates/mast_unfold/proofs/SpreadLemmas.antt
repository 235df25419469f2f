-- Notes of values: what is noted, that it follows, and where two values meet.
use Rattle.std.proofs.Common.{◌≡◌, inl, inr, ℕ, ◌+◌, ◌<◌, Bool, true, false, List, [], ◌∷◌, ◌++◌, map, length, slice_get, refl, ap, sym, subst, ◌∙◌, arith, append_assoc, append-nil}
use Rattle.std.specs.Prelude.{Option, Some, None, if◌then◌else◌}
use Rattle.std.specs.List.{AllByRecursion}
use Rattle.std.proofs.lemmas.Option.{none-some, same_Some}
use native.Mathlib.Decide.{dec_lt}
use Rattle.mast_terms.specs.declared.value.Value.{Value}
use Rattle.mast_terms.specs.Orders.{TestsEquality}
use Rattle.mast_terms.specs.Vocabularies.{same_value}
use Rattle.mast_terms.proofs.OrderLemmas.{value_equality_test}
use Rattle.mast_cq.specs.Queries.{In}
use Rattle.mast_cq.proofs.ListLemmas.{each_in, in_each, map_in, in_map}
use Rattle.mast_unfold.specs.declared.columns.Place.{Place}
use Rattle.mast_unfold.specs.inside.Equations.{same_place}
use Rattle.mast_unfold.specs.inside.Spreading.{value_at, noted_by, noted, and_then, all_noted, Agrees, IsValue, HasKind, KeepKinds, Spreads, IsRefuted}
use Rattle.mast_unfold.proofs.ElementLemmas.{read_in, read_more, read_within, each_append}

-- a value that is noted of a place
abbrev pub Note : Type 0
Note = Place × Value

-- the value of a place, which the notes from a place on have
abbrev pub valued : Place → Value → Note
valued p v = (p, v)

module _ (law : TestsEquality same_place) where
  value_here : (p : Place) (n : Note) (ns : List Note) (v : Value) (b : Bool) → same_place p n.0 ≡ b → (if b then Some n.1 else value_at p ns) ≡ Some v
      → ((value_at p ns ≡ Some v) → In (valued p v) ns) → In (valued p v) (n ∷ ns)
  value_here p n ns v true e h later =
      let at : p ≡ n.0 = (law p n.0).0 e in
      let is : n.1 ≡ v = same_Some n.1 v h in
      inl (pair_same p n.0 v n.1 at (sym is))
    where
      pair_same : (p q : Place) (v w : Value) → p ≡ q → v ≡ w → valued p v ≡ valued q w
      pair_same p q v w e f = cc
  value_here p n ns v false e h later = inr (later h)

  -- a value that is found is noted
  pub value_in : (p : Place) (notes : List Note) (v : Value) → value_at p notes ≡ Some v → In (valued p v) notes
  value_in p [] v h = absurd (none-some v h)
  value_in p (n ∷ ns) v h = value_here p n ns v (same_place p n.0) refl h (value_in p ns v)

  -- a value that is found stays so
  pub value_stays : (p : Place) (notes more : List Note) (v : Value) → value_at p notes ≡ Some v → value_at p (notes ++ more) ≡ Some v
  value_stays p [] more v h = absurd (none-some v h)
  value_stays p (n ∷ ns) more v h = by (same_place p n.0) h (value_stays p ns more v)
    where
      by : (b : Bool) → (if b then Some n.1 else value_at p ns) ≡ Some v → (value_at p ns ≡ Some v → value_at p (ns ++ more) ≡ Some v) → (if b then Some n.1 else value_at p (ns ++ more)) ≡ Some v
      by true h ih = h
      by false h ih = ih h

  -- a value that was noted last is found, where none was before
  pub value_last : (p : Place) (notes : List Note) (v : Value) → value_at p notes ≡ None → value_at p (notes ++ valued p v ∷ []) ≡ Some v
  value_last p [] v h = let yes : same_place p p ≡ true = (law p p).1 refl in rw yes refl
  value_last p (n ∷ ns) v h = by (same_place p n.0) h (value_last p ns v)
    where
      by : (b : Bool) → (if b then Some n.1 else value_at p ns) ≡ None → (value_at p ns ≡ None → value_at p (ns ++ valued p v ∷ []) ≡ Some v) → (if b then Some n.1 else value_at p (ns ++ valued p v ∷ [])) ≡ Some v
      by true h ih = absurd (none-some n.1 (sym h))
      by false h ih = ih h

  -- notes after others: they begin with the old ones, what is new is of those to be noted, and each of these is found
  pub record Adds (ns notes new : List Note) : Type 0 where
    pub more : List Note
    pub begins : new ≡ notes ++ more
    pub from : AllByRecursion (λ m. In m ns) more
    pub has : (n : Note) → In n ns → value_at n.0 new ≡ Some n.1

  add_one : (n : Note) (notes new : List Note) (o : Option Value) → value_at n.0 notes ≡ o → noted_by o n notes ≡ Some new → Adds (n ∷ []) notes new
  add_one n notes new None e h =
      let is : notes ++ n ∷ [] ≡ new = same_Some (notes ++ n ∷ []) new h in
      record {
        more = n ∷ [];
        begins = sym is;
        from = (inl refl, tt);
        has = λ m i. elim i [ inl f ↦ subst (λ (k : Note). value_at k.0 new ≡ Some k.1) (sym f) (subst (λ (k : List Note). value_at n.0 k ≡ Some n.1) is (value_last n.0 notes n.1 e)) | inr g ↦ absurd g ];
      }
  add_one n notes new (Some other) e h = by (same_value other n.1) refl h
    where
      by : (b : Bool) → same_value other n.1 ≡ b → (if b then Some notes else None) ≡ Some new → Adds (n ∷ []) notes new
      by false f h = absurd (none-some new h)
      by true f h =
          let is : notes ≡ new = same_Some notes new h in
          let w : other ≡ n.1 = (value_equality_test other n.1).0 f in
          let found : value_at n.0 notes ≡ Some n.1 = e ∙ ap Some w in
          record {
            more = [];
            begins = sym is ∙ sym (append-nil notes);
            from = tt;
            has = λ m i. elim i [ inl g ↦ subst (λ (k : Note). value_at k.0 new ≡ Some k.1) (sym g) (subst (λ (k : List Note). value_at n.0 k ≡ Some n.1) is found) | inr g ↦ absurd g ];
          }

  join_adds : (n : Note) (ns notes middle new : List Note) → Adds (n ∷ []) notes middle → Adds ns middle new → Adds (n ∷ ns) notes new
  join_adds n ns notes middle new a b = record {
    more = a.more ++ b.more;
    begins = b.begins ∙ ap (λ k. k ++ b.more) a.begins ∙ append_assoc notes a.more b.more;
    from = each_append (λ m. In m (n ∷ ns)) a.more b.more
        (in_each (λ m. In m (n ∷ ns)) a.more (λ m i. elim (each_in (λ k. In k (n ∷ [])) m a.more a.from i) [ inl e ↦ inl e | inr g ↦ absurd g ]))
        (in_each (λ m. In m (n ∷ ns)) b.more (λ m i. inr (each_in (λ k. In k ns) m b.more b.from i)));
    has = λ m i. elim i [
      | inl e ↦ subst (λ (k : List Note). value_at m.0 k ≡ Some m.1) (sym b.begins) (value_stays m.0 middle b.more m.1 (a.has m (inl e)))
      | inr j ↦ b.has m j
    ];
  }

  -- what noting all of some gives
  pub all_adds : (ns notes new : List Note) → all_noted ns notes ≡ Some new → Adds ns notes new
  all_adds [] notes new h = record { more = []; begins = sym (same_Some notes new h) ∙ sym (append-nil notes); from = tt; has = λ m i. absurd i }
  all_adds (n ∷ ns) notes new h = by (noted n notes) refl h (λ middle. all_adds ns middle new)
    where
      by : (o : Option (List Note)) → noted n notes ≡ o → and_then o (all_noted ns) ≡ Some new → ((middle : List Note) → all_noted ns middle ≡ Some new → Adds ns middle new) → Adds (n ∷ ns) notes new
      by None e h ih = absurd (none-some new h)
      by (Some middle) e h ih = join_adds n ns notes middle new (add_one n notes middle (value_at n.0 notes) refl e) (ih middle h)

  -- the values are those of new notes where they are of the old ones and of what is noted
  pub values_new : (f : Place → Value) (ns notes new : List Note) → Adds ns notes new → AllByRecursion (IsValue f) ns → AllByRecursion (IsValue f) notes → AllByRecursion (IsValue f) new
  values_new f ns notes new a h k =
      subst (AllByRecursion (IsValue f)) (sym a.begins) (each_append (IsValue f) notes a.more k
      (in_each (IsValue f) a.more (λ m i. each_in (IsValue f) m ns h (each_in (λ j. In j ns) m a.more a.from i))))

  -- the same of kinds
  pub kinds_new : (ns notes new : List Note) → Adds ns notes new → AllByRecursion HasKind ns → AllByRecursion HasKind notes → AllByRecursion HasKind new
  kinds_new ns notes new a h k =
      subst (AllByRecursion HasKind) (sym a.begins) (each_append HasKind notes a.more k
      (in_each HasKind a.more (λ m i. each_in HasKind m ns h (each_in (λ j. In j ns) m a.more a.from i))))

  clash_one : (f : Place → Value) (n : Note) (notes : List Note) (o : Option Value) → value_at n.0 notes ≡ o → noted_by o n notes ≡ None → AllByRecursion (IsValue f) notes → IsValue f n → ⊥
  clash_one f n notes None e h k v = none-some (notes ++ n ∷ []) (sym h)
  clash_one f n notes (Some other) e h k v = by (same_value other n.1) refl h
    where
      by : (b : Bool) → same_value other n.1 ≡ b → (if b then Some notes else None) ≡ None → ⊥
      by true g h = none-some notes (sym h)
      by false g h =
          let there : f n.0 ≡ other = each_in (IsValue f) (valued n.0 other) notes k (value_in n.0 notes other e) in
          let yes : same_value other n.1 ≡ true = (value_equality_test other n.1).1 (sym there ∙ v) in
          let no : true ≡ false = sym yes ∙ g in
          cc

  -- where they can't all be noted, no values are those of the notes and of what is to be noted
  pub all_clash : (f : Place → Value) (ns notes : List Note) → all_noted ns notes ≡ None → AllByRecursion (IsValue f) notes → AllByRecursion (IsValue f) ns → ⊥
  all_clash f [] notes h k v = none-some notes (sym h)
  all_clash f (n ∷ ns) notes h k v = by (noted n notes) refl h (λ middle. all_clash f ns middle)
    where
      by : (o : Option (List Note)) → noted n notes ≡ o → and_then o (all_noted ns) ≡ None → ((middle : List Note) → all_noted ns middle ≡ None → AllByRecursion (IsValue f) middle → AllByRecursion (IsValue f) ns → ⊥) → ⊥
      by None e h ih = clash_one f n notes (value_at n.0 notes) refl e k v.0
      by (Some middle) e h ih = ih middle h (values_new f (n ∷ []) notes middle (add_one n notes middle (value_at n.0 notes) refl e) (v.0, tt) k) v.1

  module _ (next : Place → List Place) where
    -- the notes of the columns linked to one
    abbrev pub onward : Note → List Note
    onward n = map (λ q. valued q n.1) (next n.0)

    onward_values : (f : Place → Value) (n : Note) → Agrees next f → IsValue f n → AllByRecursion (IsValue f) (onward n)
    onward_values f n agrees v =
        in_each (IsValue f) (onward n) (λ m i. let w = in_map (λ q. valued q n.1) m (next n.0) i in
        subst (IsValue f) (sym w.is) (sym (agrees n.0 w.from w.among) ∙ v))

    onward_kinds : (n : Note) → KeepKinds next → HasKind n → AllByRecursion HasKind (onward n)
    onward_kinds n keep k =
        in_each HasKind (onward n) (λ m i. let w = in_map (λ q. valued q n.1) m (next n.0) i in
        subst HasKind (sym w.is) (k ∙ keep n.0 w.from w.among))

    -- before any note was spread
    pub spread_first : (start : List Note) → Spreads next start start 0
    spread_first start = record {
      more = [];
      begins = sym (append-nil start);
      forced = λ f a h. h;
      kinds = λ a h. h;
      closed = λ j n q lt. absurd (omega arith);
    }

    -- one note more was spread
    pub spread_more : (start notes new : List Note) (done : ℕ) (n : Note) → Spreads next start notes done → slice_get notes done ≡ Some n → all_noted (onward n) notes ≡ Some new → Spreads next start new (done + 1)
    spread_more start notes new done n s at h = record {
      more = s.more ++ a.more;
      begins = a.begins ∙ ap (λ k. k ++ a.more) s.begins ∙ append_assoc start s.more a.more;
      forced = λ f agrees v. let old = s.forced f agrees v in values_new f (onward n) notes new a (onward_values f n agrees (each_in (IsValue f) n notes old there)) old;
      kinds = λ keep v. let old = s.kinds keep v in kinds_new (onward n) notes new a (onward_kinds n keep (each_in HasKind n notes old there)) old;
      closed = closed_more;
    }
      where
        a : Adds (onward n) notes new
        a = all_adds (onward n) notes new h

        there : In n notes
        there = read_in notes done n at

        within : done < length notes
        within = read_within notes done n at

        old_read : (j : ℕ) (m : Note) → j < length notes → slice_get new j ≡ Some m → slice_get notes j ≡ Some m
        old_read j m lt r = sym (read_more notes a.more j lt) ∙ subst (λ (k : List Note). slice_get k j ≡ Some m) a.begins r

        closed_more : (j : ℕ) (m : Note) (q : Place) → j < done + 1 → slice_get new j ≡ Some m → In q (next m.0) → value_at q new ≡ Some m.1
        closed_more j m q lt r i = go (dec_lt j done)
          where
            go : Dec (j < done) → value_at q new ≡ Some m.1
            go (yes d) = subst (λ (k : List Note). value_at q k ≡ Some m.1) (sym a.begins) (value_stays q notes a.more m.1 (s.closed j m q d (old_read j m (omega (arith, within)) r) i))
            go (no d) =
                let e : j ≡ done = omega arith in
                let same : m ≡ n = same_Some m n (sym (old_read j m (omega (arith, within)) r) ∙ (ap (slice_get notes) e ∙ at)) in
                a.has (valued q m.1) (subst (λ (k : Note). In (valued q m.1) (onward k)) same (map_in (λ p. valued p m.1) q (next m.0) i))

    -- a note can't be spread
    pub spread_clash : (start notes : List Note) (done : ℕ) (n : Note) → Spreads next start notes done → slice_get notes done ≡ Some n → all_noted (onward n) notes ≡ None → IsRefuted next start
    spread_clash start notes done n s at h f agrees v =
        let old = s.forced f agrees v in
        all_clash f (onward n) notes h old (onward_values f n agrees (each_in (IsValue f) n notes old (read_in notes done n at)))

    -- the end is where all are done
    pub spread_done : (start notes : List Note) (done : ℕ) → length notes < done + 1 → Spreads next start notes done → Spreads next start notes (length notes)
    spread_done start notes done lt s = record {
      more = s.more;
      begins = s.begins;
      forced = s.forced;
      kinds = s.kinds;
      closed = λ j n q below. s.closed j n q (omega arith);
    }
