-- Which meetings are better, and the cheap test of one that counts.
use Rattle.std.proofs.Common.{◌≢◌, ◌≡◌, List, false, ◌⊎◌, inl, inr, refl, ◌∙◌}
use Rattle.std.specs.declared.cmp.Ordering.{Ordering}
use Rattle.std.specs.declared.cmp.Ordering.TheVariants.{Less, Equal, Greater}
use Rattle.std.specs.Ordering.{is_gt, ordering_reverse}
use Rattle.std.proofs.lemmas.Cmp.{nat_list_cmp_total, upto}
use Rattle.mast_cq.specs.declared.atom.Atom.{Atom}
use Rattle.mast_cq.specs.declared.query.Cq.{Cq}
use Rattle.mast_cq.specs.Queries.{atom_key, atom_order}
use Rattle.mast_cq.specs.Unification.{Meeting}
use Rattle.mast_tbox.specs.declared.axiom.Inclusion.{Inclusion}
use Rattle.mast_tbox.specs.Closure.{Down}
use Rattle.mast_tbox.specs.Laws.{Decided}
use Rattle.mast_tbox.specs.Lists.{itself}
use Rattle.mast_tbox.proofs.DecideLemmas.{down_decided}
use Rattle.mast_tbox.proofs.WorkLemmas.{reaches_join}
use Rattle.mast_rewrite.specs.CountingMeetings.{IsMeeting, ReplaceAlike, Leads, Counts}
use Rattle.mast_rewrite.proofs.AlikeLemmas.{alike_decided}

-- g is not after h
abbrev pub UpTo : Atom → Atom → Type 0
UpTo g h = is_gt (atom_order g h) ≡ false

up_join : (g h i : Atom) → UpTo g h → UpTo h i → UpTo g i
up_join g h i a b = upto nat_list_cmp_total (atom_key g) (atom_key h) (atom_key i) a b

up_itself : (g : Atom) → UpTo g g
up_itself g = go (atom_order g g) (nat_list_cmp_total.antisymm (atom_key g) (atom_key g))
  where
    go : (o : Ordering) → o ≡ ordering_reverse o → is_gt o ≡ false
    go Less e = cc
    go Equal e = refl
    go Greater e = cc

up_or : (g h : Atom) → UpTo g h ⊎ (atom_order h g ≡ Less)
up_or g h = go (atom_order g h) (atom_order h g) (nat_list_cmp_total.antisymm (atom_key h) (atom_key g))
  where
    go : (o p : Ordering) → p ≡ ordering_reverse o → (is_gt o ≡ false) ⊎ (p ≡ Less)
    go Less p e = inl refl
    go Equal p e = inl refl
    go Greater p e = inr e

up_not : (g h : Atom) → UpTo g h → atom_order h g ≡ Less → ⊥
up_not g h u l = go (atom_order g h) (atom_order h g) (nat_list_cmp_total.antisymm (atom_key g) (atom_key h)) u l
  where
    go : (o p : Ordering) → o ≡ ordering_reverse p → is_gt o ≡ false → p ≡ Less → ⊥
    go o p e u l =
        let f : o ≡ Greater = rw (e, l) refl in
        let k : is_gt Greater ≡ false = rw f at u in cc

less_up : (g h : Atom) → atom_order g h ≡ Less → UpTo g h
less_up g h e = rw e refl

module _ (tbox : List Inclusion) (q : Cq) where
  -- a meeting leads itself
  pub leads_itself : (m : Meeting) → Leads tbox q m m
  leads_itself m = record { alike = λ n i. refl; below = itself }

  -- and what one that it leads leads
  pub leads_join : (l m n : Meeting) → Leads tbox q l m → Leads tbox q m n → Leads tbox q l n
  leads_join l m n a b = record { alike = λ x i. a.alike x i ∙ b.alike x i; below = reaches_join l.atom m.atom n.atom a.below b.below }

  -- whether one meeting leads another is decided
  pub leads_decided : (m other : Meeting) → Decided (Leads tbox q m other)
  leads_decided m other = go (alike_decided q m other) (down_decided tbox m.atom other.atom)
    where
      go : Decided (ReplaceAlike q m other) → Decided (Down tbox m.atom other.atom) → Decided (Leads tbox q m other)
      go (inl a) (inl d) = inl (record { alike = a; below = d })
      go (inl a) (inr d) = inr (λ l. d l.below)
      go (inr a) d = inr (λ l. a l.alike)

  -- m is better than the other: it leads it, and where the other leads it too, its atom is not after the other's
  pub record Better (m other : Meeting) : Type 0 where
    pub leads : Leads tbox q m other
    pub not_after : Leads tbox q other m → UpTo m.atom other.atom

  -- being better is a decided preorder
  pub better_itself : (m : Meeting) → Better m m
  better_itself m = record { leads = leads_itself m; not_after = λ l. up_itself m.atom }

  pub better_join : (l m n : Meeting) → Better l m → Better m n → Better l n
  better_join l m n a b = record {
    leads = leads_join l m n a.leads b.leads;
    not_after = λ back. up_join l.atom m.atom n.atom (a.not_after (leads_join m n l b.leads back)) (b.not_after (leads_join n l m back a.leads));
  }

  better_case : (m other : Meeting) → Decided (Leads tbox q m other) → Decided (Leads tbox q other m) → Decided (Better m other)
  better_case m other (inr a) d = inr (λ b. a b.leads)
  better_case m other (inl a) (inr b) = inl (record { leads = a; not_after = λ l. absurd (b l) })
  better_case m other (inl a) (inl b) = elim (up_or m.atom other.atom) [
    | inl u ↦ inl (record { leads = a; not_after = λ l. u })
    | inr l ↦ inr (λ c. up_not m.atom other.atom (c.not_after b) l)
  ]

  pub better_decided : (m other : Meeting) → Decided (Better m other)
  better_decided m other = better_case m other (leads_decided m other) (leads_decided other m)

  -- the cheap test: a meeting counts where it leads each that leads it, and none of these has an earlier atom
  pub counts_simply : (g h : Atom) (m : Meeting) → IsMeeting tbox q g h m
      → ((other : Meeting) → IsMeeting tbox q g h other → Leads tbox q other m → Leads tbox q m other × (atom_order other.atom m.atom ≢ Less)) → Counts tbox q g h m
  counts_simply g h m is k = record {
    is_meeting = is;
    leads_back = λ other o l. (k other o l).0;
    none_earlier = λ other o to back. (k other o back).1;
  }

  -- and only there
  pub counts_only : (g h : Atom) (m : Meeting) → Counts tbox q g h m
      → (other : Meeting) → IsMeeting tbox q g h other → Leads tbox q other m → Leads tbox q m other × (atom_order other.atom m.atom ≢ Less)
  counts_only g h m c other o l = (c.leads_back other o l, c.none_earlier other o (c.leads_back other o l) l)

  -- a meeting that is better than each of a list of all that is better than it counts
  pub best_counts : (g h : Atom) (m : Meeting) → IsMeeting tbox q g h m → ((other : Meeting) → IsMeeting tbox q g h other → Better other m → Better m other) → Counts tbox q g h m
  best_counts g h m is best = record {
    is_meeting = is;
    leads_back = λ other o l. elim (leads_decided m other) [
      | inl a ↦ a
      | inr a ↦ absurd (a (best other o (record { leads = l; not_after = λ b. absurd (a b) })).leads)
    ];
    none_earlier = λ other o to back e. up_not m.atom other.atom ((best other o (record { leads = back; not_after = λ b. less_up other.atom m.atom e })).not_after back) e;
  }
