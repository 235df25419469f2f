-- The meetings of two atoms are listed, and each is led by one that counts.
use Rattle.std.proofs.Common.{List, inl, inr, Contains, sym, subst}
use Rattle.mast_cq.specs.declared.atom.Atom.{Atom}
use Rattle.mast_cq.specs.declared.query.Cq.{Cq}
use Rattle.mast_cq.specs.Unification.{Meeting, meeting}
use Rattle.mast_tbox.specs.declared.axiom.Inclusion.{Inclusion}
use Rattle.mast_tbox.specs.Laws.{IsFinite}
use Rattle.mast_tbox.proofs.DecideLemmas.{down_finite}
use Rattle.mast_rewrite.specs.ClosureLaws.{EachIsLed}
use Rattle.mast_rewrite.specs.CountingMeetings.{IsMeeting}
use Rattle.mast_rewrite.proofs.CountLemmas.{Better, better_itself, better_join, better_decided, best_counts}
use Rattle.mast_rewrite.proofs.GatherLemmas.{gather, gathers, gathered, of_option, option_in, in_option}
use Rattle.mast_rewrite.proofs.TopLemmas.{top_of}

module _ (tbox : List Inclusion) (q : Cq) (g h : Atom) where
  abbrev with_right : Atom → Atom → List Meeting
  with_right left right = of_option (meeting q.answer left right)

  abbrev with_left : Atom → List Meeting
  with_left left = gather (with_right left) (down_finite tbox h).members

  listed_in : (m : Meeting) → Contains (gather with_left (down_finite tbox g).members) m → IsMeeting tbox q g h m
  listed_in m c =
      let v = gathered with_left (down_finite tbox g).members m c in
      let w = gathered (with_right v.element) (down_finite tbox h).members m v.gives in
      record {
        left = v.element;
        right = w.element;
        left_below = ((down_finite tbox g).are v.element).0 v.stands;
        right_below = ((down_finite tbox h).are w.element).0 w.stands;
        meets = in_option (meeting q.answer v.element w.element) m w.gives;
      }

  in_listed : (m : Meeting) → IsMeeting tbox q g h m → Contains (gather with_left (down_finite tbox g).members) m
  in_listed m w =
      gathers with_left (down_finite tbox g).members w.left m (((down_finite tbox g).are w.left).1 w.left_below)
      (gathers (with_right w.left) (down_finite tbox h).members w.right m (((down_finite tbox h).are w.right).1 w.right_below)
      (option_in (meeting q.answer w.left w.right) m w.meets))

  -- there is a list of exactly the meetings of two atoms
  pub meetings_finite : IsFinite (IsMeeting tbox q g h)
  meetings_finite = record { members = gather with_left (down_finite tbox g).members; are = λ m. (listed_in m, in_listed m) }

  -- each meeting is led by one that counts
  pub is_led : EachIsLed tbox q g h
  is_led m is =
      let w = top_of (Better tbox q) (better_itself tbox q) (better_join tbox q) (better_decided tbox q) meetings_finite.members m in
      let top_is : IsMeeting tbox q g h w.top = elim w.among [ inl e ↦ subst (IsMeeting tbox q g h) (sym e) is | inr i ↦ (meetings_finite.are w.top).0 i ] in
      record {
        by = w.top;
        counts = best_counts tbox q g h w.top top_is (λ other o b. w.is_top other ((meetings_finite.are other).1 o) b);
        leads = w.above.leads;
      }
