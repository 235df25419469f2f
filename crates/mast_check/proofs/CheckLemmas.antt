-- Where no row of the members of its closure passes, a violation is not breached; and a row that passes is a breach.
use Rattle.std.proofs.Common.{◌≡◌, ℕ, zero, suc, ◌+◌, ◌<◌, true, false, List, [], ◌∷◌, ◌++◌, length, drop, get_or, Contains, Option, Some, None, is_some, slice_get, inl, inr, refl, sym, ap, ◌∙◌, subst, add-one, arith}
use Rattle.std.proofs.lemmas.Bool.{true≢false, false≢true}
use Rattle.std.specs.List.{AllByRecursion, AllZip}
use Rattle.mast_terms.specs.declared.term.Term.{Term}
use Rattle.mast_terms.specs.Vocabularies.{IsVocabulary}
use Rattle.mast_cq.specs.declared.atom.Atom.{Atom}
use Rattle.mast_cq.specs.declared.query.Cq.{Cq}
use Rattle.mast_cq.specs.Queries.{In, viewed}
use Rattle.mast_cq.proofs.ListLemmas.{each_in, in_each}
use Rattle.mast_tables.specs.Rows.{Row}
use Rattle.mast_canon.specs.declared.rows.RowId.{RowId}
use Rattle.mast_canon.specs.declared.spec.Spec.{Spec}
use Rattle.mast_canon.specs.CertainAnswers.{Certain, HasThrough, MetThrough, ThroughDown}
use Rattle.mast_canon.specs.ConflictLaws.{IsAmong}
use Rattle.mast_canon.specs.Facts.{IsOfTables}
use Rattle.mast_canon.specs.SpecFacts.{FactsOf}
use Rattle.mast_canon.specs.Theories.{Theory, theory_of}
use Rattle.mast_canon.proofs.OverLemmas.{each_append}
use Rattle.mast_canon.proofs.SupportLemmas.{support_lies}
use Rattle.mast_join.specs.declared.extensions.Wanted.TheVariants.{SomeHits, AllHits}
use Rattle.mast_join.specs.declared.ready.Ready.{Ready}
use Rattle.mast_join.specs.declared.slices.Slice.{Slice}
use Rattle.mast_join.specs.Answers.{Extended, IsAsked, IsHitRow, IsReady, Tell, TellSomeHits, TellAllHits}
use Rattle.mast_join.specs.Extensions.{Over, TakesPart, over_of, constant_over, HasBy, HasOver, IsPairOf, union}
use Rattle.mast_join.specs.Slices.{AreSlices}
use Rattle.mast_numbers.specs.Numbered.{HasOneEach}
use Rattle.mast_rewrite.specs.Closures.{Closure}
use Rattle.mast_rewrite.specs.Rewritings.{Members}
use Rattle.mast_rewrite.proofs.ClosureLemmas.{member_smaller}
use Rattle.mast_rewrite.proofs.RewritingLemmas.{spec_rewriting}
use Rattle.mast_violate.specs.declared.violation.Violation.{Violation}
use Rattle.mast_violate.specs.Breaches.{IsBreached, Passes, violations_of}
use Rattle.mast_violate.proofs.BreachLemmas.{are_breaches}
use Rattle.mast_violate.proofs.ListLemmas.{in_place, place_in}
use Rattle.mast_check.specs.declared.breach.Breach.{Breach}
use Rattle.mast_check.specs.Checks.{HasBreachWithin, IsBreachOf}
use Rattle.mast_check.specs.inside.Judging.{passes_by}
use Rattle.mast_check.specs.inside.Pieces.{AreReady, HasBreachOfRow, IsBreachOfRow, IsBreachBy, TellsAllIn, TellsBreach, TellsBreaches, TellsFirstIn, first_there, flat, terms_of}
use Rattle.mast_check.proofs.AskedLemmas.{member_asked}
use Rattle.mast_check.proofs.FormLemmas.{spec_constants, spec_proper}
use Rattle.mast_join.proofs.HitLemmas.{gives_long, has_over, hit_of, hit_sets, numbers_long, rows_within}
use Rattle.mast_check.proofs.JudgeLemmas.{IsTestIn, passes_in, passes_out}
use Rattle.mast_check.proofs.ToldLemmas.{HasRow, IsBreachOfOne, all_told, each_told, none_told, ready_of, some_told}
use Rattle.mast_check.proofs.ViolationLemmas.{IsCheckable, checkable}

-- the violations of a specification can be checked
pub spec_checkable : (spec : Spec) → IsVocabulary spec.vocab → (v : Violation) → In v (violations_of (theory_of spec)) → IsCheckable (length spec.vocab.constants) v
spec_checkable spec vocab = checkable (theory_of spec) spec.vocab (spec_proper spec vocab) (spec_constants spec)

-- and the members of their closures are in range
pub members_asked : (spec : Spec) → IsVocabulary spec.vocab → (v : Violation) → In v (violations_of (theory_of spec)) → (m : Cq) → Closure spec.normal v.query m → IsAsked (length spec.vocab.constants) m
members_asked spec vocab v stands m c = member_asked (length spec.vocab.constants) spec.normal v.query m (spec_checkable spec vocab v stands).asked c

-- where the first that is there is none, none is there
first_none : (found : List (Option Breach)) → first_there found ≡ None → AllByRecursion (λ one. one ≡ None) found
first_none [] e = tt
first_none (None ∷ rest) e = (refl, first_none rest e)
first_none (Some breach ∷ rest) e = absurd (cc)

-- else it is one of them
first_in : (found : List (Option Breach)) (breach : Breach) → first_there found ≡ Some breach → In (Some breach) found
first_in [] breach e = absurd (cc)
first_in (None ∷ rest) breach e = inr (first_in rest breach e)
first_in (Some other ∷ rest) breach e = inl (sym e)

-- what is there at a place is the first behind it, and where nothing is there the first is behind the next
pub first_at : (found : List (Option Breach)) (i : ℕ) (d : Option Breach) → i < length found → is_some (get_or found i d) ≡ true → first_there (drop i found) ≡ get_or found i d
first_at [] i d l s = absurd (omega (arith, l))
first_at (None ∷ found) zero d l s = absurd (false≢true s)
first_at (Some breach ∷ found) zero d l s = refl
first_at (one ∷ found) (suc i) d l s = first_at found i d (omega (arith, l)) s

first_next : (found : List (Option Breach)) (i : ℕ) (d : Option Breach) → i < length found → is_some (get_or found i d) ≡ false → first_there (drop i found) ≡ first_there (drop (suc i) found)
first_next [] i d l s = absurd (omega (arith, l))
first_next (None ∷ found) zero d l s = refl
first_next (Some breach ∷ found) zero d l s = absurd (true≢false s)
first_next (one ∷ found) (suc i) d l s = first_next found i d (omega (arith, l)) s

pub first_behind : (found : List (Option Breach)) (i : ℕ) (d : Option Breach) → i < length found → is_some (get_or found i d) ≡ false → first_there (drop i found) ≡ first_there (drop (i + 1) found)
first_behind found i d l s = rw add-one (first_next found i d l s)

module _ (spec : Spec) (vocab : IsVocabulary spec.vocab) (tables : List (List Row)) (only : Option (List RowId)) (v : Violation) (stands : In v (violations_of (theory_of spec))) where
  abbrev theory : Theory
  theory = theory_of spec

  abbrev over : Over
  over = over_of spec tables only

  check : IsCheckable (length spec.vocab.constants) v
  check = spec_checkable spec vocab v stands

  -- members by the normal inclusions of the theory and of the specification
  closed_in : (m : Cq) → Members theory v.query m → Closure spec.normal v.query m
  closed_in m c = subst (λ tbox. Closure tbox v.query m) (sym spec.is_normal) c

  closed_out : (m : Cq) → Closure spec.normal v.query m → Members theory v.query m
  closed_out m c = subst (λ tbox. Closure tbox v.query m) spec.is_normal c

  through_in : (X : RowId → Type 0) (m : Cq) (tuple : List Term) → ThroughDown theory (FactsOf spec tables X) m tuple → HasThrough spec.normal (constant_over over) (FactsOf spec tables X) m tuple
  through_in X m tuple h = subst (λ tbox. HasThrough tbox (constant_over over) (FactsOf spec tables X) m tuple) (sym spec.is_normal) h

  through_out : (X : RowId → Type 0) (m : Cq) (tuple : List Term) → HasThrough spec.normal (constant_over over) (FactsOf spec tables X) m tuple → ThroughDown theory (FactsOf spec tables X) m tuple
  through_out X m tuple h = subst (λ tbox. HasThrough tbox (constant_over over) (FactsOf spec tables X) m tuple) spec.is_normal h

  -- a member that has the breaching tuple
  record HasMember (X : RowId → Type 0) : Type 0 where
    member : Cq
    closed : Closure spec.normal v.query member
    tuple : List Term
    has : HasThrough spec.normal (constant_over over) (FactsOf spec tables X) member tuple
    passes : Passes v.test tuple
    in_test : IsTestIn (length tuple) v.test

  -- atoms that have pairs are met over the facts of all rows that take part
  met_over : (under : ℕ → Term) (atoms : List Atom) (sets : List (List RowId)) → AllZip (IsPairOf over under) atoms sets
      → AllByRecursion (MetThrough spec.normal (constant_over over) (FactsOf spec tables (TakesPart tables only)) under) atoms
  met_over under [] sets z = tt
  met_over under (g ∷ atoms) [] z = absurd z
  met_over under (g ∷ atoms) (set ∷ sets) z = (
    record {
      member = z.0.member;
      below = z.0.below;
      met = record { fact = z.0.fact; matches = z.0.matches; holds = record { rows = set; support = z.0.supports.support; within = z.0.supports.within } };
    },
    met_over under atoms sets z.1,
  )

  -- so a query has there what it has by sets of rows
  has_there : (m : Cq) (tuple : List Term) (sets : List (List RowId)) → HasBy over m tuple sets → HasThrough spec.normal (constant_over over) (FactsOf spec tables (TakesPart tables only)) m tuple
  has_there m tuple sets h = record { under = h.under; each = met_over h.under m.atoms sets h.each; answers = h.answers }

  tuple_in_test : (m : Cq) → Closure spec.normal v.query m → (constant s : ℕ → Term) (tuple : List Term) → Rattle.mast_cq.specs.Meanings.Gives constant s m.answer tuple → IsTestIn (length tuple) v.test
  tuple_in_test m c constant s tuple g = subst (λ n. IsTestIn n v.test) (sym (member_smaller spec.normal v.query m c).answer ∙ gives_long constant s m.answer tuple g) check.test

  has_member : (X : RowId → Type 0) → IsBreached theory (FactsOf spec tables X) v → HasMember X
  has_member X b =
      let w = (spec_rewriting spec tables X vocab v.query b.tuple check.plain.known check.plain.sorts).0 b.certain in
      let c = closed_in w.query w.has in
      let h = through_in X w.query b.tuple w.through in
      record { member = w.query; closed = c; tuple = b.tuple; has = h; passes = b.passes; in_test = tuple_in_test w.query c (constant_over over) h.under b.tuple h.answers }

  module _ (e : Extended) (is_over : e.over ≡ over) (once : HasOneEach e.numbered) where
    -- a row of a member that passes is a breach
    row_breach : (m : Cq) → Closure spec.normal v.query m → (row : List ℕ) → IsHitRow e m row → (breach : Breach) → IsBreachOfRow e (length m.answer) v row breach → IsBreachBy spec over v breach
    row_breach m c row h breach b =
        let o = hit_of e m row h breach.hit b.hit in
        let has : HasBy over m breach.hit.terms h.sets = subst (λ x. HasBy x m breach.hit.terms h.sets) is_over o.has in
        let rows = breach.hit.rows in
        let X = IsAmong rows in
        let thr = through_out X m breach.hit.terms (has_over spec tables only m breach.hit.terms h.sets rows has (λ row' i. (o.rows row').1 i)) in
        let certain : Certain theory (FactsOf spec tables X) v.query breach.hit.terms =
        (spec_rewriting spec tables X vocab v.query breach.hit.terms check.plain.known check.plain.sorts).1 (record { query = m; has = closed_out m c; through = thr }) in
        let inside : IsTestIn (length h.tuple) v.test = subst (λ ts. IsTestIn (length ts) v.test) (sym o.same) (tuple_in_test m c (constant_over over) has.under breach.hit.terms has.answers) in
        let passing : passes_by e.numbered.terms v.test (h.first ++ h.second) ≡ true = subst (λ r. passes_by e.numbered.terms v.test r ≡ true) h.is b.passes in
        let passes : Passes v.test breach.hit.terms = subst (Passes v.test) o.same (passes_out e.numbered.terms once.terms h.first h.second h.tuple h.numbers v.test inside passing) in
        let there : Certain theory (FactsOf spec tables (TakesPart tables only)) v.query breach.hit.terms =
        (spec_rewriting spec tables (TakesPart tables only) vocab v.query breach.hit.terms check.plain.known check.plain.sorts).1
        (record { query = m; has = closed_out m c; through = through_out (TakesPart tables only) m breach.hit.terms (has_there m breach.hit.terms h.sets has) }) in
        let is : IsBreachOf spec tables only breach = record {
          broken = (are_breaches theory (FactsOf spec tables X) (spec_proper spec vocab).formed breach.origin).1 (record {
            violation = v;
            stands = stands;
            has_origin = sym b.of_origin;
            breached = record { tuple = breach.hit.terms; certain = certain; passes = passes };
          });
          within = rows_within spec tables only m breach.hit.terms h.sets rows has (λ row' i. (o.rows row').0 i);
          ordered = b.hit.ordered;
          violation = v;
          stands = stands;
          of_origin = sym b.of_origin;
          certain = certain;
          passes = passes;
        } in
        record { is = is; breached = record { tuple = breach.hit.terms; certain = there; passes = passes }; of_origin = sym b.of_origin }

    module _ (queries : List Cq) (are : (m : Cq) → Contains queries m → Closure spec.normal v.query m) (readies : List Ready) (ready : AreReady e queries readies) where
      -- what some hits tell
      some_right : (m : Cq) (r : Ready) → e.wanted ≡ SomeHits → viewed r.query ≡ m → IsReady e r → TellSomeHits e m (HasRow e r)
      some_right m r w k i = subst (λ q. TellSomeHits e q (HasRow e r)) k (subst (λ z. Tell z e (viewed r.query) (HasRow e r)) w i.tell)

      all_right : (m : Cq) (r : Ready) → e.wanted ≡ AllHits → viewed r.query ≡ m → IsReady e r → TellAllHits e m (HasRow e r)
      all_right m r w k i = subst (λ q. TellAllHits e q (HasRow e r)) k (subst (λ z. Tell z e (viewed r.query) (HasRow e r)) w i.tell)

      -- a breach of a row of one of the queries
      one_breach : ((m : Cq) (r : Ready) → viewed r.query ≡ m → IsReady e r → (row : List ℕ) → HasRow e r row → IsHitRow e m row) → (breach : Breach) → IsBreachOfOne e queries v breach → IsBreachBy spec over v breach
      one_breach right breach o =
          let b = subst (λ q. IsBreachOfRow e (length q.answer) v o.breach_of.row breach) o.are.0 o.breach_of.is in
          row_breach o.query (are o.query (in_place queries o.query o.among)) o.breach_of.row (right o.query o.ready o.are.0 o.are.1 o.breach_of.row o.breach_of.found) breach b

      module _ (all : (m : Cq) → Closure spec.normal v.query m → Contains queries m) where
        -- where no row passes, the violation is not breached
        none_breached : e.wanted ≡ SomeHits → ((place : ℕ) (r : Ready) → slice_get readies place ≡ Some r → (row : List ℕ) → HasRow e r row → passes_by e.numbered.terms v.test row ≡ false)
            → IsBreached theory (FactsOf spec tables (TakesPart tables only)) v → ⊥
        none_breached w none b =
            let h = has_member (TakesPart tables only) b in
            let r = ready_of e queries readies ready h.member (place_in queries h.member (all h.member h.closed)) in
            let t = some_right h.member r.ready w r.are.0 r.are.1 in
            let has : HasOver e.over h.member h.tuple = subst (λ x. HasOver x h.member h.tuple) (sym is_over) h.has in
            let f = t.all h.tuple has in
            let passing = passes_in e.numbered.terms once.terms f.first f.second h.tuple f.numbers v.test h.in_test h.passes in
            false≢true (sym (none r.place r.ready r.stands (f.first ++ f.second) f.found) ∙ passing)

        -- what the slices tell of a violation, where some hits are wanted
        pub breach_told : (slices : List Slice) (found : List (Option Breach)) (result : Option Breach) → e.wanted ≡ SomeHits → AreSlices 0 readies slices
            → AllZip (TellsFirstIn e readies v) slices found → result ≡ first_there found → TellsBreach spec over v result
        breach_told slices found None w cut told first = none_breached w (none_told e queries readies v slices ready cut found told (first_none found (sym first)))
        breach_told slices found (Some breach) w cut told first =
            one_breach (λ m r k i row a. (some_right m r w k i).right row a) breach (some_told e queries readies v slices ready cut found told breach (first_in found breach (sym first)))

        -- a query that has a tuple over the facts of rows has it by sets of these
        module _ (whole : only ≡ None) (rows : List RowId) where
          record HasSets (q : Cq) (tuple : List Term) : Type 0 where
            sets : List (List RowId)
            by : HasBy over q tuple sets
            within : AllByRecursion (IsAmong rows) (union sets)

          record AtomsHave (under : ℕ → Term) (atoms : List Atom) : Type 0 where
            sets : List (List RowId)
            each : AllZip (IsPairOf over under) atoms sets
            within : AllByRecursion (IsAmong rows) (union sets)

          takes_part : (set : List RowId) → AllByRecursion (IsOfTables tables) set → AllByRecursion (TakesPart tables only) set
          takes_part set h = subst (λ o. AllByRecursion (TakesPart tables o) set) (sym whole) h

          atoms_have : (under : ℕ → Term) (atoms : List Atom) → AllByRecursion (MetThrough spec.normal (constant_over over) (FactsOf spec tables (IsAmong rows)) under) atoms → AtomsHave under atoms
          atoms_have under [] h = record { sets = []; each = tt; within = tt }
          atoms_have under (g ∷ atoms) h =
              let m = h.0 in
              let f = m.met.holds in
              let w = atoms_have under atoms h.1 in
              let lies = support_lies spec.tables tables spec.maps m.met.fact f.rows f.support in
              record {
                sets = f.rows ∷ w.sets;
                each = (record { member = m.member; below = m.below; fact = m.met.fact; matches = m.met.matches; supports = record { support = f.support; within = takes_part f.rows lies } }, w.each);
                within = each_append (IsAmong rows) f.rows (union w.sets) f.within w.within;
              }

          has_sets : (q : Cq) (tuple : List Term) → HasThrough spec.normal (constant_over over) (FactsOf spec tables (IsAmong rows)) q tuple → HasSets q tuple
          has_sets q tuple h = let w = atoms_have h.under q.atoms h.each in record { sets = w.sets; by = record { under = h.under; each = w.each; answers = h.answers }; within = w.within }

          -- where the violation is breached over the facts of the rows, a breach has its rows among them
          breach_within : e.wanted ≡ AllHits → (list : List Breach)
              → ((place : ℕ) (r : Ready) → slice_get readies place ≡ Some r → (row : List ℕ) → HasRow e r row → passes_by e.numbered.terms v.test row ≡ true → HasBreachOfRow e (terms_of r) v list row)
              → IsBreached theory (FactsOf spec tables (IsAmong rows)) v → HasBreachWithin rows list
          breach_within w list told b =
              let h = has_member (IsAmong rows) b in
              let s = has_sets h.member h.tuple h.has in
              let r = ready_of e queries readies ready h.member (place_in queries h.member (all h.member h.closed)) in
              let t = all_right h.member r.ready w r.are.0 r.are.1 in
              let f = t.all h.tuple s.sets (subst (λ x. HasBy x h.member h.tuple s.sets) (sym is_over) s.by) in
              let passing = passes_in e.numbered.terms once.terms f.first f.second h.tuple f.numbers v.test h.in_test h.passes in
              let k = told r.place r.ready r.stands (f.first ++ f.second) f.found passing in
              let long : terms_of r.ready ≡ length f.first =
              ap (λ q. length q.answer) r.are.0 ∙ (gives_long (constant_over over) h.has.under h.member.answer h.tuple h.has.answers ∙ sym (numbers_long e.numbered.terms f.first h.tuple f.numbers)) in
              let same = hit_sets e (terms_of r.ready) f.first f.second f.sets k.breach.hit long f.set_numbers k.is.hit in
              record {
                breach = k.breach;
                stands = k.stands;
                within = in_each (IsAmong rows) k.breach.hit.rows (λ row i.
                    each_in (IsAmong rows) row (union s.sets) s.within (each_in (λ x. In x (union s.sets)) row (union f.sets) f.has ((same row).0 i)));
              }

        -- what the slices tell of a violation, where all hits are wanted
        pub breaches_told : only ≡ None → (slices : List Slice) (found : List (List Breach)) → e.wanted ≡ AllHits → AreSlices 0 readies slices
            → AllZip (TellsAllIn e readies v) slices found → TellsBreaches spec over (v ∷ []) (flat found)
        breaches_told whole slices found w cut told = record {
          each = in_each (IsBreachOf spec tables only) (flat found) (λ b i. (one_breach (λ m r k j row a. (all_right m r w k j).right row a) b (each_told e queries readies v slices ready cut found told b i)).is);
          all = λ v' i rows b. breach_within whole rows w (flat found) (all_told e queries readies v slices ready cut found told) (one_only v' i rows b);
        }
          where
            one_only : (v' : Violation) → In v' (v ∷ []) → (rows : List RowId) → IsBreached theory (FactsOf spec tables (IsAmong rows)) v' → IsBreached theory (FactsOf spec tables (IsAmong rows)) v
            one_only v' (inl k) rows b = subst (IsBreached theory (FactsOf spec tables (IsAmong rows))) k b
            one_only v' (inr i) rows b = absurd i
