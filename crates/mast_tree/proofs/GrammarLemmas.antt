-- The parser goes exactly where some document goes.
use Rattle.std.proofs.Common.{◌≡◌, ℕ, zero, suc, true, List, ◌∷◌, [], ◌++◌, refl, ap, sym, ◌∙◌, append_assoc}
use Rattle.std.proofs.lemmas.List.{append-nil}
use Rattle.mast_source.specs.Grammar.{Begins}
use Rattle.mast_tree.specs.declared.token.TokenKind.{TokenKind}
use Rattle.mast_tree.specs.declared.token.TokenKind.TheVariants.{Open, Close, Equals, Carets, Lang, Iri, Name, Str}
use Rattle.mast_tree.specs.declared.parser.ParseState.{ParseState}
use Rattle.mast_tree.specs.declared.parser.ParseState.TheVariants.{Item, AfterName, AfterStr, AfterCarets, AfterEquals}
use Rattle.mast_tree.specs.Grammar.{Items, done, name, iri, str, str_lang, str_name, str_iri, bind, node, kinds_of, IsDocument, Spells}
use Rattle.mast_tree.specs.inside.Parser.{Configuration, stuck, at, item_step, step, run, ends}

-- what may stand after the items when so many parentheses are open
abbrev pub End : ℕ → List TokenKind → Type 0
End zero rest = rest ≡ []
End (suc d) rest = (after : List TokenKind) × (items : Items) × (more : List TokenKind) × (rest ≡ Close ∷ after) × (after ≡ kinds_of items ++ more) × End d more

-- what may come where an item may begin
abbrev pub Tail : ℕ → List TokenKind → Type 0
Tail d ks = (items : Items) × (rest : List TokenKind) × (ks ≡ kinds_of items ++ rest) × End d rest

-- the kinds that were read of an item that is not whole
abbrev pub pending : ParseState → List TokenKind
pending Item = []
pending AfterName = Name ∷ []
pending AfterStr = Str ∷ []
pending AfterCarets = Str ∷ Carets ∷ []
pending AfterEquals = Name ∷ Equals ∷ []

-- what may come at a state
abbrev pub After : Configuration → List TokenKind → Type 0
After stuck ks = ⊥
After (at p d) ks = Tail d (pending p ++ ks)

-- back: a step and what may come after it

put_name : (d : ℕ) (ks : List TokenKind) → Tail d ks → Tail d (Name ∷ ks)
put_name d ks t = (name t.0, t.1, ap (λ x. Name ∷ x) t.2, t.3)

put_iri : (d : ℕ) (ks : List TokenKind) → Tail d ks → Tail d (Iri ∷ ks)
put_iri d ks t = (iri t.0, t.1, ap (λ x. Iri ∷ x) t.2, t.3)

put_str : (d : ℕ) (ks : List TokenKind) → Tail d ks → Tail d (Str ∷ ks)
put_str d ks t = (str t.0, t.1, ap (λ x. Str ∷ x) t.2, t.3)

put_lang : (d : ℕ) (ks : List TokenKind) → Tail d ks → Tail d (Str ∷ Lang ∷ ks)
put_lang d ks t = (str_lang t.0, t.1, ap (λ x. Str ∷ Lang ∷ x) t.2, t.3)

put_str_name : (d : ℕ) (ks : List TokenKind) → Tail d ks → Tail d (Str ∷ Carets ∷ Name ∷ ks)
put_str_name d ks t = (str_name t.0, t.1, ap (λ x. Str ∷ Carets ∷ Name ∷ x) t.2, t.3)

put_str_iri : (d : ℕ) (ks : List TokenKind) → Tail d ks → Tail d (Str ∷ Carets ∷ Iri ∷ ks)
put_str_iri d ks t = (str_iri t.0, t.1, ap (λ x. Str ∷ Carets ∷ Iri ∷ x) t.2, t.3)

put_bind : (d : ℕ) (ks : List TokenKind) → Tail d ks → Tail d (Name ∷ Equals ∷ Iri ∷ ks)
put_bind d ks t = (bind t.0, t.1, ap (λ x. Name ∷ Equals ∷ Iri ∷ x) t.2, t.3)

put_close : (d : ℕ) (ks : List TokenKind) → Tail d ks → Tail (suc d) (Close ∷ ks)
put_close d ks t = (done, Close ∷ ks, refl, (ks, t.0, t.1, refl, t.2, t.3))

-- the kinds of a node, and those that follow
pub node_kinds : (inside more : Items) (rest : List TokenKind) → kinds_of (node inside more) ++ rest ≡ Name ∷ Open ∷ (kinds_of inside ++ (Close ∷ (kinds_of more ++ rest)))
node_kinds inside more rest = ap (λ x. Name ∷ Open ∷ x) (append_assoc (kinds_of inside) (Close ∷ kinds_of more) rest)

put_node : (d : ℕ) (ks : List TokenKind) → Tail (suc d) ks → Tail d (Name ∷ Open ∷ ks)
put_node d ks t =
    let e = t.3 in
    let first : t.1 ≡ Close ∷ (kinds_of e.1 ++ e.2) = e.3 ∙ ap (λ x. Close ∷ x) e.4 in
    let same : ks ≡ kinds_of t.0 ++ (Close ∷ (kinds_of e.1 ++ e.2)) = t.2 ∙ ap (λ x. kinds_of t.0 ++ x) first in
    (node t.0 e.1, e.2, ap (λ x. Name ∷ Open ∷ x) same ∙ sym (node_kinds t.0 e.1 e.2), e.5)

item_back : (d : ℕ) (k : TokenKind) (ks : List TokenKind) → After (item_step d k) ks → Tail d (k ∷ ks)
item_back d Name ks h = h
item_back d Iri ks h = put_iri d ks h
item_back d Str ks h = h
item_back zero Close ks h = absurd h
item_back (suc d) Close ks h = put_close d ks h
item_back d Open ks h = absurd h
item_back d Equals ks h = absurd h
item_back d Carets ks h = absurd h
item_back d Lang ks h = absurd h

-- what may come behind a kind may come with it
pub back : (p : ParseState) (d : ℕ) (k : TokenKind) (ks : List TokenKind) → After (step p d k) ks → After (at p d) (k ∷ ks)
back Item d k ks h = item_back d k ks h
back AfterName d Equals ks h = h
back AfterName d Open ks h = put_node d ks h
back AfterName d k ks h = put_name d (k ∷ ks) (item_back d k ks h)
back AfterStr d Carets ks h = h
back AfterStr d Lang ks h = put_lang d ks h
back AfterStr d k ks h = put_str d (k ∷ ks) (item_back d k ks h)
back AfterCarets d Name ks h = put_str_name d ks h
back AfterCarets d Iri ks h = put_str_iri d ks h
back AfterCarets d k ks h = absurd h
back AfterEquals d Iri ks h = put_bind d ks h
back AfterEquals d k ks h = absurd h

pub back_run : (s : Configuration) (ks more : List TokenKind) → After (run s ks) more → After s (ks ++ more)
back_run s [] more h = h
back_run stuck (k ∷ ks) more h = absurd h
back_run (at p d) (k ∷ ks) more h = back p d k (ks ++ more) (back_run (step p d k) ks more h)

-- forth: what may come, and the step

-- what ends nodes begins with a parenthesis that closes
pub front_is : (d : ℕ) (k : TokenKind) (ks rest : List TokenKind) → k ∷ ks ≡ rest → End d rest → k ≡ Close
front_is zero k ks rest e h = absurd (cc)
front_is (suc d) k ks rest e h = let f = h.3 in cc

-- items and the ends of nodes begin with no parenthesis that opens
pub no_open : (items : Items) (d : ℕ) (ks rest : List TokenKind) → Open ∷ ks ≡ kinds_of items ++ rest → End d rest → ⊥
no_open done d ks rest e h = let c = front_is d Open ks rest e h in cc
no_open _ d ks rest e h = cc

-- nor with `=`
pub no_equals : (items : Items) (d : ℕ) (ks rest : List TokenKind) → Equals ∷ ks ≡ kinds_of items ++ rest → End d rest → ⊥
no_equals done d ks rest e h = let c = front_is d Equals ks rest e h in cc
no_equals _ d ks rest e h = cc

-- nor with `^^`
pub no_carets : (items : Items) (d : ℕ) (ks rest : List TokenKind) → Carets ∷ ks ≡ kinds_of items ++ rest → End d rest → ⊥
no_carets done d ks rest e h = let c = front_is d Carets ks rest e h in cc
no_carets _ d ks rest e h = cc

-- nor with a language
pub no_lang : (items : Items) (d : ℕ) (ks rest : List TokenKind) → Lang ∷ ks ≡ kinds_of items ++ rest → End d rest → ⊥
no_lang done d ks rest e h = let c = front_is d Lang ks rest e h in cc
no_lang _ d ks rest e h = cc

take_iri : (items : Items) (d : ℕ) (ks rest : List TokenKind) → Iri ∷ ks ≡ kinds_of items ++ rest → End d rest → Tail d ks
take_iri (iri m) d ks rest e h = (m, rest, cc, h)
take_iri done d ks rest e h = let c = front_is d Iri ks rest e h in absurd (cc)
take_iri _ d ks rest e h = absurd (cc)

take_close : (d : ℕ) (items : Items) (ks rest : List TokenKind) → Close ∷ ks ≡ kinds_of items ++ rest → End d rest → After (item_step d Close) ks
take_close zero done ks rest e h = cc
take_close (suc d) done ks rest e h = let f = h.3 in let g = h.4 in (h.1, h.2, cc, h.5)
take_close zero _ ks rest e h = cc
take_close (suc d) _ ks rest e h = absurd (cc)

item_forth : (d : ℕ) (k : TokenKind) (ks : List TokenKind) → Tail d (k ∷ ks) → After (item_step d k) ks
item_forth d Name ks t = t
item_forth d Iri ks t = take_iri t.0 d ks t.1 t.2 t.3
item_forth d Str ks t = t
item_forth zero Close ks t = take_close zero t.0 ks t.1 t.2 t.3
item_forth (suc d) Close ks t = take_close (suc d) t.0 ks t.1 t.2 t.3
item_forth d Open ks t = no_open t.0 d ks t.1 t.2 t.3
item_forth d Equals ks t = no_equals t.0 d ks t.1 t.2 t.3
item_forth d Carets ks t = no_carets t.0 d ks t.1 t.2 t.3
item_forth d Lang ks t = no_lang t.0 d ks t.1 t.2 t.3

-- after a name: it stands alone, or what follows shows which form it begins
name_alone : (d : ℕ) (k : TokenKind) (ks : List TokenKind) → (k ≡ Equals → ⊥) → (k ≡ Open → ⊥) → Tail d (Name ∷ k ∷ ks) → Tail d (k ∷ ks)
name_alone d k ks a b t = go t.0 t.2
  where
    go : (items : Items) → Name ∷ k ∷ ks ≡ kinds_of items ++ t.1 → Tail d (k ∷ ks)
    go (name m) e = (m, t.1, cc, t.3)
    go done e = let c = front_is d Name (k ∷ ks) t.1 e t.3 in absurd (cc)
    go (bind m) e = absurd (a (cc))
    go (node inside m) e = absurd (b (cc))
    go _ e = absurd (cc)

name_open : (d : ℕ) (ks : List TokenKind) → Tail d (Name ∷ Open ∷ ks) → Tail (suc d) ks
name_open d ks t = go t.0 t.2
  where
    go : (items : Items) → Name ∷ Open ∷ ks ≡ kinds_of items ++ t.1 → Tail (suc d) ks
    go (name m) e = absurd (no_open m d ks t.1 (cc) t.3)
    go done e = let c = front_is d Name (Open ∷ ks) t.1 e t.3 in absurd (cc)
    go (node inside m) e =
        let f : Name ∷ Open ∷ ks ≡ Name ∷ Open ∷ (kinds_of inside ++ (Close ∷ (kinds_of m ++ t.1))) = e ∙ node_kinds inside m t.1 in
        (inside, Close ∷ (kinds_of m ++ t.1), cc, (kinds_of m ++ t.1, m, t.1, refl, refl, t.3))
    go _ e = absurd (cc)

str_alone : (d : ℕ) (k : TokenKind) (ks : List TokenKind) → (k ≡ Carets → ⊥) → (k ≡ Lang → ⊥) → Tail d (Str ∷ k ∷ ks) → Tail d (k ∷ ks)
str_alone d k ks a b t = go t.0 t.2
  where
    go : (items : Items) → Str ∷ k ∷ ks ≡ kinds_of items ++ t.1 → Tail d (k ∷ ks)
    go (str m) e = (m, t.1, cc, t.3)
    go done e = let c = front_is d Str (k ∷ ks) t.1 e t.3 in absurd (cc)
    go (str_lang m) e = absurd (b (cc))
    go (str_name m) e = absurd (a (cc))
    go (str_iri m) e = absurd (a (cc))
    go _ e = absurd (cc)

take_lang : (d : ℕ) (ks : List TokenKind) → Tail d (Str ∷ Lang ∷ ks) → Tail d ks
take_lang d ks t = go t.0 t.2
  where
    go : (items : Items) → Str ∷ Lang ∷ ks ≡ kinds_of items ++ t.1 → Tail d ks
    go (str m) e = absurd (no_lang m d ks t.1 (cc) t.3)
    go done e = let c = front_is d Str (Lang ∷ ks) t.1 e t.3 in absurd (cc)
    go (str_lang m) e = (m, t.1, cc, t.3)
    go _ e = absurd (cc)

carets_forth : (d : ℕ) (k : TokenKind) (ks : List TokenKind) → Tail d (Str ∷ Carets ∷ k ∷ ks) → After (step AfterCarets d k) ks
carets_forth d k ks t = go t.0 k t.2
  where
    go : (items : Items) (k : TokenKind) → Str ∷ Carets ∷ k ∷ ks ≡ kinds_of items ++ t.1 → After (step AfterCarets d k) ks
    go (str m) k e = absurd (no_carets m d (k ∷ ks) t.1 (cc) t.3)
    go done k e = let c = front_is d Str (Carets ∷ k ∷ ks) t.1 e t.3 in absurd (cc)
    go (str_name m) Name e = (m, t.1, cc, t.3)
    go (str_iri m) Iri e = (m, t.1, cc, t.3)
    go _ k e = absurd (cc)

equals_forth : (d : ℕ) (k : TokenKind) (ks : List TokenKind) → Tail d (Name ∷ Equals ∷ k ∷ ks) → After (step AfterEquals d k) ks
equals_forth d k ks t = go t.0 k t.2
  where
    go : (items : Items) (k : TokenKind) → Name ∷ Equals ∷ k ∷ ks ≡ kinds_of items ++ t.1 → After (step AfterEquals d k) ks
    go (name m) k e = absurd (no_equals m d (k ∷ ks) t.1 (cc) t.3)
    go done k e = let c = front_is d Name (Equals ∷ k ∷ ks) t.1 e t.3 in absurd (cc)
    go (bind m) Iri e = (m, t.1, cc, t.3)
    go _ k e = absurd (cc)

pub forth : (p : ParseState) (d : ℕ) (k : TokenKind) (ks : List TokenKind) → After (at p d) (k ∷ ks) → After (step p d k) ks
forth Item d k ks t = item_forth d k ks t
forth AfterName d Equals ks t = t
forth AfterName d Open ks t = name_open d ks t
forth AfterName d k ks t = item_forth d k ks (name_alone d k ks (λ e. cc) (λ e. cc) t)
forth AfterStr d Carets ks t = t
forth AfterStr d Lang ks t = take_lang d ks t
forth AfterStr d k ks t = item_forth d k ks (str_alone d k ks (λ e. cc) (λ e. cc) t)
forth AfterCarets d k ks t = carets_forth d k ks t
forth AfterEquals d k ks t = equals_forth d k ks t

pub forth_run : (s : Configuration) (ks more : List TokenKind) → After s (ks ++ more) → After (run s ks) more
forth_run s [] more h = h
forth_run stuck (k ∷ ks) more h = absurd h
forth_run (at p d) (k ∷ ks) more h = forth_run (step p d k) ks more (forth p d k (ks ++ more) h)

-- each state can be completed

-- the parentheses that close
abbrev pub closing : ℕ → List TokenKind
closing zero = []
closing (suc d) = Close ∷ closing d

closes : (d : ℕ) → Tail d (closing d)
closes zero = (done, [], refl, refl)
closes (suc d) = put_close d (closing d) (closes d)

abbrev pub completion : ParseState → ℕ → List TokenKind
completion AfterCarets d = Iri ∷ closing d
completion AfterEquals d = Iri ∷ closing d
completion p d = closing d

completes : (p : ParseState) (d : ℕ) → After (at p d) (completion p d)
completes Item d = closes d
completes AfterName d = put_name d (closing d) (closes d)
completes AfterStr d = put_str d (closing d) (closes d)
completes AfterCarets d = put_str_iri d (closing d) (closes d)
completes AfterEquals d = put_bind d (closing d) (closes d)

-- there is a way on
abbrev pub Goes : Configuration → Type 0
Goes stuck = ⊥
Goes (at p d) = Unit {0}

goes_on : (s : Configuration) → Goes s → (more : List TokenKind) × After s more
goes_on stuck h = absurd h
goes_on (at p d) h = (completion p d, completes p d)

went : (s : Configuration) (more : List TokenKind) → After s more → Goes s
went stuck more h = h
went (at p d) more h = tt

-- a document is what may come at the start
document_after : (ks : List TokenKind) → IsDocument ks → After (at Item zero) ks
document_after ks h = (h.0, [], h.1 ∙ sym (append-nil (kinds_of h.0)), refl)

after_document : (ks : List TokenKind) → After (at Item zero) ks → IsDocument ks
after_document ks t = (t.0, t.2 ∙ ap (λ x. kinds_of t.0 ++ x) t.3 ∙ append-nil (kinds_of t.0))

-- what begins a document the parser goes on with
pub begins_goes : (ks : List TokenKind) → Begins Spells ks → Goes (run (at Item zero) ks)
begins_goes ks h = went (run (at Item zero) ks) h.0 (forth_run (at Item zero) ks h.0 (document_after (ks ++ h.0) (h.1, h.2)))

-- what the parser goes on with begins a document
pub goes_begins : (ks : List TokenKind) → Goes (run (at Item zero) ks) → Begins Spells ks
goes_begins ks h = let g = goes_on (run (at Item zero) ks) h in let d = after_document (ks ++ g.0) (back_run (at Item zero) ks g.0 g.1) in (g.0, d.0, d.1)

-- where a document may end
pub ends_after : (p : ParseState) (d : ℕ) → ends (at p d) ≡ true → After (at p d) []
ends_after Item zero h = closes zero
ends_after AfterName zero h = put_name zero [] (closes zero)
ends_after AfterStr zero h = put_str zero [] (closes zero)
ends_after Item (suc d) h = absurd (cc)
ends_after AfterName (suc d) h = absurd (cc)
ends_after AfterStr (suc d) h = absurd (cc)
ends_after AfterCarets d h = absurd (cc)
ends_after AfterEquals d h = absurd (cc)

one_end : (d : ℕ) (items : Items) (rest : List TokenKind) → [] ≡ kinds_of items ++ rest → End (suc d) rest → ⊥
one_end d done rest e h = let f = h.3 in cc
one_end d _ rest e h = cc

name_end : (d : ℕ) (items : Items) (rest : List TokenKind) → Name ∷ [] ≡ kinds_of items ++ rest → End (suc d) rest → ⊥
name_end d (name m) rest e h = one_end d m rest (cc) h
name_end d done rest e h = let f = h.3 in cc
name_end d _ rest e h = cc

str_end : (d : ℕ) (items : Items) (rest : List TokenKind) → Str ∷ [] ≡ kinds_of items ++ rest → End (suc d) rest → ⊥
str_end d (str m) rest e h = one_end d m rest (cc) h
str_end d done rest e h = let f = h.3 in cc
str_end d _ rest e h = cc

carets_end : (d : ℕ) (items : Items) (rest : List TokenKind) → Str ∷ Carets ∷ [] ≡ kinds_of items ++ rest → End d rest → ⊥
carets_end d (str m) rest e h = no_carets m d [] rest (cc) h
carets_end d done rest e h = let c = front_is d Str (Carets ∷ []) rest e h in cc
carets_end d _ rest e h = cc

equals_end : (d : ℕ) (items : Items) (rest : List TokenKind) → Name ∷ Equals ∷ [] ≡ kinds_of items ++ rest → End d rest → ⊥
equals_end d (name m) rest e h = no_equals m d [] rest (cc) h
equals_end d done rest e h = let c = front_is d Name (Equals ∷ []) rest e h in cc
equals_end d _ rest e h = cc

pub after_ends : (p : ParseState) (d : ℕ) → After (at p d) [] → ends (at p d) ≡ true
after_ends Item zero t = refl
after_ends AfterName zero t = refl
after_ends AfterStr zero t = refl
after_ends Item (suc d) t = absurd (one_end d t.0 t.1 t.2 t.3)
after_ends AfterName (suc d) t = absurd (name_end d t.0 t.1 t.2 t.3)
after_ends AfterStr (suc d) t = absurd (str_end d t.0 t.1 t.2 t.3)
after_ends AfterCarets d t = absurd (carets_end d t.0 t.1 t.2 t.3)
after_ends AfterEquals d t = absurd (equals_end d t.0 t.1 t.2 t.3)

state_ends : (s : Configuration) → After s [] → ends s ≡ true
state_ends stuck t = absurd t
state_ends (at p d) t = after_ends p d t

ends_state : (s : Configuration) → ends s ≡ true → After s []
ends_state stuck h = absurd (cc)
ends_state (at p d) h = ends_after p d h

-- behind a document it may end
pub document_ends : (ks : List TokenKind) → IsDocument ks → ends (run (at Item zero) ks) ≡ true
document_ends ks h = state_ends (run (at Item zero) ks) (forth_run (at Item zero) ks [] (rw append-nil (document_after ks h)))

-- where it may end stands a document
pub ends_document : (ks : List TokenKind) → ends (run (at Item zero) ks) ≡ true → IsDocument ks
ends_document ks h = after_document ks (let b = back_run (at Item zero) ks [] (ends_state (run (at Item zero) ks) h) in rw append-nil at b)
