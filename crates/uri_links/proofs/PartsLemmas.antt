-- The parts of a reference are one, and together they are its text.
use Rattle.std.proofs.Common.{◌≡◌, ℕ, zero, suc, Bool, true, false, ◌||◌, cond, eqb, List, [], ◌∷◌, ◌++◌, drop, Option, None, Some, refl, ap, sym, ◌∙◌, unwrap_or, IfSome, IsSome, codes}
use Rattle.std.proofs.lemmas.List.{append_assoc, append-nil}
use Rattle.std.proofs.lemmas.Bool.{false≢true, or_parts, or_from}
use Rattle.uri_links.specs.Split.{has, before, from, after, colon, slash, question, hash}
use Rattle.uri_links.specs.Parts.{Parts, parts, recompose, scheme_text, authority_text, query_text, fragment_text, has_scheme, scheme_of, after_scheme, has_authority, authority_of, path_of, HasNone, IsEmptyOrRooted, AreParts}
use Rattle.std.proofs.lemmas.Bool.Decides.{Decides-eqb}
use Rattle.std.proofs.lemmas.Slice.Eq.{starts_is}
use Rattle.uri_links.proofs.SplitLemmas.{before-none, after-none, before-past, from-past, before-split, after-split, from-split, before-within, no-before, no-append, has-inside, parted, from-marked, marked, none_after, has-before, no-after, no-from, rooted-from, some_none}

pub parts-built : (text front body hier : List ℕ) (scheme authority : Option (List ℕ)) (path : List ℕ) (query fragment : Option (List ℕ))
    → front ≡ before hash text → fragment ≡ after hash text → body ≡ before question front → query ≡ after question front
    → scheme ≡ scheme_of body → hier ≡ after_scheme body → authority ≡ authority_of hier → path ≡ path_of hier
    → (let p : Parts = record { scheme = scheme; authority = authority; path = path; query = query; fragment = fragment } in p) ≡ parts text
unfolding parts
parts-built text front body hier scheme authority path query fragment a b d e f g h i = cc

-- where a colon stands before any slash, the scheme ends there
pub scheme-found : (body scheme hier : List ℕ) → body ≡ scheme ++ colon ∷ hier → has colon scheme ≡ false → has slash scheme ≡ false
    → (scheme_of body ≡ Some scheme) × (after_scheme body ≡ hier)
scheme-found body scheme hier e n s =
    let stands : has_scheme body ≡ true =
    ap (λ t. has colon (before slash t)) e ∙ (ap (has colon) (before-past slash scheme (colon ∷ hier) s) ∙ has-inside colon scheme (before slash hier)) in (
      ap (λ b. cond b (Some (before colon body)) None) stands ∙ ap Some (before-split colon body scheme hier e n),
      ap (λ b. cond b (unwrap_or (after colon body) []) body) stands ∙ ap (λ o. unwrap_or o []) (after-split colon body scheme hier e n),
    )

pub scheme-none : (body : List ℕ) → has_scheme body ≡ false → (scheme_of body ≡ None) × (after_scheme body ≡ body)
scheme-none body none =
    (ap (λ b. cond b (Some (before colon body)) None) none, ap (λ b. cond b (unwrap_or (after colon body) []) body) none)

-- no colon at all, or none before the first slash
pub none-without_colon : (body : List ℕ) → has colon body ≡ false → has_scheme body ≡ false
none-without_colon body h = no-before colon slash body h

pub none-behind_slash : (body front back : List ℕ) → body ≡ front ++ colon ∷ back → has colon front ≡ false → has slash front ≡ true → has_scheme body ≡ false
none-behind_slash body front back e n s =
    ap (λ t. has colon (before slash t)) e ∙ (ap (has colon) (before-within slash front (colon ∷ back) s) ∙ no-before colon slash front n)

-- a text, and what stands behind its first mark
marked-whole : (c : ℕ) (text : List ℕ) → text ≡ before c text ++ marked c (after c text)
marked-whole c text = sym (parted c text) ∙ ap (λ l. before c text ++ l) (from-marked c text)

before-marked : (c : ℕ) (front : List ℕ) (o : Option (List ℕ)) → has c front ≡ false → before c (front ++ marked c o) ≡ front
before-marked c front None h = ap (before c) (append-nil front) ∙ before-none c front h
before-marked c front (Some back) h = before-split c (front ++ c ∷ back) front back refl h

after-marked : (c : ℕ) (front : List ℕ) (o : Option (List ℕ)) → has c front ≡ false → after c (front ++ marked c o) ≡ o
after-marked c front None h = ap (after c) (append-nil front) ∙ after-none c front h
after-marked c front (Some back) h = after-split c (front ++ c ∷ back) front back refl h

query-marked : (o : Option (List ℕ)) → query_text o ≡ marked question o
query-marked None = refl
query-marked (Some q) = refl

fragment-marked : (o : Option (List ℕ)) → fragment_text o ≡ marked hash o
fragment-marked None = refl
fragment-marked (Some f) = refl

no-marked : (d c : ℕ) (o : Option (List ℕ)) → eqb c d ≡ false → IfSome o (λ t. has d t ≡ false) → has d (marked c o) ≡ false
no-marked d c None e h = refl
no-marked d c (Some t) e h = or_from (eqb c d) (has d t) e h

-- a scheme and what comes behind it
scheme-text : (scheme : Option (List ℕ)) (hier : List ℕ) → IfSome scheme (HasNone (codes ":/?#")) → (scheme ≡ None → has_scheme hier ≡ false)
    → (scheme_of (scheme_text scheme ++ hier) ≡ scheme) × (after_scheme (scheme_text scheme ++ hier) ≡ hier)
scheme-text None hier h plain = scheme-none hier (plain refl)
scheme-text (Some scheme) hier h plain =
    scheme-found ((scheme ++ codes ":") ++ hier) scheme hier (append_assoc scheme (codes ":") hier) h.0 h.1.0

no-scheme_text : (d : ℕ) (scheme : Option (List ℕ)) → eqb colon d ≡ false → IfSome scheme (λ s. has d s ≡ false) → has d (scheme_text scheme) ≡ false
no-scheme_text d None e h = refl
no-scheme_text d (Some s) e h = no-append d s (codes ":") h (or_from (eqb colon d) false e refl)

IfSome-map : {A : Type 0} (o : Option A) (P Q : A → Type 0) → ((x : A) → P x → Q x) → IfSome o P → IfSome o Q
IfSome-map None P Q f h = tt
IfSome-map (Some x) P Q f h = f x h

-- the parts of a text that was put together
pub parts-apart : (scheme : Option (List ℕ)) (hier : List ℕ) (query fragment : Option (List ℕ))
    → IfSome scheme (HasNone (codes ":/?#")) → (scheme ≡ None → has_scheme hier ≡ false)
    → has question hier ≡ false → has hash hier ≡ false → IfSome query (λ q. has hash q ≡ false)
    → parts (scheme_text scheme ++ (hier ++ (query_text query ++ fragment_text fragment)))
    ≡ (let p : Parts = record { scheme = scheme; authority = authority_of hier; path = path_of hier; query = query; fragment = fragment } in p)
parts-apart scheme hier query fragment s plain q h n =
    let body : List ℕ = scheme_text scheme ++ hier in
    let front : List ℕ = body ++ marked question query in
    let text : List ℕ = scheme_text scheme ++ (hier ++ (query_text query ++ fragment_text fragment)) in
    let whole : text ≡ front ++ marked hash fragment =
    ap (λ l. scheme_text scheme ++ (hier ++ l)) (ap (λ a. a ++ fragment_text fragment) (query-marked query) ∙ ap (λ b. marked question query ++ b) (fragment-marked fragment))
    ∙ (sym (append_assoc (scheme_text scheme) hier (marked question query ++ marked hash fragment))
    ∙ sym (append_assoc body (marked question query) (marked hash fragment))) in
    let body_question : has question body ≡ false = no-append question (scheme_text scheme) hier (no-scheme_text question scheme refl (IfSome-map scheme (HasNone (codes ":/?#")) (λ t. has question t ≡ false) (λ t m. m.1.1.0) s)) q in
    let body_hash : has hash body ≡ false = no-append hash (scheme_text scheme) hier (no-scheme_text hash scheme refl (IfSome-map scheme (HasNone (codes ":/?#")) (λ t. has hash t ≡ false) (λ t m. m.1.1.1.0) s)) h in
    let front_hash : has hash front ≡ false = no-append hash body (marked question query) body_hash (no-marked hash question query refl n) in
    let cut = scheme-text scheme hier s plain in
    sym (parts-built text front body hier scheme (authority_of hier) (path_of hier) query fragment
    (sym (ap (before hash) whole ∙ before-marked hash front fragment front_hash))
    (sym (ap (after hash) whole ∙ after-marked hash front fragment front_hash))
    (sym (before-marked question body query body_question))
    (sym (after-marked question body query body_question))
    (sym cut.0) (sym cut.1) refl refl)

-- an authority and the path behind it
authority-text : (authority : Option (List ℕ)) (path : List ℕ) → IfSome authority (λ a. has slash a ≡ false)
    → (IsSome authority → IsEmptyOrRooted path) → (authority ≡ None → has_authority path ≡ false)
    → (authority_of (authority_text authority ++ path) ≡ authority) × (path_of (authority_text authority ++ path) ≡ path)
authority-text None path n rooted single =
    (ap (λ b. cond b (Some (before slash (drop 2 path))) None) (single refl), ap (λ b. cond b (from slash (drop 2 path)) path) (single refl))
authority-text (Some a) path n rooted single = (ap Some (front path (rooted refl)), back path (rooted refl))
  where
    front : (path : List ℕ) → IsEmptyOrRooted path → before slash (a ++ path) ≡ a
    front [] r = before-past slash a [] n ∙ append-nil a
    front (x ∷ path) r = before-split slash (a ++ x ∷ path) a path (ap (λ y. a ++ y ∷ path) r) n

    back : (path : List ℕ) → IsEmptyOrRooted path → from slash (a ++ path) ≡ path
    back [] r = from-past slash a [] n
    back (x ∷ path) r = from-split slash (a ++ x ∷ path) a path (ap (λ y. a ++ y ∷ path) r) n ∙ ap (λ y. y ∷ path) (sym r)

pub no-authority_text : (d : ℕ) (authority : Option (List ℕ)) (path : List ℕ) → eqb slash d ≡ false → IfSome authority (λ a. has d a ≡ false)
    → has d path ≡ false → has d (authority_text authority ++ path) ≡ false
no-authority_text d None path e h p = p
no-authority_text d (Some a) path e h p =
    or_from (eqb slash d) (has d (slash ∷ (a ++ path))) e (or_from (eqb slash d) (has d (a ++ path)) e (no-append d a path h p))

-- whoever has the properties of the parts is them
pub only_parts : (p : Parts) (text : List ℕ) → AreParts p text → p ≡ parts text
only_parts p text a =
    let hier : List ℕ = authority_text p.authority ++ p.path in
    let cut = authority-text p.authority p.path (IfSome-map p.authority (HasNone (codes "/?#")) (λ t. has slash t ≡ false) (λ t m. m.0) a.authority) a.rooted a.single in
    let apart = parts-apart p.scheme hier p.query p.fragment a.scheme (λ none. no_colon p.authority p.path (a.plain none) a.single)
    (no-authority_text question p.authority p.path refl (IfSome-map p.authority (HasNone (codes "/?#")) (λ t. has question t ≡ false) (λ t m. m.1.0) a.authority) a.path.0)
    (no-authority_text hash p.authority p.path refl (IfSome-map p.authority (HasNone (codes "/?#")) (λ t. has hash t ≡ false) (λ t m. m.1.1.0) a.authority) a.path.1.0)
    (IfSome-map p.query (HasNone (codes "#")) (λ t. has hash t ≡ false) (λ t m. m.0) a.query) in
    sym (ap parts (sym a.whole) ∙ (apart ∙ same p hier cut.0 cut.1))
  where
    no_colon : (authority : Option (List ℕ)) (path : List ℕ) → (authority ≡ None → has colon (before slash path) ≡ false)
        → (authority ≡ None → has_authority path ≡ false) → has_scheme (authority_text authority ++ path) ≡ false
    no_colon None path h g = h refl
    no_colon (Some a) path h g = refl

    same : (p : Parts) (hier : List ℕ) → authority_of hier ≡ p.authority → path_of hier ≡ p.path
        → (let q : Parts = record { scheme = p.scheme; authority = authority_of hier; path = path_of hier; query = p.query; fragment = p.fragment } in q) ≡ p
    same p hier e f = rw (e, f) refl

-- the parts have these properties
order : (body : List ℕ) → has colon (before slash body) ≡ true → has slash (before colon body) ≡ false
order [] h = refl
order (x ∷ body) h = go (eqb x colon) (eqb x slash) refl refl h (order body)
  where
    go : (b d : Bool) → eqb x colon ≡ b → eqb x slash ≡ d → has colon (cond (eqb x slash) [] (x ∷ before slash body)) ≡ true
        → (has colon (before slash body) ≡ true → has slash (before colon body) ≡ false) → has slash (cond (eqb x colon) [] (x ∷ before colon body)) ≡ false
    go true d e f h others = rw e refl
    go false true e f h others = absurd (false≢true (rw f at h))
    go false false e f h others =
        let h' : has colon (x ∷ before slash body) ≡ true = rw f at h in
        rw e (or_from (eqb x slash) (has slash (before colon body)) f (others (sym (ap (λ b. b || has colon (before slash body)) e) ∙ h')))

found_before : (c d : ℕ) (text : List ℕ) → has c (before d text) ≡ true → (rest : List ℕ) × (after c text ≡ Some rest)
found_before c d text h = go (after c text) refl
  where
    go : (o : Option (List ℕ)) → after c text ≡ o → (rest : List ℕ) × (after c text ≡ Some rest)
    go (Some rest) e = (rest, e)
    go None e = absurd (false≢true (sym (no-before c d text (none_after c text e)) ∙ h))

scheme-whole : (body : List ℕ) → body ≡ scheme_text (scheme_of body) ++ after_scheme body
scheme-whole body = go (has_scheme body) refl
  where
    go : (b : Bool) → has_scheme body ≡ b → body ≡ scheme_text (cond (has_scheme body) (Some (before colon body)) None) ++ cond (has_scheme body) (unwrap_or (after colon body) []) body
    go true e =
        let f = found_before colon slash body e in
        rw (e, f.1) (marked-whole colon body ∙ (ap (λ o. before colon body ++ marked colon o) f.1 ∙ sym (append_assoc (before colon body) (codes ":") f.0)))
    go false e = rw e refl

authority-whole : (hier : List ℕ) → hier ≡ authority_text (authority_of hier) ++ path_of hier
authority-whole hier = go (has_authority hier) refl
  where
    go : (b : Bool) → has_authority hier ≡ b
        → hier ≡ authority_text (cond (has_authority hier) (Some (before slash (drop 2 hier))) None) ++ cond (has_authority hier) (from slash (drop 2 hier)) hier
    go true e = rw e ((starts_is Decides-eqb hier (codes "//") (has_authority hier) refl).0 e ∙ ap (λ l. codes "//" ++ l) (sym (parted slash (drop 2 hier))))
    go false e = rw e refl

pub recompose-parts : (text : List ℕ) → recompose (parts text) ≡ text
unfolding parts
recompose-parts text =
    let front = before hash text in
    let body = before question front in
    let hier = after_scheme body in
    sym (marked-whole hash text
    ∙ (ap (λ l. l ++ marked hash (after hash text)) (marked-whole question front)
    ∙ (ap (λ l. (l ++ marked question (after question front)) ++ marked hash (after hash text)) (scheme-whole body)
    ∙ (ap (λ l. ((scheme_text (scheme_of body) ++ l) ++ marked question (after question front)) ++ marked hash (after hash text)) (authority-whole hier)
    ∙ (append_assoc (scheme_text (scheme_of body) ++ (authority_text (authority_of hier) ++ path_of hier)) (marked question (after question front)) (marked hash (after hash text))
    ∙ (append_assoc (scheme_text (scheme_of body)) (authority_text (authority_of hier) ++ path_of hier) (marked question (after question front) ++ marked hash (after hash text))
    ∙ ap (λ l. scheme_text (scheme_of body) ++ ((authority_text (authority_of hier) ++ path_of hier) ++ l))
    (ap (λ a. a ++ marked hash (after hash text)) (sym (query-marked (after question front)))
    ∙ ap (λ b. query_text (after question front) ++ b) (sym (fragment-marked (after hash text))))))))))

no-drop : (d n : ℕ) (xs : List ℕ) → has d xs ≡ false → has d (drop n xs) ≡ false
no-drop d zero xs h = h
no-drop d (suc n) [] h = h
no-drop d (suc n) (x ∷ xs) h = no-drop d n xs (or_parts (eqb x d) (has d xs) h).1

no-hier : (d : ℕ) (body : List ℕ) → has d body ≡ false → has d (after_scheme body) ≡ false
no-hier d body h = go (has_scheme body) refl
  where
    go : (b : Bool) → has_scheme body ≡ b → has d (cond (has_scheme body) (unwrap_or (after colon body) []) body) ≡ false
    go true e = let f = found_before colon slash body e in rw (e, f.1) (no-after d colon body f.0 h f.1)
    go false e = rw e h

-- what the body and what the front lack
module _ (body : List ℕ) (q : has question body ≡ false) (h : has hash body ≡ false) where
  scheme_has : IfSome (scheme_of body) (HasNone (codes ":/?#"))
  scheme_has = go (has_scheme body) refl
    where
      go : (b : Bool) → has_scheme body ≡ b → IfSome (cond (has_scheme body) (Some (before colon body)) None) (HasNone (codes ":/?#"))
      go true e = rw e (has-before colon body, (order body e, (no-before question colon body q, (no-before hash colon body h, tt))))
      go false e = rw e tt

  authority_has : IfSome (authority_of body) (HasNone (codes "/?#"))
  authority_has = go (has_authority body) refl
    where
      go : (b : Bool) → has_authority body ≡ b → IfSome (cond (has_authority body) (Some (before slash (drop 2 body))) None) (HasNone (codes "/?#"))
      go true e = rw e (has-before slash (drop 2 body), (no-before question slash (drop 2 body) (no-drop question 2 body q), (no-before hash slash (drop 2 body) (no-drop hash 2 body h), tt)))
      go false e = rw e tt

  path_has : HasNone (codes "?#") (path_of body)
  path_has = go (has_authority body) refl
    where
      go : (b : Bool) → has_authority body ≡ b → HasNone (codes "?#") (cond (has_authority body) (from slash (drop 2 body)) body)
      go true e = rw e (no-from question slash (drop 2 body) (no-drop question 2 body q), (no-from hash slash (drop 2 body) (no-drop hash 2 body h), tt))
      go false e = rw e (q, (h, tt))

path_rooted : (hier : List ℕ) → IsSome (authority_of hier) → IsEmptyOrRooted (path_of hier)
path_rooted hier = go (has_authority hier) refl
  where
    go : (b : Bool) → has_authority hier ≡ b → IsSome (cond (has_authority hier) (Some (before slash (drop 2 hier))) None) → IsEmptyOrRooted (cond (has_authority hier) (from slash (drop 2 hier)) hier)
    go true e s = rw e (rooted-from (drop 2 hier))
    go false e s = absurd (false≢true (rw e at s))

no_authority : (hier : List ℕ) → authority_of hier ≡ None → (has_authority hier ≡ false) × (path_of hier ≡ hier)
no_authority hier = go (has_authority hier) refl
  where
    go : (b : Bool) → has_authority hier ≡ b → cond (has_authority hier) (Some (before slash (drop 2 hier))) None ≡ None
        → (has_authority hier ≡ false) × (cond (has_authority hier) (from slash (drop 2 hier)) hier ≡ hier)
    go true e n = absurd (some_none (before slash (drop 2 hier)) (rw e at n))
    go false e n = (e, rw e refl)

no_scheme : (body : List ℕ) → scheme_of body ≡ None → (has_scheme body ≡ false) × (after_scheme body ≡ body)
no_scheme body = go (has_scheme body) refl
  where
    go : (b : Bool) → has_scheme body ≡ b → cond (has_scheme body) (Some (before colon body)) None ≡ None
        → (has_scheme body ≡ false) × (cond (has_scheme body) (unwrap_or (after colon body) []) body ≡ body)
    go true e n = absurd (some_none (before colon body) (rw e at n))
    go false e n = (e, rw e refl)

if_some : {A : Type 0} (o : Option A) (P : A → Type 0) → ((x : A) → o ≡ Some x → P x) → IfSome o P
if_some None P f = tt
if_some (Some x) P f = f x refl

pub parts_are : (text : List ℕ) → AreParts (parts text) text
unfolding parts
parts_are text =
    let front : List ℕ = before hash text in
    let body : List ℕ = before question front in
    let hier : List ℕ = after_scheme body in
    let body_question : has question body ≡ false = has-before question front in
    let body_hash : has hash body ≡ false = no-before hash question front (has-before hash text) in
    let hier_question : has question hier ≡ false = no-hier question body body_question in
    let hier_hash : has hash hier ≡ false = no-hier hash body body_hash in
    record {
      whole = recompose-parts text;
      scheme = scheme_has body body_question body_hash;
      authority = authority_has hier hier_question hier_hash;
      path = path_has hier hier_question hier_hash;
      query = if_some (after question front) (HasNone (codes "#")) (λ q e. (no-after hash question front q (has-before hash text) e, tt));
      rooted = path_rooted hier;
      single = λ none. let n = no_authority hier none in ap has_authority n.1 ∙ n.0;
      plain = λ none no. let s = no_scheme body none in let n = no_authority hier no in ap has_scheme (n.1 ∙ s.1) ∙ s.0;
    }

-- the text before the mark of the fragment
pub parts-front : (text : List ℕ) → parts (before hash text) ≡ (let q : Parts = record (parts text) { fragment = None } in q)
unfolding parts
parts-front text =
    let front : List ℕ = before hash text in
    let body : List ℕ = before question front in
    let hier : List ℕ = after_scheme body in
    sym (parts-built front front body hier (scheme_of body) (authority_of hier) (path_of hier) (after question front) None
    (sym (before-none hash front (has-before hash text))) (sym (after-none hash front (has-before hash text))) refl refl refl refl refl refl)

pub fragment-parts : (text : List ℕ) → (parts text).fragment ≡ after hash text
unfolding parts
fragment-parts text = refl
