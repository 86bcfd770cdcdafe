-- The five parts of a reference (RFC 3986 section 3 and appendix B).
use Rattle.std.specs.Prelude.{◌≡◌, ℕ, Bool, false, nat_eq, if◌then◌else◌, List, [], ◌∷◌, ◌++◌, drop, Option, None, Some, IfSome, IsSome, unwrap_or, codes}
use Rattle.std.specs.List.{starts_with, AllByRecursion}
use Rattle.uri_links.specs.Split.{has, before, from, after, colon, slash, question, hash}

pub record Parts : Type 0 where
  pub scheme : Option (List ℕ)
  pub authority : Option (List ℕ)
  pub path : List ℕ
  pub query : Option (List ℕ)
  pub fragment : Option (List ℕ)

-- Each part with the mark that it stands at.
abbrev pub scheme_text : Option (List ℕ) → List ℕ
scheme_text None = []
scheme_text (Some scheme) = scheme ++ codes ":"

abbrev pub authority_text : Option (List ℕ) → List ℕ
authority_text None = []
authority_text (Some authority) = codes "//" ++ authority

abbrev pub query_text : Option (List ℕ) → List ℕ
query_text None = []
query_text (Some query) = codes "?" ++ query

abbrev pub fragment_text : Option (List ℕ) → List ℕ
fragment_text None = []
fragment_text (Some fragment) = codes "#" ++ fragment

-- the parts put together (section 5.3)
abbrev pub recompose : Parts → List ℕ
recompose p = scheme_text p.scheme ++ (authority_text p.authority ++ p.path ++ (query_text p.query ++ fragment_text p.fragment))

-- a colon comes before any slash
abbrev pub has_scheme : List ℕ → Bool
has_scheme body = has colon (before slash body)

abbrev pub scheme_of : List ℕ → Option (List ℕ)
scheme_of body = if has_scheme body then Some (before colon body) else None

abbrev pub after_scheme : List ℕ → List ℕ
after_scheme body = if has_scheme body then unwrap_or (after colon body) [] else body

-- two slashes come first
abbrev pub has_authority : List ℕ → Bool
has_authority hier = starts_with nat_eq hier (codes "//")

abbrev pub authority_of : List ℕ → Option (List ℕ)
authority_of hier = if has_authority hier then Some (before slash (drop 2 hier)) else None

abbrev pub path_of : List ℕ → List ℕ
path_of hier = if has_authority hier then from slash (drop 2 hier) else hier

-- The parts of a text. The fragment stands after the first `#`, and the query after the first `?` before it.
-- Of what comes before both, the scheme is what stands before a colon that comes before any slash; behind it,
-- the authority is what stands after two slashes and before the next; the path is the rest.
unfoldable pub parts : List ℕ → Parts
parts text =
    let front = before hash text in
    let body = before question front in
    let hier = after_scheme body in
    record {
      scheme = scheme_of body;
      authority = authority_of hier;
      path = path_of hier;
      query = after question front;
      fragment = after hash text;
    }

-- the text has none of these characters
abbrev pub HasNone : List ℕ → List ℕ → Type 0
HasNone characters text = AllByRecursion (λ c. has c text ≡ false) characters

-- the text is at its end, or comes to a slash
abbrev pub IsEmptyOrRooted : List ℕ → Type 0
IsEmptyOrRooted [] = Unit {0}
IsEmptyOrRooted (c ∷ text) = c ≡ slash

-- The parts are those of the text by the grammar of section 3: put together they are the text; no part goes on past its end;
-- behind an authority the path is empty or begins with a slash; without one it doesn't begin with two; and without
-- a scheme and an authority its first segment has no colon (section 3.3).
pub record AreParts (p : Parts) (text : List ℕ) : Type 0 where
  pub whole : recompose p ≡ text
  pub scheme : IfSome p.scheme (HasNone (codes ":/?#"))
  pub authority : IfSome p.authority (HasNone (codes "/?#"))
  pub path : HasNone (codes "?#") p.path
  pub query : IfSome p.query (HasNone (codes "#"))
  pub rooted : IsSome p.authority → IsEmptyOrRooted p.path
  pub single : p.authority ≡ None → has_authority p.path ≡ false
  pub plain : p.scheme ≡ None → p.authority ≡ None → has colon (before slash p.path) ≡ false
