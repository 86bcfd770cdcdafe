-- Which documents a document refers to: the keys that its references by URI mean (RFC 3986 section 5.2).
use Rattle.std.specs.Prelude.{◌≡◌, ℕ, map, List, [], ◌∷◌, Option, Some, None, IsSome, nat_eq}
use Rattle.std.specs.List.{flat_map, AllByRecursion}
use Rattle.std.specs.Cmp.Lexicographic.{pointwise}
use Rattle.indexmap.specs.IndexSet.{insert_all}
use Rattle.uri_links.specs.Split.{before, hash}
use Rattle.uri_links.specs.Parts.{parts}
use Rattle.uri_links.specs.Resolution.{resolve}
use Rattle.uri_links.specs.Faults.{reading_fault}
use Rattle.grammar_tree.specs.declared.document.Doc.{Doc}
use Rattle.grammar_tree.specs.declared.document.Rule.{Rule}
use Rattle.grammar_tree.specs.declared.expansion.Goal.{Goal}
use Rattle.grammar_tree.specs.declared.expansion.Goal.TheVariants as goal
use Rattle.grammar_tree.specs.declared.expansion.Expansion.{Expansion}
use Rattle.grammar_tree.specs.declared.expansion.Expansion.TheOpen.{Expansion-F}
use Rattle.grammar_tree.specs.declared.expansion.Expansion.TheFolds.{fold-Expansion}

-- ---- references by URI (SRGS 1.0 section 2.2.2), without their fragments

abbrev pub uri_of : Goal → List (List ℕ)
uri_of (goal.Local rule) = []
uri_of (goal.Named uri rule) = uri ∷ []
uri_of (goal.Root uri) = uri ∷ []

-- one level, with the references of each part in its place
abbrev pub uris_of_level : Expansion-F (List (List ℕ)) → List (List ℕ)
uris_of_level (Expansion-F.Ref reference) = uri_of reference.goal
uris_of_level (Expansion-F.Seq parts) = flat_map (λ uris. uris) parts
uris_of_level (Expansion-F.Alt parts) = flat_map (λ uris. uris) parts
uris_of_level (Expansion-F.Rep least most inner) = inner
uris_of_level _ = []

abbrev pub uris_in : Expansion → List (List ℕ)
uris_in = fold-Expansion (List (List ℕ)) uris_of_level

-- of rules, one after another
abbrev pub uris_of : List Rule → List (List ℕ)
uris_of = flat_map (λ rule. uris_in rule.body)

-- ---- what they mean

-- the URI against which references are resolved (SRGS 1.0 section 4.9): the key of the document, or its base
-- resolved against that, without fragment
abbrev pub base_uri : List ℕ → Option (List ℕ) → List ℕ
base_uri key None = key
base_uri key (Some base) = before hash (resolve key base)

-- the keys that the references of a document under this key mean, in order
abbrev pub imported : Doc → List ℕ → List (List ℕ)
imported doc key = map (resolve (base_uri key doc.base)) (uris_of doc.rules)

-- these keys, and then those that references mean against this base, each once
abbrev pub extended : List ℕ → (keys uris : List (List ℕ)) → List (List ℕ)
extended base keys uris = insert_all (pointwise nat_eq) keys (map (resolve base) uris)

-- each of them once, where it stands first
abbrev pub imported_once : Doc → List ℕ → List (List ℕ)
imported_once doc key = extended (base_uri key doc.base) [] (uris_of doc.rules)

-- ---- what can be resolved

-- it has a scheme, so that others can be resolved against it
abbrev pub HasScheme : List ℕ → Type 0
HasScheme base = IsSome (parts base).scheme

abbrev pub IsReadable : List ℕ → Type 0
IsReadable uri = reading_fault uri ≡ None

abbrev pub IsReadableBase : Option (List ℕ) → Type 0
IsReadableBase None = Unit {0}
IsReadableBase (Some base) = IsReadable base

-- the base and each reference by URI of the document can be read, as reading leaves them
pub record IsResolvable (doc : Doc) : Type 0 where
  pub base : IsReadableBase doc.base
  pub uris : AllByRecursion IsReadable (uris_of doc.rules)
