-- A reference is resolved against a base (RFC 3986 section 5.2, strict).
use Rattle.std.specs.Prelude.{ℕ, Bool, ◌&&◌, if◌then◌else◌, List, [], ◌∷◌, ◌++◌, is_some, is_none, nat_eq, codes}
use Rattle.std.specs.List.{starts_with}
use Rattle.std.specs.Str.{bytes_eq}
use Rattle.uri_links.specs.Split.{up_to_last, slash}
use Rattle.uri_links.specs.Parts.{Parts, parts, recompose}
use Rattle.uri_links.specs.Dots.{remove_dot_segments}

-- the reference's path in place of what stands behind the last slash of the base's (section 5.2.3)
abbrev pub merge : Parts → List ℕ → List ℕ
merge base path = if is_some base.authority && bytes_eq base.path [] then slash ∷ path else up_to_last slash base.path ++ path

-- the reference's path where it begins with a slash, and else the merged path
abbrev pub target_path : Parts → List ℕ → List ℕ
target_path base path = if starts_with nat_eq path (codes "/") then path else merge base path

-- the parts of the target (section 5.2.2)
abbrev pub target : Parts → Parts → Parts
target base r =
    if is_some r.scheme then record r { path = remove_dot_segments r.path } else
    if is_some r.authority then record r { scheme = base.scheme; path = remove_dot_segments r.path } else
    if bytes_eq r.path [] then record base { query = if is_some r.query then r.query else base.query; fragment = r.fragment } else
    record base { path = remove_dot_segments (target_path base r.path); query = r.query; fragment = r.fragment }

unfoldable pub resolve : List ℕ → List ℕ → List ℕ
resolve base reference = recompose (target (parts base) (parts reference))

-- a URI with a scheme and without a fragment (section 4.3)
unfoldable pub is_absolute : List ℕ → Bool
is_absolute text = let p = parts text in is_some p.scheme && is_none p.fragment

-- the key of a document: its URI without dot segments
unfoldable pub key : List ℕ → List ℕ
key text = let p = parts text in recompose (record p { path = remove_dot_segments p.path })
