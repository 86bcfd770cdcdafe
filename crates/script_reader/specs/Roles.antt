-- Words: which are reserved, and which mean something of their own.
use Rattle.std.specs.Prelude.{◌≡◌, ℕ, Bool, true, false, nat_lt, List, [], ◌∷◌, codes, bytes_eq, if◌then◌else◌}
use Rattle.std.specs.List.{list_any}
use Rattle.script_reader.specs.declared.lexing.roles.Role.{Role}
use Rattle.script_reader.specs.declared.lexing.roles.Role.TheVariants as r

-- a character of ASCII
abbrev pub is_small : ℕ → Bool
is_small c = nat_lt c 128

-- the reserved words without a use
abbrev pub reserved : List (List ℕ)
reserved =
    codes "break" ∷ codes "case" ∷ codes "catch" ∷ codes "continue" ∷ codes "default" ∷ codes "delete" ∷ codes "do"
    ∷ codes "finally" ∷ codes "for" ∷ codes "function" ∷ codes "in" ∷ codes "instanceof" ∷ codes "new" ∷ codes "return"
    ∷ codes "switch" ∷ codes "this" ∷ codes "throw" ∷ codes "try" ∷ codes "typeof" ∷ codes "void" ∷ codes "while"
    ∷ codes "with" ∷ []

abbrev pub is_reserved : List ℕ → Bool
is_reserved w = list_any (bytes_eq w) reserved

unfoldable pub role_of : List ℕ → Role
role_of w =
    if bytes_eq w (codes "out") then r.Out
    else if bytes_eq w (codes "rules") then r.Rules
    else if bytes_eq w (codes "meta") then r.Meta
    else if bytes_eq w (codes "true") then r.True
    else if bytes_eq w (codes "false") then r.False
    else if bytes_eq w (codes "null") then r.Null
    else if bytes_eq w (codes "var") then r.Var
    else if bytes_eq w (codes "if") then r.If
    else if bytes_eq w (codes "else") then r.Else
    else if bytes_eq w (codes "latest") then r.Latest
    else if bytes_eq w (codes "current") then r.Current
    else if bytes_eq w (codes "text") then r.Text
    else if is_reserved w then r.Reserved
    else r.Name

-- a word of this role may name a variable
abbrev pub is_name : Role → Bool
is_name r.Name = true
is_name r.Latest = true
is_name r.Current = true
is_name r.Text = true
is_name _ = false

-- a word that isn't reserved
abbrev pub IsName : List ℕ → Type 0
IsName w = is_name (role_of w) ≡ true
