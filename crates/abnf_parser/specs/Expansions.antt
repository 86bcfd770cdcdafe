-- The grammar of expansions (SRGS 1.0 section 2, in this project's profile of the ABNF form): its syntax trees, one constructor a
-- production; how each is spelled in lexemes, before a rest; and which tree of the document it is written as.
use Rattle.std.specs.Prelude.{List, [], ◌∷◌, ◌++◌, Option, Some, None}
use Rattle.abnf_lexer.specs.declared.lexemes.Spanned.{Spanned}
use Rattle.abnf_parser.specs.declared.lexeme.BareWord.{BareWord}
use Rattle.abnf_parser.specs.declared.lexeme.AngleForm.TheVariants as angle
use Rattle.abnf_parser.specs.declared.lexeme.Sign.TheVariants as sign
use Rattle.abnf_parser.specs.declared.lexeme.Lexeme.{Lexeme}
use Rattle.abnf_parser.specs.declared.lexeme.Lexeme.TheVariants as l
use Rattle.abnf_parser.specs.declared.written.Written.{Written}
use Rattle.abnf_parser.specs.declared.written.Written.TheVariants as w

mutual
  -- alternatives = alternative { "|" alternative }
  pub data Alternatives : Type 0 where
    alternatives : Alternative → Others → Alternatives

  -- { "|" alternative }
  pub data Others : Type 0 where
    no_other : Others
    other : Alternative → Others → Others

  -- alternative = [ Weight ] item { item }
  pub data Alternative : Type 0 where
    alternative : Option Spanned → Item → Items → Alternative

  -- { item }
  pub data Items : Type 0 where
    no_item : Items
    item : Item → Items → Items

  -- item = Tag | atom [ Language ] [ Repeat ] | atom Repeat Language
  pub data Item : Type 0 where
    tag : Spanned → Item
    atom : Atom → Ending → Item

  pub data Ending : Type 0 where
    ending : (language repeat : Option Spanned) → Ending
    turned : (repeat language : Spanned) → Ending

  -- atom = Bare | Quoted | Name | UriRef | "(" ")" | "(" alternatives ")" | "[" alternatives "]"
  pub data Atom : Type 0 where
    bare : BareWord → Spanned → Atom
    quoted : Spanned → Atom
    name : Spanned → Atom
    uri_ref : Spanned → Atom
    empty : Atom
    round : Alternatives → Atom
    square : Alternatives → Atom

-- ---- how it is spelled, before a rest

abbrev pub weight_spelled : Option Spanned → List Lexeme → List Lexeme
weight_spelled None rest = rest
weight_spelled (Some span) rest = l.Weight span ∷ rest

abbrev pub language_spelled : Option Spanned → List Lexeme → List Lexeme
language_spelled None rest = rest
language_spelled (Some span) rest = l.Language span ∷ rest

abbrev pub repeat_spelled : Option Spanned → List Lexeme → List Lexeme
repeat_spelled None rest = rest
repeat_spelled (Some span) rest = l.Angle angle.Repeat span ∷ rest

abbrev pub ending_spelled : Ending → List Lexeme → List Lexeme
ending_spelled (ending language repeat) rest = language_spelled language (repeat_spelled repeat rest)
ending_spelled (turned repeat language) rest = l.Angle angle.Repeat repeat ∷ l.Language language ∷ rest

unfoldable mutual
  pub alternatives_spelled : Alternatives → List Lexeme → List Lexeme
  alternatives_spelled (alternatives a others) rest = alternative_spelled a (others_spelled others rest)

  pub others_spelled : Others → List Lexeme → List Lexeme
  others_spelled no_other rest = rest
  others_spelled (other a others) rest = l.Sign sign.Bar ∷ alternative_spelled a (others_spelled others rest)

  pub alternative_spelled : Alternative → List Lexeme → List Lexeme
  alternative_spelled (alternative weight i items) rest = weight_spelled weight (item_spelled i (items_spelled items rest))

  pub items_spelled : Items → List Lexeme → List Lexeme
  items_spelled no_item rest = rest
  items_spelled (item i items) rest = item_spelled i (items_spelled items rest)

  pub item_spelled : Item → List Lexeme → List Lexeme
  item_spelled (tag span) rest = l.Tag span ∷ rest
  item_spelled (atom a e) rest = atom_spelled a (ending_spelled e rest)

  pub atom_spelled : Atom → List Lexeme → List Lexeme
  atom_spelled (bare word span) rest = l.Bare word span ∷ rest
  atom_spelled (quoted span) rest = l.Quoted span ∷ rest
  atom_spelled (name span) rest = l.Name span ∷ rest
  atom_spelled (uri_ref span) rest = l.UriRef span ∷ rest
  atom_spelled empty rest = l.Sign sign.RoundOpen ∷ l.Sign sign.RoundClose ∷ rest
  atom_spelled (round inner) rest = l.Sign sign.RoundOpen ∷ alternatives_spelled inner (l.Sign sign.RoundClose ∷ rest)
  atom_spelled (square inner) rest = l.Sign sign.SquareOpen ∷ alternatives_spelled inner (l.Sign sign.SquareClose ∷ rest)

-- ---- which tree of the document it is

-- a sequence of one part is that part
abbrev pub sequence : List Written → Written
sequence (part ∷ []) = part
sequence parts = w.Sequence parts

-- and so are alternatives of one
abbrev pub choice : List Written → Written
choice (part ∷ []) = part
choice parts = w.Alternatives parts

abbrev pub weighted : Option Spanned → Written → Written
weighted None inner = inner
weighted (Some weight) inner = w.Weighted weight inner

abbrev pub repeated : Option Spanned → Written → Written
repeated None inner = inner
repeated (Some times) inner = w.Repeated times inner

-- a language means nothing
abbrev pub ending_meant : Ending → Written → Written
ending_meant (ending language repeat) inner = repeated repeat inner
ending_meant (turned repeat language) inner = repeated (Some repeat) inner

unfoldable mutual
  pub alternatives_meant : Alternatives → Written
  alternatives_meant (alternatives a others) = choice (others_meant (alternative_meant a ∷ []) others)

  -- these alternatives, and then others
  pub others_meant : List Written → Others → List Written
  others_meant before no_other = before
  others_meant before (other a others) = others_meant (before ++ alternative_meant a ∷ []) others

  pub alternative_meant : Alternative → Written
  alternative_meant (alternative weight i items) = weighted weight (sequence (items_meant (item_meant i ∷ []) items))

  -- these parts, and then more items
  pub items_meant : List Written → Items → List Written
  items_meant before no_item = before
  items_meant before (item i items) = items_meant (before ++ item_meant i ∷ []) items

  pub item_meant : Item → Written
  item_meant (tag span) = w.Tag span
  item_meant (atom a e) = ending_meant e (atom_meant a)

  pub atom_meant : Atom → Written
  atom_meant (bare word span) = w.Token span
  atom_meant (quoted span) = w.Token span
  atom_meant (name span) = w.Name span
  atom_meant (uri_ref span) = w.UriRef span
  atom_meant empty = w.Nothing
  atom_meant (round inner) = alternatives_meant inner
  atom_meant (square inner) = w.Optional (alternatives_meant inner)
