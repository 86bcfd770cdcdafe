-- What holds of the lexemes of a document that mean something, and of the leaves of a tree.
use Rattle.std.specs.Prelude.{List}
use Rattle.std.specs.List.{AllByRecursion}
use Rattle.abnf_parser.specs.declared.lexeme.AngleForm.TheVariants as angle
use Rattle.abnf_parser.specs.declared.lexeme.Lexeme.{Lexeme}
use Rattle.abnf_parser.specs.declared.lexeme.Lexeme.TheVariants as l
use Rattle.abnf_parser.specs.declared.written.Written.{Written}
use Rattle.rule_reader.specs.Leaves.{Leaf, token, name, reference, tag, weight, times, leaves}

module _ (P : Leaf → Type 0) where
  -- it holds of the leaf that the lexeme is in an expansion; of what is none there nothing is asked
  abbrev pub Stands : Lexeme → Type 0
  Stands (l.Bare word span) = P (token span)
  Stands (l.Quoted span) = P (token span)
  Stands (l.Name span) = P (name span)
  Stands (l.UriRef span) = P (reference span)
  Stands (l.Angle angle.Repeat span) = P (times span)
  Stands (l.Angle form span) = Unit {0}
  Stands (l.Weight span) = P (weight span)
  Stands (l.Language span) = Unit {0}
  Stands (l.Tag span) = P (tag span)
  Stands (l.Sign s) = Unit {0}

  abbrev pub All : List Lexeme → Type 0
  All = AllByRecursion Stands

  -- it holds of each leaf
  abbrev pub Of : Written → Type 0
  Of x = AllByRecursion P (leaves x)
