-- The kinds of faults of a script, with the number and the printed name of each.
use Rattle.std.specs.Prelude.{ℕ, List, codes}
use Rattle.tag_script.specs.declared.tag_kind.TagKind.{TagKind}
use Rattle.tag_script.specs.declared.tag_kind.TagKind.TheVariants as tag

abbrev pub tag_kind_number : TagKind → ℕ
tag_kind_number tag.Unknown = 1
tag_kind_number tag.Kind = 2
tag_kind_number tag.Range = 3
tag_kind_number tag.Fraction = 4
tag_kind_number tag.TextLong = 5
tag_kind_number tag.Wide = 6
tag_kind_number tag.DeepValue = 7

abbrev pub tag_kind_name : TagKind → List ℕ
tag_kind_name tag.Unknown = codes "Unknown"
tag_kind_name tag.Kind = codes "Kind"
tag_kind_name tag.Range = codes "Range"
tag_kind_name tag.Fraction = codes "Fraction"
tag_kind_name tag.TextLong = codes "TextLong"
tag_kind_name tag.Wide = codes "Wide"
tag_kind_name tag.DeepValue = codes "DeepValue"
