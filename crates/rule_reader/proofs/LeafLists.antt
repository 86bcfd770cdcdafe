-- The leaves of each kind of tree.
use Rattle.std.proofs.Common.{◌≡◌, List, [], ◌∷◌}
use Rattle.abnf_lexer.specs.declared.lexemes.Spanned.{Spanned}
use Rattle.abnf_parser.specs.declared.written.Written as tree
use Rattle.abnf_parser.specs.declared.written.Written.{Written}
use Rattle.abnf_parser.specs.declared.written.Written.TheVariants as w
use Rattle.abnf_parser.specs.declared.written.Written.TheOpen.{Written-F}
use Rattle.abnf_parser.specs.declared.written.Written.TheFolds.{fold-roll-Written}
use Rattle.rule_reader.specs.Leaves.{Leaf, token, name, reference, tag, weight, times, leaves, leaves_of_level}
use Rattle.rule_reader.specs.code.Walks.{leaves_of}

pub of_token : (span : Spanned) → leaves (w.Token span) ≡ token span ∷ []
unfolding tree.roll-Written denote.Hole.Carrier.roll
of_token span = fold-roll-Written (List Leaf) leaves_of_level (Written-F.Token span)

pub of_name : (span : Spanned) → leaves (w.Name span) ≡ name span ∷ []
unfolding tree.roll-Written denote.Hole.Carrier.roll
of_name span = fold-roll-Written (List Leaf) leaves_of_level (Written-F.Name span)

pub of_uri_ref : (span : Spanned) → leaves (w.UriRef span) ≡ reference span ∷ []
unfolding tree.roll-Written denote.Hole.Carrier.roll
of_uri_ref span = fold-roll-Written (List Leaf) leaves_of_level (Written-F.UriRef span)

pub of_tag : (span : Spanned) → leaves (w.Tag span) ≡ tag span ∷ []
unfolding tree.roll-Written denote.Hole.Carrier.roll
of_tag span = fold-roll-Written (List Leaf) leaves_of_level (Written-F.Tag span)

pub of_nothing : leaves w.Nothing ≡ []
unfolding tree.roll-Written denote.Hole.Carrier.roll
of_nothing = fold-roll-Written (List Leaf) leaves_of_level Written-F.Nothing

pub of_sequence : (parts : List Written) → leaves (w.Sequence parts) ≡ leaves_of parts
unfolding tree.roll-Written denote.Hole.Carrier.roll
of_sequence parts = fold-roll-Written (List Leaf) leaves_of_level (Written-F.Sequence parts)

pub of_alternatives : (parts : List Written) → leaves (w.Alternatives parts) ≡ leaves_of parts
unfolding tree.roll-Written denote.Hole.Carrier.roll
of_alternatives parts = fold-roll-Written (List Leaf) leaves_of_level (Written-F.Alternatives parts)

pub of_weighted : (span : Spanned) (x : Written) → leaves (w.Weighted span x) ≡ weight span ∷ leaves x
unfolding tree.roll-Written denote.Hole.Carrier.roll
of_weighted span x = fold-roll-Written (List Leaf) leaves_of_level (Written-F.Weighted span x)

pub of_optional : (x : Written) → leaves (w.Optional x) ≡ leaves x
unfolding tree.roll-Written denote.Hole.Carrier.roll
of_optional x = fold-roll-Written (List Leaf) leaves_of_level (Written-F.Optional x)

pub of_repeated : (span : Spanned) (x : Written) → leaves (w.Repeated span x) ≡ times span ∷ leaves x
unfolding tree.roll-Written denote.Hole.Carrier.roll
of_repeated span x = fold-roll-Written (List Leaf) leaves_of_level (Written-F.Repeated span x)
