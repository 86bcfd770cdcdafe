-- What holds of each lexeme holds of each leaf of the tree that they are written as: a reader of texts learns so where all leaves of a document
-- stand. By the trees of the grammar, before a rest.
use Rattle.std.proofs.Common.{◌≡◌, List, [], ◌∷◌, ◌++◌, Option, Some, None, map, refl, sym, subst, ◌∙◌}
use Rattle.std.specs.List.{flat_map, AllByRecursion}
use Rattle.abnf_lexer.specs.declared.lexemes.Spanned.{Spanned}
use Rattle.abnf_parser.specs.declared.lexeme.Lexeme.{Lexeme}
use Rattle.abnf_parser.specs.declared.lexeme.Lexeme.TheVariants as l
use Rattle.abnf_parser.specs.declared.lexeme.Sign.TheVariants as s
use Rattle.abnf_parser.specs.declared.written.Written.{Written}
use Rattle.abnf_parser.specs.declared.written.Written.TheVariants as w
use Rattle.rule_reader.specs.Leaves.{Leaf, leaves}
use Rattle.rule_reader.specs.Leaves as leaf
use Rattle.rule_reader.specs.Standing as standing
use Rattle.rule_reader.proofs.LeafLists as lists
use Rattle.abnf_parser.specs.Expansions as g
use Rattle.abnf_parser.specs.Expansions.{Alternatives, Others, Alternative, Items, Item, Ending, Atom, weight_spelled, language_spelled, repeat_spelled, ending_spelled, alternatives_spelled, others_spelled, alternative_spelled, items_spelled, item_spelled, atom_spelled, sequence, choice, weighted, repeated, ending_meant, alternatives_meant, others_meant, alternative_meant, items_meant, item_meant, atom_meant}

module _ (P : Leaf → Type 0) where
  abbrev All : List Lexeme → Type 0
  All = standing.All P

  abbrev Leaves : List Leaf → Type 0
  Leaves = AllByRecursion P

  abbrev Of : Written → Type 0
  Of = standing.Of P

  abbrev Each : List Written → Type 0
  Each = AllByRecursion Of

  -- ---- one level

  both : (xs ys : List Leaf) → Leaves xs → Leaves ys → Leaves (xs ++ ys)
  both [] ys h k = k
  both (x ∷ xs) ys h k = (h.0, both xs ys h.1 k)

  all_parts : (parts : List Written) → Each parts → Leaves (flat_map (λ ls. ls) (map leaves parts))
  all_parts [] h = tt
  all_parts (x ∷ parts) h = both (leaves x) (flat_map (λ ls. ls) (map leaves parts)) h.0 (all_parts parts h.1)

  of_parts : (parts : List Written) → Each parts → Of (w.Sequence parts)
  of_parts parts h = subst Leaves (sym (lists.of_sequence parts)) (all_parts parts h)

  of_choice : (parts : List Written) → Each parts → Of (w.Alternatives parts)
  of_choice parts h = subst Leaves (sym (lists.of_alternatives parts)) (all_parts parts h)

  of_token : (span : Spanned) → P (leaf.token span) → Of (w.Token span)
  of_token span p = subst Leaves (sym (lists.of_token span)) (p, tt)

  of_name : (span : Spanned) → P (leaf.name span) → Of (w.Name span)
  of_name span p = subst Leaves (sym (lists.of_name span)) (p, tt)

  of_uri_ref : (span : Spanned) → P (leaf.reference span) → Of (w.UriRef span)
  of_uri_ref span p = subst Leaves (sym (lists.of_uri_ref span)) (p, tt)

  of_tag : (span : Spanned) → P (leaf.tag span) → Of (w.Tag span)
  of_tag span p = subst Leaves (sym (lists.of_tag span)) (p, tt)

  of_nothing : Of w.Nothing
  of_nothing = subst Leaves (sym lists.of_nothing) tt

  of_weighted : (span : Spanned) (x : Written) → P (leaf.weight span) → Of x → Of (w.Weighted span x)
  of_weighted span x p h = subst Leaves (sym (lists.of_weighted span x)) (p, h)

  of_repeated : (span : Spanned) (x : Written) → P (leaf.times span) → Of x → Of (w.Repeated span x)
  of_repeated span x p h = subst Leaves (sym (lists.of_repeated span x)) (p, h)

  of_optional : (x : Written) → Of x → Of (w.Optional x)
  of_optional x h = subst Leaves (sym (lists.of_optional x)) h

  of_sequence : (parts : List Written) → Each parts → Of (sequence parts)
  of_sequence [] h = of_parts [] h
  of_sequence (x ∷ []) h = h.0
  of_sequence (x ∷ y ∷ parts) h = of_parts (x ∷ y ∷ parts) h

  of_alternatives : (parts : List Written) → Each parts → Of (choice parts)
  of_alternatives [] h = of_choice [] h
  of_alternatives (x ∷ []) h = h.0
  of_alternatives (x ∷ y ∷ parts) h = of_choice (x ∷ y ∷ parts) h

  one_more : (parts : List Written) (x : Written) → Each parts → Of x → Each (parts ++ x ∷ [])
  one_more [] x h k = (k, tt)
  one_more (y ∷ parts) x h k = (h.0, one_more parts x h.1 k)

  -- ---- the trees of the grammar

  of_ending : (e : Ending) (x : Written) (rest : List Lexeme) → Of x → All (ending_spelled e rest) → Of (ending_meant e x) × All rest
  of_ending (g.ending None None) x rest h a = (h, a)
  of_ending (g.ending None (Some span)) x rest h a = (of_repeated span x a.0 h, a.1)
  of_ending (g.ending (Some language) None) x rest h a = (h, a.1)
  of_ending (g.ending (Some language) (Some span)) x rest h a = (of_repeated span x a.1.0 h, a.1.1)
  of_ending (g.turned span language) x rest h a = (of_repeated span x a.0 h, a.1.1)

  of_weight : (weight : Option Spanned) (x : Written) (rest : List Lexeme) → All (weight_spelled weight rest) → (All rest → Of x × All []) → Of (weighted weight x)
  of_weight None x rest a more = (more a).0
  of_weight (Some span) x rest a more = of_weighted span x a.0 (more a.1).0

  behind_weight : (weight : Option Spanned) (rest : List Lexeme) → All (weight_spelled weight rest) → All rest
  behind_weight None rest a = a
  behind_weight (Some span) rest a = a.1

  mutual
    unfolding alternatives_spelled alternatives_meant

    pub of_all : (inner : Alternatives) (rest : List Lexeme) → All (alternatives_spelled inner rest) → Of (alternatives_meant inner) × All rest
    of_all (g.alternatives a others) rest h =
        let first = of_alternative a (others_spelled others rest) h in
        let more = of_others (alternative_meant a ∷ []) others rest (first.0, tt) first.1 in
        (of_alternatives (others_meant (alternative_meant a ∷ []) others) more.0, more.1)

    of_others : (before : List Written) (others : Others) (rest : List Lexeme) → Each before → All (others_spelled others rest) → Each (others_meant before others) × All rest
    of_others before g.no_other rest h a = (h, a)
    of_others before (g.other x others) rest h a =
        let first = of_alternative x (others_spelled others rest) a.1 in of_others (before ++ alternative_meant x ∷ []) others rest (one_more before (alternative_meant x) h first.0) first.1

    of_alternative : (a : Alternative) (rest : List Lexeme) → All (alternative_spelled a rest) → Of (alternative_meant a) × All rest
    of_alternative (g.alternative weight i items) rest h =
        let first = of_item i (items_spelled items rest) (behind_weight weight (item_spelled i (items_spelled items rest)) h) in
        let more = of_items (item_meant i ∷ []) items rest (first.0, tt) first.1 in
        let whole = of_sequence (items_meant (item_meant i ∷ []) items) more.0 in
        (of_weight weight (sequence (items_meant (item_meant i ∷ []) items)) (item_spelled i (items_spelled items rest)) h (λ b. (whole, tt)), more.1)

    of_items : (before : List Written) (items : Items) (rest : List Lexeme) → Each before → All (items_spelled items rest) → Each (items_meant before items) × All rest
    of_items before g.no_item rest h a = (h, a)
    of_items before (g.item i items) rest h a =
        let first = of_item i (items_spelled items rest) a in of_items (before ++ item_meant i ∷ []) items rest (one_more before (item_meant i) h first.0) first.1

    of_item : (i : Item) (rest : List Lexeme) → All (item_spelled i rest) → Of (item_meant i) × All rest
    of_item (g.tag span) rest h = (of_tag span h.0, h.1)
    of_item (g.atom a e) rest h = let first = of_atom a (ending_spelled e rest) h in of_ending e (atom_meant a) rest first.0 first.1

    of_atom : (a : Atom) (rest : List Lexeme) → All (atom_spelled a rest) → Of (atom_meant a) × All rest
    of_atom (g.bare word span) rest h = (of_token span h.0, h.1)
    of_atom (g.quoted span) rest h = (of_token span h.0, h.1)
    of_atom (g.name span) rest h = (of_name span h.0, h.1)
    of_atom (g.uri_ref span) rest h = (of_uri_ref span h.0, h.1)
    of_atom g.empty rest h = (of_nothing, h.1.1)
    of_atom (g.round inner) rest h = let all = of_all inner (l.Sign s.RoundClose ∷ rest) h.1 in (all.0, all.1.1)
    of_atom (g.square inner) rest h = let all = of_all inner (l.Sign s.SquareClose ∷ rest) h.1 in (of_optional (alternatives_meant inner) all.0, all.1.1)
