-- The leaves of a tree have the words that are derived.
use Rattle.std.proofs.Common.{ℕ, ◌≡◌, ◌-◌, List, ◌++◌, map, sym, ap, ◌∙◌}
use Rattle.std.specs.List.{flat_map}
use Rattle.vg_base.specs.declared.numbers.NodeIx.{NodeIx}
use Rattle.grammar_tree.specs.declared.parse_tree.ParseTree.{ParseTree, out-ParseTree, map-ParseTree, fold_out-ParseTree}
use Rattle.grammar_tree.specs.declared.parse_tree.ParseTree.TheOpen.{ParseTree-F}
use Rattle.grammar_tree.specs.declared.parse_tree.ParseTree.TheVariants as tree
use Rattle.grammar_tree.specs.Links.{Rules}
use Rattle.grammar_tree.specs.Derives.{Words, by_token, by_seq, by_alt, by_rep, by_ref, by_tag, by_null, by_garbage, DerivesEach, no_part, part, DerivesTurns, no_turn, turn}
use Rattle.grammar_tree.specs.Leaves.{leaves, leaves_of_level}
use Rattle.grammar_tree.specs.Laws.{LeavesAreWords}

abbrev all_leaves : List ParseTree → Words
all_leaves ts = flat_map (λ ws. ws) (map leaves ts)

leaves_level : (t : ParseTree) (level : ParseTree-F ParseTree) → out-ParseTree t ≡ level → leaves t ≡ leaves_of_level (map-ParseTree ParseTree Words leaves level)
leaves_level t level q = fold_out-ParseTree Words leaves_of_level t ∙ ap (λ level. leaves_of_level (map-ParseTree ParseTree Words leaves level)) q

mutual
  pub leaves_words : LeavesAreWords
  leaves_words L n ws t (by_token e q) = leaves_level t _ (ap out-ParseTree q ∙ tree.outs-Token ws)
  leaves_words L n ws t (by_seq ps ts e q d) = leaves_level t _ (ap out-ParseTree q ∙ tree.outs-Seq ts) ∙ each_words L ps ws ts d
  leaves_words L n ws t (by_alt ps taken p u e g q d) = leaves_level t _ (ap out-ParseTree q ∙ tree.outs-Alt taken u) ∙ leaves_words L p ws u d
  leaves_words L n ws t (by_rep least most p ts e q lo hi d) = leaves_level t _ (ap out-ParseTree q ∙ tree.outs-Rep ts) ∙ turns_words L p least ws ts d
  leaves_words L n ws t (by_ref r rule u e g q d) = leaves_level t _ (ap out-ParseTree q ∙ tree.outs-Rule r u) ∙ leaves_words L rule.body ws u d
  leaves_words L n ws t (by_tag tag e z q) = leaves_level t _ (ap out-ParseTree q ∙ tree.outs-Tag n) ∙ sym z
  leaves_words L n ws t (by_null e z q) = leaves_level t _ (ap out-ParseTree q ∙ tree.outs-Null) ∙ sym z
  leaves_words L n ws t (by_garbage e q) = leaves_level t _ (ap out-ParseTree q ∙ tree.outs-Garbage ws)

  each_words : (L : Rules) (ps : List NodeIx) (ws : Words) (ts : List ParseTree) → DerivesEach L ps ws ts → all_leaves ts ≡ ws
  each_words L _ ws _ (no_part z) = sym z
  each_words L _ ws _ (part {p = p} {ps = ps} {t = t} {ts = ts} front rest z d ds) =
      ap (λ w. w ++ all_leaves ts) (leaves_words L p front t d) ∙ ap (λ w. front ++ w) (each_words L ps rest ts ds) ∙ sym z

  turns_words : (L : Rules) (p : NodeIx) (free : ℕ) (ws : Words) (ts : List ParseTree) → DerivesTurns L p free ws ts → all_leaves ts ≡ ws
  turns_words L p free ws _ (no_turn z) = sym z
  turns_words L p free ws _ (turn {t = t} {ts = ts} front rest z ok d ds) =
      ap (λ w. w ++ all_leaves ts) (leaves_words L p front t d) ∙ ap (λ w. front ++ w) (turns_words L p (free - 1) rest ts ds) ∙ sym z
