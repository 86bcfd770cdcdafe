-- Leaves of trees are equal where their words are.
use Rattle.std.proofs.Common.{◌≡◌, ◌↔◌, Bool, nat_eq, sym, ap, ◌∙◌}
use Rattle.std.specs.Prelude.{IsTrue}
use Rattle.std.specs.Cmp.Lexicographic.{pointwise, bytes_decides}
use Rattle.std.proofs.lemmas.Slice.Eq.{slice_eq-Decides}
use Rattle.grammar_tree.specs.declared.parse_tree.ParseTree.{ParseTree, out-ParseTree}
use Rattle.grammar_tree.specs.declared.parse_tree.ParseTree.TheOpen.{ParseTree-F}
use Rattle.grammar_tree.specs.declared.parse_tree.ParseTree.TheVariants as tree
use Rattle.grammar_tree.specs.Derives.{Words}

abbrev Level : Type 0
Level = ParseTree-F ParseTree

pub same_Token : (ws us : Words) → tree.Token ws ≡ tree.Token us → ws ≡ us
same_Token ws us e =
    let level : ◌≡◌ {A = Level} (ParseTree-F.Token ws) (ParseTree-F.Token us) = sym (tree.outs-Token ws) ∙ ap out-ParseTree e ∙ tree.outs-Token us in cc

pub same_Garbage : (ws us : Words) → tree.Garbage ws ≡ tree.Garbage us → ws ≡ us
same_Garbage ws us e =
    let level : ◌≡◌ {A = Level} (ParseTree-F.Garbage ws) (ParseTree-F.Garbage us) = sym (tree.outs-Garbage ws) ∙ ap out-ParseTree e ∙ tree.outs-Garbage us in cc

-- a test that decides whether the words are equal decides whether the leaves are
module _ (leaf : Words → ParseTree) (told : (ws us : Words) → leaf ws ≡ leaf us → ws ≡ us) where
  pub leaves_same : (t u : ParseTree) (ws us : Words) (r : Bool) → t ≡ leaf ws → u ≡ leaf us → r ≡ pointwise (pointwise nat_eq) ws us → IsTrue r ↔ (t ≡ u)
  leaves_same t u ws us r p q e =
      let decides = slice_eq-Decides bytes_decides ws us r e in
      (λ yes. p ∙ ap leaf (decides.0 yes) ∙ sym q, λ same. decides.1 (told ws us (sym p ∙ same ∙ q)))
