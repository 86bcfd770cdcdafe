use Rattle.std.proofs.Common.{◌≡◌, ℕ, List, [], ◌∷◌, ◌++◌, sym, ap, subst, ◌∙◌, append_assoc}
use Rattle.rule_reader.specs.References.{unescaped}
use Rattle.rule_reader.proofs.EscapeLemmas.{behind}
use Rattle.rule_reader.proofs.escapes.unescaped.Goals as goal

pub loop-byte-preserved : goal.loop-byte-preserved
loop-byte-preserved c =
    let h = behind c.loop-byte.rest.now c.in-Some.after.now c.in-Some.byte c.loop-byte.invariant.0 c.in-Some.ensures.some in (
      h.allowed,
      ap (λ (v : List ℕ). v ++ unescaped c.in-Some.after.now) c.in_ok-push.ensures.items
          ∙ (append_assoc c.loop-byte.bytes.items (c.in-Some.byte ∷ []) (unescaped c.in-Some.after.now)
          ∙ (ap (λ (v : List ℕ). c.loop-byte.bytes.items ++ v) (sym h.whole) ∙ c.loop-byte.invariant.1)),
    )
