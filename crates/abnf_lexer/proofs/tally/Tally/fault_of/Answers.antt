use Rattle.std.proofs.Common.{◌≡◌, ℕ, ◌==◌, ◌&&◌, nat_le, List, length, Bool, Option, take, ap, subst, ◌∙◌}
use Rattle.vg_base.specs.declared.doc_fault.DocFault.{DocFault}
use Rattle.vg_base.specs.declared.doc_fault.DocKind.TheVariants.{BadCharacter, Deep, Large}
use Rattle.vg_base.specs.Faults.{doc_fault_order}
use Rattle.vg_base.specs.First.{IsFirst}
use Rattle.vg_base.specs.Limits as limits
use Rattle.vg_base.specs.Places.{Walked}
use Rattle.vg_base.specs.Runs.{begins}
use Rattle.abnf_lexer.specs.declared.lexemes.PieceKind.TheVariants.{Lexeme}
use Rattle.abnf_lexer.specs.Classes.{is_joint}
use Rattle.abnf_lexer.specs.Faults.{told, is_name_kind, is_opening}
use Rattle.abnf_lexer.specs.Header.{past}
use Rattle.abnf_lexer.proofs.tally.Tally.fault_of.Goals as goal

-- a test of the slice, of the count and of the walk behind
deep_here : (brackets : ℕ) (walk : Walked) (slice text : List ℕ) (b : Bool) (r : Option DocFault) → slice ≡ text → b ≡ (begins is_opening slice && nat_le limits.nesting brackets)
    → IsFirst doc_fault_order (told b walk.passed Deep) r → IsFirst doc_fault_order (told (begins is_opening text && nat_le limits.nesting brackets) walk.passed Deep) r
deep_here brackets walk slice text b r e t h = subst (λ x. IsFirst doc_fault_order (told x walk.passed Deep) r) (t ∙ ap (λ (l : List ℕ). begins is_opening l && nat_le limits.nesting brackets) e) h

large_here : (count n : ℕ) (walk : Walked) (r : Option DocFault) → count ≡ n → IsFirst doc_fault_order (told (count == limits.lexemes) walk.passed Large) r → IsFirst doc_fault_order (told (n == limits.lexemes) walk.passed Large) r
large_here count n walk r e h = subst (λ m. IsFirst doc_fault_order (told (m == limits.lexemes) walk.passed Large) r) e h

joint_here : (is_name : Bool) (behind there : Walked) (r : Option DocFault) → behind ≡ there → IsFirst doc_fault_order (told (is_name && begins is_joint behind.rest) behind.passed BadCharacter) r
    → IsFirst doc_fault_order (told (is_name && begins is_joint there.rest) there.passed BadCharacter) r
joint_here is_name behind there r e h = subst (λ (w : Walked). IsFirst doc_fault_order (told (is_name && begins is_joint w.rest) w.passed BadCharacter) r) e h

pub returns-clause-first : goal.returns-clause-first
returns-clause-first c =
    let walk : Walked = c.args.cursor.now in
    let slice : take c.args.len c.rest.result.now ≡ take c.args.len walk.rest = ap (take c.args.len) c.rest.ensures in
    let deep = deep_here c.args.self.now.brackets walk (take c.args.len c.rest.result.now) (take c.args.len walk.rest) c.is_deep.result c.told-deep.result slice c.is_deep.ensures c.told-deep.ensures in
    let large = large_here c.len.result (length c.args.self.now.found.items) walk c.told-large.result (c.len.ensures ∙ c.args.self.now.found.ok.0) c.told-large.ensures in
    let joint = joint_here (is_name_kind (Lexeme c.args.kind)) c.pass-bad.new.cursor (past c.args.len walk) c.joint-joint.result c.pass-bad.ensures.passed c.joint-joint.ensures in
    c.sooner-3.ensures.joins _ _ c.pass-bad.ensures.first (c.sooner-2.ensures.joins _ _ joint (c.sooner.ensures.joins _ _ deep large))
