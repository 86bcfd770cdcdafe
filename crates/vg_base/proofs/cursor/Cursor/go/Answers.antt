use Rattle.std.proofs.Common.{◌≡◌, ℕ, ◌+◌, ◌<◌, List, [], ◌∷◌, ◌++◌, Option, Some, None, take, drop, length, ap, sym, ◌∙◌, arith, append_assoc, length-append, length-take, length-drop}
use Rattle.std.specs.Prelude.{IfSome, IfNone}
use Rattle.std.proofs.lemmas.List.{take-append-drop, take_at, drop_at}
use Rattle.vg_base.proofs.cursor.Cursor.go.Goals as goal

-- one step of a walk that has passed the first i of all characters
one_more : (all start passed rest more left : List ℕ) (i : ℕ) (next : Option ℕ) → i < length all → passed ≡ start ++ take i all → rest ≡ drop i all
    → IfSome next (λ c. rest ≡ c ∷ left) → IfSome next (λ c. more ≡ passed ++ c ∷ []) → IfNone next (rest ≡ [])
    → (more ≡ start ++ take (i + 1) all) × (left ≡ drop (i + 1) all)
one_more all start passed rest more left i None within s e n p end = absurd (omega (arith, ap length (sym e ∙ end), length-drop i all))
one_more all start passed rest more left i (Some c) within s e n p end =
    let front : List ℕ = take i all ++ c ∷ [] in
    let split : all ≡ front ++ left = sym (take-append-drop i all) ∙ (ap (λ l. take i all ++ l) (sym e ∙ n) ∙ sym (append_assoc (take i all) (c ∷ []) left)) in
    let long : length front ≡ i + 1 = omega (arith, length-append (take i all) (c ∷ []), length-take i all) in
    let whole : start ++ front ≡ start ++ take (i + 1) all = ap (λ l. start ++ l) (sym (take_at front left (i + 1) long) ∙ ap (λ l. take (i + 1) l) (sym split)) in
    (p ∙ (ap (λ l. l ++ c ∷ []) s ∙ (append_assoc start (take i all) (c ∷ []) ∙ whole)), sym (drop_at front left (i + 1) long) ∙ ap (λ l. drop (i + 1) l) (sym split))

pub loop-turn-preserved : goal.loop-turn-preserved
loop-turn-preserved c =
    let within : c.loop-turn._turn < length c.args.self.now.rest = omega arith in
    let step = one_more c.args.self.now.rest c.args.self.now.passed c.loop-turn.self.passed c.loop-turn.self.rest c.step.new.self.passed c.step.new.self.rest c.loop-turn._turn c.step.result within
    c.loop-turn.invariant.passed c.loop-turn.invariant.rest c.step.ensures.next c.step.ensures.passed c.step.ensures.end in
    record { passed = step.0; rest = step.1 }
