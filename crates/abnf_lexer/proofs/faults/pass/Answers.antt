use Rattle.std.proofs.Common.{◌≡◌, ℕ, ◌+◌, ◌-◌, ◌≤◌, List, ◌++◌, take, drop, length, nat_lt, Option, sym, subst, ap, ◌∙◌, arith, append_assoc}
use Rattle.std.specs.List.{prefix_len}
use Rattle.std.proofs.lemmas.List.{length-take-le, drop-drop, take-take}
use Rattle.std.proofs.Math.Seq.{take-add}
use Rattle.vg_base.specs.declared.doc_fault.DocFault.{DocFault}
use Rattle.vg_base.specs.declared.doc_fault.DocKind.TheVariants.{BadCharacter}
use Rattle.vg_base.specs.Characters.{is_char}
use Rattle.vg_base.specs.Faults.{doc_fault_order}
use Rattle.vg_base.specs.First.{IsFirst}
use Rattle.vg_base.specs.Places.{Walked}
use Rattle.abnf_lexer.specs.Faults.{told, bad_characters}
use Rattle.abnf_lexer.specs.Header.{past}
use Rattle.abnf_lexer.proofs.FirstBad.{first_bad}
use Rattle.abnf_lexer.proofs.faults.pass.Goals as goal

whole : (n len : ℕ) → n ≤ len → n + (len - n) ≡ len
whole n len le = omega arith

-- so many characters, and then as many as are left of them
two_steps : (walk : Walked) (n len : ℕ) → n ≤ len → past (len - n) (past n walk) ≡ past len walk
two_steps walk n len le =
    let taken : take len walk.rest ≡ take n walk.rest ++ take (len - n) (drop n walk.rest) = ap (λ m. take m walk.rest) (sym (whole n len le)) ∙ take-add n (len - n) walk.rest in
    let left : drop (len - n) (drop n walk.rest) ≡ drop len walk.rest = drop-drop (len - n) n walk.rest ∙ ap (λ m. drop m walk.rest) (whole n len le) in
    λ i. record { passed = (append_assoc walk.passed (take n walk.rest) (take (len - n) (drop n walk.rest)) ∙ ap (λ (l : List ℕ). walk.passed ++ l) (sym taken)) i; rest = left i }

-- the first of them that is bad stands behind those that are allowed
first_of : (walk : Walked) (n len : ℕ) (passed : List ℕ) (r : Option DocFault) → len ≤ length walk.rest → n ≤ len → n ≡ prefix_len is_char (take len walk.rest) → passed ≡ walk.passed ++ take n walk.rest
    → IsFirst doc_fault_order (told (nat_lt n len) passed BadCharacter) r → IsFirst doc_fault_order (bad_characters walk.passed (take len walk.rest)) r
first_of walk n len passed r within le e p h =
    let text : List ℕ = take len walk.rest in
    let long : length text ≡ len = length-take-le len walk.rest within in
    let taken : take n walk.rest ≡ take n text = sym (take-take n len walk.rest le) in
    let here : IsFirst doc_fault_order (told (nat_lt n (length text)) (walk.passed ++ take n text) BadCharacter) r =
    subst (λ m. IsFirst doc_fault_order (told (nat_lt n m) (walk.passed ++ take n text) BadCharacter) r) (sym long)
    (subst (λ (l : List ℕ). IsFirst doc_fault_order (told (nat_lt n len) l BadCharacter) r) (p ∙ ap (λ (l : List ℕ). walk.passed ++ l) taken) h) in
    first_bad walk.passed text r (subst (λ m. IsFirst doc_fault_order (told (nat_lt m (length text)) (walk.passed ++ take m text) BadCharacter) r) e here)

fits : (len n : ℕ) (text rest : List ℕ) → text ≡ rest → len ≤ length rest → n ≤ length (take len text) → n ≤ len
fits len n text rest e within h = omega (arith, length-take-le len text (omega (arith, ap length e)))

pub returns-clause-passed : goal.returns-clause-passed
returns-clause-passed c =
    let walk : Walked = c.args.cursor.now in
    let first : c.go.new.self ≡ past c.allowed_len-allowed.result walk = λ i. record { passed = c.go.ensures.passed i; rest = c.go.ensures.rest i } in
    let second : c.go-2.new.self ≡ past (c.args.len - c.allowed_len-allowed.result) c.go.new.self = λ i. record { passed = c.go-2.ensures.passed i; rest = c.go-2.ensures.rest i } in
    second ∙ (ap (past (c.args.len - c.allowed_len-allowed.result)) first ∙ two_steps walk c.allowed_len-allowed.result c.args.len (fits c.args.len c.allowed_len-allowed.result c.rest.result.now walk.rest c.rest.ensures c.requires c.allowed_len-allowed.ensures.within))

pub returns-clause-first : goal.returns-clause-first
returns-clause-first c =
    let walk : Walked = c.args.cursor.now in
    let slice : take c.args.len c.rest.result.now ≡ take c.args.len walk.rest = ap (take c.args.len) c.rest.ensures in
    first_of walk c.allowed_len-allowed.result c.args.len c.go.new.self.passed c.told-bad.result c.requires (fits c.args.len c.allowed_len-allowed.result c.rest.result.now walk.rest c.rest.ensures c.requires c.allowed_len-allowed.ensures.within) (c.allowed_len-allowed.ensures.value ∙ ap (prefix_len is_char) slice) c.go.ensures.passed c.told-bad.ensures
