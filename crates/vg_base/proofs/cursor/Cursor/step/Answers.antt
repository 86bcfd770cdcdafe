use Rattle.std.proofs.Common.{◌≡◌, ℕ, suc, ◌+◌, ◌<◌, List, [], ◌∷◌, ◌++◌, take, drop, length, get_or, ap, sym, ◌∙◌, arith, add-one, drop-cons, length-take}
use Rattle.std.proofs.lemmas.List.{take_more}
use Rattle.vg_base.specs.Characters.{byte_len}
use Rattle.vg_base.specs.Places.{place_after}
use Rattle.vg_base.proofs.Bytes.{byte_len-push, byte_len-le-length}
use Rattle.vg_base.proofs.Lines.{line-le-length, column-le-length}
use Rattle.vg_base.proofs.cursor.Cursor.step.Goals as goal

-- the characters that were passed, and those that are left, with the next one
grown : (xs : List ℕ) (i x : ℕ) → i < length xs → x ≡ get_or xs i 0 → take (i + 1) xs ≡ take i xs ++ x ∷ []
grown xs i x h e = take_more xs i 0 h ∙ ap (λ y. take i xs ++ y ∷ []) (sym e)

left : (xs : List ℕ) (i x : ℕ) → i < length xs → x ≡ get_or xs i 0 → drop i xs ≡ x ∷ drop (i + 1) xs
left xs i x h e = rw add-one (drop-cons xs i 0 h ∙ ap (λ y. y ∷ drop (suc i) xs) (sym e))

pub place_past-self-inside-requires-clause-line : goal.place_past-self-inside-requires-clause-line
place_past-self-inside-requires-clause-line c =
    omega (arith, ap (λ p. p.line) c.self.invariant.place_is, line-le-length (take c.self.inside.at c.self.inside.characters.now), length-take c.self.inside.at c.self.inside.characters.now)

pub place_past-self-inside-requires-clause-column : goal.place_past-self-inside-requires-clause-column
place_past-self-inside-requires-clause-column c =
    omega (arith, ap (λ p. p.column) c.self.invariant.place_is, column-le-length (take c.self.inside.at c.self.inside.characters.now), length-take c.self.inside.at c.self.inside.characters.now)

pub overflow_add-self : goal.overflow_add-self
overflow_add-self c = omega (arith, c.self.invariant.byte_is, byte_len-le-length (take c.self.inside.at c.self.inside.characters.now), length-take c.self.inside.at c.self.inside.characters.now)

pub invariant_of-self : goal.invariant_of-self
invariant_of-self c =
    let within : c.self.inside.at < length c.self.inside.characters.now = c.in_ok-c.ensures.lookup.3.0 in
    let passed = grown c.self.inside.characters.now c.self.inside.at c.in_ok-c.field-0.now within (c.in_ok-c.ensures.lookup.3.1 0) in
    record {
      within = omega arith;
      byte_is = omega (arith, c.self.invariant.byte_is, c.len_utf8.ensures.value, ap byte_len passed, byte_len-push (take c.self.inside.at c.self.inside.characters.now) c.in_ok-c.field-0.now);
      place_is = c.place_past-self-inside.ensures (take c.self.inside.at c.self.inside.characters.now) (c.copied.ensures ∙ c.last.ensures.value) c.self.invariant.place_is ∙ ap place_after (sym passed);
    }

pub returns-clause-next : goal.returns-clause-next
returns-clause-next c = sym (ap (λ w. w.rest) c.self.view_is) ∙ left c.self.inside.characters.now c.self.inside.at c.in_ok-c.field-0.now c.in_ok-c.ensures.lookup.3.0 (c.in_ok-c.ensures.lookup.3.1 0)

pub returns-clause-passed : goal.returns-clause-passed
returns-clause-passed c =
    grown c.self.inside.characters.now c.self.inside.at c.in_ok-c.field-0.now c.in_ok-c.ensures.lookup.3.0 (c.in_ok-c.ensures.lookup.3.1 0)
    ∙ ap (λ w. w.passed ++ c.in_ok-c.field-0.now ∷ []) c.self.view_is
