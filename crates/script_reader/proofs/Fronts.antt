-- The front of a text that begins neither with white space nor with a word.
use Rattle.std.proofs.Common.{◌≡◌, ℕ, ◌-◌, ◌≤◌, List, [], ◌∷◌, length, get_or, take, drop, false, ap, ◌∙◌, sym, arith}
use Rattle.std.specs.Prelude.{if◌then◌else◌}
use Rattle.std.proofs.lemmas.List.{take_all}
use Rattle.std.specs.List.{prefix_len}
use Rattle.vg_base.specs.Characters.{is_space}
use Rattle.script_reader.specs.declared.lexing.cutting.Cut.TheVariants.{Gap}
use Rattle.script_reader.specs.code.Front.{front, other_front, word, is_word_start}

pub front_other : (text cs : List ℕ) (c : ℕ) → text ≡ c ∷ cs → is_space c ≡ false → is_word_start c ≡ false → other_front c cs ≡ front text
unfolding front
front_other text cs c is no_space no_word =
    sym (ap front is
    ∙ ap (λ b. if b then Gap (prefix_len is_space (c ∷ cs)) else (if is_word_start c then word (c ∷ cs) else other_front c cs)) no_space
    ∙ ap (λ b. if b then word (c ∷ cs) else other_front c cs) no_word)

-- a text with a character is its first and the others
pub headed : (text : List ℕ) (d c : ℕ) → 1 ≤ length text → c ≡ get_or text 0 d → text ≡ c ∷ take (length text - 1) (drop 1 text)
headed [] d c h e = absurd (omega arith)
headed (x ∷ xs) d c h e = ap (λ y. y ∷ xs) (sym e) ∙ ap (λ l. c ∷ l) (sym (take_all (length (x ∷ xs) - 1) xs (omega arith)))
