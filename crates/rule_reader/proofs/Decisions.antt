-- What the faults of leaves ask of a text is decided for every text.
use Rattle.std.proofs.Common.{arith, ◌≡◌, ◌⊎◌, inl, inr, ⊎_elim, ℕ, ◌<◌, ◌≤◌, Bool, true, false, List, [], ◌∷◌, ◌++◌, Option, Some, None, Ok, Err, nat_eq, refl, sym, ◌∙◌}
use Rattle.std.specs.Prelude.{Contains}
use Rattle.std.specs.List.{list_any}
use Rattle.std.specs.Str.{chars, is_utf8}
use Rattle.std.specs.Cmp.Lexicographic.{pointwise, bytes_decides}
use Rattle.std.proofs.lemmas.Bool.{false≢true, cases_Bool, cases_eq, cases_lt}
use Rattle.std.proofs.lemmas.Cmp.{nat_list_eq_equiv}
use Rattle.std.proofs.lemmas.Map.Views.{list_any-from_Contains}
use Rattle.std.proofs.lemmas.Str.{IsUtf8-from_is_utf8, is_utf8-from_IsUtf8}
use Rattle.indexmap.proofs.CallerLemmas.{Contains-list_any}
use Rattle.vg_base.specs.Limits as limits
use Rattle.vg_base.specs.declared.script.Script.{Script}
use Rattle.uri_links.specs.declared.fault.UriFault.{UriFault}
use Rattle.uri_links.specs.Faults.{reading_fault}
use Rattle.uri_links.specs.Parts.{parts}
use Rattle.uri_links.specs.Split.{before, hash}
use Rattle.token_forms.specs.Words.{AreWords}
use Rattle.token_forms.specs.Keys.{AreKeys, IsBadKeyAt}
use Rattle.token_forms.proofs.WordLemmas as words
use Rattle.token_forms.proofs.KeyLemmas as keys
use Rattle.script_reader.specs.Reading.{IsScript, Reads}
use Rattle.script_reader.specs.Answers.{Answer, script_answer}
use Rattle.script_reader.proofs.OneAnswer as scripts
use Rattle.grammar_tree.specs.declared.expansion.Goal.{Goal}
use Rattle.grammar_tree.specs.declared.expansion.Goal.TheVariants as goal
use Rattle.rule_reader.specs.Numbers.{number_of, IsBelow, IsPast, IsDecimal, IsWeight, IsAtMostOne, IsProbability, IsChance}
use Rattle.rule_reader.specs.References.{unescaped, IsFragment, GoalIs, IsGoal}
use Rattle.rule_reader.specs.code.Escapes.{is_rule_name}
use Rattle.rule_reader.specs.code.Numbers.{digits, behind_digits, dotted, only}
use Rattle.rule_reader.proofs.EscapeLemmas.{fragment_read}
use Rattle.rule_reader.proofs.DecimalLemmas.{decimal_is, no_decimal, no_digit, only_one, not_only, no_weight, no_number, chance_decided}

-- it holds, or it doesn't
abbrev Decided : Type 0 → Type 0
Decided P = P ⊎ (P → ⊥)

-- it holds of something, or of nothing
abbrev Found : {X : Type 0} → (X → Type 0) → Type 0
Found {X = X} P = ((x : X) × P x) ⊎ ((x : X) → P x → ⊥)

-- ---- tokens, by their words or keys

pub some_words : (inside : List ℕ) → (words : List (List ℕ)) × AreWords words inside
some_words inside = words.some_list inside

pub decide_keys : (inside : List ℕ) → ((keys : List (List ℕ)) × AreKeys keys inside) ⊎ ((keys : List (List ℕ)) → AreKeys keys inside → ⊥)
decide_keys inside = by_division (keys.some_division inside)
  where
    by_division : ((these : List (List ℕ)) × AreKeys these inside) ⊎ ((at : ℕ) × IsBadKeyAt at inside)
        → Found (λ (these : List (List ℕ)). AreKeys these inside)
    by_division (inl k) = inl k
    by_division (inr bad) = inr (λ these k. keys.not_both inside these bad.0 k bad.1)

-- ---- tags, by their scripts

pub decide_script : (inside : List ℕ) → ((script : Script) × IsScript inside script) ⊎ ((script : Script) → IsScript inside script → ⊥)
decide_script inside = by_answer (script_answer inside) (scripts.answers_read inside)
  where
    by_answer : (a : Answer) → Reads inside a → Found (IsScript inside)
    by_answer (Ok script) h = inl (script, h.0)
    by_answer (Err syntax) h = inr (λ script k. scripts.not_both inside script syntax.at k h)

-- ---- names of rules

pub decide_contains : (names : List (List ℕ)) (name : List ℕ) → Contains names name ⊎ (Contains names name → ⊥)
decide_contains names name = by_test (list_any (pointwise nat_eq name) names) refl
  where
    by_test : (b : Bool) → list_any (pointwise nat_eq name) names ≡ b → Decided (Contains names name)
    by_test true e = inl (Contains-list_any (pointwise nat_eq) (λ x y t. (bytes_decides x y).0 t) names name e)
    by_test false e = inr (λ c. false≢true (sym e ∙ list_any-from_Contains nat_list_eq_equiv name names c))

-- ---- numbers of repeats

pub decide_below : (most : Option ℕ) (least : ℕ) → IsBelow most least ⊎ (IsBelow most least → ⊥)
decide_below None least = inr (λ none. none)
decide_below (Some most) least = by_order (cases_lt most least)
  where
    by_order : (most < least) ⊎ (least ≤ most) → Decided (most < least)
    by_order (inl lt) = inl lt
    by_order (inr le) = inr (λ lt. omega (arith, le, lt))

pub decide_past : (number : Option ℕ) → IsPast number ⊎ (IsPast number → ⊥)
decide_past None = inr (λ none. none)
decide_past (Some number) = by_order (cases_lt limits.repeat number)
  where
    by_order : (limits.repeat < number) ⊎ (number ≤ limits.repeat) → Decided (limits.repeat < number)
    by_order (inl lt) = inl lt
    by_order (inr le) = inr (λ lt. omega (arith, le, lt))

-- ---- references by URI: whether they are read

pub decide_readable : (inside : List ℕ) → (reading_fault inside ≡ None) ⊎ (reading_fault inside ≡ None → ⊥)
decide_readable inside = by_fault (reading_fault inside)
  where
    by_fault : (o : Option UriFault) → Decided (o ≡ None)
    by_fault None = inl refl
    by_fault (Some fault) = inr (λ e. cc)

-- ---- weights and probabilities

abbrev DecimalDecided : List ℕ → Type 0
DecimalDecided text = ((whole behind : List ℕ) × IsDecimal text whole behind) ⊎ ((whole behind : List ℕ) → IsDecimal text whole behind → ⊥)

decide_decimal : (text : List ℕ) → DecimalDecided text
decide_decimal text = by_dot (dotted (behind_digits text)) refl
  where
    by_dot : (o : Option (List ℕ)) → dotted (behind_digits text) ≡ o → DecimalDecided text
    by_dot None h = inr (λ whole behind d. no_decimal text whole behind h d)
    by_dot (Some found) h = by_digits (digits text ++ found) refl
      where
        by_digits : (all : List ℕ) → digits text ++ found ≡ all → DecimalDecided text
        by_digits [] e = inr (λ whole behind d. no_digit text whole behind found h e d)
        by_digits (c ∷ others) e = inl (digits text, found, decimal_is text found h (λ n. let k : c ∷ others ≡ [] = sym e ∙ n in cc))

abbrev WordDecided : List ℕ → Type 0
WordDecided text = Found (λ (word : List ℕ). AreWords (word ∷ []) text)

decide_only_word : (text : List ℕ) → WordDecided text
decide_only_word text = let some = some_words text in by_only some.0 some.1 (only some.0) refl
  where
    by_only : (several : List (List ℕ)) → AreWords several text → (o : Option (List ℕ)) → only several ≡ o → WordDecided text
    by_only several h None e = inr (λ word k. not_only several text word e h k)
    by_only several h (Some word) e = inl (word, only_one several text word e h)

pub decide_weight : (inside : List ℕ) → IsWeight inside ⊎ (IsWeight inside → ⊥)
decide_weight inside = by_word (decide_only_word inside)
  where
    by_number : (word : List ℕ) → AreWords (word ∷ []) inside → DecimalDecided word → Decided (IsWeight inside)
    by_number word h (inl d) = inl (d.0, d.1, (word, h, d.2))
    by_number word h (inr none) = inr (λ w. no_weight inside word h none w)

    by_word : WordDecided inside → Decided (IsWeight inside)
    by_word (inl one) = by_number one.0 one.1 (decide_decimal one.0)
    by_word (inr none) = inr (λ w. none w.2.0 w.2.1)

decide_at_most_one : (whole behind : List ℕ) → Decided (IsAtMostOne whole behind)
decide_at_most_one whole behind =
    let m = number_of whole in
    let n = number_of behind in
    by_cases m n (cases_eq m 0) (cases_eq m 1) (cases_eq n 0)
  where
    by_cases : (m n : ℕ) → Decided (m ≡ 0) → Decided (m ≡ 1) → Decided (n ≡ 0) → Decided ((m ≡ 0) ⊎ ((m ≡ 1) × (n ≡ 0)))
    by_cases m n (inl e) one none = inl (inl e)
    by_cases m n (inr some) (inl e) (inl f) = inl (inr (e, f))
    by_cases m n (inr some) (inl e) (inr over) = inr (⊎_elim some (λ p. over p.1))
    by_cases m n (inr some) (inr more) none = inr (⊎_elim some (λ p. more p.0))

decide_number : (inside : List ℕ) → Decided (IsProbability inside)
decide_number inside = by_word (decide_only_word inside)
  where
    by_size : (word whole behind : List ℕ) → AreWords (word ∷ []) inside → IsDecimal word whole behind
        → Decided (IsAtMostOne whole behind) → Decided (IsProbability inside)
    by_size word whole behind h d (inl within) = inl (chance_decided inside word whole behind h d true within)
    by_size word whole behind h d (inr over) = inr (chance_decided inside word whole behind h d false over)

    by_number : (word : List ℕ) → AreWords (word ∷ []) inside → DecimalDecided word → Decided (IsProbability inside)
    by_number word h (inl d) = by_size word d.0 d.1 h d.2 (decide_at_most_one d.0 d.1)
    by_number word h (inr none) = inr (λ p. no_number inside word h none p)

    by_word : WordDecided inside → Decided (IsProbability inside)
    by_word (inl one) = by_number one.0 one.1 (decide_decimal one.0)
    by_word (inr none) = inr (λ p. let has = p.2 in none has.0 has.1)

pub decide_chance : (chance : Option (List ℕ)) → IsChance chance ⊎ (IsChance chance → ⊥)
decide_chance None = inl tt
decide_chance (Some inside) = decide_number inside

-- ---- references by URI: what they refer to

decide_fragment : (fragment : List ℕ) → Found (IsFragment fragment)
decide_fragment fragment = by_bytes (cases_Bool (is_utf8 (unescaped fragment)))
  where
    bytes : List ℕ
    bytes = unescaped fragment

    by_name : is_utf8 bytes ≡ true → (b : Bool) → is_rule_name (chars bytes) ≡ b → Found (IsFragment fragment)
    by_name u true h =
        inl (chars bytes, fragment_read fragment bytes (Some (chars bytes)) refl (IsUtf8-from_is_utf8 bytes u) (h, refl))
    by_name u false h = inr (fragment_read fragment bytes None refl (IsUtf8-from_is_utf8 bytes u) h)

    by_bytes : (is_utf8 (unescaped fragment) ≡ true) ⊎ (is_utf8 (unescaped fragment) ≡ false)
        → Found (IsFragment fragment)
    by_bytes (inl u) = by_name u (is_rule_name (chars (unescaped fragment))) refl
    by_bytes (inr n) = inr (λ name f. false≢true (sym n ∙ is_utf8-from_IsUtf8 (unescaped fragment) (name, (f.0, f.1))))

decide_target : (fragment : Option (List ℕ)) (uri : List ℕ) → Found (λ (g : Goal). GoalIs fragment uri g)
decide_target None uri = inl (goal.Root uri, refl)
decide_target (Some fragment) uri = by_fragment (decide_fragment fragment)
  where
    no_target : ((name : List ℕ) → IsFragment fragment name → ⊥) → (g : Goal) → GoalIs (Some fragment) uri g → ⊥
    no_target none (goal.Local name) h = h
    no_target none (goal.Root to) h = h
    no_target none (goal.Named to rule) h = none rule h.1

    by_fragment : Found (IsFragment fragment) → Found (λ (g : Goal). GoalIs (Some fragment) uri g)
    by_fragment (inl f) = inl (goal.Named uri f.0, (refl, f.1))
    by_fragment (inr none) = inr (no_target none)

pub decide_goal : (inside : List ℕ) → ((g : Goal) × IsGoal inside g) ⊎ ((g : Goal) → IsGoal inside g → ⊥)
decide_goal inside = by_parts (decide_readable inside) (decide_target (parts inside).fragment (before hash inside))
  where
    by_parts : Decided (reading_fault inside ≡ None)
        → Found (λ (g : Goal). GoalIs (parts inside).fragment (before hash inside) g)
        → Found (IsGoal inside)
    by_parts (inl readable) (inl target) = inl (target.0, record { readable = readable; refers = target.1 })
    by_parts (inl readable) (inr none) = inr (λ g is. none g is.refers)
    by_parts (inr unread) target = inr (λ g is. unread is.readable)
