-- A fragment in percent form, byte by byte; and the one name that it is.
use Rattle.std.proofs.Common.{◌≡◌, ◌⊎◌, ℕ, ◌+◌, ◌*◌, ◌<◌, ◌==◌, ◌&&◌, ◌||◌, Bool, true, false, cond, List, [], ◌∷◌, ◌++◌, length, codes, Option, Some, None, refl, sym, ap, subst, ◌∙◌, inl, inr, arith, append_assoc}
use Rattle.std.specs.Prelude.{slice_index, MatchOption}
use Rattle.std.specs.List.{list_all}
use Rattle.std.specs.Char.{is_ascii_hexdigit}
use Rattle.std.specs.Str.{chars, encode_utf8_all, all_scalars, IsUtf8}
use Rattle.std.proofs.lemmas.Bool.{and_parts, or_cases, false≢true, eqb-true}
use Rattle.std.proofs.lemmas.Option.{same_Some}
use Rattle.std.proofs.lemmas.Str.{chars-encodes, encodes-chars, scalars-chars}
use Rattle.vg_base.specs.Characters.{is_name_start, is_name}
use Rattle.vg_base.proofs.Plain.{firsts_same, seconds_same}
use Rattle.uri_links.specs.Allowed.{is_allowed, are_allowed, begins_hexadecimal}
use Rattle.rule_reader.specs.References.{hexadecimal, unescaped, IsRuleName, IsFragment}
use Rattle.rule_reader.specs.code.Escapes.{escaped, first_byte, is_rule_name}

-- ---- one byte

both_digits : (text : List ℕ) → begins_hexadecimal text ≡ true → (high low : ℕ) × (after : List ℕ) × (text ≡ high ∷ low ∷ after)
both_digits [] h = absurd cc
both_digits (high ∷ []) h = absurd (false≢true (and_parts (is_ascii_hexdigit high) false h).1)
both_digits (high ∷ low ∷ after) h = (high, low, after, refl)

-- a `%` has two digits behind it
pub behind_percent : (c : ℕ) (text : List ℕ) → are_allowed (codes "/?") (c ∷ text) ≡ true → c ≡ 37 → begins_hexadecimal text ≡ true
behind_percent c text h e = from_or (subst (λ d. are_allowed (codes "/?") (d ∷ text) ≡ true) e h)
  where
    from_or : are_allowed (codes "/?") (37 ∷ text) ≡ true → begins_hexadecimal text ≡ true
    from_or h = (and_parts (begins_hexadecimal text) (are_allowed (codes "/?") text) h).0

pub record Behind (rest after : List ℕ) (byte : ℕ) : Type 0 where
  pub whole : unescaped rest ≡ byte ∷ unescaped after
  pub allowed : are_allowed (codes "/?") after ≡ true
  pub shorter : length after < length rest

plain_whole : (c : ℕ) (text : List ℕ) → (c == 37) ≡ false → unescaped (c ∷ text) ≡ c ∷ unescaped text
plain_whole c [] n = refl
plain_whole c (d ∷ []) n = refl
plain_whole c (d ∷ e ∷ text) n = by_test (c == 37) n
  where
    by_test : (b : Bool) → b ≡ false → elim b as (λ v. List ℕ) [ true ↦ (hexadecimal d * 16 + hexadecimal e) ∷ unescaped text | false ↦ c ∷ unescaped (d ∷ e ∷ text) ] ≡ c ∷ unescaped (d ∷ e ∷ text)
    by_test false n = refl
    by_test true n = absurd (false≢true (sym n))

allowed_tail : (c : ℕ) (text : List ℕ) → are_allowed (codes "/?") (c ∷ text) ≡ true → are_allowed (codes "/?") text ≡ true
allowed_tail c text h = (and_parts (is_allowed (codes "/?") c || ((c == 37) && begins_hexadecimal text)) (are_allowed (codes "/?") text) h).1

pub behind : (rest after : List ℕ) (byte : ℕ) → are_allowed (codes "/?") rest ≡ true → ◌≡◌ {A = Option (ℕ × List ℕ)} (first_byte rest) (Some (byte, after)) → Behind rest after byte
behind [] after byte h e = absurd cc
behind (c ∷ text) after byte h e = by_test (c == 37) refl e
  where
    plain : (c == 37) ≡ false → ◌≡◌ {A = Option (ℕ × List ℕ)} (Some (c, text)) (Some (byte, after)) → Behind (c ∷ text) after byte
    plain n e =
        let same : ◌≡◌ {A = ℕ × List ℕ} (c, text) (byte, after) = same_Some {A = ℕ × List ℕ} (c, text) (byte, after) e in
        let one : c ≡ byte = firsts_same same in
        let more : text ≡ after = seconds_same same in
        record {
          whole = plain_whole c text n ∙ (λ i. one i ∷ unescaped (more i));
          allowed = subst (λ (t : List ℕ). are_allowed (codes "/?") t ≡ true) more (allowed_tail c text h);
          shorter = subst (λ (t : List ℕ). length t < length (c ∷ text)) more (omega arith);
        }

    percent : (c == 37) ≡ true → ◌≡◌ {A = Option (ℕ × List ℕ)} (escaped text) (Some (byte, after)) → Behind (c ∷ text) after byte
    percent p e = of_digits text (allowed_tail c text h) e
      where
        of_digits : (text : List ℕ) → are_allowed (codes "/?") text ≡ true → ◌≡◌ {A = Option (ℕ × List ℕ)} (escaped text) (Some (byte, after)) → Behind (c ∷ text) after byte
        of_digits [] a e = absurd cc
        of_digits (high ∷ []) a e = absurd cc
        of_digits (high ∷ low ∷ text) a e =
            let same : ◌≡◌ {A = ℕ × List ℕ} (hexadecimal high * 16 + hexadecimal low, text) (byte, after) = same_Some {A = ℕ × List ℕ} (hexadecimal high * 16 + hexadecimal low, text) (byte, after) e in
            let one : hexadecimal high * 16 + hexadecimal low ≡ byte = firsts_same same in
            let more : text ≡ after = seconds_same same in
            record {
              whole = at_percent (c == 37) p ∙ (λ i. one i ∷ unescaped (more i));
              allowed = subst (λ (t : List ℕ). are_allowed (codes "/?") t ≡ true) more (allowed_tail low text (allowed_tail high (low ∷ text) a));
              shorter = subst (λ (t : List ℕ). length t < length (c ∷ high ∷ low ∷ text)) more (omega arith);
            }
          where
            at_percent : (b : Bool) → b ≡ true → elim b as (λ v. List ℕ) [ true ↦ (hexadecimal high * 16 + hexadecimal low) ∷ unescaped text | false ↦ c ∷ unescaped (high ∷ low ∷ text) ] ≡ (hexadecimal high * 16 + hexadecimal low) ∷ unescaped text
            at_percent true p = refl
            at_percent false p = absurd (false≢true p)

    by_test : (b : Bool) → (c == 37) ≡ b → ◌≡◌ {A = Option (ℕ × List ℕ)} (cond b (escaped text) (Some (c, text))) (Some (byte, after)) → Behind (c ∷ text) after byte
    by_test true p e = percent p e
    by_test false n e = plain n e

pub some_byte : (text : List ℕ) → begins_hexadecimal text ≡ true → escaped text ≡ None → ⊥
some_byte [] h e = absurd cc
some_byte (high ∷ []) h e = absurd (false≢true (and_parts (is_ascii_hexdigit high) false h).1)
some_byte (high ∷ low ∷ after) h e = cc

-- ---- names

pub is_name_of : (name : List ℕ) → is_rule_name name ≡ true → IsRuleName name
is_name_of [] h = absurd cc
is_name_of (first ∷ others) h =
    let p = and_parts (is_name_start first) (list_all is_name others) h in record { first = first; others = others; whole = refl; starts = p.0; goes_on = p.1 }

no_name : (name : List ℕ) → is_rule_name name ≡ false → IsRuleName name → ⊥
no_name name h n =
    let e : is_rule_name name ≡ true = ap is_rule_name n.whole ∙ (ap (λ b. b && list_all is_name n.others) n.starts ∙ n.goes_on) in
    false≢true (sym h ∙ e)

one_name : (fragment name : List ℕ) → IsUtf8 (unescaped fragment) → IsFragment fragment name → name ≡ chars (unescaped fragment)
one_name fragment name u h = sym (chars-encodes name h.0) ∙ ap chars h.1

-- what is read of the bytes that a fragment is
pub fragment_read : (fragment bytes : List ℕ) (o : Option (List ℕ)) → bytes ≡ unescaped fragment → IsUtf8 bytes
    → MatchOption o (is_rule_name (chars bytes) ≡ false) (λ t. (is_rule_name (chars bytes) ≡ true) × (t ≡ chars bytes))
    → MatchOption o ((name : List ℕ) → IsFragment fragment name → ⊥) (IsFragment fragment)
fragment_read fragment bytes None e u h = λ name f.
    let same = one_name fragment name (subst IsUtf8 e u) f in
    no_name name (ap is_rule_name (same ∙ ap chars (sym e)) ∙ h) f.2
fragment_read fragment bytes (Some name) e u h =
    let same : name ≡ chars bytes = h.1 in (
      ap all_scalars same ∙ scalars-chars bytes u,
      ap encode_utf8_all same ∙ (encodes-chars bytes u ∙ e),
      is_name_of name (ap is_rule_name same ∙ h.0),
    )
