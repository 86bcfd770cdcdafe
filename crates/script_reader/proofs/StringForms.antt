-- What a string spells, as the reader decodes it: what is decoded is spelled so, and what is spelled is decoded.
use Rattle.std.proofs.Common.{◌≡◌, ℕ, zero, suc, ◌+◌, ◌-◌, ◌<◌, Bool, true, false, cond, ◌&&◌, ◌||◌, [], ◌∷◌, ◌++◌, length, Option, Some, None, refl, sym, ap, subst, ◌∙◌, append_assoc, length-append, arith, List}
use Rattle.std.specs.Prelude.{◌≢◌, ◌==◌, option_and_then}
use Rattle.std.proofs.lemmas.Bool.{eqb-true, ne_eqb, eq-eqb, and_parts}
use Rattle.std.proofs.lemmas.Bool.Decides.{nat_tests}
use Rattle.script_reader.specs.declared.lexing.strings.Spelled.{Spelled}
use Rattle.script_reader.specs.Strings.{unit, escape, is_high, is_low, pair_value}
use Rattle.script_reader.specs.code.Decoding.{spelled, paired, single, after_high, unit_at, after_u, escaped, after_backslash, first, bump, bump_with, decode}
use Rattle.script_reader.specs.Lexemes.{IsCharacter, itself, short, coded, pair, AreCharacters}

by_test : {A : Type 0} (b : Bool) (P : A → Type 0) (x y : A) → (b ≡ true → P x) → (b ≡ false → P y) → P (cond b x y)
by_test true P x y f g = f refl
by_test false P x y f g = g refl

-- a character is spelled at the front of the text
pub record Spells (quote : ℕ) (text : List ℕ) (found : Spelled) : Type 0 where
  pub slice : List ℕ
  pub rest : List ℕ
  pub text_is : text ≡ slice ++ rest
  pub len_is : found.len ≡ length slice
  pub character : IsCharacter quote slice found.character
  pub some : 0 < length slice

abbrev pub SpellsIf : ℕ → List ℕ → Option Spelled → Type 0
SpellsIf quote text None = Unit {0}
SpellsIf quote text (Some found) = Spells quote text found

not_equal : (a b : ℕ) → (a == b) ≡ false → a ≢ b
not_equal a b h e = grind (arith, nat_tests)

paired_spells : (quote a b d e : ℕ) (high low : ℕ) (a' b' d' e' : ℕ) (rest : List ℕ) → unit a b d e ≡ Some high → unit a' b' d' e' ≡ Some low
    → SpellsIf quote (92 ∷ 117 ∷ a ∷ b ∷ d ∷ e ∷ 92 ∷ 117 ∷ a' ∷ b' ∷ d' ∷ e' ∷ rest) (paired high low)
paired_spells quote a b d e high low a' b' d' e' rest h j =
    by_test (is_low low && is_high high) (SpellsIf quote (92 ∷ 117 ∷ a ∷ b ∷ d ∷ e ∷ 92 ∷ 117 ∷ a' ∷ b' ∷ d' ∷ e' ∷ rest)) (spelled (pair_value high low) 12) None
    (λ t. let q = and_parts (is_low low) (is_high high) t in record {
      slice = 92 ∷ 117 ∷ a ∷ b ∷ d ∷ e ∷ 92 ∷ 117 ∷ a' ∷ b' ∷ d' ∷ e' ∷ [];
      rest = rest;
      text_is = refl;
      len_is = refl;
      character = pair a b d e a' b' d' e' high low refl h j q.1 q.0 refl;
      some = omega arith;
    })
    (λ t. tt)

low_spells : (quote a b d e high : ℕ) (a' b' d' e' : ℕ) (rest : List ℕ) (o : Option ℕ) → unit a b d e ≡ Some high → unit a' b' d' e' ≡ o
    → SpellsIf quote (92 ∷ 117 ∷ a ∷ b ∷ d ∷ e ∷ 92 ∷ 117 ∷ a' ∷ b' ∷ d' ∷ e' ∷ rest) (option_and_then (paired high) o)
low_spells quote a b d e high a' b' d' e' rest None h j = tt
low_spells quote a b d e high a' b' d' e' rest (Some low) h j = paired_spells quote a b d e high low a' b' d' e' rest h j

same_pair : (x y : ℕ) → (x == 92 && y == 117) ≡ true → (x ≡ 92) × (y ≡ 117)
same_pair x y h = let q = and_parts (x == 92) (y == 117) h in (eqb-true x 92 q.0, eqb-true y 117 q.1)

high_spells : (quote a b d e high : ℕ) (more : List ℕ) → unit a b d e ≡ Some high → SpellsIf quote (92 ∷ 117 ∷ a ∷ b ∷ d ∷ e ∷ more) (after_high high more)
high_spells quote a b d e high (x ∷ y ∷ a' ∷ b' ∷ d' ∷ e' ∷ rest) h =
    by_test (x == 92 && y == 117) (SpellsIf quote (92 ∷ 117 ∷ a ∷ b ∷ d ∷ e ∷ x ∷ y ∷ a' ∷ b' ∷ d' ∷ e' ∷ rest)) (option_and_then (paired high) (unit a' b' d' e')) None
    (λ t. let q = same_pair x y t in at_pair x y q.0 q.1)
    (λ t. tt)
  where
    at_pair : (x y : ℕ) → x ≡ 92 → y ≡ 117 → SpellsIf quote (92 ∷ 117 ∷ a ∷ b ∷ d ∷ e ∷ x ∷ y ∷ a' ∷ b' ∷ d' ∷ e' ∷ rest) (option_and_then (paired high) (unit a' b' d' e'))
    at_pair x y p q = rw (p, q) (low_spells quote a b d e high a' b' d' e' rest (unit a' b' d' e') h refl)
high_spells quote a b d e high _ h = tt

unit_spells : (quote a b d e v : ℕ) (more : List ℕ) → unit a b d e ≡ Some v → SpellsIf quote (92 ∷ 117 ∷ a ∷ b ∷ d ∷ e ∷ more) (unit_at more v)
unit_spells quote a b d e v more h =
    by_test (is_high v) (SpellsIf quote (92 ∷ 117 ∷ a ∷ b ∷ d ∷ e ∷ more)) (after_high v more) (single v)
    (λ t. high_spells quote a b d e v more h)
    (λ t. by_test (is_low v) (SpellsIf quote (92 ∷ 117 ∷ a ∷ b ∷ d ∷ e ∷ more)) None (spelled v 6) (λ u. tt)
    (λ u. record { slice = 92 ∷ 117 ∷ a ∷ b ∷ d ∷ e ∷ []; rest = more; text_is = refl; len_is = refl; character = coded a b d e refl h t u; some = omega arith }))

u_at_spells : (quote a b d e : ℕ) (more : List ℕ) (o : Option ℕ) → unit a b d e ≡ o → SpellsIf quote (92 ∷ 117 ∷ a ∷ b ∷ d ∷ e ∷ more) (option_and_then (unit_at more) o)
u_at_spells quote a b d e more None h = tt
u_at_spells quote a b d e more (Some v) h = unit_spells quote a b d e v more h

u_spells : (quote : ℕ) (more : List ℕ) → SpellsIf quote (92 ∷ 117 ∷ more) (after_u more)
u_spells quote (a ∷ b ∷ d ∷ e ∷ more) = u_at_spells quote a b d e more (unit a b d e) refl
u_spells quote _ = tt

short_spells : (quote c : ℕ) (more : List ℕ) (o : Option ℕ) → c ≢ 117 → escape c ≡ o → SpellsIf quote (92 ∷ c ∷ more) (escaped o)
short_spells quote c more None n h = tt
short_spells quote c more (Some x) n h = record { slice = 92 ∷ c ∷ []; rest = more; text_is = refl; len_is = refl; character = short c refl n h; some = omega arith }

backslash_spells : (quote : ℕ) (rest : List ℕ) → SpellsIf quote (92 ∷ rest) (after_backslash rest)
backslash_spells quote [] = tt
backslash_spells quote (c ∷ more) =
    by_test (c == 117) (SpellsIf quote (92 ∷ c ∷ more)) (after_u more) (escaped (escape c))
    (λ t. subst (λ (x : ℕ). SpellsIf quote (92 ∷ x ∷ more) (after_u more)) (sym (eqb-true c 117 t)) (u_spells quote more))
    (λ t. short_spells quote c more (escape c) (not_equal c 117 t) refl)

plain_parts : (quote c : ℕ) → (c == quote || c == 10 || c == 13) ≡ false → (c ≢ quote) × (c ≢ 10) × (c ≢ 13)
plain_parts quote c h = (λ e. at_quote e, λ e. at_ten e, λ e. at_thirteen e)
  where
    at_quote : c ≡ quote → ⊥
    at_quote e = grind (arith, nat_tests)

    at_ten : c ≡ 10 → ⊥
    at_ten e = grind (arith, nat_tests)

    at_thirteen : c ≡ 13 → ⊥
    at_thirteen e = grind (arith, nat_tests)

pub first_spells : (quote : ℕ) (text : List ℕ) → SpellsIf quote text (first quote text)
unfolding first
first_spells quote [] = tt
first_spells quote (c ∷ rest) =
    by_test (c == 92) (SpellsIf quote (c ∷ rest)) (after_backslash rest) (cond (c == quote || c == 10 || c == 13) None (spelled c 1))
    (λ t. subst (λ (x : ℕ). SpellsIf quote (x ∷ rest) (after_backslash rest)) (sym (eqb-true c 92 t)) (backslash_spells quote rest))
    (λ t. by_test (c == quote || c == 10 || c == 13) (SpellsIf quote (c ∷ rest)) None (spelled c 1) (λ u. tt)
    (λ u. let q = plain_parts quote c u in record { slice = c ∷ []; rest = rest; text_is = refl; len_is = refl; character = itself refl (not_equal c 92 t) q.0 q.1 q.2; some = omega arith }))

-- ---- what is decoded is spelled so

-- behind what is passed by first, the text is the string's inside, its quote, and a rest
pub record Decodes (quote skip : ℕ) (text decoded : List ℕ) (len : ℕ) : Type 0 where
  pub passed : List ℕ
  pub inside : List ℕ
  pub rest : List ℕ
  pub text_is : text ≡ passed ++ (inside ++ quote ∷ rest)
  pub passed_len : length passed ≡ skip
  pub characters : AreCharacters quote inside decoded
  pub len_is : len ≡ skip + (length inside + 1)

abbrev pub DecodesIf : ℕ → ℕ → List ℕ → Option (List ℕ × ℕ) → Type 0
DecodesIf quote skip text None = Unit {0}
DecodesIf quote skip text (Some found) = Decodes quote skip text found.0 found.1

one_less : (a : ℕ) → 0 < a → suc (a - 1) ≡ a
one_less a h = omega arith

cut_same : (a b x y : List ℕ) → a ++ x ≡ b ++ y → length a ≡ length b → (a ≡ b) × (x ≡ y)
cut_same [] [] x y e h = (refl, e)
cut_same [] (c ∷ b) x y e h = absurd (omega arith)
cut_same (c ∷ a) [] x y e h = absurd (omega arith)
cut_same (c ∷ a) (d ∷ b) x y e h =
    let heads = cons_parts c d (a ++ x) (b ++ y) e in
    let q = cut_same a b x y heads.1 (omega arith) in
    (ap (λ (z : ℕ). z ∷ a) heads.0 ∙ ap (λ (zs : List ℕ). d ∷ zs) q.0, q.1)
  where
    cons_parts : (c d : ℕ) (xs ys : List ℕ) → c ∷ xs ≡ d ∷ ys → (c ≡ d) × (xs ≡ ys)
    cons_parts c d xs ys e = (cc, cc)

-- a character, and then what was decoded behind it
joined : (quote c len : ℕ) (rest slice more decoded : List ℕ) (n : ℕ) → c ∷ rest ≡ slice ++ more → len ≡ length slice → 0 < length slice → (x : ℕ) → IsCharacter quote slice x → Decodes quote (len - 1) rest decoded n
    → Decodes quote 0 (c ∷ rest) (x ∷ decoded) (suc n)
joined quote c len rest [] more decoded n e l lt x h q = absurd (omega arith)
joined quote c len rest (d ∷ slice) more decoded n e l lt x h q =
    let parts = cut_same (c ∷ q.passed) (d ∷ slice) (q.inside ++ quote ∷ q.rest) more (sym (ap (λ (ys : List ℕ). c ∷ ys) q.text_is) ∙ e) (len_same (length q.passed) (length slice) len q.passed_len l) in
    record {
      passed = [];
      inside = (d ∷ slice) ++ q.inside;
      rest = q.rest;
      text_is = e ∙ ap (λ (ys : List ℕ). (d ∷ slice) ++ ys) (sym parts.1) ∙ sym (append_assoc (d ∷ slice) q.inside (quote ∷ q.rest));
      passed_len = refl;
      characters = (d ∷ slice, q.inside, refl, h, q.characters);
      len_is = total (length slice) (length q.inside) len n l q.len_is ∙ ap (λ m. 0 + (m + 1)) (sym (length-append (d ∷ slice) q.inside));
    }
  where
    len_same : (a b len : ℕ) → a ≡ len - 1 → len ≡ suc b → suc a ≡ suc b
    len_same a b len h l = omega arith

    total : (a b len n : ℕ) → len ≡ suc a → n ≡ len - 1 + (b + 1) → suc n ≡ 0 + (suc a + b + 1)
    total a b len n h l = omega arith

passed_on : (quote skip c : ℕ) (rest : List ℕ) (o : Option (List ℕ × ℕ)) → DecodesIf quote skip rest o → DecodesIf quote (suc skip) (c ∷ rest) (bump o)
passed_on quote skip c rest None h = tt
passed_on quote skip c rest (Some found) h = record {
  passed = c ∷ h.passed;
  inside = h.inside;
  rest = h.rest;
  text_is = ap (λ (ys : List ℕ). c ∷ ys) h.text_is;
  passed_len = one_more (length h.passed) skip h.passed_len;
  characters = h.characters;
  len_is = one_longer found.1 skip (length h.inside) h.len_is;
}
  where
    one_more : (a b : ℕ) → a ≡ b → suc a ≡ suc b
    one_more a b e = omega arith

    one_longer : (a b d : ℕ) → a ≡ b + (d + 1) → suc a ≡ suc b + (d + 1)
    one_longer a b d e = omega arith

with_first : (quote c : ℕ) (rest : List ℕ) (s : Spelled) (o : Option (List ℕ × ℕ)) → Spells quote (c ∷ rest) s → DecodesIf quote (s.len - 1) rest o → DecodesIf quote 0 (c ∷ rest) (bump_with s.character o)
with_first quote c rest s None q h = tt
with_first quote c rest s (Some found) q h = joined quote c s.len rest q.slice q.rest found.0 found.1 q.text_is q.len_is q.some s.character q.character h

at_quote : (quote c : ℕ) (rest : List ℕ) → DecodesIf quote 0 (c ∷ rest) (cond (c == quote) (Some ([], 1)) None)
at_quote quote c rest =
    by_test (c == quote) (DecodesIf quote 0 (c ∷ rest)) (Some ([], 1)) None
    (λ t. record { passed = []; inside = []; rest = rest; text_is = ap (λ (x : ℕ). x ∷ rest) (eqb-true c quote t); passed_len = refl; characters = refl; len_is = refl })
    (λ t. tt)

decode_at : (quote c : ℕ) (rest : List ℕ) (o : Option Spelled) → SpellsIf quote (c ∷ rest) o → ((skip : ℕ) → DecodesIf quote skip rest (decode quote skip rest))
    → DecodesIf quote 0 (c ∷ rest) (elim o [ Some s ↦ bump_with s.character (decode quote (s.len - 1) rest) | None ↦ cond (c == quote) (Some ([], 1)) None ])
decode_at quote c rest None h again = at_quote quote c rest
decode_at quote c rest (Some s) h again = with_first quote c rest s (decode quote (s.len - 1) rest) h (again (s.len - 1))

pub decodes : (quote : ℕ) (text : List ℕ) (skip : ℕ) → DecodesIf quote skip text (decode quote skip text)
unfolding decode
decodes quote [] skip = tt
decodes quote (c ∷ rest) (suc skip) = passed_on quote skip c rest (decode quote skip rest) (decodes quote rest skip)
decodes quote (c ∷ rest) zero = decode_at quote c rest (first quote (c ∷ rest)) (first_spells quote (c ∷ rest)) (λ skip. decodes quote rest skip)

-- ---- what is spelled so is decoded

false_of : (a b : ℕ) → a ≢ b → (a == b) ≡ false
false_of a b n = ne_eqb a b n

plain_false : (quote c : ℕ) → c ≢ quote → c ≢ 10 → c ≢ 13 → (c == quote || c == 10 || c == 13) ≡ false
plain_false quote c p q r = rw (false_of c quote p, false_of c 10 q, false_of c 13 r) refl

first_found : (quote : ℕ) (slice more : List ℕ) (c : ℕ) → IsCharacter quote slice c → first quote (slice ++ more) ≡ spelled c (length slice)
unfolding first
first_found quote slice more c (itself e n p q r) = rw e (rw (false_of c 92 n, plain_false quote c p q r) refl)
first_found quote slice more c (short x e n h) = rw e (rw (false_of x 117 n, h) refl)
first_found quote slice more c (coded a b d g e h i j) = rw e (rw h (rw i (rw j refl)))
first_found quote slice more c (pair a b d g a' b' d' g' high low e h i j m v) = rw e (rw h (rw j (rw i (rw m (rw j (rw v refl))))))

abbrev pub bumps : ℕ → Option (List ℕ × ℕ) → Option (List ℕ × ℕ)
bumps zero o = o
bumps (suc n) o = bump (bumps n o)

pub decode_past : (quote : ℕ) (slice more : List ℕ) → decode quote (length slice) (slice ++ more) ≡ bumps (length slice) (decode quote 0 more)
unfolding decode
decode_past quote [] more = refl
decode_past quote (c ∷ slice) more = ap bump (decode_past quote slice more)

pub bumps_some : (n : ℕ) (decoded : List ℕ) (m : ℕ) → bumps n (Some (decoded, m)) ≡ Some (decoded, n + m)
bumps_some zero decoded m = ap (λ k. Some (decoded, k)) (omega arith)
bumps_some (suc n) decoded m = ap bump (bumps_some n decoded m) ∙ ap (λ k. Some (decoded, k)) (omega arith)

decode_first : (quote : ℕ) (slice more : List ℕ) (c : ℕ) (decoded : List ℕ) (n : ℕ) → 0 < length slice → first quote (slice ++ more) ≡ spelled c (length slice) → decode quote 0 more ≡ Some (decoded, n)
    → decode quote 0 (slice ++ more) ≡ Some (c ∷ decoded, length slice + n)
unfolding decode
decode_first quote [] more c decoded n lt h q = absurd (omega arith)
decode_first quote (x ∷ slice) more c decoded n lt h q =
    ap (λ (o : Option Spelled). elim o [ Some s ↦ bump_with s.character (decode quote (s.len - 1) (slice ++ more)) | None ↦ cond (x == quote) (Some ([], 1)) None ]) h
    ∙ ap (λ k. bump_with c (decode quote k (slice ++ more))) (less (length slice))
    ∙ ap (bump_with c) (decode_past quote slice more ∙ ap (bumps (length slice)) q ∙ bumps_some (length slice) decoded n)
    ∙ ap (λ k. Some (c ∷ decoded, k)) (longer (length slice) n)
  where
    less : (a : ℕ) → suc a - 1 ≡ a
    less a = omega arith

    longer : (a b : ℕ) → suc (a + b) ≡ suc a + b
    longer a b = omega arith

character_some : (quote : ℕ) (slice : List ℕ) (c : ℕ) → IsCharacter quote slice c → 0 < length slice
character_some quote slice c (itself e n p q r) = rw e (omega arith)
character_some quote slice c (short x e n h) = rw e (omega arith)
character_some quote slice c (coded a b d g e h i j) = rw e (omega arith)
character_some quote slice c (pair a b d g a' b' d' g' high low e h i j m v) = rw e (omega arith)

quote_first : (quote : ℕ) (rest : List ℕ) → quote ≢ 92 → first quote (quote ∷ rest) ≡ None
unfolding first
quote_first quote rest n =
    ap (λ b. cond b (after_backslash rest) (cond (quote == quote || quote == 10 || quote == 13) None (spelled quote 1))) (false_of quote 92 n)
    ∙ ap (λ b. cond (b || quote == 10 || quote == 13) None (spelled quote 1)) (eq-eqb quote quote refl)

first_at_quote : (quote : ℕ) (rest : List ℕ) → quote ≢ 92 → decode quote 0 (quote ∷ rest) ≡ Some ([], 1)
unfolding decode
first_at_quote quote rest n =
    ap (λ (o : Option Spelled). elim o [ Some s ↦ bump_with s.character (decode quote (s.len - 1) rest) | None ↦ cond (quote == quote) (Some ([], 1)) None ]) (quote_first quote rest n)
    ∙ ap (λ b. cond b (Some ([], 1)) None) (eq-eqb quote quote refl)

pub decode_found : (quote : ℕ) (decoded inside rest : List ℕ) → quote ≢ 92 → AreCharacters quote inside decoded → decode quote 0 (inside ++ quote ∷ rest) ≡ Some (decoded, length inside + 1)
decode_found quote [] inside rest n h = rw h (first_at_quote quote rest n)
decode_found quote (c ∷ decoded) inside rest n h =
    let slice = h.0 in
    let again = decode_found quote decoded h.1 rest n h.4 in
    ap (λ (ys : List ℕ). decode quote 0 (ys ++ quote ∷ rest)) h.2 ∙ ap (decode quote 0) (append_assoc h.0 h.1 (quote ∷ rest))
    ∙ decode_first quote h.0 (h.1 ++ quote ∷ rest) c decoded (length h.1 + 1) (character_some quote h.0 c h.3) (first_found quote h.0 (h.1 ++ quote ∷ rest) c h.3) again
    ∙ ap (λ k. Some (c ∷ decoded, k)) (total (length h.0) (length h.1)) ∙ ap (λ k. Some (c ∷ decoded, k + 1)) (sym (length-append h.0 h.1) ∙ ap length (sym h.2))
  where
    total : (a b : ℕ) → a + (b + 1) ≡ a + b + 1
    total a b = omega arith
