use Rattle.std.proofs.Common.{◌≡◌, ◌≢◌, ℕ, cond, List, [], ◌∷◌, Option, Some, None, Bor, MatchOption, refl, ap, sym, ◌∙◌, unwrap_or, lit<}
use Rattle.std.proofs.lemmas.Str.Pattern.{strip_prefix_char}
use Rattle.uri_links.specs.Split.{slash}
use Rattle.uri_links.specs.code.Kinds.{behind_slash}
use Rattle.std.proofs.lemmas.Bool.{ne_eqb}
use Rattle.uri_links.proofs.dots.behind_slash.Goals as goal

bare : (xs : List ℕ) → ((rest : List ℕ) → xs ≢ slash ∷ rest) → xs ≡ behind_slash xs
bare [] h = refl
bare (x ∷ xs) h = sym (ap (λ b. cond b xs (x ∷ xs)) (ne_eqb x slash (λ e. h xs (ap (λ y. y ∷ xs) e))))

behind : (path : Bor (List ℕ)) (r : Option (Bor (List ℕ))) → MatchOption r ((rest : List ℕ) → path.now ≢ slash ∷ rest) (λ x. path.now ≡ slash ∷ x.now)
    → (unwrap_or r path).now ≡ behind_slash path.now
behind path None h = bare path.now h
behind path (Some rest) h = ap behind_slash (sym h)

pub returns : goal.returns
returns c =
    let p = strip_prefix_char 47 c.args.path.now c.strip_prefix.result c.strip_prefix.ensures.cases (lit< tt) in
    ap (λ b. b.now) c.unwrap_or.ensures ∙ behind c.args.path c.strip_prefix.result p
