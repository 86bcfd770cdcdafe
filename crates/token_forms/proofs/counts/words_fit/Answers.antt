use Rattle.std.proofs.Common.{◌≡◌, ℕ, ◌<◌, ◌+◌, List, [], ◌∷◌, ◌++◌, length, get_or, take, take_all, drop, refl, ap, sym, ◌∙◌, subst, append_assoc}
use Rattle.std.proofs.lemmas.List.{take_more, take-append-drop}
use Rattle.token_forms.specs.Words.{AreWordsOf}
use Rattle.token_forms.proofs.CountLemmas.{Paid, nothing_paid, one_more_text, all_within, all_too_many}
use Rattle.token_forms.proofs.WordLemmas.{some_list}
use Rattle.token_forms.proofs.counts.words_fit.Goals as goal

-- the texts up to one of them
up_to : (texts : List (List ℕ)) (i : ℕ) (text : List ℕ) → i < length texts → text ≡ get_or texts i text → take i texts ++ text ∷ [] ≡ take (i + 1) texts
up_to texts i text low is = ap (λ (t : List ℕ). take i texts ++ t ∷ []) is ∙ sym (take_more texts i text low)

pub loop-text-init : goal.loop-text-init
loop-text-init c = nothing_paid c.args.most

pub loop-text-preserved : goal.loop-text-preserved
loop-text-preserved c =
    let own = some_list c.text-item.result in
    subst (Paid c.args.most c.in-Some.after) (up_to c.args.texts.now c.loop-text.text-index c.text-item.result c.loop-text-test.true c.text-item.is)
    (one_more_text c.loop-text.invariant c.text-item.result own.0 own.1 (c.in-Some.ensures own.0 own.1))

pub returns-in_default : goal.returns-in_default
returns-in_default c =
    let i = c.loop-text.text-index in
    let behind : List (List ℕ) = drop (i + 1) c.args.texts.now in
    let whole : c.args.texts.now ≡ take i c.args.texts.now ++ c.text-item.result ∷ behind =
    sym (take-append-drop (i + 1) c.args.texts.now) ∙ (ap (λ l. l ++ behind) (sym (up_to c.args.texts.now i c.text-item.result c.loop-text-test.true c.text-item.is))
    ∙ append_assoc (take i c.args.texts.now) (c.text-item.result ∷ []) behind) in
    λ words are. (
      λ e. absurd (cc),
      λ within. absurd (all_too_many c.loop-text.invariant c.text-item.result c.in_default.ensures behind words (subst (AreWordsOf words) whole are) within),
    )

pub returns : goal.returns
returns c =
    let all = subst (Paid c.args.most c.loop-text.left) (take_all c.loop-text.text-index c.args.texts.now c.loop-text-test.false) c.loop-text.invariant in
    λ words are. (λ yes. all_within all words are, λ within. refl)
