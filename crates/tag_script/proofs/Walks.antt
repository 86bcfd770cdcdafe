-- What an item that is walked into leaves of its list.
use Rattle.std.proofs.Common.{◌≡◌, ℕ, ◌<◌, List, [], ◌∷◌, ◌++◌, length, ap, ◌∙◌, arith}
use Rattle.std.specs.Prelude.{ℤ, pos, ◌==◌, slice_set, if◌then◌else◌, Ok, Err}
use Rattle.std.proofs.lemmas.Bool.{lt-ltb}
use Rattle.std.proofs.lemmas.List.{length-append}
use Rattle.script_value.specs.declared.value.Value.{Value}
use Rattle.script_value.specs.declared.value.Value.TheVariants as v
use Rattle.tag_script.specs.declared.step.Step.{Step}
use Rattle.tag_script.specs.declared.tag_kind.TagKind.TheVariants as tag
use Rattle.tag_script.specs.Outcomes.{and_then, or_fault}
use Rattle.tag_script.specs.Changes.{walked, walked_item, with_item}
use Rattle.tag_script.proofs.Items.{get_between, set_between}

pub item_walked : (items left behind : List Value) (n : ℤ) (at : ℕ) (item changed new : Value) (next : Step) (rest : List Step)
    → n ≡ pos at → length left ≡ at → items ≡ left ++ (item ∷ behind) → walked next rest new item ≡ Ok changed
    → walked_item items n next rest new ≡ Ok (v.List ((left ++ changed ∷ []) ++ behind))
item_walked items left behind n at item changed new next rest is size parts w =
    let all = ap length parts ∙ length-append left (item ∷ behind) in
    let within : at < length items = omega (arith, all) in
    ap (λ m. walked_item items m next rest new) is
    ∙ ap (λ o. and_then (or_fault tag.Kind o) (λ inner. and_then (walked next rest new inner) (λ c. with_item items (pos at) c))) (get_between items left behind at item size parts)
    ∙ ap (λ o. and_then o (λ c. with_item items (pos at) c)) w
    ∙ ap (λ b. if b then Ok (v.List (slice_set items at changed)) else (if at == length items then Ok (v.List (items ++ changed ∷ [])) else Err tag.Range)) (lt-ltb at (length items) within)
    ∙ ap (λ l. Ok (v.List l)) (set_between items left behind at item changed size parts)
