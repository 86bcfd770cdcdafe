use Rattle.std.proofs.Common.{◌≡◌, true, IsSome, Ok, ap, sym, ◌∙◌, subst}
use Rattle.uri_links.specs.Allowed.{are_good, is_reference}
use Rattle.uri_links.specs.Dots.{remove_dot_segments}
use Rattle.uri_links.specs.Faults.{reading_fault, unless}
use Rattle.uri_links.specs.Parts.{Parts, parts, recompose}
use Rattle.uri_links.specs.Resolution.{is_absolute, key}
use Rattle.uri_links.proofs.FaultLemmas.{reading_none, key_none}
use Rattle.uri_links.proofs.KeyLemmas.{key_reads}
use Rattle.uri_links.proofs.ReferenceLemmas.{bytes_same, key_absolute, absolute_scheme}
use Rattle.uri_links.proofs.uri.Uri.read_key.Goals as goal

pub without_dots-requires-clause-good : goal.without_dots-requires-clause-good
unfolding is_reference
without_dots-requires-clause-good c =
    let none = key_none c.args.text.now (sym c.in_default.ensures) in
    let good : is_reference c.args.text.now ≡ true = reading_none c.args.text.now none.0 in
    ap are_good c.split.ensures ∙ (ap (λ t. are_good (parts t)) (bytes_same c.args.text.now c.as_str.result.now c.as_str.ensures.bytes good) ∙ good)

pub without_dots-requires-clause-scheme : goal.without_dots-requires-clause-scheme
without_dots-requires-clause-scheme c =
    let none = key_none c.args.text.now (sym c.in_default.ensures) in
    let same = bytes_same c.args.text.now c.as_str.result.now c.as_str.ensures.bytes (reading_none c.args.text.now none.0) in
    subst (λ (p : Parts). IsSome p.scheme) (sym (c.split.ensures ∙ ap parts same)) (absolute_scheme c.args.text.now none.1)

pub returns-clause-answer : goal.returns-clause-answer
unfolding key
returns-clause-answer c =
    let fits = sym c.in_default.ensures in
    let same = bytes_same c.args.text.now c.as_str.result.now c.as_str.ensures.bytes (reading_none c.args.text.now (key_none c.args.text.now fits).0) in
    ap (λ o. unless o (key c.args.text.now)) fits
    ∙ ap Ok (sym (c.in_ok-without_dots.ensures ∙ ap (λ (p : Parts). let q : Parts = record p { path = remove_dot_segments p.path } in recompose q) (c.split.ensures ∙ ap parts same)))

pub returns-clause-absolute : goal.returns-clause-absolute
unfolding key
returns-clause-absolute c =
    let none = key_none c.args.text.now (sym c.in_default.ensures) in
    let good = reading_none c.args.text.now none.0 in
    let same = bytes_same c.args.text.now c.as_str.result.now c.as_str.ensures.bytes good in
    let is : c.in_ok-without_dots.field-0 ≡ key c.args.text.now =
    c.in_ok-without_dots.ensures ∙ ap (λ (p : Parts). let q : Parts = record p { path = remove_dot_segments p.path } in recompose q) (c.split.ensures ∙ ap parts same) in
    ap is_absolute is ∙ key_absolute c.args.text.now good none.1

pub returns-clause-readable : goal.returns-clause-readable
unfolding key
returns-clause-readable c =
    let fits = sym c.in_default.ensures in
    let good = reading_none c.args.text.now (key_none c.args.text.now fits).0 in
    let same = bytes_same c.args.text.now c.as_str.result.now c.as_str.ensures.bytes good in
    let is : c.in_ok-without_dots.field-0 ≡ key c.args.text.now =
    c.in_ok-without_dots.ensures ∙ ap (λ (p : Parts). let q : Parts = record p { path = remove_dot_segments p.path } in recompose q) (c.split.ensures ∙ ap parts same) in
    ap reading_fault is ∙ key_reads c.args.text.now fits
