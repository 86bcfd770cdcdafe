-- The first part is the alternative, or it is looked for behind the bar.
use Rattle.std.proofs.Common.{◌≡◌, ◌≢◌, refl, sym, ◌∙◌}
use Rattle.server_shell.specs.first_form.Words.{words_in}
use Rattle.server_shell.proofs.first_form_lemmas.Formed.{alternatives-first, alternatives-more, alternatives-others, alternatives-one}
use Rattle.server_shell.proofs.first_form.form.has_alternative.Goals as goal

pub returns-then-are_same : goal.returns-then-are_same
returns-then-are_same c =
    let same : words_in c.in-Some.part.now ≡ c.args.words.now = sym c.in_ok-words_in.ensures
    ∙ sym c.as_slice-in-Some.ensures ∙ c.if-are_same.ensures.0 refl in (
      λ h. c.loop-part.invariant.there (alternatives-first c.in-Some.ensures c.args.words.now same),
      λ h. refl,
    )

pub loop-part-preserved : goal.loop-part-preserved
loop-part-preserved c =
    let other : words_in c.in-Some.part.now ≢ c.args.words.now = λ same. let h =
    c.if-are_same.ensures.1 (c.as_slice-in-Some.ensures ∙ c.in_ok-words_in.ensures ∙ same) in
    cc in
    record {
      there = λ h. c.loop-part.invariant.there
          (alternatives-more c.in-Some.ensures c.args.words.now h);
      only = λ h. alternatives-others c.in-Some.ensures c.args.words.now other
          (c.loop-part.invariant.only h);
    }

pub returns : goal.returns
returns c =
    let (there, only) =
    alternatives-one c.loop-part.rest.now c.args.words.now c.in_default.ensures in
    let whole : c.as_slice-3.result.now ≡ words_in c.loop-part.rest.now = c.as_slice-3.ensures
    ∙ c.in_ok-words_in-2.ensures in (
      λ h. c.loop-part.invariant.there (there (sym whole ∙ c.are_same-2.ensures.0 h)),
      λ h. c.are_same-2.ensures.1 (whole ∙ only (c.loop-part.invariant.only h)),
    )
