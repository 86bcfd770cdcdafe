use Rattle.std.proofs.Common.{◌≡◌, length, ap, sym, ◌∙◌, arith}
use Rattle.std.proofs.lemmas.Bool.Decides.{nat_tests}
use Rattle.std.specs.String.{string_bytes}
use Rattle.uri_links.specs.Dots.{Buffers, remove_dot_segments}
use Rattle.uri_links.proofs.DotsLemmas.{removed-empty, SplitsOff, rest_utf8, bare_goes, here_goes, up_goes, plain_goes}
use Rattle.uri_links.proofs.dots.without_dot_segments.Goals as goal

pub loop-rest-smaller-in-Bare : goal.loop-rest-smaller-in-Bare
loop-rest-smaller-in-Bare c =
    rw c.behind_slash-rest.ensures (bare_goes c.loop-rest.rest.now c.split_segment.result.0.now c.split_segment.result.1.now
    (c.split_segment.ensures.segment, c.split_segment.ensures.after) (string_bytes c.loop-rest.output) c.in-Bare.ensures).1

pub loop-rest-preserved-in-Bare : goal.loop-rest-preserved-in-Bare
loop-rest-preserved-in-Bare c = record {
  utf8 = c.behind_slash-rest.utf8;
  same = c.loop-rest.invariant.same ∙ rw c.behind_slash-rest.ensures
      (bare_goes c.loop-rest.rest.now c.split_segment.result.0.now c.split_segment.result.1.now
      (c.split_segment.ensures.segment, c.split_segment.ensures.after) (string_bytes c.loop-rest.output) c.in-Bare.ensures).0;
}

pub loop-rest-smaller-in-Here : goal.loop-rest-smaller-in-Here
loop-rest-smaller-in-Here c =
    rw c.or_slash-rest.ensures (here_goes c.loop-rest.rest.now c.split_segment.result.0.now c.split_segment.result.1.now
    (c.split_segment.ensures.segment, c.split_segment.ensures.after) (string_bytes c.loop-rest.output) c.in-Here.ensures).1

pub loop-rest-preserved-in-Here : goal.loop-rest-preserved-in-Here
loop-rest-preserved-in-Here c = record {
  utf8 = c.or_slash-rest.utf8;
  same = c.loop-rest.invariant.same ∙ rw c.or_slash-rest.ensures
      (here_goes c.loop-rest.rest.now c.split_segment.result.0.now c.split_segment.result.1.now
      (c.split_segment.ensures.segment, c.split_segment.ensures.after) (string_bytes c.loop-rest.output) c.in-Here.ensures).0;
}

pub loop-rest-smaller-in-Up : goal.loop-rest-smaller-in-Up
loop-rest-smaller-in-Up c =
    rw c.or_slash-rest-in-Up.ensures (up_goes c.loop-rest.rest.now c.split_segment.result.0.now c.split_segment.result.1.now
    (c.split_segment.ensures.segment, c.split_segment.ensures.after) (string_bytes c.loop-rest.output) c.in-Up.ensures).1

pub loop-rest-preserved-in-Up : goal.loop-rest-preserved-in-Up
loop-rest-preserved-in-Up c = record {
  utf8 = c.or_slash-rest-in-Up.utf8;
  same = c.loop-rest.invariant.same ∙ rw (c.or_slash-rest-in-Up.ensures, c.drop_segment.ensures)
      (up_goes c.loop-rest.rest.now c.split_segment.result.0.now c.split_segment.result.1.now
      (c.split_segment.ensures.segment, c.split_segment.ensures.after) (string_bytes c.loop-rest.output) c.in-Up.ensures).0;
}

pub loop-rest-smaller : goal.loop-rest-smaller
loop-rest-smaller c =
    (plain_goes c.loop-rest.rest.now c.split_segment.result.0.now c.split_segment.result.1.now
    (c.split_segment.ensures.segment, c.split_segment.ensures.after) (string_bytes c.loop-rest.output) (grind (arith, nat_tests)) c.in-Plain.ensures).1

pub loop-rest-preserved : goal.loop-rest-preserved
loop-rest-preserved c =
    let split : SplitsOff c.loop-rest.rest.now c.split_segment.result.0.now c.split_segment.result.1.now =
    (c.split_segment.ensures.segment, c.split_segment.ensures.after) in
    record {
      utf8 = rest_utf8 c.loop-rest.rest.now c.split_segment.result.0.now c.split_segment.result.1.now split c.loop-rest.invariant.utf8;
      same = c.loop-rest.invariant.same ∙ rw c.in_ok-push_str-in-Plain.ensures.bytes
          (plain_goes c.loop-rest.rest.now c.split_segment.result.0.now c.split_segment.result.1.now split (string_bytes c.loop-rest.output)
          (grind (arith, nat_tests)) c.in-Plain.ensures).0;
    }

pub returns : goal.returns
unfolding remove_dot_segments
returns c =
    let none : length c.loop-rest.rest.now ≡ 0 = grind (arith, nat_tests) in
    sym (ap (λ (b : Buffers). b.output) c.loop-rest.invariant.same ∙ removed-empty c.loop-rest.rest.now (string_bytes c.loop-rest.output) none)
