use Rattle.std.proofs.Common.{◌≡◌, ℕ, List, take, Option, Some, None, MatchOption, ◌≤◌, sym, ◌∙◌, unwrap_or, lit<}
use Rattle.std.proofs.lemmas.Str.Pattern.{rfind_char}
use Rattle.std.specs.Str.Pattern.{RFindsChar}
use Rattle.std.specs.Str.{IsCharBoundary}
use Rattle.uri_links.specs.Split.{before_last, slash}
use Rattle.uri_links.proofs.SplitLemmas.{before_last-found, before_last-none, none_at}
use Rattle.uri_links.proofs.dots.drop_segment.Goals as goal

cut_at : (bs : List ℕ) (r : Option ℕ) → MatchOption r (RFindsChar slash bs None) (λ i. (j : ℕ) × RFindsChar slash bs (Some (i, j)) × (i ≤ j) × IsCharBoundary bs i × IsCharBoundary bs j)
    → take (unwrap_or r 0) bs ≡ before_last slash bs
cut_at bs None h = let p = rfind_char slash bs None h (lit< tt) in sym (before_last-none slash bs (none_at slash bs p))
cut_at bs (Some k) h = let p = rfind_char slash bs (Some k) h (lit< tt) in sym (before_last-found slash bs k p.0 p.1 p.2)

pub returns : goal.returns
returns c =
    let cut = cut_at c.deref.result.now c.rfind.result c.rfind.ensures.cases in
    c.truncate.ensures.bytes ∙ rw (c.unwrap_or-end.ensures, ← c.deref.ensures) cut
