-- The laws of lines are lemmas on their definitions.
use Rattle.std.proofs.lemmas.List.Elements.{recursion_from_All, All-from_recursion}
use Rattle.vg_io.proofs.Cutting.{lines_of-with_feeds, whole_lines_of-with_feeds, IsCutAtFeeds-whole_lines_of}
use Rattle.vg_io.proofs.laws.lines_are_cut_at_feeds.Goals as goal

pub returns-clause-cut : goal.returns-clause-cut
returns-clause-cut c bytes =
    let cut = IsCutAtFeeds-whole_lines_of bytes in
    (cut.rest, cut.no_feed, All-from_recursion _ _ cut.whole, cut.same)

pub returns-clause-whole : goal.returns-clause-whole
returns-clause-whole c lines rest all h = whole_lines_of-with_feeds lines rest
    (recursion_from_All _ lines all) h

pub returns-clause-all : goal.returns-clause-all
returns-clause-all c lines rest all h = lines_of-with_feeds lines rest
    (recursion_from_All _ lines all) h
