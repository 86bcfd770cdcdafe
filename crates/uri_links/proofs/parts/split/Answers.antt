use Rattle.std.specs.Option.{option_copied}
use Rattle.uri_links.proofs.PartsLemmas.{parts-built}
use Rattle.uri_links.proofs.parts.split.Goals as goal

pub returns : goal.returns
returns c =
    parts-built c.args.text.now c.split_at_mark.result.0.now c.split_at_mark-2.result.0.now c.split_scheme.result.1.now
    (option_copied c.split_scheme.result.0) (option_copied c.split_authority.result.0) c.split_authority.result.1.now
    (option_copied c.split_at_mark-2.result.1) (option_copied c.split_at_mark.result.1)
    c.split_at_mark.ensures.front c.split_at_mark.ensures.back c.split_at_mark-2.ensures.front c.split_at_mark-2.ensures.back
    c.split_scheme.ensures.scheme c.split_scheme.ensures.hier c.split_authority.ensures.authority c.split_authority.ensures.path
