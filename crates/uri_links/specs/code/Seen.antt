-- The parts that the code holds, as those of the definitions.
use Rattle.std.specs.Option.{option_copied}
use Rattle.uri_links.specs.declared.parts.Parts as slices
use Rattle.uri_links.specs.Parts.{Parts}

abbrev pub seen : slices.Parts → Parts
seen p = record {
  scheme = option_copied p.scheme;
  authority = option_copied p.authority;
  path = p.path.now;
  query = option_copied p.query;
  fragment = option_copied p.fragment;
}
