-- What declarations of a grammar say: its mode (SRGS 1.0 section 4.6) and its tag format (section 4.8; the names are those of SISR 1.0).
use Rattle.std.specs.Prelude.{ℕ, List, codes}
use Rattle.vg_base.specs.declared.mode.Mode.{Mode}
use Rattle.vg_base.specs.declared.mode.Mode.TheVariants.{Voice, Dtmf}
use Rattle.vg_base.specs.declared.format.Format.{Format}
use Rattle.vg_base.specs.declared.format.Format.TheVariants as tags

abbrev pub mode_name : Mode → List ℕ
mode_name Voice = codes "voice"
mode_name Dtmf = codes "dtmf"

abbrev pub format_name : Format → List ℕ
format_name tags.Script = codes "semantics/1.0"
format_name tags.Literal = codes "semantics/1.0-literals"
