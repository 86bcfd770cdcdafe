use Rattle.abnf_parser.proofs.KeywordCodes.{is_code_of, is_lang_of}
use Rattle.abnf_parser.proofs.laws.languages_are_codes.Goals as goal

pub returns : goal.returns
returns c = record { code = is_code_of; lang = is_lang_of }
