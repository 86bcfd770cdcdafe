-- codes of languages (`is_code`)
pub mod CodeForms
-- what stands in angles, and media types
pub mod Angles
-- what is found at the front has its form, and each form is found
pub mod Pieces
pub mod Found
-- what any cutting asks for (`texts_are_cut_in_one_way`)
pub mod Cuttings
-- the header and its form (`headers_have_their_form`)
pub mod HeaderForm
-- which fault comes first, whatever stands behind
pub mod Later
pub mod FirstBad
pub mod FirstCharacters
pub mod HeaderCharacters
-- one more piece, and one turn of the loop (`tally_of`)
pub mod Counting
pub mod Next
-- the first fault of the pieces is the first of the text (`first_fault`)
pub mod FirstFault
pub mod Answering
-- where lexemes stand and what their spans show (`pieces_are_slices`)
pub mod Spans
-- one answer (`texts_have_one_answer`)
mod SameFault
pub mod OneAnswer
-- what `lex` answers
pub mod Lexed
-- what stands between an opening and a closing
pub mod Parting
-- repeats (`repeats_are_read_in_one_way`, `read_repeat`)
pub mod OneRepeat
pub mod RepeatForms
-- insides (`lexemes_have_one_inside`, `inside_of`)
pub mod InsideForms
