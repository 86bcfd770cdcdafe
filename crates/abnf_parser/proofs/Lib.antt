-- How reading is proved, in reading order.
-- a machine of which it is known what may still come
pub mod Residuals
-- bodies of rules: what may still come, and a lexeme of it
pub mod Languages
pub mod BodySteps
pub mod BodyEnds
-- documents
pub mod DocumentLanguages
pub mod DocumentSteps
-- lexemes of a text
pub mod RoleLemmas
-- keywords are codes
pub mod KeywordCodes
-- lexemes: one at each place
pub mod OneLexeme
-- the machine is exact: the laws
pub mod Exact
-- one answer to each text
pub mod OneAnswer
