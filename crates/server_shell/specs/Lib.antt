-- What has to be believed, in reading order. The first seven are of every server over batches of
-- lines; the form that is answered today has a folder of its own. What only private contracts cite
-- stands in `code`.
pub mod Runs
pub mod Batching
pub mod ItemRules
pub mod Service
pub mod Delivery
pub mod Served
pub mod Codes
pub mod first_form
pub mod code
