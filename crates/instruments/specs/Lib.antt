-- what a bounded list holds
pub mod Items
-- the limits of a sheet
pub mod Fitted
-- what a sheet says
pub mod Sheets
-- what registers show, answer and take
pub mod Registers
-- what a bench shows
pub mod Benches
-- what a recorded sheet shows
pub mod Records
-- where the registers of an image lie
pub mod Layout
-- which bytes are an image
pub mod Accepted
-- what making an image answers
pub mod Made
-- the text of a survey
pub mod Surveys
-- lemmas by which the implementations answer the laws of gauges and works; they define nothing
pub mod Rows
pub mod Indexed
pub mod Grid
pub mod Fewness
pub mod ShowsLemmas
