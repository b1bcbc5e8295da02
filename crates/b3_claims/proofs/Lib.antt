-- How often an index stands in a list, and which indexes a row of truth values has.
pub mod ClaimedIndexes
-- Lists that are read by `get_elem?`: what holds of an element, and sums.
pub mod ListPlaces
-- The words of claims, after one became 1.
pub mod ClaimWords
-- Each step of a seat keeps the claims lawful, and what lawful claims say of one seat.
pub mod ClaimLaws
-- The steps that the table of claims takes.
pub mod ClaimSteps
-- A seat of its claims: what their views say of their fields.
pub mod SeatViews
