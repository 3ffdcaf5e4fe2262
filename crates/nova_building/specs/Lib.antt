-- Which commands are built, and what holds while only some are.
pub mod Building
pub mod Laws
-- worked sessions
pub mod Sessions
