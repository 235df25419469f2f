-- What private functions alone cite.
pub mod Blanks
pub mod PairMeetings
pub mod SortTests
