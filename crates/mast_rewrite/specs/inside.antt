-- What private functions alone cite.
pub mod Marks
pub mod MeetingLists
pub mod Leaders
pub mod Growing
pub mod Memos
