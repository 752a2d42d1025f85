pub mod LineReads
pub mod Lines
pub mod NoticeTexts
