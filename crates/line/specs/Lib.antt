-- One list of packets in order of arrival (document 02, W-212).
pub mod Line
pub mod Layout
pub mod Same
