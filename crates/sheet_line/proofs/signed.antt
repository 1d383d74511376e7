-- The laws of `sheet_line::signed`.
pub mod Signs
pub mod Only
