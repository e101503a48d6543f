pub mod FormViews
pub mod FormsAhead
pub mod LineReads
