pub mod EventTables
pub mod ScriptParts
pub mod Sorting
