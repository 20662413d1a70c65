pub mod SilentTables
