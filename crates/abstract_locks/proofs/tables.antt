pub mod SimpleTables
