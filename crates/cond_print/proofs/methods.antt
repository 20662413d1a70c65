pub mod PrintedRows
