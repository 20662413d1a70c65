pub mod flow_rows
