-- What the text of a flow file calls for, passed on.
pub use Rattle.flow_files.specs.FlowLimits.{Passes, CallsFor, answer_of}
