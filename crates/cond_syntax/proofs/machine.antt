pub mod Continuations
pub mod GrammarToMachine
pub mod Machine
pub mod MachineLemmas
pub mod MachineToGrammar
