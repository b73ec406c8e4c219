-- A machine with a program of threads over it, and the symbols of a program's names.
pub mod MachineWithProgram
pub mod ProgramSymbols
