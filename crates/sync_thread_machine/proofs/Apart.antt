-- The symbols of names and of their tokens differ.
use Rattle.std.proofs.Common.{arith}
use Rattle.sync_thread_machine.specs.ProgramSymbols.{SymbolsDiffer}

pub symbols_differ : SymbolsDiffer
symbols_differ = record {
  names = λ m n e. omega (arith, e);
  tokens = λ m n e. omega (arith, e);
  apart = λ m n e. omega (arith, e);
  no_word = λ n. omega (arith);
  old_names = λ n lt. omega (arith, lt);
  old_tokens = λ n lt. omega (arith, lt);
}
