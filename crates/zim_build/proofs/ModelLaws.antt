-- What the crates above cite: a name is exactly one of a model, a first fault and a missing file, and a model has one program.
pub use Rattle.zim_build.proofs.NameLemmas.{one_name, one_fault, one_file, at_most_one}
pub use Rattle.zim_build.proofs.OneOfThree.{one_of_three}
pub use Rattle.zim_build.proofs.ProgramLemmas.{one_program}
