pub mod MeaningLaws
mod OnWrittenTrees
