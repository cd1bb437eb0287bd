mod TruthLemmas
mod ColumnLemmas
mod StatementLemmas
mod StepLemmas
