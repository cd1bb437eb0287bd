mod CodeLemmas
mod WordLemmas
mod PartLemmas
mod ConditionLemmas
