mod OrderLemmas
mod LoopLemmas
mod TextLemmas
mod SetLemmas
