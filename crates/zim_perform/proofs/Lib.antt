mod LineLemmas
mod PrintLemmas
mod TextLemmas
