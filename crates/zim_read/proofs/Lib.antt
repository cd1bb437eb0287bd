mod SearchLemmas
mod LineLemmas
mod TemplateLemmas
mod ReadingLemmas
mod LoopLemmas
mod FolderLemmas
mod FileLemmas
