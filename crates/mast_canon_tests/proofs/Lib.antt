mod HeadLemmas
mod ReaderLemmas
mod WorldLemmas
