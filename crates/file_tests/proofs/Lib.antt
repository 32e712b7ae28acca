mod ReaderLemmas
