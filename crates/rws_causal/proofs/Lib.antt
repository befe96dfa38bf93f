mod CommitLemmas
