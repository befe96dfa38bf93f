mod Numbers
mod RoundLemmas
