-- from what was opened to what was written of the whole batch
mod DealLemmas
