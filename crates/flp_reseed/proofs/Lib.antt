-- the law of the printed seeds
mod LawLemmas
-- lines that are put one after another
mod LineLemmas
