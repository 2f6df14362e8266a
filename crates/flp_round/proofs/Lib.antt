mod CountLemmas
mod FindingsLemmas
mod OutsLemmas
mod RowLemmas
mod NotesLemmas
mod RoundLemmas
mod GatherLemmas
mod CrewLemmas
