-- bytes that are read up to a limit
mod WholeLemmas
