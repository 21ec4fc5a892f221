-- pieces that are added to a tree in some order
mod AddedLemmas
