pub mod AscendingLists
pub mod GrowingLists
pub mod PairLemmas
pub mod ReadLemmas
pub mod SortedLists
pub mod StableSorts
