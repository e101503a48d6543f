pub mod CoveredLemmas
pub mod MayTextsLemmas
pub mod ReplayReadsLemmas
pub mod TextsLemmas
