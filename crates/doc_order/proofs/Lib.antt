mod FillLemmas
mod LawLemmas
mod ListLemmas
mod NameLemmas
mod OneDoc
mod OrderLemmas
mod PlaceLemmas
mod TypeLemmas
