-- Parts of a content that is read at offsets: what the next region adds to those before it.
pub mod PartLemmas
