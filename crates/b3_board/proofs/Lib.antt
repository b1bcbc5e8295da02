-- The bytes of a span, and the node of a subtree from those of its two children.
pub mod SpanBytes
-- The nodes of bytes that an input may have: siblings join, and the whole has the root.
pub mod KnownNodes
-- The bytes of a span of a region of a source.
pub mod RegionBytes
-- A search by halves among ascending entries.
pub mod Finding
-- The sibling of a piece among the pieces.
pub mod Partners
-- What closing a span and joining two siblings does to the state of a board.
pub mod Steps
-- A board on which all spans are open is lawful.
pub mod Cuttings
-- The open spans: with none there is the root alone, and the other way round; and what closing one leaves.
pub mod OpenSpans
-- What a list keeps of another, by `filter_map`: each element, one by one, and sums.
pub mod Filtered
-- The state of a lawful board is lawful.
pub mod LawfulStates
-- The pieces of a lawful board are the greatest subtrees of deposited chunks.
pub mod Greatest
-- A deposit, and what else the calls of a board say, on its state.
pub mod Deposits
-- What a worker did, after one more try.
pub mod Working
-- Sums over what workers hold, and the chunks of the spans that they claimed.
pub mod WorkerStates
