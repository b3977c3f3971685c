pub mod Spans
pub mod SpanRows
pub mod Effect
pub mod Stands
