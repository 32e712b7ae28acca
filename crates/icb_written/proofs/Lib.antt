pub mod FieldLemmas
pub mod RowLemmas
pub mod PlainLemmas
pub mod BoundLemmas
pub mod ListedLemmas
pub mod SchemaLemmas
pub mod RecordLemmas
pub mod ShownLemmas
