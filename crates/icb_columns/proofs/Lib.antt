pub mod ColumnLemmas
