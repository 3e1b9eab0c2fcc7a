pub mod TextAppended
