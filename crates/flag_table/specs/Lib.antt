pub mod RecordsAppended
