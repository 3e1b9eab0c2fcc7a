pub mod SizeStarts
