pub mod LastOf
