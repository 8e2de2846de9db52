pub mod Burns
