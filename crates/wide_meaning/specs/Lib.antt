pub mod WideMeaning
