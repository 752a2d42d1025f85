pub mod children
