-- Laws about the answers of begin put and begin delete.
pub mod Puts
