-- The store in the abstract with every history of calls and cuts, and the laws that its formats must meet.
pub mod Store
pub mod Laws
