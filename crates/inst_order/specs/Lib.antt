-- Public contracts cite these.
pub mod Order
