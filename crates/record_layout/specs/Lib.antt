pub mod Flat
pub mod RoundTrip
