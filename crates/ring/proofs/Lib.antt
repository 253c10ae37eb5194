pub mod RingViews
pub mod HeldPlaces
