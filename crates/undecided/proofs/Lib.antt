pub mod OpenPlaces
